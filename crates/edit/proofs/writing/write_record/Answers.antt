use native.Mathlib.Omega.{arith}
use lib.ListN.{length-set}
use Rattle.edit.proofs.Pieces.{has_realm, entry_written}
use Rattle.edit.proofs.writing.write_record.Goals as goal

pub overflow_sub-id : goal.overflow_sub-id
overflow_sub-id c = omega (arith, has_realm c.args.entry c.requires.0 c.requires.1 c.realm_length-realm.ensures)

pub overflow_sub-id-2 : goal.overflow_sub-id-2
overflow_sub-id-2 c = omega (arith, has_realm c.args.entry c.requires.0 c.requires.1 c.realm_length-realm.ensures)

pub overflow_add-id_at : goal.overflow_add-id_at
overflow_add-id_at c = omega (arith, has_realm c.args.entry c.requires.0 c.requires.1 c.realm_length-realm.ensures, c.requires.2)

pub overflow_add-id_at-2 : goal.overflow_add-id_at-2
overflow_add-id_at-2 c = omega (arith, has_realm c.args.entry c.requires.0 c.requires.1 c.realm_length-realm.ensures, c.requires.2)

pub bounds-out-at : goal.bounds-out-at
bounds-out-at c = omega (arith, has_realm c.args.entry c.requires.0 c.requires.1 c.realm_length-realm.ensures, c.requires.2)

pub overflow_add-out : goal.overflow_add-out
overflow_add-out c = omega (arith, has_realm c.args.entry c.requires.0 c.requires.1 c.realm_length-realm.ensures, c.requires.2)

pub bounds-out-id_at : goal.bounds-out-id_at
bounds-out-id_at c = let a = c.args in omega (arith, has_realm c.args.entry c.requires.0 c.requires.1 c.realm_length-realm.ensures, c.requires.2, length-set a.out.now a.at a.entry.kind)

pub returns : goal.returns
returns c = let a = c.args in rw (c.write_id_in.ensures, c.write_realm_in.ensures) (entry_written a.entry c.requires.0 c.requires.1 c.realm_length-realm.ensures a.at a.out.now c.requires.2)

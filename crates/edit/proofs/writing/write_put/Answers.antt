use mathlib.Core.Path.{refl, ◌∙◌}
use Rattle.words.proofs.Refusals.{handed_on}
use Rattle.entry.specs.Entry.{record_for}
use Rattle.entry.specs.Spelling.{spelled}
use Rattle.edit.proofs.Pieces.{record_length}
use Rattle.edit.proofs.Spliced.{no_room, room}
use Rattle.edit.proofs.writing.write_put.Goals as goal

pub returns-in_err-copy_head : goal.returns-in_err-copy_head
returns-in_err-copy_head c =
    let a = c.args in
    let short = c.in_err-copy_head.ensures.short in
    rw (handed_on _ _ c.from_residual.ensures.1, short.0, short.2)
    (no_room c.requires.0 a.out.now (spelled (record_for a.entry)) (record_length a.entry c.requires.2) short.1)

pub returns : goal.returns
returns c =
    let a = c.args in
    let fine = c.in_ok-copy_head.ensures.fine in
    rw c.copy_tail.ensures.0
    (room c.requires.0 a.out.now (spelled (record_for a.entry)) (record_length a.entry c.requires.2) fine.0
    (c.copy_tail.ensures.1 ∙ rw (c.write_record.ensures, fine.1) refl))

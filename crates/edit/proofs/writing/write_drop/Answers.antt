use mathlib.Core.Path.{refl, sym, ◌∙◌}
use mathlib.Core.List.{[]}
use Rattle.words.proofs.Refusals.{handed_on}
use Rattle.edit.proofs.Spliced.{no_room, room_without}
use Rattle.edit.proofs.writing.write_drop.Goals as goal

pub returns-in_err-copy_head : goal.returns-in_err-copy_head
returns-in_err-copy_head c =
    let short = c.in_err-copy_head.ensures.short in
    rw (handed_on _ _ c.from_residual.ensures.1, short.0, short.2)
    (no_room c.requires.0 c.args.out.now [] (sym c.requires.1) short.1)

pub returns : goal.returns
returns c =
    let fine = c.in_ok-copy_head.ensures.fine in
    rw c.copy_tail.ensures.0
    (room_without c.requires.0 c.requires.1 c.args.out.now fine.0
    (c.copy_tail.ensures.1 ∙ rw fine.1 refl))

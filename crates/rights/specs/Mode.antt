-- Rights from a local realm and a mode (12.16.1).
use Rattle.std.specs.Prelude.{List, Bool, not, ◌&&◌, ℕ, ◌+◌, ◌*◌, ◌/◌, ◌%◌, eqb, if◌then◌else◌}
use Rattle.std.specs.Int.Bits.{bit_or}
use Rattle.words.specs.Bit.{bit}
use Rattle.words.specs.Realm.{same_realm}
use Rattle.words.specs.declared.realm.Realm.{Realm}
use Rattle.evaluate.specs.Asking.{in_group}
use Rattle.evaluate.specs.declared.asking.Caller.{Caller}
use Rattle.evaluate.specs.declared.asking.File.{File}
use Rattle.rights.specs.Right.{read, write, execute, control, insert, delete}

-- in each octal digit 4 is read, 2 write, 1 execute
unfoldable pub digit_rights : ℕ → ℕ
digit_rights digit = digit / 4 % 2 * read + digit / 2 % 2 * write + digit % 2 * execute

-- the owner gets the owner's three bits and control; else a member of the file's group gets the group bits; else the other bits
unfoldable pub class_rights : List ℕ → Caller → File → ℕ → ℕ
class_rights groups caller file mode =
    if eqb caller.user file.owner then bit_or (digit_rights (mode / 64 % 8)) control else
    if in_group caller groups file.group then digit_rights (mode / 8 % 8) else
    digit_rights (mode % 8)

-- on a directory, write brings insert and delete
unfoldable pub with_write : Bool → ℕ → ℕ
with_write dir rights = if dir && bit 1 rights then bit_or (bit_or rights insert) delete else rights

-- a realm other than the local one gets nothing
unfoldable pub mode_rights : List ℕ → Caller → File → Realm → ℕ → ℕ
mode_rights groups caller file local mode =
    if not (same_realm caller.realm local) then 0 else
    with_write file.dir (class_rights groups caller file mode)

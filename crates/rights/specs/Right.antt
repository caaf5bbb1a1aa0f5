-- The rights, a bit each.
use Rattle.std.specs.Prelude.{ℕ}

unfoldable pub read : ℕ
read = 1

unfoldable pub write : ℕ
write = 2

unfoldable pub execute : ℕ
execute = 4

unfoldable pub control : ℕ
control = 8

unfoldable pub insert : ℕ
insert = 16

unfoldable pub delete : ℕ
delete = 32

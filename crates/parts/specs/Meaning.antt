-- What is held, byte by byte: a return takes from a token the named types on the named bytes, and nothing else.
use Rattle.std.specs.Prelude.{◌≡◌, true, ◌⊎◌, ◌↔◌, ℕ, ◌≤◌, ◌<◌}
use mathlib.Core.List.{List, [], Memᴰ}
use Rattle.words.specs.Said.{done}
use Rattle.words.specs.Bit.{bit}
use Rattle.claims.specs.Types.{kinds}
use Rattle.claims.specs.Rule.{covers_file}
use Rattle.claims.specs.declared.claim.Claim.{Claim}
use Rattle.parts.specs.Part.{loss_says, kept}

-- types on a range of bytes have a type on a byte; a status or open type is had as a whole, on every byte
pub record On (types first last type byte : ℕ) : Type 0 where
  pub among : bit type types ≡ true
  pub there : (covers_file type ≡ true) ⊎ ((first ≤ byte) × (byte ≤ last))

abbrev pub Claims : Claim → ℕ → ℕ → Type 0
Claims claim = On claim.types claim.first claim.last

-- one of the claims does
pub record SomeClaims (claims : List Claim) (type byte : ℕ) : Type 0 where
  pub claim : Claim
  pub member : Memᴰ claim claims
  pub on : Claims claim type byte

-- of every type and byte: what stays is what was held, less what is named
abbrev pub LessNamed : Type 0
LessNamed = (types first last : ℕ) (held : Claim) → first ≤ last → loss_says types first last held ≡ done []
    → (type byte : ℕ) → type < kinds
    → SomeClaims (kept types first last held) type byte ↔ (Claims held type byte × ¬ On types first last type byte)

-- For ask and grant the order is the table's, from 30 down to 24, then their own.
use Rattle.words.specs.Said.{Said, and_then}
use Rattle.claims.specs.declared.claim.Claim.{Claim}
use Rattle.table.specs.Table.{Table}
use Rattle.tokens.specs.Grant.{request_says}

-- 31, the verdict of access, the call's own; 30 is before them all (`says_of`)
unfoldable pub judged_says : Claim → Said → (Table → Said) → Table → Said
judged_says claim verdict own t = and_then (request_says claim t) (and_then verdict (own t))

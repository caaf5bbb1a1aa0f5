-- What each call can answer: so many values where it is done, and these refusals of 01's table.
use Rattle.std.specs.Prelude.{Bool, true, false, List, [], ◌∷◌, ◌++◌, ℕ, eqb, length}
use Rattle.words.specs.Test.{any_of}
use Rattle.words.specs.Said.{Said, done, refused}

-- its refusals go without a value, or with one: the place for 10 to 19, the true count for 35
pub record Shape : Type 0 where
  pub values : ℕ
  pub plain : List ℕ
  pub valued : List ℕ

unfoldable pub shape : ℕ → List ℕ → List ℕ → Shape
shape values plain valued = record { values = values; plain = plain; valued = valued }

unfoldable pub is_answer : Shape → Said → Bool
is_answer s (done values) = eqb (length values) s.values
is_answer s (refused number []) = any_of (eqb number) s.plain
is_answer s (refused number (value ∷ [])) = any_of (eqb number) s.valued
is_answer s (refused number (value ∷ other ∷ more)) = false

-- or nothing, at the end of a list
unfoldable pub is_answer_or_end : Shape → Said → Bool
is_answer_or_end s (done []) = true
is_answer_or_end s (done (value ∷ more)) = is_answer s (done (value ∷ more))
is_answer_or_end s (refused number values) = is_answer s (refused number values)

-- a list's own
unfoldable pub faults : List ℕ
faults = 10 ∷ 11 ∷ 12 ∷ 13 ∷ 14 ∷ 15 ∷ 16 ∷ 17 ∷ 18 ∷ 19 ∷ []

-- a record read, with its values; a step of the walk, with those of the record and of the walk after it
unfoldable pub of_read : Shape
of_read = shape 6 [] (12 ∷ 13 ∷ [])

unfoldable pub of_step : Shape
of_step = shape 16 [] faults

-- the check; what a list gives a caller; rights, by a list or a mode; access judged
unfoldable pub of_check : Shape
of_check = shape 0 [] faults

unfoldable pub of_evaluate : Shape
of_evaluate = shape 1 (23 ∷ []) faults

unfoldable pub of_rights : Shape
of_rights = shape 1 (23 ∷ 22 ∷ []) faults

unfoldable pub of_judge : Shape
of_judge = shape 0 (23 ∷ 22 ∷ 24 ∷ []) faults

-- the edits: judged, with the place, how many bytes give way there, how many come and the new length; and written, with the new length
unfoldable pub of_plan_put : Shape
of_plan_put = shape 4 [] faults

unfoldable pub of_plan_drop : Shape
of_plan_drop = shape 4 (20 ∷ []) faults

unfoldable pub of_put : Shape
of_put = shape 1 (21 ∷ []) faults

unfoldable pub of_drop : Shape
of_drop = shape 1 (20 ∷ 21 ∷ []) faults

-- the calls on a table; ask and the grants also with access apart; the widest grant has three values, a number and the range's two ends
unfoldable pub of_fill : Shape
of_fill = shape 0 (30 ∷ []) []

unfoldable pub of_ask : Shape
of_ask = shape 1 (30 ∷ 31 ∷ 23 ∷ 22 ∷ 24 ∷ []) (faults ++ (35 ∷ []))

unfoldable pub of_ask_unjudged : Shape
of_ask_unjudged = shape 1 (30 ∷ 31 ∷ []) (35 ∷ [])

unfoldable pub of_grant : Shape
of_grant = shape 1 (30 ∷ 31 ∷ 23 ∷ 22 ∷ 24 ∷ 32 ∷ 33 ∷ 34 ∷ []) faults

unfoldable pub of_grant_unjudged : Shape
of_grant_unjudged = shape 1 (30 ∷ 31 ∷ 32 ∷ 33 ∷ 34 ∷ []) []

unfoldable pub of_grant_widest : Shape
of_grant_widest = shape 3 of_grant.plain of_grant.valued

unfoldable pub of_grant_widest_unjudged : Shape
of_grant_widest_unjudged = shape 3 of_grant_unjudged.plain of_grant_unjudged.valued

unfoldable pub of_return : Shape
of_return = shape 0 (30 ∷ 31 ∷ 36 ∷ 37 ∷ []) []

unfoldable pub of_drop_host : Shape
of_drop_host = shape 1 (30 ∷ 31 ∷ []) []

-- one scan of a table: how many tokens are in the way; with the range's two ends where the widest range is found on the way
unfoldable pub of_survey : Shape
of_survey = shape 1 (30 ∷ []) []

unfoldable pub of_survey_wide : Shape
of_survey_wide = shape 3 (30 ∷ []) []

-- audit never refuses: yes is 1, and no is 0; nor does what tells the rights that types need
unfoldable pub of_audit : Shape
of_audit = shape 1 [] []

unfoldable pub of_needs : Shape
of_needs = shape 1 [] []

use Rattle.std.proofs.Common.{◌≡◌, ℕ, List, length}
use denote.Text.{Utf8}
use denote.Shadow.{shadow}
use Rattle.css_values.specs.Refused.{row_named}
use Rattle.css_values.specs.internal.Joined.{row_at}
use Rattle.css_values.proofs.RefusedLemmas.{row_from}
use Rattle.css_values.proofs.refused.RefusedValues.new.Given as goal

-- The lines that are left are to be read after those that were.
abbrev pub invariant-lines : goal.invariant-lines
invariant-lines l =
    shadow (Utf8 l.rest)
    × ((name : List ℕ) → row_from (row_at l.rows name) l.rest name ≡ row_named name)

abbrev pub decreases-lines : goal.decreases-lines
decreases-lines l = length l.rest

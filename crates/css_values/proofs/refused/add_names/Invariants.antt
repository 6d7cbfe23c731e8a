use Rattle.std.proofs.Common.{◌≡◌, ℕ, List, Some, length, if◌then◌else◌}
use denote.Text.{Utf8}
use denote.Shadow.{shadow}
use Rattle.css_values.specs.Names.{is_named_in}
use Rattle.css_values.specs.internal.Joined.{row_at}
use Rattle.css_values.proofs.refused.add_names.Given as goal

-- Those that are left are to have it, and the others have it.
abbrev pub invariant-names : goal.invariant-names
invariant-names l =
    shadow (Utf8 l.rest)
    × ((name : List ℕ) → (if is_named_in l.rest name then Some l.row else row_at l.rows name)
    ≡ (if is_named_in l.names name then Some l.row else row_at l.fn.rows name))

abbrev pub decreases-names : goal.decreases-names
decreases-names l = length l.rest

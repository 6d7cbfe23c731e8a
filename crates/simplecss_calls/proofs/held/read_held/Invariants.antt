use Rattle.std.proofs.Common.{◌≡◌, ℕ, List, length, map}
use Rattle.std.specs.Prelude.{◌||◌}
use Rattle.simplecss_calls.specs.WinnerNumbers.{is_held}
use Rattle.simplecss_calls.specs.internal.Held.{is_among, names_at}
use Rattle.simplecss_calls.proofs.held.read_held.Given as goal

-- a group rule that holds is at its prelude, or among those that are left
abbrev pub invariant-pairs : goal.invariant-pairs
invariant-pairs l =
    (keyword prelude : List ℕ)
    → (is_among (names_at l.held prelude) keyword
    || is_held (map (λ text. text.now) l.left) keyword prelude)
    ≡ is_held (map (λ text. text.now) l.groups) keyword prelude

abbrev pub decreases-pairs : goal.decreases-pairs
decreases-pairs l = length l.left

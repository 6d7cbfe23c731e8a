use Rattle.std.proofs.Common.{◌≡◌, ◌++◌, ℕ, List, length, map}
use Rattle.css_lint.specs.Places.{place_of}
use Rattle.css_lint.specs.Keys.{has_key, is_among, keyed_of, repeated, repeated_after}
use Rattle.css_lint.proofs.keys.repeated_places.Given as goal

-- The map has what is said so far. What is found of these, and of the rest after them, is all.
abbrev pub invariant-keys : goal.invariant-keys
invariant-keys l =
    (before : List (List ℕ))
    × ((q : List ℕ) → has_key l.met q ≡ is_among before q)
    × (map place_of l.found.items ++ repeated_after before (map keyed_of l.left)
    ≡ repeated (map keyed_of l.all))

abbrev pub decreases-keys : goal.decreases-keys
decreases-keys l = length l.left

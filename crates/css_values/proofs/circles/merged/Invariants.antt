use Rattle.std.proofs.Common.{◌≡◌, ℕ, List, length}
use Rattle.css_values.specs.Resolution.{Property}
use Rattle.css_values.specs.declared.table.Slot.{Slot}
use Rattle.css_values.specs.internal.Paths.{IsMerging, circle_of, circles_of, place_of, slot_at}
use Rattle.css_values.proofs.MergeLemmas.{closing}
use Rattle.css_values.proofs.circles.merged.Given as goal

-- The circles that were taken are being made one.
abbrev pub invariant-circles : goal.invariant-circles
invariant-circles l =
    (limit : ℕ) (properties : List Property) (all : List Slot) (begun other most : ℕ)
    → place_of (slot_at all other) ≡ l.place
    → IsMerging limit properties all begun other most (closing (circle_of l.fn.last)) (circles_of l.initial.path.items)
    → IsMerging limit properties all begun other most (circle_of l.top) (circles_of l.path.items)

abbrev pub decreases-circles : goal.decreases-circles
decreases-circles l = length (circles_of l.path.items)

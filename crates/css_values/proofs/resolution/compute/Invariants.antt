use Rattle.std.proofs.Common.{option_map}
use Rattle.css_values.specs.internal.Paths.{circle_of, circles_of, left_of, with_last}
use Rattle.css_values.proofs.ResolvingLemmas.{Follows}
use Rattle.css_values.proofs.resolution.compute.Given as goal

-- The path is one, and what is known has grown.
abbrev pub invariant-path : goal.invariant-path
invariant-path l =
    Follows l.limit l.table l.fn.slots l.slots l.number l.path.begun (circles_of l.path.circles.items)
    (option_map circle_of l.last)

abbrev pub decreases-path : goal.decreases-path
decreases-path l = left_of l.slots (with_last (option_map circle_of l.last) (circles_of l.path.circles.items))

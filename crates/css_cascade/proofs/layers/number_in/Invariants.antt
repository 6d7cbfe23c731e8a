use Rattle.std.proofs.Common.{◌≡◌, length, map}
use Rattle.css_cascade.specs.Layers.{number_in}
use Rattle.css_cascade.specs.LayerViews.{part_of, known_layer}
use Rattle.css_cascade.proofs.layers.number_in.Given as goal

-- what is left decides
abbrev pub invariant-known : goal.invariant-known
invariant-known l =
    number_in l.outer (part_of l.part) (map known_layer l.rest)
    ≡ number_in l.outer (part_of l.part) (map known_layer l.known)

abbrev pub decreases-known : goal.decreases-known
decreases-known l = length l.rest

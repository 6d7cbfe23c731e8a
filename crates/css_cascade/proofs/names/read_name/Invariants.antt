use Rattle.std.proofs.Common.{◌≡◌, Some, length, map}
use denote.Shadow.{shadow}
use denote.Text.{Utf8}
use Rattle.css_cascade.specs.LayerViews.{part_of}
use Rattle.css_cascade.specs.LayerNames.{dotted_part, layer_name}
use Rattle.css_cascade.proofs.PartLemmas.{with_each}
use Rattle.css_cascade.proofs.names.read_name.Given as goal

-- those so far, and those that the rest has
abbrev pub invariant-parts : goal.invariant-parts
invariant-parts l =
    shadow (Utf8 l.rest)
    × (Some (with_each dotted_part (map part_of l.parts.items) l.rest) ≡ layer_name l.text)

abbrev pub decreases-parts : goal.decreases-parts
decreases-parts l = length l.rest

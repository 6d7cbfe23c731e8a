use Rattle.std.proofs.Common.{◌≡◌, Some, length}
use denote.Shadow.{shadow}
use denote.Text.{Utf8}
use Rattle.std.specs.Prelude.{option_map}
use Rattle.css_text.specs.Reading.{each}
use Rattle.css_cascade.specs.LayerNames.{dotted_part, layer_name}
use Rattle.css_cascade.proofs.names.past_name.Given as goal

-- what is after the parts that the rest has
abbrev pub invariant-parts : goal.invariant-parts
invariant-parts l =
    shadow (Utf8 l.rest)
    × (Some (each dotted_part l.rest).1 ≡ option_map (λ found. found.1) (layer_name l.text))

abbrev pub decreases-parts : goal.decreases-parts
decreases-parts l = length l.rest

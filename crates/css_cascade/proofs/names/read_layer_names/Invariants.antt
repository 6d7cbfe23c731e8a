use Rattle.std.proofs.Common.{◌≡◌, length, map}
use denote.Shadow.{shadow}
use denote.Text.{Utf8}
use Rattle.css_cascade.specs.LayerNames.{further_name, layer_names, if_ended}
use Rattle.css_cascade.specs.LayerNameViews.{name_of}
use Rattle.css_cascade.proofs.PartLemmas.{with_each}
use Rattle.css_cascade.proofs.names.read_layer_names.Given as goal

-- those so far, and those that the rest has
abbrev pub invariant-names : goal.invariant-names
invariant-names l =
    shadow (Utf8 l.rest)
    × (if_ended (with_each further_name (map name_of l.names.items) l.rest).0
    (with_each further_name (map name_of l.names.items) l.rest).1
    ≡ layer_names l.text)

abbrev pub decreases-names : goal.decreases-names
decreases-names l = length l.rest

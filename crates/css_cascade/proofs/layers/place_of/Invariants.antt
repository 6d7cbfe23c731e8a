use Rattle.std.proofs.Common.{◌≡◌, ◌+◌, length, map}
use Rattle.css_cascade.specs.Layers.{place_of}
use Rattle.css_cascade.specs.LayerViews.{known_layer}
use Rattle.css_cascade.proofs.layers.place_of.Given as goal

-- so many were passed, and the place is among the rest
abbrev pub invariant-known : goal.invariant-known
invariant-known l = record {
  counted : l.place + length l.rest ≡ length l.known;
  place : l.place + place_of l.number (map known_layer l.rest)
      ≡ place_of l.number (map known_layer l.known);
}

abbrev pub decreases-known : goal.decreases-known
decreases-known l = length l.rest

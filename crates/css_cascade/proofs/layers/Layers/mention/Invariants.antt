use Rattle.std.proofs.Common.{◌+◌, ◌≤◌, length, map}
use Rattle.std.specs.Vec.Iter.{into_iter_items}
use Rattle.css_cascade.specs.Layers.{most_layers, origin_count}
use Rattle.css_cascade.specs.LayerViews.{part_of, known_of}
use Rattle.css_cascade.proofs.NameLemmas.{Mentioning}
use Rattle.css_cascade.proofs.layers.Layers.mention.Given as goal

abbrev pub invariant-parts : goal.invariant-parts
invariant-parts l = record {
  mentioning : Mentioning (known_of l.fn.self) l.fn.outer (map part_of l.fn.parts.items)
      (known_of l.self) l.number (map part_of (into_iter_items l.part-iterator));
  within : length (known_of l.fn.self) ≤ most_layers + origin_count
      → length (known_of l.self) ≤ most_layers + origin_count;
}

use Rattle.std.proofs.Common.{◌≡◌, map}
use Rattle.std.specs.Vec.Iter.{into_iter_items}
use Rattle.css_cascade.specs.LayerViews.{known_of}
use Rattle.css_cascade.specs.LayerNameViews.{name_of}
use Rattle.css_sheet.specs.SheetLayers.{with_names}
use Rattle.css_sheet.specs.internal.OpenViews.{AreFew}
use Rattle.css_sheet.proofs.open_layers.mention_names.Given as goal

-- those so far are mentioned, and those to come will be
abbrev pub invariant-names : goal.invariant-names
invariant-names l = record {
  layers : with_names l.fn.outer (known_of l.layers) (map name_of (into_iter_items l.name-iterator))
      ≡ with_names l.fn.outer (known_of l.fn.layers) (map name_of l.fn.names.items);
  few : AreFew (known_of l.fn.layers) → AreFew (known_of l.layers);
}

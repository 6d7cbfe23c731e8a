use Rattle.std.proofs.Common.{◌≡◌, ◌∷◌, List, map, rules, subst}
use Rattle.std.specs.Vec.Iter.{into_iter_items}
use Rattle.css_cascade.specs.LayerNameViews.{name_of}
use Rattle.css_cascade.specs.LayerViews.{known_of}
use Rattle.css_cascade.specs.declared.names.LayerName.{LayerName}
use Rattle.css_sheet.specs.SheetLayers.{with_names}
use Rattle.css_sheet.specs.internal.OpenViews.{AreMany}
use Rattle.css_sheet.proofs.GatherLemmas.{from-layers, many-names}
use Rattle.css_sheet.proofs.open_layers.mention_names.Goals as goal

pub returns-in_err-mention-clause-many : goal.returns-in_err-mention-clause-many
returns-in_err-mention-clause-many c =
    let outer = c.args.outer in
    let whole = with_names outer (known_of c.args.layers.now) (map name_of c.args.names.items) in
    let left = into_iter_items c.next.new.self in
    let first : into_iter_items c.names.name-iterator ≡ c.in-Some.name ∷ left = search rules in
    from-layers (AreMany whole) c.from_residual.result c.in_err-mention.field-0.0
    c.from_residual.ensures.1
    (λ many. many-names outer (known_of c.names.layers) whole (name_of c.in-Some.name)
    (map name_of left)
    (subst (λ (l : List LayerName). with_names outer (known_of c.names.layers) (map name_of l) ≡ whole)
    first c.names.invariant.layers) (c.in_err-mention.ensures.refused many))

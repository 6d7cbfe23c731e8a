use Rattle.std.proofs.Common.{◌≡◌, ◌∙◌, ◌++◌, ◌∷◌, [], ap, rules, map, Some, None}
use Rattle.css_cascade.specs.LayerViews.{part_of}
use Rattle.css_cascade.specs.LayerNames.{dotted_part}
use Rattle.css_cascade.specs.LayerNameViews.{read_part_of}
use Rattle.css_cascade.proofs.PartLemmas.{dotted-takes, each-end, found-next}
use Rattle.css_cascade.proofs.names.read_name.Goals as goal

pub parts-smaller : goal.parts-smaller
parts-smaller c =
    let found = c.in-Some-2.found in
    let e : Some (read_part_of found) ≡ dotted_part c.parts.rest.now = search rules in
    let pushed : c.push-in-Some-2.new.self.items ≡ c.parts.parts.items ++ found.part ∷ [] =
    search rules in
    (found-next part_of dotted_part dotted-takes c.parts.parts.items c.push-in-Some-2.new.self.items
    c.parts.rest.now found.rest.now found.part e pushed).1

pub parts-preserved : goal.parts-preserved
parts-preserved c =
    let found = c.in-Some-2.found in
    let e : Some (read_part_of found) ≡ dotted_part c.parts.rest.now = search rules in
    let pushed : c.push-in-Some-2.new.self.items ≡ c.parts.parts.items ++ found.part ∷ [] =
    search rules in (
      search rules,
      ap Some (found-next part_of dotted_part dotted-takes c.parts.parts.items
          c.push-in-Some-2.new.self.items c.parts.rest.now found.rest.now found.part e pushed).0
          ∙ c.parts.invariant.1,
    )

pub returns : goal.returns
returns c =
    let e : None ≡ dotted_part c.parts.rest.now = search rules in
    ap Some (each-end dotted_part (map part_of c.parts.parts.items) c.parts.rest.now e)
    ∙ c.parts.invariant.1

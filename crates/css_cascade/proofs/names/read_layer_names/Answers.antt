use Rattle.std.proofs.Common.{◌≡◌, ◌∙◌, ◌++◌, ◌∷◌, [], ℕ, List, ap, rules, map, Some, None}
use Rattle.css_cascade.specs.Layers.{LayerPart}
use Rattle.css_cascade.specs.LayerNames.{further_name, if_ended}
use Rattle.css_cascade.specs.LayerNameViews.{name_of, read_name_of}
use Rattle.css_cascade.proofs.PartLemmas.{further-takes, found-next, names-end}
use Rattle.css_cascade.proofs.names.read_layer_names.Goals as goal

pub names-smaller : goal.names-smaller
names-smaller c =
    let found = c.in-Some-2.found in
    let e : Some (read_name_of found) ≡ further_name c.names.rest.now = search rules in
    let pushed : c.push-in-Some-2.new.self.items ≡ c.names.names.items ++ found.name ∷ [] =
    search rules in
    (found-next name_of further_name further-takes c.names.names.items
    c.push-in-Some-2.new.self.items c.names.rest.now found.rest.now found.name e pushed).1

pub names-preserved : goal.names-preserved
names-preserved c =
    let found = c.in-Some-2.found in
    let e : Some (read_name_of found) ≡ further_name c.names.rest.now = search rules in
    let pushed : c.push-in-Some-2.new.self.items ≡ c.names.names.items ++ found.name ∷ [] =
    search rules in (
      search rules,
      ap (λ (r : List (List LayerPart) × List ℕ). if_ended r.0 r.1)
          (found-next name_of further_name further-takes c.names.names.items
          c.push-in-Some-2.new.self.items c.names.rest.now found.rest.now found.name e pushed).0
          ∙ c.names.invariant.1,
    )

pub returns-then-is_empty : goal.returns-then-is_empty
returns-then-is_empty c =
    let e : None ≡ further_name c.names.rest.now = search rules in
    search (
      rules,
      names-end (map name_of c.names.names.items) c.names.rest.now _ e c.names.invariant.1,
    )

pub returns : goal.returns
returns c =
    search (
      rules,
      names-end (map name_of c.names.names.items) c.names.rest.now _ (search rules)
          c.names.invariant.1,
    )

use Rattle.std.proofs.Common.{◌≡◌, ◌∙◌, ap, rules, Some}
use Rattle.std.specs.Prelude.{option_map}
use Rattle.css_cascade.specs.LayerNames.{dotted_part}
use Rattle.css_cascade.proofs.PartLemmas.{dotted-takes, rest-some}
use Rattle.css_cascade.proofs.names.past_name.Goals as goal

pub parts-smaller : goal.parts-smaller
parts-smaller c =
    let e : Some c.in-Some.next.now ≡ option_map (λ found. found.1) (dotted_part c.parts.rest.now) =
    search rules in
    (rest-some dotted_part dotted-takes c.parts.rest.now c.in-Some.next.now e).1

pub parts-preserved : goal.parts-preserved
parts-preserved c =
    let e : Some c.in-Some.next.now ≡ option_map (λ found. found.1) (dotted_part c.parts.rest.now) =
    search rules in (
      search rules,
      ap Some (rest-some dotted_part dotted-takes c.parts.rest.now c.in-Some.next.now e).0
          ∙ c.parts.invariant.1,
    )

use Rattle.std.proofs.Common.{◌≡◌, rules, map, List, ◌∷◌, subst, length, ◌+◌, ◌<◌}
use Rattle.std.specs.Vec.Iter.{into_iter_items}
use Rattle.css_cascade.specs.declared.layers.LayerPart.{LayerPart}
use Rattle.css_cascade.specs.Layers.{most_layers, origin_count, with_name}
use Rattle.css_cascade.specs.LayerViews.{part_of, known_of}
use Rattle.css_cascade.proofs.NameLemmas.{Mentioning, handed-error, many-named, mentioning-next}
use Rattle.css_cascade.proofs.layers.Layers.mention.Goals as goal

pub parts-preserved : goal.parts-preserved
parts-preserved c =
    let start = known_of c.args.self.now in
    let all = map part_of c.args.parts.items in
    let now = known_of c.parts.self in
    let left = into_iter_items c.next.new.self in
    let first : into_iter_items c.parts.part-iterator ≡ c.in-Some.part ∷ left = search rules in
    record {
      mentioning =
          mentioning-next start c.args.outer all now (known_of c.mention_part.new.self)
          c.parts.number c.in_ok-number.number (part_of c.in-Some.part) (map part_of left)
          c.in_ok-number.ensures.known c.in_ok-number.ensures.number
          (subst (λ (l : List LayerPart). Mentioning start c.args.outer all now c.parts.number
          (map part_of l)) first c.parts.invariant.mentioning);
      within = λ few. c.in_ok-number.ensures.within (c.parts.invariant.within few);
    }

pub returns-in_err-number-clause-refused : goal.returns-in_err-number-clause-refused
returns-in_err-number-clause-refused c =
    let start = known_of c.args.self.now in
    let all = map part_of c.args.parts.items in
    let now = known_of c.parts.self in
    let left = into_iter_items c.next.new.self in
    let first : into_iter_items c.parts.part-iterator ≡ c.in-Some.part ∷ left = search rules in
    handed-error (most_layers + origin_count < length (with_name start c.args.outer all)) c.from_residual.result
    c.in_err-number.field-0.0 c.from_residual.ensures.1
    (λ many. many-named start c.args.outer all now c.parts.number (part_of c.in-Some.part)
    (map part_of left) (most_layers + origin_count)
    (subst (λ (l : List LayerPart). Mentioning start c.args.outer all now c.parts.number
    (map part_of l)) first c.parts.invariant.mentioning) (c.in_err-number.ensures.refused many))

use Rattle.std.proofs.Common.{◌≡◌, ℕ, is_some, ◌++◌, ◌∷◌, [], length, ap, ◌∙◌, arith, min, not, count_by}
use Rattle.simplecss_grammar.specs.Specificity.{is_id}
use Rattle.simplecss_selector.specs.internal.SelectorViews.{subselector_of, Tile}
use Rattle.simplecss_selector.proofs.Counts.{sum_by-components_from, count_by-components_from, count_by-not, count_by-push, bool_byte-is}
use Rattle.simplecss_selector.proofs.selector.Selector.specificity.Goals as goal

three : {a b c x y z : ℕ} → a ≡ x → b ≡ y → c ≡ z → a ∷ b ∷ c ∷ [] ≡ x ∷ y ∷ z ∷ []
three e f g = cc

pub returns : goal.returns
returns c =
    let s = c.self.inside in
    let ss = s.subselectors.items in
    let flat = s.front.items ++ s.last ∷ [] in
    let tiled : Tile 0 flat (length ss) = rw (← s.subselectors.ok.0) c.self.invariant.tiled in
    let ids = sum_by-components_from is_id 0 flat ss tiled in
    let others = sum_by-components_from (λ x. not (is_id x)) 0 flat ss tiled in
    let names = count_by-components_from 0 flat ss in
    let both = count_by-not (λ x. is_id (subselector_of x)) ss in
    let id_count = ap (count_by (λ x. is_id (subselector_of x))) c.deref.ensures.value in
    let name_count = ap (count_by (λ p. is_some p.name)) c.deref-2.ensures.value in
    let all_names = count_by-push (λ p. is_some p.name) s.front.items s.last in
    let last = c.from.ensures ∙ bool_byte-is _ _ c.is_named.ensures in
    rw (← c.self.view_is) (three
    (c.at_most_255.ensures ∙ ap (min 255) (omega (arith, ids, id_count, c.id_count-ids.ensures)))
    (c.at_most_255-2.ensures ∙ ap (min 255) (omega
    (arith, others, both, id_count, c.id_count-ids.ensures, c.len.ensures, s.subselectors.ok.0)))
    (omega (
      arith,
      c.saturating_add.ensures,
      c.at_most_255-3.ensures,
      names,
      name_count,
      all_names,
      last,
      c.name_count.ensures,
    )))

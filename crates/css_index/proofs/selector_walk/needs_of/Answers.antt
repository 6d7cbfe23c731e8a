use Rattle.std.proofs.Common.{◌+◌, [], ◌∷◌, ◌++◌, map, take, sym, ap, ◌∙◌, subst}
use Rattle.std.proofs.lemmas.List.{map_more, map-append}
use Rattle.css_index.specs.Walks.{AreNeeds}
use Rattle.css_index.specs.internal.Walking.{need_of}
use Rattle.css_index.proofs.WalkLemmas.{needs_push}
use Rattle.css_index.proofs.selector_walk.needs_of.Goals as goal

pub loop-selector-preserved : goal.loop-selector-preserved
loop-selector-preserved c =
    let ss = c.args.selectors.now in
    let i = c.loop-selector.selector-index in
    let s = c.selector-item.result in
    let new = c.need_of.new.needed in
    let before = map need_of c.loop-selector.needs.items in
    let need = need_of c.in_ok-need.need in
    record {
      numbered = c.in_ok-need.ensures.numbered;
      needs = subst (λ xs. AreNeeds new (map (λ s. s.now) (take (i + 1) ss)) (map need_of xs))
          (sym c.in_ok-push.ensures.items)
          (subst (AreNeeds new (map (λ s. s.now) (take (i + 1) ss)))
          (sym (map-append need_of c.loop-selector.needs.items (c.in_ok-need.need ∷ [])))
          (subst (λ xs. AreNeeds new xs (before ++ need ∷ []))
          (ap (λ x. map (λ s. s.now) (take i ss) ++ x.now ∷ []) c.selector-item.is
          ∙ sym (map_more (λ s. s.now) ss i s c.loop-selector-test.true))
          (needs_push c.loop-selector.needed new (map (λ s. s.now) (take i ss)) before s.now need
          c.in_ok-need.ensures.more c.loop-selector.invariant.needs
          c.in_ok-need.ensures.ancestors c.in_ok-need.ensures.parent)));
    }

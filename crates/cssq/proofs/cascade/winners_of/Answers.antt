use Rattle.std.proofs.Common.{◌≡◌, ◌+◌, ◌++◌, ◌∷◌, ◌≤◌, [], Some, get_or, nat_eq, ap, ◌∙◌, sym, subst}
use Rattle.std.specs.Option.{option_eq}
use Rattle.std.proofs.lemmas.List.{map-append, length-map}
use Rattle.simplecss.specs.DeclarationViews.{declaration_of, declarations_of}
use Rattle.cssq.specs.Winners.{IsStated, ListsInOrder}
use Rattle.cssq.specs.internal.RuleWinners.{index_for_name}
use Rattle.cssq.proofs.BestIndices.{Kept, nothing, has_at, indexed_of, winners_none, winners_more, winners_skip, winners_all, same_index, other_index}
use Rattle.cssq.proofs.cascade.winners_of.Goals as goal
use Rattle.cssq.proofs.cascade.winners_of.Goals.{then-eq+in_ok-push, else-eq}

pub loop-index-init : goal.loop-index-init
loop-index-init g c = (
  c.in_ok-indices.ensures,
  λ element rules lists.
      let has = IsStated g.E.Element.tree element rules in
      let ds = c.args.stated.now in
      subst (λ items. ListsInOrder (Kept has (declarations_of ds) lists 0) (declarations_of items))
      (sym c.new-all.ensures.items) (winners_none has (declarations_of ds) lists),
)

pub loop-index-preserved : goal.loop-index-preserved
loop-index-preserved g c =
    let ds = c.args.stated.now in
    let k = c.loop-index.index in
    let d = get_or ds k nothing in
    let best = c.loop-index.invariant.0 in
    let indices = c.in_ok-indices.indices in
    let known : c.copied.result ≡ index_for_name indices d.name.now =
    c.copied.ensures ∙ c.get.ensures.value in
    let test : c.eq.result ≡ option_eq nat_eq c.copied.result (Some k) = c.eq.ensures in (
      best,
      λ element rules lists.
          let has = IsStated g.E.Element.tree element rules in
          let so_far = c.loop-index.invariant.1 element rules lists in
          let b = indexed_of has (declarations_of ds) lists k (declaration_of d)
          (has_at ds k c.loop-index-test.true) in
          let same_name : index_for_name indices d.name.now
          ≡ index_for_name indices b.0.declaration.name =
          ap (λ p. index_for_name indices p.name) (sym b.2) in
          elim c.if-eq.branch [
            | then-eq+in_ok-push w ↦
                let items = ap (λ v. declarations_of v.items) w.all-is
                ∙ ap declarations_of w.in_ok-push.ensures.items
                ∙ map-append declaration_of c.loop-index.all.items (d ∷ []) in
                subst (ListsInOrder (Kept has (declarations_of ds) lists (k + 1)))
                (ap (λ p. declarations_of c.loop-index.all.items ++ p ∷ []) b.2 ∙ sym items)
                (winners_more has (declarations_of ds) lists k b.0 b.1
                (index_for_name indices) best so_far (sym same_name ∙ sym known
                ∙ same_index c.copied.result k (sym test ∙ w.if-eq.true)))
            | else-eq w ↦
                subst (ListsInOrder (Kept has (declarations_of ds) lists (k + 1)))
                (ap (λ v. declarations_of v.items) (sym w.all-is))
                (winners_skip has (declarations_of ds) lists k b.0 b.1
                (index_for_name indices) best so_far (λ is.
                other_index c.copied.result k (sym test ∙ w.if-eq.false) (known ∙ same_name ∙ is)))
          ],
    )

pub returns : goal.returns
returns g c = λ element rules lists.
    let has = IsStated g.E.Element.tree element rules in
    let ds = c.args.stated.now in
    winners_all has (declarations_of ds) lists c.loop-index.index
    (subst (λ n. n ≤ c.loop-index.index) (sym (length-map ds declaration_of))
    c.loop-index-test.false) (c.loop-index.invariant.1 element rules lists)

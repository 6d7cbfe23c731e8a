use Rattle.std.proofs.Common.{◌≡◌, ◌+◌, ◌++◌, ap, ◌∙◌, sym, subst, arith}
use Rattle.std.proofs.lemmas.List.{map-append}
use Rattle.simplecss.specs.DeclarationViews.{declaration_of, declarations_of}
use Rattle.simplecss.specs.RuleViews.{rules_of}
use Rattle.cssq.specs.Winners.{IsStated, ListsInOrder}
use Rattle.cssq.proofs.Indexed.{after}
use Rattle.cssq.proofs.Listing.{Before, lists_before}
use Rattle.cssq.proofs.ListedIndices.{listed_next, listed_all}
use Rattle.cssq.proofs.cascade.stated_at.Goals as goal

pub loop-index-init : goal.loop-index-init
loop-index-init g c = (
  omega arith,
  λ element are.
      let has = IsStated g.E.Element.tree element (rules_of c.args.rules.now) in
      subst (λ items. ListsInOrder (Before has 0) (declarations_of items))
      (sym c.new-all.ensures.items) (lists_before has),
)

pub loop-index-preserved : goal.loop-index-preserved
loop-index-preserved g c =
    let rules = c.args.rules.now in
    let indices = c.args.indices.now in
    let j = c.loop-index.index-index in
    let rule = c.index-rules-index.result in
    let old = c.loop-index.all.items in
    let same : c.deref.result.now ≡ rule.declarations.items =
    c.deref.ensures.value ∙ ap (λ r. r.declarations.items) (sym c.index-rules-index.is) in
    let grown : c.extend_from_slice.new.self.items ≡ old ++ rule.declarations.items =
    c.in_ok-extend_from_slice.ensures.items ∙ ap (λ ds. old ++ ds) same in
    let items : declarations_of c.extend_from_slice.new.self.items
    ≡ declarations_of old ++ declarations_of rule.declarations.items =
    ap declarations_of grown ∙ map-append declaration_of old rule.declarations.items in (
      omega arith,
      λ element are.
          subst (ListsInOrder (Before (IsStated g.E.Element.tree element (rules_of rules))
          (after indices (j + 1)))) (sym items)
          (listed_next g.E.Element.tree element rules indices are j c.loop-index-test.true rule
          c.index-rules-index.is (c.loop-index.invariant.1 element are)),
    )

pub returns : goal.returns
returns g c = λ element are.
    let within = c.loop-index.invariant.0 in
    let past = c.loop-index-test.false in
    listed_all g.E.Element.tree element c.args.rules.now c.args.indices.now are
    c.loop-index.index-index (omega (arith, within, past)) (c.loop-index.invariant.1 element are)

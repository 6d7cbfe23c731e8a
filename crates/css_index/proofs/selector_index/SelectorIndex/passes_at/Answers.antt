use Rattle.std.proofs.Common.{◌≡◌, ◌+◌, ◌≤◌, ◌⊎◌, IsTrue, None, Some, sym, ◌∙◌, map, ap, subst, arith}
use Rattle.css_selectors.specs.AncestorKeys.{is_only_keys}
use Rattle.css_selectors.specs.AfterKeys.{MatchesFoundBy, begins_with_key}
use Rattle.css_index.specs.Tested.{least_of, most_of}
use Rattle.css_index.proofs.FoundLemmas.{some_same, selector_there, selector_past}
use Rattle.css_index.proofs.selector_index.SelectorIndex.passes_at.Goals as goal
use Rattle.css_index.proofs.selector_index.SelectorIndex.passes_at.Given.{Over}
use Rattle.css_index.proofs.selector_index.SelectorIndex.passes_at.Goals.{In-Some, In-None}
use Rattle.std.specs.List.{slice_get}

-- the selector at the index
there : (g : Over) (c : In-Some g)
    → slice_get c.args.self.now c.args.index ≡ Some c.in-Some.rule.now.selector.now
there g c =
    let h = c.in-Some.ensures.lookup in
    selector_there (λ rule. rule.selector.now) c.deref.result.now c.args.self.now c.args.index
    c.in-Some.rule.now
    (ap (map (λ rule. rule.selector.now)) c.deref.ensures.value ∙ c.self.view_is) h.3.0 h.1

-- there is none
past : (g : Over) (c : In-None g) → slice_get c.args.self.now c.args.index ≡ None
past g c =
    selector_past (λ rule. rule.selector.now) c.deref.result.now c.args.self.now c.args.index
    (ap (map (λ rule. rule.selector.now)) c.deref.ensures.value ∙ c.self.view_is)
    c.in-None.ensures.lookup.3

pub returns-in-Some-clause-answer : goal.returns-in-Some-clause-answer
returns-in-Some-clause-answer g c =
    let document = g.E.Element.document in
    let n = g.E.Element.node c.args.element.now in
    let s = c.in-Some.rule.now.selector.now in
    let is = there g (goal.at.returns-in-Some-clause-answer g c).In-Some in (
      λ t. (s, is, c.passes.ensures.answer.0 t),
      λ m. (let same : m.0 ≡ s = some_same (sym m.1 ∙ is) in
          c.passes.ensures.answer.1
          (subst (λ s. IsTrue (is_only_keys s) ⊎ MatchesFoundBy (begins_with_key s) document s n) same m.2)),
    )

pub returns-in-Some-clause-at_least : goal.returns-in-Some-clause-at_least
returns-in-Some-clause-at_least g c =
    subst (λ r. c.args.tests.now + least_of r ≤ c.passes.new.tests)
    (sym (there g (goal.at.returns-in-Some-clause-at_least g c).In-Some)) c.passes.ensures.at_least

pub returns-in-Some-clause-at_most : goal.returns-in-Some-clause-at_most
returns-in-Some-clause-at_most g c =
    subst (λ r. c.passes.new.tests ≤ c.args.tests.now
    + most_of g.E.Element.document (g.E.Element.node c.args.element.now) r)
    (sym (there g (goal.at.returns-in-Some-clause-at_most g c).In-Some)) c.passes.ensures.at_most

pub returns-in-None-clause-answer : goal.returns-in-None-clause-answer
returns-in-None-clause-answer g c =
    let none = past g (goal.at.returns-in-None-clause-answer g c).In-None in (
      λ t. absurd (cc),
      λ m. absurd (let e : None ≡ Some m.0 = sym none ∙ m.1 in cc),
    )

pub returns-in-None-clause-at_least : goal.returns-in-None-clause-at_least
returns-in-None-clause-at_least g c =
    subst (λ r. c.args.tests.now + least_of r ≤ c.args.tests.now)
    (sym (past g (goal.at.returns-in-None-clause-at_least g c).In-None)) (omega arith)

pub returns-in-None-clause-at_most : goal.returns-in-None-clause-at_most
returns-in-None-clause-at_most g c =
    subst (λ r. c.args.tests.now ≤ c.args.tests.now
    + most_of g.E.Element.document (g.E.Element.node c.args.element.now) r)
    (sym (past g (goal.at.returns-in-None-clause-at_most g c).In-None)) (omega arith)

use Rattle.std.proofs.Common.{◌+◌, ◌≤◌, ◌↔◌, ◌++◌, ◌∷◌, [], ℕ, IsTrue, take, get_or, sym, ap, ◌∙◌, subst, arith}
use Rattle.std.specs.Prelude.{if◌then◌else◌}
use Rattle.std.specs.List.{items_where_true, sum_by, Contains}
use Rattle.std.specs.List.Sorted.{IsStrictlyIncreasing}
use Rattle.std.proofs.lemmas.List.{take_all, take_more}
use Rattle.std.proofs.lemmas.List.Sums.{sum_by_more}
use Rattle.css_index.specs.Tested.{least_tests, most_tests_at}
use Rattle.css_index.specs.internal.Candidates.{PassesAt}
use Rattle.css_index.proofs.KeptLemmas.{AreAnswers, answers_push, chosen_push, chosen_ascending, chosen_exactly}
use Rattle.css_index.proofs.selector_walk.SelectorWalk.push_passing.Goals as goal

pub loop-index-init : goal.loop-index-init
loop-index-init g c = record {
  kept = ([], tt, c.requires.none);
  least = omega arith;
  most = omega arith;
}

pub loop-index-preserved : goal.loop-index-preserved
loop-index-preserved g c =
    let document = g.E.Element.document in
    let n = g.E.Element.node c.args.element.now in
    let selectors = c.args.self.now.selectors in
    let P : ℕ → Type 0 = PassesAt document n selectors in
    let tried = c.args.tried.now in
    let i = c.loop-index.index-index in
    let lt = c.loop-index-test.true in
    let b = c.passes_at-passes.result in
    let kept = c.loop-index.invariant.kept in
    let more = take_more tried i 0 lt in
    let one = subst (λ v. IsTrue b ↔ PassesAt document n v.selectors (get_or tried i 0))
    c.self.view_is c.passes_at-passes.ensures.answer in
    let at_least = subst (λ v. c.loop-index.tests + least_tests v.selectors (get_or tried i 0)
    ≤ c.passes_at-passes.new.tests) c.self.view_is c.passes_at-passes.ensures.at_least in
    let at_most = subst (λ v. c.passes_at-passes.new.tests ≤ c.loop-index.tests
    + most_tests_at document n v.selectors (get_or tried i 0)) c.self.view_is
    c.passes_at-passes.ensures.at_most in
    record {
      kept = (
        kept.0 ++ b ∷ [],
        subst (AreAnswers P (kept.0 ++ b ∷ [])) (sym more)
            (answers_push P kept.0 (take i tried) b (get_or tried i 0) kept.1 one),
        c.in_ok-push_if.ensures
            ∙ ap (λ xs. xs ++ (if b then get_or tried i 0 ∷ [] else [])) kept.2
            ∙ sym (chosen_push P kept.0 (take i tried) b (get_or tried i 0) kept.1)
            ∙ ap (items_where_true (kept.0 ++ b ∷ [])) (sym more),
      );
      least = (let sum = sum_by_more (least_tests selectors) tried i 0 lt in
          omega (arith, sum, at_least, c.loop-index.invariant.least));
      most = (let sum = sum_by_more (most_tests_at document n selectors) tried i 0 lt in
          omega (arith, sum, at_most, c.loop-index.invariant.most));
    }

pub returns-clause-ascending : goal.returns-clause-ascending
returns-clause-ascending g c =
    let tried = c.args.tried.now in
    let i = c.loop-index.index-index in
    let kept = c.loop-index.invariant.kept in
    subst IsStrictlyIncreasing (sym kept.2)
    (chosen_ascending kept.0 (take i tried) (subst IsStrictlyIncreasing
    (sym (take_all i tried c.loop-index-test.false)) c.requires.ascending))

pub returns-clause-exactly : goal.returns-clause-exactly
returns-clause-exactly g c = λ index.
    let P : ℕ → Type 0 = PassesAt g.E.Element.document (g.E.Element.node c.args.element.now)
    c.args.self.now.selectors in
    let tried = c.args.tried.now in
    let i = c.loop-index.index-index in
    let kept = c.loop-index.invariant.kept in
    subst (λ xs. Contains xs index ↔ (Contains tried index × P index)) (sym kept.2)
    (subst (λ ts. Contains (items_where_true kept.0 (take i tried)) index
    ↔ (Contains ts index × P index)) (take_all i tried c.loop-index-test.false)
    (chosen_exactly P kept.0 (take i tried) kept.1 index))

pub returns-clause-at_least : goal.returns-clause-at_least
returns-clause-at_least g c =
    subst (λ ts. c.args.tests.now + sum_by (least_tests c.args.self.now.selectors) ts
    ≤ c.loop-index.tests)
    (take_all c.loop-index.index-index c.args.tried.now c.loop-index-test.false)
    c.loop-index.invariant.least

pub returns-clause-at_most : goal.returns-clause-at_most
returns-clause-at_most g c =
    subst (λ ts. c.loop-index.tests ≤ c.args.tests.now + sum_by (most_tests_at
    g.E.Element.document (g.E.Element.node c.args.element.now) c.args.self.now.selectors) ts)
    (take_all c.loop-index.index-index c.args.tried.now c.loop-index-test.false)
    c.loop-index.invariant.most

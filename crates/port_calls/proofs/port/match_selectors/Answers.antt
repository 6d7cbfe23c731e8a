use Rattle.std.proofs.Common.{Bor, List, ℕ, map, subst, ◌∙◌}
use Rattle.std.proofs.lemmas.List.{map-id}
use Rattle.cssq.specs.SelectorRuns.{selector_in}
use Rattle.call_answers.specs.Calls.{passed_of, AreSelectorsIn, HasNoSelector, FailsFor}
use Rattle.port_calls.proofs.PageCalls.{match_due, texts_failed, selectors_failed, tree_failed, failed}
use Rattle.port_calls.proofs.port.match_selectors.Goals as goal

pub returns-in_err-texts : goal.returns-in_err-texts
returns-in_err-texts c =
    let passed = passed_of c.args.tree in
    let failure = c.in_err-texts.field-0.0 in
    failed c.args.most c.args.buffer.now c.args.ends.now passed c.from_residual.result failure
    c.from_residual.ensures.1
    (texts_failed c.args.most c.args.buffer.now c.args.ends.now passed failure c.in_err-texts.ensures)

pub returns-in_err-selectors : goal.returns-in_err-selectors
returns-in_err-selectors c =
    let passed = passed_of c.args.tree in
    let failure = c.in_err-selectors.field-0.0 in
    failed c.args.most c.args.buffer.now c.args.ends.now passed c.from_residual-in_err-selectors.result failure
    c.from_residual-in_err-selectors.ensures.1
    (selectors_failed c.args.most c.args.buffer.now c.args.ends.now passed
    (map (λ text. text.now) c.in_ok-texts.texts.items) c.in_ok-texts.ensures failure
    (subst (λ (texts : List (Bor (List ℕ))). FailsFor (HasNoSelector selector_in (map (λ text. text.now) texts))
    (λ fault. ⊥) ⊥ failure) c.deref.ensures.value c.in_err-selectors.ensures))

pub returns-in_err-tree : goal.returns-in_err-tree
returns-in_err-tree c =
    let passed = passed_of c.args.tree in
    let failure = c.in_err-tree.field-0.0 in
    failed c.args.most c.args.buffer.now c.args.ends.now passed c.from_residual-in_err-tree.result failure
    c.from_residual-in_err-tree.ensures.1
    (tree_failed c.args.most c.args.buffer.now c.args.ends.now passed failure c.in_err-tree.ensures)

pub returns : goal.returns
returns c =
    match_due c.args.most c.args.buffer.now c.args.ends.now (passed_of c.args.tree)
    (map (λ text. text.now) c.in_ok-texts.texts.items) c.in_ok-tree.tree
    c.in_ok-texts.ensures c.in_ok-selectors.selectors.items
    (subst (λ (texts : List (Bor (List ℕ))). AreSelectorsIn selector_in (map (λ text. text.now) texts)
    c.in_ok-selectors.selectors.items) c.deref.ensures.value c.in_ok-selectors.ensures)
    c.in_ok-tree.ensures.0 c.in_ok-tree.ensures.1
    (map (λ selector. selector) c.deref-2.result.now)
    (map-id c.deref-2.result.now ∙ c.deref-2.ensures.value)
    c.lines.result c.lines.ensures

use Rattle.std.proofs.Common.{Bor, List, ℕ, map, subst}
use Rattle.css_sheet.specs.RuleSelectors.{selector_of}
use Rattle.call_answers.specs.Calls.{passed_of, AreSelectorsIn, HasNoSelector, FailsFor}
use Rattle.page_calls.specs.ModernCalls.{IsModernMatchCall}
use Rattle.page_calls.proofs.ModernCalls.{match-due, texts-failed, selectors-failed}
use Rattle.call_answers.proofs.Handing.{handed-on}
use Rattle.page_calls.proofs.modern.match_selectors.Goals as goal

pub returns-in_err-texts : goal.returns-in_err-texts
returns-in_err-texts c =
    let buffer = c.args.buffer.now in
    let ends = c.args.ends.now in
    let passed = passed_of c.args.tree in
    let error = c.in_err-texts.field-0.0 in
    handed-on (IsModernMatchCall c.args.most buffer ends c.args.kind passed) c.from_residual.result error
    c.from_residual.ensures.1
    (texts-failed c.args.most buffer ends c.args.kind passed error c.in_err-texts.ensures)

pub returns-in_err-selectors : goal.returns-in_err-selectors
returns-in_err-selectors c =
    let buffer = c.args.buffer.now in
    let ends = c.args.ends.now in
    let passed = passed_of c.args.tree in
    let error = c.in_err-selectors.field-0.0 in
    handed-on (IsModernMatchCall c.args.most buffer ends c.args.kind passed)
    c.from_residual-in_err-selectors.result error c.from_residual-in_err-selectors.ensures.1
    (selectors-failed c.args.most buffer ends c.args.kind passed
    (map (λ text. text.now) c.in_ok-texts.texts.items) c.in_ok-texts.ensures error
    (subst (λ (texts : List (Bor (List ℕ))). FailsFor (HasNoSelector selector_of
    (map (λ text. text.now) texts)) (λ fault. ⊥) ⊥ error) c.deref.ensures.value
    c.in_err-selectors.ensures))

pub returns : goal.returns
returns c =
    let passed = passed_of c.args.tree in
    match-due c.args.most c.args.buffer.now c.args.ends.now c.args.kind passed
    (map (λ text. text.now) c.in_ok-texts.texts.items) c.in_ok-selectors.selectors.items
    c.in_ok-texts.ensures
    (subst (λ (texts : List (Bor (List ℕ))). AreSelectorsIn selector_of
    (map (λ text. text.now) texts) c.in_ok-selectors.selectors.items) c.deref.ensures.value
    c.in_ok-selectors.ensures)
    c.page_lines.result c.page_lines.ensures

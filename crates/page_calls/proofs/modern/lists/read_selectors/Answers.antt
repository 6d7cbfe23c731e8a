use Rattle.std.proofs.Common.{map, Some, sym, ap, ◌∙◌}
use Rattle.css_sheet.specs.RuleSelectors.{selector_of}
use Rattle.call_answers.specs.Calls.{AreSelectorsIn, HasNoSelector, FailsFor}
use Rattle.call_answers.proofs.SelectorTexts.{selector-more, no-selector}
use Rattle.call_answers.proofs.Handing.{handed-match}
use Rattle.page_calls.proofs.ModernPages.{fails_wider}
use Rattle.page_calls.proofs.modern.lists.read_selectors.Goals as goal

-- the first text that is no selector
pub returns-in_err-read_selector : goal.returns-in_err-read_selector
returns-in_err-read_selector c =
    let texts = c.args.texts.now in
    let error = c.in_err-read_selector.field-0.0 in
    handed-match (λ selectors. AreSelectorsIn selector_of (map (λ text. text.now) texts) selectors.items)
    (FailsFor (HasNoSelector selector_of (map (λ text. text.now) texts)) (λ fault. ⊥) ⊥)
    c.from_residual-in_err-read_selector.result error c.from_residual-in_err-read_selector.ensures.1
    (fails_wider (λ none. no-selector selector_of (λ text. text.now) texts c.loop-text.text-index _
    c.loop-text.selectors.items c.loop-text-test.true c.loop-text.invariant none)
    (λ fault is. absurd is) (λ is. absurd is) error c.in_err-read_selector.ensures)

-- the selector of one more text
pub loop-text-preserved : goal.loop-text-preserved
loop-text-preserved c =
    selector-more selector_of (λ text. text.now) c.args.texts.now c.loop-text.text-index _
    c.loop-text.selectors.items c.in_ok-read_selector.field-0 c.loop-text-test.true
    c.loop-text.invariant c.in_ok-read_selector.ensures
    ∙ ap (map Some) (sym c.in_ok-push.ensures.items)

use Rattle.std.proofs.Common.{map, Some, sym, ap, ◌∙◌}
use Rattle.cssq.specs.SelectorRuns.{selector_in}
use Rattle.call_answers.proofs.SelectorTexts.{selector-more, no-selector}
use Rattle.port_calls.proofs.port.read_selectors.Goals as goal

pub returns-in_default : goal.returns-in_default
returns-in_default c =
    no-selector selector_in (λ text. text.now) c.args.texts.now c.loop-text.text-index _
    c.loop-text.selectors.items c.loop-text-test.true c.loop-text.invariant
    (sym c.in_ok-selector.ensures.selector ∙ c.in_default.is)

-- the selector of one more text
pub loop-text-preserved : goal.loop-text-preserved
loop-text-preserved c =
    selector-more selector_in (λ text. text.now) c.args.texts.now c.loop-text.text-index _
    c.loop-text.selectors.items c.in-Some.selector c.loop-text-test.true c.loop-text.invariant
    (sym c.in_ok-selector.ensures.selector ∙ c.in-Some.is)
    ∙ ap (map Some) (sym c.in_ok-push.ensures.items)

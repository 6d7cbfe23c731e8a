use Rattle.std.proofs.Common.{◌++◌, sym, ap, ◌∙◌}
use Rattle.css_index.specs.Tested.{filed_keys}
use Rattle.css_index.specs.internal.Filed.{with_index}
use Rattle.css_index.proofs.FileLemmas.{entries_more}
use Rattle.css_index.proofs.table.entries_of.Goals as goal

pub loop-rule-preserved : goal.loop-rule-preserved
loop-rule-preserved c =
    let rule = c.loop-rule.rule in
    let s = c.index-selectors-rule.result.now in
    c.in_ok-enter_selector.ensures
    ∙ ap (λ es. es ++ with_index rule (filed_keys s)) c.loop-rule.invariant
    ∙ sym (entries_more (λ r. r.now) c.args.selectors.now rule c.index-selectors-rule.result
    c.loop-rule-test.true c.index-selectors-rule.is)

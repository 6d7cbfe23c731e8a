use Rattle.std.proofs.Common.{sym, ◌∙◌}
use Rattle.css_selector_text.proofs.AttributeLemmas.{begins_nothing, begins_within}
use Rattle.css_selector_text.proofs.bytes.begins.Goals as goal

pub returns-clause-within : goal.returns-clause-within
returns-clause-within c = λ _.
    begins_within c.args.ignores_case c.args.text.now c.args.value.now
    (sym c.bytes.invariant
    ∙ begins_nothing c.args.ignores_case c.bytes.wanted.now c.bytes.found.now c.in_default.len_below)

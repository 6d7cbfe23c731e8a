use Rattle.std.proofs.Common.{◌&&◌, ◌∙◌, ap, sym}
use Rattle.css_text.specs.Bytes.{past_one}
use Rattle.sheet_calls.specs.Functions.{at_rules, is_word_of}
use Rattle.sheet_calls.proofs.functions.is_at_rule.Goals as goal

pub returns-then-begins_at_rule : goal.returns-then-begins_at_rule
returns-then-begins_at_rule c =
    c.is_word_of.ensures ∙ ap (λ text. is_word_of at_rules text) c.past_one.ensures
    ∙ sym (ap (λ begins. begins && is_word_of at_rules (past_one c.args.text.now))
    (sym c.begins_at_rule.ensures ∙ c.if-begins_at_rule.true))

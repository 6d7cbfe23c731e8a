use Rattle.std.proofs.Common.{◌≡◌, ◌∙◌, ◌∷◌, [], List, ℕ, option_map, sym, ap, true, false}
use Rattle.std.proofs.lemmas.Result.{on_ok_weaker}
use Rattle.css_text.specs.AsciiBytes.{at_sign}
use Rattle.css_text.specs.Bytes.{starts, past_one}
use Rattle.simplecss_grammar.specs.Skipped.{add_each, rule_set_skips, at_rule}
use Rattle.css_text.specs.ThisEdition.{this_edition}
use Rattle.css_text.specs.Cursor.{rest_of}
use Rattle.simplecss_grammar.proofs.reading.SkipLemmas.{skips-at_rule, skips-rule_set}
use Rattle.css_text.proofs.bytes.ByteLemmas.{past_byte_there, past_byte_not}
use Rattle.simplecss.proofs.sheet.statements.RuleReader.consume_statement.Goals as goal

pub returns-then-skip_byte-clause-reported : goal.returns-then-skip_byte-clause-reported
returns-then-skip_byte-clause-reported g c =
    let text : List ℕ = rest_of c.args.s.now in
    let sign : starts at_sign text ≡ true = sym c.skip_byte.ensures.occurs ∙ c.if-skip_byte.true in
    let after : rest_of c.skip_byte.new.s ≡ past_one text =
    c.skip_byte.ensures.rest ∙ past_byte_there at_sign text sign in
    let before = g.P.Report.state c.args.report.now in
    let skips =
    skips-at_rule this_edition text c.slice_tail-text.result.now (rest_of c.skip_byte.new.s)
    c.slice_tail.result.now (option_map (λ n. n.now) c.take_at_rule-name.result)
    sign c.slice_tail-text.ensures after
    (c.slice_tail.ensures ∙ c.take_at_rule-name.ensures.rest) c.take_at_rule-name.ensures.name in
    on_ok_weaker c.report.result
    (λ (e : g.P.Report.state c.report.new.self ≡ add_each g.P.Report.add before (record {
      from = c.slice_tail-text.result.now;
      after = c.slice_tail.result.now;
      why = at_rule (option_map (λ n. n.now) c.take_at_rule-name.result);
    } ∷ [])). e ∙ ap (add_each g.P.Report.add before) skips)
    c.report.ensures

pub returns-clause-reported : goal.returns-clause-reported
returns-clause-reported g c =
    let text : List ℕ = rest_of c.args.s.now in
    let none : starts at_sign text ≡ false =
    sym c.skip_byte.ensures.occurs ∙ c.if-skip_byte.false in
    let same : rest_of c.skip_byte.new.s ≡ text =
    c.skip_byte.ensures.rest ∙ past_byte_not at_sign text none in
    let before = g.P.Report.state c.args.report.now in
    on_ok_weaker c.consume_rule_set.result
    (λ (e : g.P.Report.state c.consume_rule_set.new.report
    ≡ add_each g.P.Report.add before (rule_set_skips this_edition (rest_of c.skip_byte.new.s))). e
    ∙ ap (λ (t : List ℕ). add_each g.P.Report.add before (rule_set_skips this_edition t)) same
    ∙ ap (add_each g.P.Report.add before) (skips-rule_set this_edition text none))
    c.consume_rule_set.ensures.reported

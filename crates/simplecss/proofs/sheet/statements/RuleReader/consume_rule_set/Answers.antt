use Rattle.std.proofs.Common.{◌≡◌, sym, ap}
use Rattle.std.proofs.lemmas.Result.{on_ok_weaker}
use Rattle.simplecss_grammar.specs.Skipped.{add_each, next_block_skips}
use Rattle.css_text.specs.ThisEdition.{this_edition}
use Rattle.css_text.specs.Cursor.{rest_of}
use Rattle.simplecss_grammar.proofs.reading.SkipLemmas.{add-rule_set}
use Rattle.simplecss.proofs.sheet.statements.RuleReader.consume_rule_set.Goals as goal

pub returns-clause-reported : goal.returns-clause-reported
returns-clause-reported g c = on_ok_weaker c.consume_next_block.result
    (λ (e : g.P.Report.state c.consume_next_block.new.report
    ≡ add_each g.P.Report.add (g.P.Report.state c.consume_parts.new.report)
    (next_block_skips this_edition (rest_of c.consume_parts.new.s))).
    add-rule_set g.P.Report.add this_edition (rest_of c.args.s.now) (rest_of c.consume_comma.new.s)
    (rest_of c.consume_parts.new.s)
    (g.P.Report.state c.args.report.now) (g.P.Report.state c.consume_comma.new.report)
    (g.P.Report.state c.consume_parts.new.report) (g.P.Report.state c.consume_next_block.new.report)
    c.consume_comma.ensures.rest (sym (ap (λ r. r.1) c.in_ok-consume_parts.ensures.reads))
    c.in_ok-consume_comma.ensures.reported c.in_ok-consume_parts.ensures.reported e)
    c.consume_next_block.ensures.reported

use Rattle.std.proofs.Common.{◌≡◌, List, ℕ, ap, ◌∙◌, subst}
use Rattle.std.specs.Result.{OnOk}
use Rattle.css_text.specs.AsciiBytes.{close_brace}
use Rattle.css_text.specs.Bytes.{past_byte}
use Rattle.simplecss_grammar.specs.Blocks.{from_block_end}
use Rattle.simplecss_grammar.specs.Skipped.{list_end_skips, brace_skips, add_each}
use Rattle.css_text.specs.Cursor.{rest_of}
use Rattle.simplecss_grammar.proofs.reading.SkipLemmas.{add-both_ok}
use Rattle.simplecss_declaration.proofs.blocks.consume_broken.Goals as goal

pub returns-clause-reported : goal.returns-clause-reported
returns-clause-reported g c =
    let add = g.P.Report.add in
    let text = c.args.text.now in
    let after = from_block_end (rest_of c.args.s.now) in
    let before = g.P.Report.state c.args.report.now in
    let middle = g.P.Report.state c.report_list_end.new.report in
    let last = g.P.Report.state c.consume_brace.new.report in
    let rest = c.slice_tail.ensures ∙ c.skip_to_block_end.ensures.rest in
    let brace =
    c.try_consume_byte.ensures.rest ∙ ap (past_byte close_brace) c.skip_to_block_end.ensures.rest in
    add-both_ok add (list_end_skips text after)
    (brace_skips (past_byte close_brace after)) before middle last c.consume_brace.result
    (c.in_ok-report_list_end.ensures
    ∙ ap (λ (t : List ℕ). add_each add before (list_end_skips text t)) rest)
    (subst (λ (t : List ℕ). OnOk c.consume_brace.result (last ≡ add_each add middle (brace_skips t)))
    brace c.consume_brace.ensures.reported)

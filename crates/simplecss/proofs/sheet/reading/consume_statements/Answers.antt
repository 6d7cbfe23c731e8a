use Rattle.std.proofs.Common.{List, ℕ, drop, sym, ◌∙◌, ap, refl}
use Rattle.simplecss_grammar.specs.Skipped.{add_each, end_skips, skipped}
use Rattle.simplecss_grammar.proofs.reading.SkipLemmas.{skipped-none}
use Rattle.css_text.specs.ThisEdition.{this_edition}
use Rattle.css_text.specs.Cursor.{rest_of}
use Rattle.simplecss.proofs.StatementLemmas.{statement-less, told-some}
use Rattle.simplecss.proofs.sheet.reading.consume_statements.Goals as goal

pub statements-init : goal.statements-init
statements-init g c =
    ap (λ (t : List ℕ). add_each g.P.Report.add (g.P.Report.state c.begin.new.self)
    (skipped this_edition t))
    (ap (λ n. drop n c.new-s.result.text.now) c.new-s.ensures.offset ∙ c.new-s.ensures.text)

pub statements-smaller : goal.statements-smaller
statements-smaller g c =
    statement-less this_edition (rest_of c.statements.s) (rest_of c.at_statement.new.s) _
    c.if-not-at_statement.ensures.reads c.in_ok-consume_statement.ensures.rest

pub statements-preserved : goal.statements-preserved
statements-preserved g c =
    told-some g.P.Report.add this_edition (g.P.Report.state c.statements.report) _
    (rest_of c.statements.s) (rest_of c.at_statement.new.s) (rest_of c.consume_statement.new.s)
    c.if-not-at_statement.ensures.reads (c.if-not-at_statement.ensures.rest refl)
    c.in_ok-consume_statement.ensures.rest c.in_ok-consume_statement.ensures.reported
    ∙ c.statements.invariant

pub returns-then-not-at_statement : goal.returns-then-not-at_statement
returns-then-not-at_statement g c =
    let add = g.P.Report.add in
    let before = g.P.Report.state c.statements.report in
    c.in_ok-report_end.ensures
    ∙ ap (λ (t : List ℕ). add_each add before (end_skips t)) c.slice_tail-rest.ensures
    ∙ ap (add_each add before)
    (sym (skipped-none this_edition (rest_of c.statements.s) c.if-not-at_statement.ensures.reads))
    ∙ c.statements.invariant
    ∙ ap (λ (s : g.P.Report.State). add_each add s (skipped this_edition c.args.text.now))
    c.begin.ensures

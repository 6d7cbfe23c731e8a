use Rattle.std.proofs.Common.{List, ℕ, Some, None, drop, sym, ap, ◌∙◌, refl}
use Rattle.css_text.specs.Bytes.{past}
use Rattle.css_text.specs.Characters.{is_space}
use Rattle.simplecss_grammar.specs.Selectors.{reads}
use Rattle.simplecss_grammar.specs.Statements.{part}
use Rattle.simplecss_grammar.specs.Skipped.{selector_skips, skips_after, add_each}
use Rattle.css_text.specs.ThisEdition.{this_edition}
use Rattle.css_text.specs.Cursor.{rest_of}
use Rattle.simplecss_grammar.proofs.reading.SkipLemmas.{add-part}
use Rattle.simplecss.proofs.sheet.statements.consume_part.Goals as goal

pub returns-in_ok-report_left-in-Some-clause-reported :
    goal.returns-in_ok-report_left-in-Some-clause-reported
unfolding part
returns-in_ok-report_left-in-Some-clause-reported g c =
    let add = g.P.Report.add in
    let text : List ℕ = rest_of c.args.s.now in
    let before = g.P.Report.state c.args.report.now in
    let middle = g.P.Report.state c.parse_front-read.new.report in
    add-part add this_edition text (rest_of c.skip_spaces.new.self)
    (Some c.in-Some.selector) before middle (g.P.Report.state c.report_left.new.report)
    (c.in-Ok.ensures.reported
    ∙ ap (λ (t : List ℕ). add_each add before (selector_skips this_edition t)) c.slice_tail.ensures)
    (sym c.in-Some.is ∙ c.in-Ok.ensures.selector
    ∙ ap (λ (t : List ℕ). (reads this_edition t).0) c.slice_tail.ensures)
    (c.skip_spaces.ensures.rest ∙ ap (past is_space)
    (c.advance.ensures.rest ∙ ap (drop c.in-Ok.read.1) (sym c.slice_tail.ensures)
    ∙ c.in-Ok.ensures.rest ∙ ap (λ (t : List ℕ). (reads this_edition t).1) c.slice_tail.ensures))
    (c.in_ok-report_left-in-Some.ensures
    ∙ ap (λ (t : List ℕ). add_each add middle (skips_after t)) c.slice_tail-in-Some.ensures)

pub returns-in-None-clause-reported : goal.returns-in-None-clause-reported
unfolding part
returns-in-None-clause-reported g c =
    let add = g.P.Report.add in
    let text : List ℕ = rest_of c.args.s.now in
    let before = g.P.Report.state c.args.report.now in
    let middle = g.P.Report.state c.parse_front-read.new.report in
    add-part add this_edition text (rest_of c.skip_spaces.new.self) None before middle middle
    (c.in-Ok.ensures.reported
    ∙ ap (λ (t : List ℕ). add_each add before (selector_skips this_edition t)) c.slice_tail.ensures)
    (sym c.in-None.is ∙ c.in-Ok.ensures.selector
    ∙ ap (λ (t : List ℕ). (reads this_edition t).0) c.slice_tail.ensures)
    (c.skip_spaces.ensures.rest ∙ ap (past is_space)
    (c.advance.ensures.rest ∙ ap (drop c.in-Ok.read.1) (sym c.slice_tail.ensures)
    ∙ c.in-Ok.ensures.rest ∙ ap (λ (t : List ℕ). (reads this_edition t).1) c.slice_tail.ensures))
    refl

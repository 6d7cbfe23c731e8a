use Rattle.std.proofs.Common.{ap, sym, ◌∙◌, false}
use Rattle.std.specs.Bool.{IsTrue}
use Rattle.simplecss_grammar.specs.Skipped.{add_each}
use Rattle.css_text.specs.ThisEdition.{this_edition}
use Rattle.css_text.specs.Cursor.{rest_of}
use Rattle.simplecss_declaration.proofs.OpenValueLemmas.{declaration_skips-left}
use Rattle.simplecss_declaration.proofs.blocks.report_declared.Goals as goal

pub returns : goal.returns
returns g c = λ p e.
    let none =
    declaration_skips-left this_edition c.args.text.now (rest_of c.args.s.now) p e
    (λ ended. let ends : IsTrue false = c.if-at_end.ensures.1 ended in cc) in
    c.declared.ensures
    ∙ sym (ap (add_each g.P.Report.add (g.P.Report.state c.args.report.now)) none)

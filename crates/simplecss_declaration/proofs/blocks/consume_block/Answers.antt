use Rattle.std.proofs.Common.{◌≡◌, ap, sym, map, ◌∙◌}
use Rattle.std.proofs.lemmas.Result.{on_ok_weaker}
use Rattle.css_text.specs.Reading.{each}
use Rattle.simplecss_grammar.specs.Blocks.{declaration_in_block, from_block_end}
use Rattle.simplecss_grammar.specs.Skipped.{add_each, block_skips, broken_part, list_skips}
use Rattle.css_text.specs.ThisEdition.{this_edition}
use Rattle.css_text.specs.Cursor.{rest_of}
use Rattle.simplecss_declaration.specs.DeclarationViews.{declaration_of}
use Rattle.simplecss_declaration.proofs.BlockLemmas.{block-ended, block-broken, list_skips-ended, list_skips-broken}
use Rattle.simplecss_declaration.proofs.OpenValueLemmas.{add_each-list}
use Rattle.simplecss_declaration.proofs.blocks.consume_block.Goals as goal

pub returns-in-None-clause-reads : goal.returns-in-None-clause-reads
returns-in-None-clause-reads g c =
    block-ended this_edition (rest_of c.args.s.now) (rest_of c.consume_declarations.new.s)
    (rest_of c.try_consume_byte.new.self)
    (map declaration_of c.consume_declarations.new.declarations.items) c.in-Ok.ensures.values
    (rw c.in-None.is at c.in-Ok.ensures.list) c.try_consume_byte.ensures.rest

pub returns-in-None-clause-reported : goal.returns-in-None-clause-reported
returns-in-None-clause-reported g c =
    let here = (each (declaration_in_block this_edition) (rest_of c.args.s.now)).1 in
    add_each-list g.P.Report.add (g.P.Report.state c.args.report.now)
    (g.P.Report.state c.consume_declarations.new.report) (list_skips this_edition here)
    (block_skips this_edition (rest_of c.args.s.now)) c.in-Ok.ensures.reported
    (list_skips-ended this_edition here (rest_of c.consume_declarations.new.s)
    (rw c.in-None.is at c.in-Ok.ensures.list))

pub returns-in-Some-clause-reads : goal.returns-in-Some-clause-reads
returns-in-Some-clause-reads g c =
    on_ok_weaker c.consume_broken.result
    (block-broken this_edition (rest_of c.args.s.now) c.in-Some.text.now
    (rest_of c.consume_declarations.new.s) (rest_of c.consume_broken.new.s)
    (map declaration_of c.consume_declarations.new.declarations.items) c.in-Ok.ensures.values
    (rw c.in-Some.is at c.in-Ok.ensures.list)) c.consume_broken.ensures.rest

pub returns-in-Some-clause-reported : goal.returns-in-Some-clause-reported
returns-in-Some-clause-reported g c =
    let here = (each (declaration_in_block this_edition) (rest_of c.args.s.now)).1 in
    let add = g.P.Report.add in
    let middle = g.P.Report.state c.consume_declarations.new.report in
    let lost =
    broken_part c.in-Some.text.now (from_block_end (rest_of c.consume_declarations.new.s))
    in
    on_ok_weaker c.consume_broken.result
    (λ (e : g.P.Report.state c.consume_broken.new.report ≡ add_each add middle lost).
    e
    ∙ ap (add_each add middle) (sym (list_skips-broken this_edition here c.in-Some.text.now
    (rest_of c.consume_declarations.new.s) (rw c.in-Some.is at c.in-Ok.ensures.list)))
    ∙ c.in-Ok.ensures.reported) c.consume_broken.ensures.reported

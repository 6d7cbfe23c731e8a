use Rattle.std.proofs.Common.{◌≡◌, map, length}
use Rattle.simplecss_grammar.specs.Blocks.{declaration_in_block}
use Rattle.simplecss_grammar.specs.Skipped.{add_each, block_skips}
use Rattle.css_text.specs.ThisEdition.{this_edition}
use Rattle.css_text.specs.Cursor.{text_of, rest_of}
use Rattle.css_text.proofs.reading.EachLemmas.{Done}
use Rattle.simplecss_declaration.specs.DeclarationViews.{declaration_of}
use Rattle.simplecss_declaration.proofs.blocks.consume_declarations.Given as goal

-- The declarations so far and those from here on are those of the whole list, and so are the
-- reports.
abbrev pub invariant-list : goal.invariant-list
invariant-list g l = record {
  same : text_of l.s ≡ text_of l.initial.s;
  read : Done (declaration_in_block this_edition) (map declaration_of l.declarations.items)
      (rest_of l.s) (rest_of l.initial.s);
  reported : add_each g.P.Report.add (g.P.Report.state l.report)
      (block_skips this_edition (rest_of l.s))
      ≡ add_each g.P.Report.add (g.P.Report.state l.initial.report)
      (block_skips this_edition (rest_of l.initial.s));
}

abbrev pub decreases-list : goal.decreases-list
decreases-list g l = length (rest_of l.s)

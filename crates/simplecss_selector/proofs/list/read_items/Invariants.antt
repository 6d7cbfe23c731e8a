use Rattle.std.proofs.Common.{◌≡◌, length}
use Rattle.css_text.specs.ThisEdition.{this_edition}
use Rattle.css_text.specs.Cursor.{text_of, rest_of}
use Rattle.css_text.proofs.reading.EachLemmas.{Done}
use Rattle.simplecss_selector.specs.SelectorLists.{item_and_comma}
use Rattle.simplecss_selector.proofs.list.read_items.Given as goal

-- the selectors so far are the items that a comma follows, and nothing of them is refused
abbrev pub invariant-items : goal.invariant-items
invariant-items g l = record {
  same : text_of l.s ≡ l.text;
  done : Done (item_and_comma this_edition) l.selectors.items (rest_of l.s) l.text;
  reported : g.P.Report.state l.report ≡ g.P.Report.state l.initial.report;
}

abbrev pub decreases-items : goal.decreases-items
decreases-items g l = length (rest_of l.s)

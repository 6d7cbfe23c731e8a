use Rattle.std.proofs.Common.{◌≡◌, length, None, option_map}
use Rattle.css_text.specs.Reading.{each}
use Rattle.css_html.specs.ReferenceNames.{names, rows_in}
use Rattle.css_html.specs.References.{next_row, longest_of}
use Rattle.css_html.specs.ReferenceViews.{row_of}
use Rattle.css_html.proofs.references.named_row.Given as goal

abbrev pub invariant-rows : goal.invariant-rows
invariant-rows l =
    longest_of l.text (option_map row_of l.best) (each next_row l.rest).0
    ≡ longest_of l.text None (each next_row (rows_in l.letter names)).0

abbrev pub decreases-rows : goal.decreases-rows
decreases-rows l = length l.rest

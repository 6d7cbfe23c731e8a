use Rattle.std.proofs.Common.{◌∙◌, sym, ap, Option, option_map}
use Rattle.css_text.specs.Reading.{each}
use Rattle.css_text.proofs.reading.EachLemmas.{took}
use Rattle.css_html.specs.References.{NamedRow, next_row, longest_of}
use Rattle.css_html.specs.ReferenceViews.{row_of}
use Rattle.css_html.proofs.ReferenceLemmas.{next_row-takes, longest-step, longest-stop}
use Rattle.css_html.proofs.references.named_row.Goals as goal

pub rows-smaller : goal.rows-smaller
rows-smaller c =
    took next_row next_row-takes c.rows.rest.now c.in-Some.after.now (row_of c.in-Some.row)
    c.in-Some.ensures

pub rows-preserved : goal.rows-preserved
rows-preserved c =
    ap (λ (best : Option NamedRow).
    longest_of c.args.text.now best (each next_row c.in-Some.after.now).0) c.longer_of-best.ensures
    ∙ longest-step c.args.text.now c.rows.rest.now c.in-Some.after.now (option_map row_of c.rows.best)
    (row_of c.in-Some.row) c.in-Some.ensures
    ∙ c.rows.invariant

pub returns : goal.returns
returns c =
    sym (longest-stop c.args.text.now c.rows.rest.now (option_map row_of c.rows.best)
    c.in_default.ensures)
    ∙ c.rows.invariant

use Rattle.std.proofs.Common.{◌∙◌, ap, sym, rules}
use Rattle.css_text.proofs.reading.EachLemmas.{took}
use Rattle.css_values.specs.Names.{part_before}
use Rattle.css_values.specs.internal.Joined.{row_at}
use Rattle.css_values.proofs.NameLemmas.{part_before-takes}
use Rattle.css_values.proofs.RefusedLemmas.{row_from, row-none, row-some}
use Rattle.css_values.proofs.refused.RefusedValues.new.Goals as goal

pub lines-smaller : goal.lines-smaller
lines-smaller c =
    took (part_before 10) (part_before-takes 10) c.lines.rest.now c.in-Some.line.rest.now
    c.in-Some.line.front.now c.in-Some.ensures

pub lines-preserved : goal.lines-preserved
lines-preserved c = (
  search rules,
  λ name.
      ap (λ found. row_from found c.in-Some.line.rest.now name) (c.in_ok-add_names.ensures name)
      ∙ sym (row-some (row_at c.lines.rows name) c.lines.rest.now c.in-Some.line.front.now c.in-Some.line.rest.now name
      c.cut-row.result.front.now c.cut-row.result.rest.now c.in-Some.ensures c.cut-row.ensures)
      ∙ c.lines.invariant.1 name,
)

pub invariant_of-result : goal.invariant_of-result
invariant_of-result c = λ name.
    sym (row-none (row_at c.lines.rows name) c.lines.rest.now name c.in_default.ensures) ∙ c.lines.invariant.1 name

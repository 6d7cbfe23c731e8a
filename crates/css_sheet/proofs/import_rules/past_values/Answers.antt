use Rattle.std.proofs.Common.{◌∙◌, sym}
use Rattle.css_text.proofs.reading.EachLemmas.{took}
use Rattle.css_text.proofs.reading.WellLemmas.{found-text}
use Rattle.css_syntax.proofs.Shorter.{each-goes, each-rests}
use Rattle.css_sheet.specs.ImportRules.{value_part}
use Rattle.css_sheet.proofs.ImportLemmas.{value_part-takes, value_part-well}
use Rattle.css_sheet.proofs.import_rules.past_values.Goals as goal

pub value_part-requires-text-text : goal.value_part-requires-text-text
value_part-requires-text-text c = λ _. c.values.invariant.0

pub values-smaller : goal.values-smaller
values-smaller c =
    took value_part value_part-takes c.values.rest.now c.in-Some.after.now tt c.in-Some.ensures

pub values-preserved : goal.values-preserved
values-preserved c =
    let rest = c.values.rest.now in
    let after = c.in-Some.after.now in (
      found-text value_part value_part-well rest after tt c.values.invariant.0 c.in-Some.ensures,
      each-goes value_part value_part-takes rest after tt c.in-Some.ensures ∙ c.values.invariant.1,
    )

pub returns : goal.returns
returns c =
    sym (each-rests value_part c.values.rest.now c.in_default.ensures) ∙ c.values.invariant.1

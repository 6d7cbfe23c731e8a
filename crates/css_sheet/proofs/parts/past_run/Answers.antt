use Rattle.std.proofs.Common.{◌∙◌, sym}
use Rattle.css_text.proofs.reading.EachLemmas.{took}
use Rattle.css_text.proofs.reading.WellLemmas.{found-text}
use Rattle.css_syntax.proofs.Shorter.{each-goes, each-rests}
use Rattle.css_sheet.specs.SheetParts.{run_part}
use Rattle.css_sheet.proofs.PartSteps.{run_part-takes, run_part-well}
use Rattle.css_sheet.proofs.parts.past_run.Goals as goal

pub run_part-requires-text-text : goal.run_part-requires-text-text
run_part-requires-text-text c = λ _. c.parts.invariant.0

pub parts-smaller : goal.parts-smaller
parts-smaller c =
    took run_part run_part-takes c.parts.rest.now c.in-Some.after.now tt c.in-Some.ensures

pub parts-preserved : goal.parts-preserved
parts-preserved c =
    let rest = c.parts.rest.now in
    let after = c.in-Some.after.now in (
      found-text run_part run_part-well rest after tt c.parts.invariant.0 c.in-Some.ensures,
      each-goes run_part run_part-takes rest after tt c.in-Some.ensures ∙ c.parts.invariant.1,
    )

pub returns : goal.returns
returns c =
    sym (each-rests run_part c.parts.rest.now c.in_default.ensures) ∙ c.parts.invariant.1

use Rattle.std.proofs.Common.{◌∙◌, sym}
use Rattle.css_text.proofs.reading.EachLemmas.{took}
use Rattle.css_syntax.specs.DeclarationLists.{separator_part}
use Rattle.css_syntax.proofs.Shorter.{each-goes, each-rests}
use Rattle.css_syntax.proofs.ItemLemmas.{separator_part-takes}
use Rattle.css_syntax.proofs.declarations.past_separator_bytes.Goals as goal

pub parts-smaller : goal.parts-smaller
parts-smaller c =
    took separator_part separator_part-takes c.parts.rest.now
    c.in-Some.after.now tt c.in-Some.ensures

pub parts-preserved : goal.parts-preserved
parts-preserved c =
    each-goes separator_part separator_part-takes c.parts.rest.now
    c.in-Some.after.now tt c.in-Some.ensures
    ∙ c.parts.invariant

pub returns : goal.returns
returns c =
    sym (each-rests separator_part c.parts.rest.now c.in_default.ensures)
    ∙ c.parts.invariant

use Rattle.std.proofs.Common.{◌∙◌, sym}
use Rattle.css_text.proofs.reading.EachLemmas.{took}
use Rattle.css_syntax.specs.Statements.{between_part}
use Rattle.css_syntax.proofs.Shorter.{each-goes, each-rests}
use Rattle.css_syntax.proofs.ItemLemmas.{between_part-takes}
use Rattle.css_syntax.proofs.statements.past_between_bytes.Goals as goal

pub parts-smaller : goal.parts-smaller
parts-smaller c =
    took (between_part c.args.in_block) (between_part-takes c.args.in_block) c.parts.rest.now
    c.in-Some.after.now tt c.in-Some.ensures

pub parts-preserved : goal.parts-preserved
parts-preserved c =
    each-goes (between_part c.args.in_block) (between_part-takes c.args.in_block) c.parts.rest.now
    c.in-Some.after.now tt c.in-Some.ensures
    ∙ c.parts.invariant

pub returns : goal.returns
returns c =
    sym (each-rests (between_part c.args.in_block) c.parts.rest.now c.in_default.ensures)
    ∙ c.parts.invariant

use Rattle.std.proofs.Common.{◌∙◌, sym, ap}
use Rattle.css_text.proofs.reading.EachLemmas.{took}
use Rattle.css_text.specs.AsciiBytes.{close_parenthesis}
use Rattle.css_text.specs.Bytes.{past_byte}
use Rattle.css_syntax.specs.Tokens.{remnant_part}
use Rattle.css_syntax.proofs.Shorter.{each-goes, each-rests, remnant_part-takes}
use Rattle.css_syntax.proofs.tokens.past_remnants.Goals as goal

pub parts-smaller : goal.parts-smaller
parts-smaller c =
    took remnant_part remnant_part-takes c.parts.rest.now c.in-Some.after.now tt c.in-Some.ensures

pub parts-preserved : goal.parts-preserved
parts-preserved c =
    each-goes remnant_part remnant_part-takes c.parts.rest.now c.in-Some.after.now tt
    c.in-Some.ensures
    ∙ c.parts.invariant

pub returns : goal.returns
returns c =
    c.past_byte.ensures ∙ ap (past_byte close_parenthesis)
    (sym (each-rests remnant_part c.parts.rest.now c.in_default.ensures) ∙ c.parts.invariant)

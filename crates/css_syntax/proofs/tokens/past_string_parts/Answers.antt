use Rattle.std.proofs.Common.{◌∙◌, sym}
use Rattle.css_text.proofs.reading.EachLemmas.{took}
use Rattle.css_syntax.specs.Tokens.{string_part}
use Rattle.css_syntax.proofs.Shorter.{each-goes, each-rests, string_part-takes}
use Rattle.css_syntax.proofs.tokens.past_string_parts.Goals as goal

pub parts-smaller : goal.parts-smaller
parts-smaller c =
    took (string_part c.args.quote)
    (string_part-takes c.args.quote) c.parts.rest.now c.in-Some.after.now tt c.in-Some.ensures

pub parts-preserved : goal.parts-preserved
parts-preserved c =
    each-goes (string_part c.args.quote)
    (string_part-takes c.args.quote) c.parts.rest.now c.in-Some.after.now tt c.in-Some.ensures
    ∙ c.parts.invariant

pub returns : goal.returns
returns c =
    sym (each-rests (string_part c.args.quote) c.parts.rest.now c.in_default.ensures)
    ∙ c.parts.invariant

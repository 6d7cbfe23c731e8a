use Rattle.std.proofs.Common.{◌∙◌, sym}
use Rattle.css_text.proofs.reading.EachLemmas.{took}
use Rattle.css_syntax.specs.Tokens.{url_part}
use Rattle.css_syntax.proofs.Shorter.{each-goes, each-rests, url_part-takes}
use Rattle.css_syntax.proofs.tokens.past_url_parts.Goals as goal

pub parts-smaller : goal.parts-smaller
parts-smaller c =
    took url_part
    url_part-takes c.parts.rest.now c.in-Some.after.now tt c.in-Some.ensures

pub parts-preserved : goal.parts-preserved
parts-preserved c =
    each-goes url_part
    url_part-takes c.parts.rest.now c.in-Some.after.now tt c.in-Some.ensures
    ∙ c.parts.invariant

pub returns : goal.returns
returns c =
    sym (each-rests url_part c.parts.rest.now c.in_default.ensures)
    ∙ c.parts.invariant

use Rattle.std.proofs.Common.{◌∙◌, sym}
use Rattle.css_syntax.proofs.PlainParts.{value-goes}
use Rattle.css_syntax.proofs.parts.take_part.Goals as goal

pub returns : goal.returns
returns c =
    let value = c.read_component_value-value.result in
    value-goes c.args.stops c.args.bytes.now value.quality value.rest.now
    c.past_gap-2.result.now (sym c.ends_at.ensures ∙ c.if-ends_at.false)
    c.read_component_value-value.ensures c.past_gap-2.ensures

use Rattle.css_syntax.specs.Tokens.{past_url_parts}
use Rattle.css_syntax.proofs.Utf8Ends.{url_parts-well}
use Rattle.css_syntax.proofs.PartTexts.{left-within, left-boundary, left-slice}
use Rattle.css_syntax.proofs.texts.past_url_parts.Goals as goal

pub overflow_sub-text : goal.overflow_sub-text
overflow_sub-text c =
    left-within past_url_parts url_parts-well c.as_bytes.result.now c.args.text.now c.past_url_parts-rest.result.now
    c.as_bytes.ensures.value c.past_url_parts-rest.ensures

pub range_from-requires : goal.range_from-requires
range_from-requires c = λ some.
    left-boundary past_url_parts url_parts-well c.as_bytes.result.now c.args.text.now
    c.past_url_parts-rest.result.now c.utf8.text
    c.as_bytes.ensures.value c.past_url_parts-rest.ensures

pub returns : goal.returns
returns c =
    left-slice past_url_parts url_parts-well c.as_bytes.result.now c.args.text.now c.past_url_parts-rest.result.now
    c.range_from.result.now c.as_bytes.ensures.value c.past_url_parts-rest.ensures
    c.range_from.ensures.value

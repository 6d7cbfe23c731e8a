use Rattle.css_syntax.specs.Tokens.{past_string_parts}
use Rattle.css_syntax.proofs.Utf8Ends.{string_parts-well}
use Rattle.css_syntax.proofs.PartTexts.{left-within, left-boundary, left-slice}
use Rattle.css_syntax.proofs.texts.past_string_parts.Goals as goal

pub overflow_sub-text : goal.overflow_sub-text
overflow_sub-text c =
    left-within (past_string_parts c.args.quote) (string_parts-well c.args.quote c.requires)
    c.as_bytes.result.now c.args.text.now c.past_string_parts-rest.result.now
    c.as_bytes.ensures.value c.past_string_parts-rest.ensures

pub range_from-requires : goal.range_from-requires
range_from-requires c = λ some.
    left-boundary (past_string_parts c.args.quote) (string_parts-well c.args.quote c.requires)
    c.as_bytes.result.now c.args.text.now c.past_string_parts-rest.result.now c.utf8.text
    c.as_bytes.ensures.value c.past_string_parts-rest.ensures

pub returns : goal.returns
returns c =
    left-slice (past_string_parts c.args.quote) (string_parts-well c.args.quote c.requires)
    c.as_bytes.result.now c.args.text.now c.past_string_parts-rest.result.now
    c.range_from.result.now c.as_bytes.ensures.value c.past_string_parts-rest.ensures
    c.range_from.ensures.value

use Rattle.css_text.specs.Bytes.{past}
use Rattle.css_text.specs.Characters.{is_space}
use Rattle.css_syntax.proofs.Utf8Ends.{spaces-well}
use Rattle.css_syntax.proofs.PartTexts.{left-within, left-boundary, left-slice}
use Rattle.css_syntax.proofs.texts.past_spaces.Goals as goal

pub overflow_sub-text : goal.overflow_sub-text
overflow_sub-text c =
    left-within (past is_space) spaces-well c.as_bytes.result.now c.args.text.now c.past_spaces-rest.result.now
    c.as_bytes.ensures.value c.past_spaces-rest.ensures

pub range_from-requires : goal.range_from-requires
range_from-requires c = λ some.
    left-boundary (past is_space) spaces-well c.as_bytes.result.now c.args.text.now
    c.past_spaces-rest.result.now c.utf8.text
    c.as_bytes.ensures.value c.past_spaces-rest.ensures

pub returns : goal.returns
returns c =
    left-slice (past is_space) spaces-well c.as_bytes.result.now c.args.text.now c.past_spaces-rest.result.now
    c.range_from.result.now c.as_bytes.ensures.value c.past_spaces-rest.ensures
    c.range_from.ensures.value

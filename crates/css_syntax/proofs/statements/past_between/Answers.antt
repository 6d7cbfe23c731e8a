use Rattle.css_syntax.specs.Statements.{past_between}
use Rattle.css_syntax.proofs.ItemLemmas.{between-well}
use Rattle.css_syntax.proofs.PartTexts.{left-within, left-boundary, left-slice}
use Rattle.css_syntax.proofs.statements.past_between.Goals as goal

pub overflow_sub-text : goal.overflow_sub-text
overflow_sub-text c =
    left-within (past_between c.args.in_block) (between-well c.args.in_block)
    c.as_bytes.result.now c.args.text.now c.past_between_bytes-rest.result.now
    c.as_bytes.ensures.value c.past_between_bytes-rest.ensures

pub range_from-requires : goal.range_from-requires
range_from-requires c = λ some.
    left-boundary (past_between c.args.in_block) (between-well c.args.in_block)
    c.as_bytes.result.now c.args.text.now c.past_between_bytes-rest.result.now c.utf8.text
    c.as_bytes.ensures.value c.past_between_bytes-rest.ensures

pub returns : goal.returns
returns c =
    left-slice (past_between c.args.in_block) (between-well c.args.in_block)
    c.as_bytes.result.now c.args.text.now c.past_between_bytes-rest.result.now
    c.range_from.result.now c.as_bytes.ensures.value c.past_between_bytes-rest.ensures
    c.range_from.ensures.value

use Rattle.css_syntax.specs.DeclarationLists.{past_separators}
use Rattle.css_syntax.proofs.ItemLemmas.{separators-well}
use Rattle.css_syntax.proofs.PartTexts.{left-within, left-boundary, left-slice}
use Rattle.css_syntax.proofs.declarations.past_separators.Goals as goal

pub overflow_sub-text : goal.overflow_sub-text
overflow_sub-text c =
    left-within past_separators separators-well
    c.as_bytes.result.now c.args.text.now c.past_separator_bytes-rest.result.now
    c.as_bytes.ensures.value c.past_separator_bytes-rest.ensures

pub range_from-requires : goal.range_from-requires
range_from-requires c = λ some.
    left-boundary past_separators separators-well
    c.as_bytes.result.now c.args.text.now c.past_separator_bytes-rest.result.now c.utf8.text
    c.as_bytes.ensures.value c.past_separator_bytes-rest.ensures

pub returns : goal.returns
returns c =
    left-slice past_separators separators-well
    c.as_bytes.result.now c.args.text.now c.past_separator_bytes-rest.result.now
    c.range_from.result.now c.as_bytes.ensures.value c.past_separator_bytes-rest.ensures
    c.range_from.ensures.value

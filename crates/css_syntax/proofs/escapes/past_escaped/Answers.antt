use Rattle.std.proofs.Common.{◌∙◌, ap, sym, subst}
use Rattle.css_text.proofs.reading.EndsLemmas.{length-ends}
use Rattle.css_text.proofs.reading.WellLemmas.{EndsWell}
use Rattle.css_syntax.specs.Tokens.{past_escape}
use Rattle.css_syntax.proofs.Utf8Ends.{escape-well}
use Rattle.css_syntax.proofs.PartTexts.{boundary-after, from-drop}
use Rattle.css_syntax.proofs.escapes.past_escaped.Goals as goal

pub overflow_sub-text : goal.overflow_sub-text
overflow_sub-text c =
    let well : EndsWell c.args.text.now c.past_escape-rest.result.now =
    subst (EndsWell c.args.text.now)
    (ap past_escape (sym c.as_bytes.ensures.value) ∙ sym c.past_escape-rest.ensures)
    (escape-well c.args.text.now c.requires) in
    length-ends c.args.text.now c.past_escape-rest.result.now well.0

pub range_from-requires : goal.range_from-requires
range_from-requires c = λ some.
    boundary-after c.args.text.now c.past_escape-rest.result.now c.utf8.text
    (subst (EndsWell c.args.text.now)
    (ap past_escape (sym c.as_bytes.ensures.value) ∙ sym c.past_escape-rest.ensures)
    (escape-well c.args.text.now c.requires))

pub returns : goal.returns
returns c =
    let same = ap past_escape (sym c.as_bytes.ensures.value) ∙ sym c.past_escape-rest.ensures in
    let well : EndsWell c.args.text.now c.past_escape-rest.result.now =
    subst (EndsWell c.args.text.now) same (escape-well c.args.text.now c.requires) in
    c.range_from.ensures.value
    ∙ from-drop c.args.text.now c.past_escape-rest.result.now well.0 ∙ sym same

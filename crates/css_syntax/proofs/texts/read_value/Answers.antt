use Rattle.std.proofs.Common.{ap, sym, List, ℕ}
use Rattle.css_syntax.specs.declared.quality.Quality.{Quality}
use Rattle.css_syntax.specs.ComponentValues.{component_value, deepest}
use Rattle.css_syntax.proofs.Utf8Ends.{value-leaves_text}
use Rattle.css_syntax.proofs.PartTexts.{rest_by, left-within, left-boundary, pair-slice}
use Rattle.css_syntax.proofs.texts.read_value.Goals as goal

pub overflow_sub-text : goal.overflow_sub-text
overflow_sub-text c =
    left-within (rest_by (component_value deepest))
    (value-leaves_text deepest) c.as_bytes.result.now c.args.text.now
    c.read_component_value-skipped.result.rest.now c.as_bytes.ensures.value
    (sym (ap (λ (r : Quality × List ℕ). r.1) c.read_component_value-skipped.ensures))

pub range_from-requires : goal.range_from-requires
range_from-requires c = λ some.
    left-boundary (rest_by (component_value deepest))
    (value-leaves_text deepest) c.as_bytes.result.now c.args.text.now
    c.read_component_value-skipped.result.rest.now c.utf8.text c.as_bytes.ensures.value
    (sym (ap (λ (r : Quality × List ℕ). r.1) c.read_component_value-skipped.ensures))

pub returns : goal.returns
returns c =
    pair-slice (component_value deepest)
    (value-leaves_text deepest) c.as_bytes.result.now c.args.text.now
    c.read_component_value-skipped.result.rest.now
    c.range_from.result.now c.read_component_value-skipped.result.quality c.as_bytes.ensures.value
    c.read_component_value-skipped.ensures c.range_from.ensures.value

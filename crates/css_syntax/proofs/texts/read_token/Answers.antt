use Rattle.std.proofs.Common.{ap, sym, List, ℕ}
use Rattle.css_syntax.specs.declared.quality.Quality.{Quality}
use Rattle.css_syntax.specs.Tokens.{token}
use Rattle.css_syntax.proofs.Utf8Ends.{token-well}
use Rattle.css_syntax.proofs.PartTexts.{rest_by, left-within, left-boundary, pair-slice}
use Rattle.css_syntax.proofs.texts.read_token.Goals as goal

pub overflow_sub-text : goal.overflow_sub-text
overflow_sub-text c =
    left-within (rest_by token) token-well c.as_bytes.result.now c.args.text.now
    c.read_token-skipped.result.rest.now c.as_bytes.ensures.value
    (sym (ap (λ (r : Quality × List ℕ). r.1) c.read_token-skipped.ensures))

pub range_from-requires : goal.range_from-requires
range_from-requires c = λ some.
    left-boundary (rest_by token) token-well c.as_bytes.result.now c.args.text.now
    c.read_token-skipped.result.rest.now c.utf8.text c.as_bytes.ensures.value
    (sym (ap (λ (r : Quality × List ℕ). r.1) c.read_token-skipped.ensures))

pub returns : goal.returns
returns c =
    pair-slice token token-well c.as_bytes.result.now c.args.text.now
    c.read_token-skipped.result.rest.now
    c.range_from.result.now c.read_token-skipped.result.quality c.as_bytes.ensures.value
    c.read_token-skipped.ensures c.range_from.ensures.value

use Rattle.std.proofs.Common.{◌∙◌, sym, ap, List, ℕ}
use Rattle.css_syntax.specs.declared.quality.Quality.{Quality}
use Rattle.css_syntax.specs.declared.quality.Quality.TheVariants.{Whole}
use Rattle.css_syntax.proofs.RunSteps.{plain-token}
use Rattle.css_syntax.proofs.tokens.read_token.Goals as goal

pub returns-then-begins_plain_name : goal.returns-then-begins_plain_name
returns-then-begins_plain_name c =
    plain-token c.args.bytes.now
    (sym c.begins_plain_name.ensures ∙ c.if-begins_plain_name.true)
    ∙ ap (λ (rest : List ℕ). (Whole, rest)) (sym (c.whole.ensures.rest ∙ c.past_word.ensures))
    ∙ ap (λ (quality : Quality). (quality, c.whole.result.rest.now)) (sym c.whole.ensures.quality)

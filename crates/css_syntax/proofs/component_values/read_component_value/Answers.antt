use Rattle.std.proofs.Common.{◌∙◌, sym, ap, refl, List, ℕ}
use Rattle.css_syntax.specs.declared.quality.Quality.{Quality}
use Rattle.css_syntax.specs.declared.quality.Quality.TheVariants.{Whole}
use Rattle.css_syntax.specs.Tokens.{token}
use Rattle.css_syntax.specs.ComponentValues.{component_value, block_of}
use Rattle.css_syntax.proofs.OpenBlocks.{value-empty, value-open, value-token}
use Rattle.css_syntax.proofs.component_values.read_component_value.Goals as goal

pub returns-in-Some-opened_kind : goal.returns-in-Some-opened_kind
returns-in-Some-opened_kind c =
    let kind = c.in-Some-opened_kind.ensures.some in
    ap (component_value 64) c.in-Some.ensures
    ∙ value-open 63 c.in-Some.byte c.in-Some.rest.now kind.0
    ∙ ap (λ closer. block_of (component_value 63) closer c.in-Some.rest.now) (sym kind.2)
    ∙ c.read_block.ensures

pub returns-in-None : goal.returns-in-None
returns-in-None c =
    ap (component_value 64) c.in-None.ensures ∙ value-empty 64
    ∙ ap (λ (rest : List ℕ). (Whole, rest)) (sym c.in-None.ensures ∙ sym c.whole.ensures.rest)
    ∙ ap (λ (quality : Quality). (quality, c.whole.result.rest.now)) (sym c.whole.ensures.quality)

pub returns-in-None-opened_kind : goal.returns-in-None-opened_kind
returns-in-None-opened_kind c =
    ap (component_value 64) c.in-Some.ensures
    ∙ value-token 64 c.in-Some.byte c.in-Some.rest.now (c.in-None-opened_kind.ensures.none refl)
    ∙ ap token (sym c.in-Some.ensures) ∙ c.read_token.ensures

use Rattle.std.proofs.Common.{◌≡◌, ◌∙◌, ◌||◌, true, false, ap, sym}
use Rattle.css_text.proofs.reading.EachLemmas.{took}
use Rattle.css_syntax.specs.TokenLists.{next_token}
use Rattle.css_syntax.specs.TokenViews.{token_of}
use Rattle.css_syntax.proofs.TokenSteps.{next_token-takes}
use Rattle.css_values.specs.Refused.{components, has_unfit, of_token}
use Rattle.css_values.specs.RefusedViews.{sorts_of}
use Rattle.css_values.proofs.RefusedLemmas.{unfit-none, unfit-some}
use Rattle.css_values.proofs.refused.has_unfit.Goals as goal

pub tokens-smaller : goal.tokens-smaller
tokens-smaller c =
    took next_token next_token-takes c.tokens.rest.now c.in-Some.token.rest.now (token_of c.in-Some.token)
    c.in-Some.ensures

pub returns : goal.returns
returns c =
    sym (c.tokens.invariant ∙ unfit-none (sorts_of c.args.sorts) c.tokens.rest.now c.in_default.ensures)

pub returns-then-is_unfit : goal.returns-then-is_unfit
returns-then-is_unfit c =
    let sorts = sorts_of c.args.sorts in
    let token = token_of c.in-Some.token in
    let unfit : has_unfit sorts (of_token token) ≡ true = sym c.is_unfit.ensures ∙ c.if-is_unfit.true in
    sym (c.tokens.invariant
    ∙ unfit-some sorts c.tokens.rest.now c.in-Some.token.rest.now token c.in-Some.ensures
    ∙ ap (λ t. t || has_unfit sorts (components c.in-Some.token.rest.now)) unfit)

pub tokens-preserved : goal.tokens-preserved
tokens-preserved c =
    let sorts = sorts_of c.args.sorts in
    let token = token_of c.in-Some.token in
    let fit : has_unfit sorts (of_token token) ≡ false = sym c.is_unfit.ensures ∙ c.if-is_unfit.false in
    c.tokens.invariant
    ∙ unfit-some sorts c.tokens.rest.now c.in-Some.token.rest.now token c.in-Some.ensures
    ∙ ap (λ t. t || has_unfit sorts (components c.in-Some.token.rest.now)) fit

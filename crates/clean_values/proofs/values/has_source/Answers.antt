use Rattle.std.proofs.Common.{◌≡◌, ◌∙◌, ◌||◌, true, false, sym, ap, rules}
use Rattle.css_text.proofs.reading.EachLemmas.{took}
use Rattle.css_syntax.specs.TokenLists.{next_token, tokens}
use Rattle.css_syntax.specs.TokenViews.{token_of}
use Rattle.css_syntax.proofs.TokenSteps.{next_token-takes, tokens-some, tokens-none}
use Rattle.clean_values.specs.Values.{has_source, is_source}
use Rattle.clean_values.proofs.values.has_source.Goals as goal

pub tokens-smaller : goal.tokens-smaller
tokens-smaller c =
    took next_token next_token-takes c.tokens.rest.now c.in-Some.token.rest.now (token_of c.in-Some.token)
    c.in-Some.ensures

pub tokens-preserved : goal.tokens-preserved
tokens-preserved c =
    let token = token_of c.in-Some.token in
    let no : is_source token ≡ false = search rules in
    c.tokens.invariant
    ∙ ap has_source (tokens-some c.tokens.rest.now c.in-Some.token.rest.now token c.in-Some.ensures)
    ∙ ap (λ b. b || has_source (tokens c.in-Some.token.rest.now)) no

pub returns-then-is_source : goal.returns-then-is_source
returns-then-is_source c =
    let token = token_of c.in-Some.token in
    let yes : is_source token ≡ true = search rules in
    sym (c.tokens.invariant
    ∙ ap has_source (tokens-some c.tokens.rest.now c.in-Some.token.rest.now token c.in-Some.ensures)
    ∙ ap (λ b. b || has_source (tokens c.in-Some.token.rest.now)) yes)

pub returns : goal.returns
returns c =
    sym (c.tokens.invariant ∙ ap has_source (tokens-none c.tokens.rest.now c.in_default.ensures))

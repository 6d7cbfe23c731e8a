use Rattle.std.proofs.Common.{◌≡◌, ◌∙◌, ◌||◌, ◌&&◌, true, false, sym, ap, rules}
use Rattle.css_text.proofs.reading.EachLemmas.{took}
use Rattle.css_syntax.specs.TokenLists.{next_token, tokens}
use Rattle.css_syntax.specs.TokenViews.{token_of}
use Rattle.css_syntax.proofs.TokenSteps.{next_token-takes, tokens-some, tokens-none}
use Rattle.clean_values.specs.Limits.{reaches_down, holds_at_most, amount}
use Rattle.clean_values.proofs.limits.reaches_down.Goals as goal

pub tokens-smaller : goal.tokens-smaller
tokens-smaller c =
    took next_token next_token-takes c.tokens.rest.now c.in-Some.token.rest.now (token_of c.in-Some.token)
    c.in-Some.ensures

pub tokens-preserved : goal.tokens-preserved
tokens-preserved c =
    let token = token_of c.in-Some.token in
    let no : holds_at_most (amount token) c.args.it ≡ false = search rules in
    c.tokens.invariant
    ∙ ap (λ ts. reaches_down ts c.args.it) (tokens-some c.tokens.rest.now c.in-Some.token.rest.now token c.in-Some.ensures)
    ∙ ap (λ b. b || reaches_down (tokens c.in-Some.token.rest.now) c.args.it) no

pub returns-then-is_at_most : goal.returns-then-is_at_most
returns-then-is_at_most c =
    let token = token_of c.in-Some.token in
    let yes : holds_at_most (amount token) c.args.it ≡ true = search rules in
    sym (c.tokens.invariant
    ∙ ap (λ ts. reaches_down ts c.args.it) (tokens-some c.tokens.rest.now c.in-Some.token.rest.now token c.in-Some.ensures)
    ∙ ap (λ b. b || reaches_down (tokens c.in-Some.token.rest.now) c.args.it) yes)

pub returns : goal.returns
returns c =
    sym (c.tokens.invariant ∙ ap (λ ts. reaches_down ts c.args.it) (tokens-none c.tokens.rest.now c.in_default.ensures))

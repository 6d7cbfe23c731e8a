use Rattle.std.proofs.Common.{◌≡◌, ◌∙◌, true, false, if◌then◌else◌, sym, ap, rules}
use Rattle.css_text.proofs.reading.EachLemmas.{took}
use Rattle.css_syntax.specs.TokenLists.{next_token, tokens}
use Rattle.css_syntax.specs.TokenViews.{token_of}
use Rattle.css_syntax.proofs.TokenSteps.{next_token-takes, tokens-some, tokens-none}
use Rattle.css_clean.specs.Policies.{kind_reason, tokens_reason, token_allowed}
use Rattle.css_clean.specs.Views.{place_of}
use Rattle.css_clean.proofs.dropped.tokens_reason.Goals as goal

pub tokens-smaller : goal.tokens-smaller
tokens-smaller c =
    took next_token next_token-takes c.tokens.rest.now c.in-Some.token.rest.now (token_of c.in-Some.token)
    c.in-Some.ensures

pub tokens-preserved : goal.tokens-preserved
tokens-preserved c =
    let place = place_of c.args.place in
    let token = token_of c.in-Some.token in
    let allowed : token_allowed place false token ≡ true = search rules in
    c.tokens.invariant
    ∙ ap (tokens_reason place)
    (tokens-some c.tokens.rest.now c.in-Some.token.rest.now token c.in-Some.ensures)
    ∙ ap (λ b. if b then tokens_reason place (tokens c.in-Some.token.rest.now) else kind_reason token.kind)
    allowed

pub returns-then-not-is_token_allowed : goal.returns-then-not-is_token_allowed
returns-then-not-is_token_allowed c =
    let place = place_of c.args.place in
    let token = token_of c.in-Some.token in
    let refused : token_allowed place false token ≡ false = search rules in
    sym (c.tokens.invariant
    ∙ ap (tokens_reason place)
    (tokens-some c.tokens.rest.now c.in-Some.token.rest.now token c.in-Some.ensures)
    ∙ ap (λ b. if b then tokens_reason place (tokens c.in-Some.token.rest.now) else kind_reason token.kind)
    refused
    ∙ search rules)

pub returns : goal.returns
returns c =
    sym (c.tokens.invariant
    ∙ ap (tokens_reason (place_of c.args.place)) (tokens-none c.tokens.rest.now c.in_default.ensures))

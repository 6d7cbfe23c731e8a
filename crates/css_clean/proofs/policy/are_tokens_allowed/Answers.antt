use Rattle.std.proofs.Common.{◌≡◌, ◌∙◌, ◌&&◌, true, false, sym, ap, rules}
use Rattle.css_text.proofs.reading.EachLemmas.{took}
use Rattle.css_syntax.specs.TokenLists.{next_token, tokens}
use Rattle.css_syntax.specs.TokenViews.{token_of}
use Rattle.css_syntax.proofs.TokenSteps.{next_token-takes, tokens-some, tokens-none}
use Rattle.css_clean.specs.Policies.{all_allowed, token_allowed, is_colon, may_end}
use Rattle.css_clean.specs.Views.{place_of}
use Rattle.css_clean.proofs.policy.are_tokens_allowed.Goals as goal

pub tokens-smaller : goal.tokens-smaller
tokens-smaller c =
    took next_token next_token-takes c.tokens.rest.now c.in-Some.token.rest.now (token_of c.in-Some.token)
    c.in-Some.ensures

pub tokens-preserved : goal.tokens-preserved
tokens-preserved c =
    let place = place_of c.args.place in
    let token = token_of c.in-Some.token in
    let after : c.is_colon-after_colon.result ≡ is_colon token = search rules in
    let allowed : token_allowed place c.tokens.after_colon token ≡ true = search rules in
    c.tokens.invariant
    ∙ ap (all_allowed place c.tokens.after_colon)
    (tokens-some c.tokens.rest.now c.in-Some.token.rest.now token c.in-Some.ensures)
    ∙ ap (λ b. b && all_allowed place (is_colon token) (tokens c.in-Some.token.rest.now)) allowed
    ∙ ap (λ b. all_allowed place b (tokens c.in-Some.token.rest.now)) (sym after)

pub returns-then-not-is_token_allowed : goal.returns-then-not-is_token_allowed
returns-then-not-is_token_allowed c =
    let place = place_of c.args.place in
    let token = token_of c.in-Some.token in
    let refused : token_allowed place c.tokens.after_colon token ≡ false = search rules in
    sym (c.tokens.invariant
    ∙ ap (all_allowed place c.tokens.after_colon)
    (tokens-some c.tokens.rest.now c.in-Some.token.rest.now token c.in-Some.ensures)
    ∙ ap (λ b. b && all_allowed place (is_colon token) (tokens c.in-Some.token.rest.now)) refused)

pub returns : goal.returns
returns c =
    let place = place_of c.args.place in
    let ends : c.may_end.result ≡ may_end place c.tokens.after_colon = search rules in
    ends ∙ sym (c.tokens.invariant
    ∙ ap (all_allowed place c.tokens.after_colon) (tokens-none c.tokens.rest.now c.in_default.ensures))

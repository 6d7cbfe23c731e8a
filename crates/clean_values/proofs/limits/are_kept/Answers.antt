use Rattle.std.proofs.Common.{◌≡◌, ◌∙◌, ◌&&◌, true, false, sym, ap, rules}
use Rattle.css_text.proofs.reading.EachLemmas.{took}
use Rattle.css_syntax.specs.TokenLists.{next_token, tokens}
use Rattle.css_syntax.specs.TokenViews.{token_of}
use Rattle.css_syntax.proofs.TokenSteps.{next_token-takes, tokens-some, tokens-none}
use Rattle.clean_values.specs.Limits.{all_keep, keeps_by}
use Rattle.clean_values.proofs.limits.are_kept.Goals as goal

pub tokens-smaller : goal.tokens-smaller
tokens-smaller c =
    took next_token next_token-takes c.tokens.rest.now c.in-Some.token.rest.now (token_of c.in-Some.token)
    c.in-Some.ensures

pub tokens-preserved : goal.tokens-preserved
tokens-preserved c =
    let limit = c.args.limit.now in
    let token = token_of c.in-Some.token in
    let kept : keeps_by limit token.kind token ≡ true = search rules in
    c.tokens.invariant
    ∙ ap (all_keep limit) (tokens-some c.tokens.rest.now c.in-Some.token.rest.now token c.in-Some.ensures)
    ∙ ap (λ b. b && all_keep limit (tokens c.in-Some.token.rest.now)) kept

pub returns-then-not-keeps_token : goal.returns-then-not-keeps_token
returns-then-not-keeps_token c =
    let limit = c.args.limit.now in
    let token = token_of c.in-Some.token in
    let refused : keeps_by limit token.kind token ≡ false = search rules in
    sym (c.tokens.invariant
    ∙ ap (all_keep limit) (tokens-some c.tokens.rest.now c.in-Some.token.rest.now token c.in-Some.ensures)
    ∙ ap (λ b. b && all_keep limit (tokens c.in-Some.token.rest.now)) refused)

pub returns : goal.returns
returns c =
    sym (c.tokens.invariant
    ∙ ap (all_keep c.args.limit.now) (tokens-none c.tokens.rest.now c.in_default.ensures))

use Rattle.std.proofs.Common.{◌≡◌, ◌∙◌, ◌&&◌, true, false, sym, ap, rules}
use Rattle.css_text.proofs.reading.EachLemmas.{took}
use Rattle.css_syntax.specs.TokenLists.{next_token, tokens}
use Rattle.css_syntax.specs.TokenViews.{token_of}
use Rattle.css_syntax.proofs.TokenSteps.{next_token-takes, tokens-some, tokens-none}
use Rattle.clean_values.specs.Values.{inside_of}
use Rattle.clean_values.specs.Selectors.{is_named_by, are_named, is_stop}
use Rattle.clean_values.proofs.selectors.are_named.Goals as goal

pub tokens-smaller : goal.tokens-smaller
tokens-smaller c =
    took next_token next_token-takes c.tokens.rest.now c.in-Some.token.rest.now (token_of c.in-Some.token)
    c.in-Some.ensures

pub tokens-preserved : goal.tokens-preserved
tokens-preserved c =
    let prefix = c.args.prefix.now in
    let token = token_of c.in-Some.token in
    let rest = tokens c.in-Some.token.rest.now in
    let after : c.is_stop-stop.result ≡ is_stop token = search rules in
    let fine : is_named_by prefix c.tokens.stop token.kind (inside_of token) ≡ true = search rules in
    c.tokens.invariant
    ∙ ap (are_named prefix c.tokens.stop)
    (tokens-some c.tokens.rest.now c.in-Some.token.rest.now token c.in-Some.ensures)
    ∙ ap (λ b. b && are_named prefix (is_stop token) rest) fine
    ∙ ap (λ b. are_named prefix b rest) (sym after)

pub returns-then-not-is_named : goal.returns-then-not-is_named
returns-then-not-is_named c =
    let prefix = c.args.prefix.now in
    let token = token_of c.in-Some.token in
    let bare : is_named_by prefix c.tokens.stop token.kind (inside_of token) ≡ false = search rules in
    sym (c.tokens.invariant
    ∙ ap (are_named prefix c.tokens.stop)
    (tokens-some c.tokens.rest.now c.in-Some.token.rest.now token c.in-Some.ensures)
    ∙ ap (λ b. b && are_named prefix (is_stop token) (tokens c.in-Some.token.rest.now)) bare)

pub returns : goal.returns
returns c =
    sym (c.tokens.invariant
    ∙ ap (are_named c.args.prefix.now c.tokens.stop) (tokens-none c.tokens.rest.now c.in_default.ensures))

use Rattle.std.proofs.Common.{◌≡◌, ◌∙◌, ◌++◌, sym, ap, rules, string_bytes}
use Rattle.std.specs.List.{flat_map}
use Rattle.std.proofs.lemmas.List.{append_assoc, append-nil}
use Rattle.css_text.proofs.reading.EachLemmas.{took}
use Rattle.css_syntax.specs.TokenLists.{next_token, tokens}
use Rattle.css_syntax.specs.TokenViews.{token_of}
use Rattle.css_syntax.proofs.TokenSteps.{next_token-takes, tokens-some, tokens-none}
use Rattle.clean_values.specs.Plain.{plain_token}
use Rattle.clean_values.proofs.plain.plain_value.Goals as goal

pub tokens-smaller : goal.tokens-smaller
tokens-smaller c =
    took next_token next_token-takes c.tokens.rest.now c.in-Some.token.rest.now (token_of c.in-Some.token)
    c.in-Some.ensures

pub tokens-preserved : goal.tokens-preserved
tokens-preserved c =
    let token = token_of c.in-Some.token in
    let front = string_bytes c.tokens.out in
    let more = flat_map plain_token (tokens c.in-Some.token.rest.now) in
    let pushed : string_bytes c.push_plain.new.out ≡ front ++ plain_token token = search rules in
    c.tokens.invariant
    ∙ ap (λ all. front ++ flat_map plain_token all)
    (tokens-some c.tokens.rest.now c.in-Some.token.rest.now token c.in-Some.ensures)
    ∙ sym (append_assoc front (plain_token token) more)
    ∙ ap (λ t. t ++ more) (sym pushed)

pub returns : goal.returns
returns c =
    let front = string_bytes c.tokens.out in
    sym (c.tokens.invariant
    ∙ ap (λ all. front ++ flat_map plain_token all)
    (tokens-none c.tokens.rest.now c.in_default.ensures)
    ∙ append-nil front)

use Rattle.std.proofs.Common.{◌≡◌, ◌∙◌, ◌++◌, sym, ap, rules, string_bytes}
use Rattle.std.proofs.lemmas.List.{append-nil}
use Rattle.css_text.proofs.reading.EachLemmas.{took}
use Rattle.css_syntax.specs.TokenLists.{next_token, tokens}
use Rattle.css_syntax.specs.TokenViews.{token_of}
use Rattle.css_syntax.proofs.TokenSteps.{next_token-takes, tokens-some, tokens-none}
use Rattle.clean_values.specs.Values.{inside_of}
use Rattle.clean_values.specs.Urls.{urls_text, url_by, token_urls, strings_after}
use Rattle.clean_values.proofs.ValueLemmas.{urls-more}
use Rattle.clean_values.proofs.urls.urls.Goals as goal

pub tokens-smaller : goal.tokens-smaller
tokens-smaller c =
    took next_token next_token-takes c.tokens.rest.now c.in-Some.token.rest.now (token_of c.in-Some.token)
    c.in-Some.ensures

pub tokens-preserved : goal.tokens-preserved
tokens-preserved c =
    let token = token_of c.in-Some.token in
    let front = string_bytes c.tokens.out in
    let one = url_by c.tokens.strings token.kind (inside_of token) in
    let rest = tokens c.in-Some.token.rest.now in
    let after : c.strings_after-strings.result ≡ strings_after c.tokens.strings token = search rules in
    let pushed : string_bytes c.push_url.new.out ≡ front ++ urls_text one = search rules in
    c.tokens.invariant
    ∙ ap (λ all. front ++ urls_text (token_urls c.tokens.strings all))
    (tokens-some c.tokens.rest.now c.in-Some.token.rest.now token c.in-Some.ensures)
    ∙ urls-more front (string_bytes c.push_url.new.out) one
    (token_urls (strings_after c.tokens.strings token) rest) pushed
    ∙ ap (λ b. string_bytes c.push_url.new.out ++ urls_text (token_urls b rest)) (sym after)

pub returns : goal.returns
returns c =
    let front = string_bytes c.tokens.out in
    sym (c.tokens.invariant
    ∙ ap (λ all. front ++ urls_text (token_urls c.tokens.strings all))
    (tokens-none c.tokens.rest.now c.in_default.ensures)
    ∙ append-nil front)

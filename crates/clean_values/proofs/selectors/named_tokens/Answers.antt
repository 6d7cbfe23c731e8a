use Rattle.std.proofs.Common.{◌≡◌, ◌∙◌, ◌++◌, sym, ap, rules, string_bytes}
use Rattle.std.specs.Prelude.{Some, None}
use Rattle.std.specs.Option.{option_map}
use Rattle.std.proofs.lemmas.List.{append-nil}
use Rattle.css_text.proofs.reading.EachLemmas.{took}
use Rattle.css_syntax.specs.TokenLists.{next_token, tokens}
use Rattle.css_syntax.specs.TokenViews.{token_of, text_of}
use Rattle.css_syntax.proofs.TokenSteps.{next_token-takes, tokens-some, tokens-none}
use Rattle.clean_values.specs.Values.{inside_of, then_written, piece_text}
use Rattle.clean_values.specs.Selectors.{named_by, named_tokens, is_stop}
use Rattle.clean_values.specs.Views.{piece_of}
use Rattle.clean_values.proofs.ValueLemmas.{written-more}
use Rattle.clean_values.proofs.selectors.named_tokens.Goals as goal

pub tokens-smaller : goal.tokens-smaller
tokens-smaller c =
    took next_token next_token-takes c.tokens.rest.now c.in-Some.token.rest.now (token_of c.in-Some.token)
    c.in-Some.ensures

pub tokens-preserved : goal.tokens-preserved
tokens-preserved c =
    let prefix = c.args.prefix.now in
    let token = token_of c.in-Some.token in
    let front = string_bytes c.tokens.out in
    let piece = piece_of c.in-Some-named.piece in
    let more = named_tokens prefix (is_stop token) (tokens c.in-Some.token.rest.now) in
    let after : c.is_stop-stop.result ≡ is_stop token = search rules in
    let made : named_by prefix c.tokens.stop token.kind (inside_of token) (text_of token) ≡ Some piece = search rules in
    let pushed : string_bytes c.push_piece.new.out ≡ front ++ piece_text piece = search rules in
    c.tokens.invariant
    ∙ ap (λ all. option_map (λ text. front ++ text) (named_tokens prefix c.tokens.stop all))
    (tokens-some c.tokens.rest.now c.in-Some.token.rest.now token c.in-Some.ensures)
    ∙ ap (λ one. option_map (λ text. front ++ text) (then_written one more)) made
    ∙ written-more front piece more
    ∙ ap (λ written. option_map (λ text. written ++ text) more) (sym pushed)
    ∙ ap (λ b. option_map (λ text. string_bytes c.push_piece.new.out ++ text)
    (named_tokens prefix b (tokens c.in-Some.token.rest.now))) (sym after)

pub returns-in_default-named : goal.returns-in_default-named
returns-in_default-named c =
    let prefix = c.args.prefix.now in
    let token = token_of c.in-Some.token in
    let front = string_bytes c.tokens.out in
    let more = named_tokens prefix (is_stop token) (tokens c.in-Some.token.rest.now) in
    let none : named_by prefix c.tokens.stop token.kind (inside_of token) (text_of token) ≡ None = search rules in
    sym (c.tokens.invariant
    ∙ ap (λ all. option_map (λ text. front ++ text) (named_tokens prefix c.tokens.stop all))
    (tokens-some c.tokens.rest.now c.in-Some.token.rest.now token c.in-Some.ensures)
    ∙ ap (λ one. option_map (λ text. front ++ text) (then_written one more)) none)

pub returns : goal.returns
returns c =
    let prefix = c.args.prefix.now in
    let front = string_bytes c.tokens.out in
    sym (c.tokens.invariant
    ∙ ap (λ all. option_map (λ text. front ++ text) (named_tokens prefix c.tokens.stop all))
    (tokens-none c.tokens.rest.now c.in_default.ensures)
    ∙ ap Some (append-nil front))

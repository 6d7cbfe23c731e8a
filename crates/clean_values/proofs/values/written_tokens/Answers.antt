use Rattle.std.proofs.Common.{◌≡◌, ◌∙◌, ◌++◌, sym, ap, rules, string_bytes}
use Rattle.std.specs.Prelude.{Some, None}
use Rattle.std.specs.Option.{option_map}
use Rattle.std.proofs.lemmas.List.{append-nil}
use Rattle.css_text.proofs.reading.EachLemmas.{took}
use Rattle.css_syntax.specs.TokenLists.{next_token, tokens}
use Rattle.css_syntax.specs.TokenViews.{token_of}
use Rattle.css_syntax.proofs.TokenSteps.{next_token-takes, tokens-some, tokens-none}
use Rattle.clean_values.specs.Values.{written_token, written_tokens, then_written, piece_text}
use Rattle.clean_values.specs.Views.{changes_of, piece_of}
use Rattle.clean_values.proofs.ValueLemmas.{written-more}
use Rattle.clean_values.proofs.values.written_tokens.Goals as goal

pub tokens-smaller : goal.tokens-smaller
tokens-smaller c =
    took next_token next_token-takes c.tokens.rest.now c.in-Some.token.rest.now (token_of c.in-Some.token)
    c.in-Some.ensures

pub tokens-preserved : goal.tokens-preserved
tokens-preserved c =
    let changes = changes_of c.args.changes in
    let uses = c.args.uses in
    let token = token_of c.in-Some.token in
    let front = string_bytes c.tokens.out in
    let piece = piece_of c.in-Some-2.piece in
    let more = written_tokens changes uses.sources uses.named (tokens c.in-Some.token.rest.now) in
    let made : written_token changes uses.sources uses.named token ≡ Some piece = search rules in
    let pushed : string_bytes c.push_piece.new.out ≡ front ++ piece_text piece = search rules in
    c.tokens.invariant
    ∙ ap (λ all. option_map (λ text. front ++ text) (written_tokens changes uses.sources uses.named all))
    (tokens-some c.tokens.rest.now c.in-Some.token.rest.now token c.in-Some.ensures)
    ∙ ap (λ one. option_map (λ text. front ++ text) (then_written one more)) made
    ∙ written-more front piece more
    ∙ ap (λ written. option_map (λ text. written ++ text) more) (sym pushed)

pub returns-in_default-2 : goal.returns-in_default-2
returns-in_default-2 c =
    let changes = changes_of c.args.changes in
    let uses = c.args.uses in
    let token = token_of c.in-Some.token in
    let front = string_bytes c.tokens.out in
    let more = written_tokens changes uses.sources uses.named (tokens c.in-Some.token.rest.now) in
    let none : written_token changes uses.sources uses.named token ≡ None = search rules in
    sym (c.tokens.invariant
    ∙ ap (λ all. option_map (λ text. front ++ text) (written_tokens changes uses.sources uses.named all))
    (tokens-some c.tokens.rest.now c.in-Some.token.rest.now token c.in-Some.ensures)
    ∙ ap (λ one. option_map (λ text. front ++ text) (then_written one more)) none)

pub returns : goal.returns
returns c =
    let changes = changes_of c.args.changes in
    let uses = c.args.uses in
    let front = string_bytes c.tokens.out in
    sym (c.tokens.invariant
    ∙ ap (λ all. option_map (λ text. front ++ text) (written_tokens changes uses.sources uses.named all))
    (tokens-none c.tokens.rest.now c.in_default.ensures)
    ∙ ap Some (append-nil front))

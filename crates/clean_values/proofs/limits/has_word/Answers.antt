use Rattle.std.proofs.Common.{◌≡◌, ◌∙◌, ◌||◌, ◌&&◌, true, false, sym, ap, rules}
use Rattle.css_text.proofs.reading.EachLemmas.{took}
use Rattle.css_syntax.specs.TokenLists.{next_token, tokens}
use Rattle.css_syntax.specs.TokenViews.{token_of}
use Rattle.css_syntax.proofs.TokenSteps.{next_token-takes, tokens-some, tokens-none}
use Rattle.css_syntax.specs.Tokens.{spells}
use Rattle.clean_values.specs.Values.{inside_of}
use Rattle.clean_values.specs.Limits.{has_word, is_word}
use Rattle.clean_values.proofs.limits.has_word.Goals as goal

pub tokens-smaller : goal.tokens-smaller
tokens-smaller c =
    took next_token next_token-takes c.tokens.rest.now c.in-Some.token.rest.now (token_of c.in-Some.token)
    c.in-Some.ensures

pub tokens-preserved : goal.tokens-preserved
tokens-preserved c =
    let token = token_of c.in-Some.token in
    let no : (is_word token.kind && spells (inside_of token) c.args.word.now) ≡ false = search rules in
    c.tokens.invariant
    ∙ ap (λ ts. has_word ts c.args.word.now) (tokens-some c.tokens.rest.now c.in-Some.token.rest.now token c.in-Some.ensures)
    ∙ ap (λ b. b || has_word (tokens c.in-Some.token.rest.now) c.args.word.now) no

pub returns-then-is_word : goal.returns-then-is_word
returns-then-is_word c =
    let token = token_of c.in-Some.token in
    let yes : (is_word token.kind && spells (inside_of token) c.args.word.now) ≡ true = search rules in
    sym (c.tokens.invariant
    ∙ ap (λ ts. has_word ts c.args.word.now) (tokens-some c.tokens.rest.now c.in-Some.token.rest.now token c.in-Some.ensures)
    ∙ ap (λ b. b || has_word (tokens c.in-Some.token.rest.now) c.args.word.now) yes)

pub returns : goal.returns
returns c =
    sym (c.tokens.invariant ∙ ap (λ ts. has_word ts c.args.word.now) (tokens-none c.tokens.rest.now c.in_default.ensures))

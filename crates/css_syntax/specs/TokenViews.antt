-- What contracts see of tokens, and what an iterator over them is still to yield.
use Rattle.std.specs.Prelude.{◌≡◌, ℕ, ◌≤◌, List, [], ◌∷◌, ◌++◌, length, map, Option, None, Some}
use Rattle.std.specs.Iterator.{YieldsFirstBy}
use Rattle.std.specs.Iterator.Runs.{EveryRun, ItemsMapTo}
use Rattle.css_text.specs.Reading.{before}
use Rattle.css_syntax.specs.declared.tokenizer.Token.{Token}
use Rattle.css_syntax.specs.declared.tokenizer.Tokenizer.{Tokenizer}
use Rattle.css_syntax.specs.TokenLists.{PlacedToken, next_token, tokens}

abbrev pub token_of : Token → PlacedToken
token_of t = record {
  kind = t.kind;
  from = t.from.now;
  inside = t.inside.now;
  inside_end = t.inside_end.now;
  rest = t.rest.now;
}

-- ---- the iterator

-- what is left to read
abbrev pub tokens_left : Tokenizer → List ℕ
tokens_left t = t.rest.now

-- the tokens that are still to come
abbrev pub tokens_to_come : Tokenizer → List PlacedToken
tokens_to_come t = tokens (tokens_left t)

-- A call read the token at the start of a text and left `left`, or there was none, and then the same
-- is left.
abbrev pub GivesNextToken : List ℕ → Option Token → (left : List ℕ) → Type 0
GivesNextToken text None left = (next_token text ≡ None) × (left ≡ text)
GivesNextToken text (Some t) left = next_token text ≡ Some (token_of t, left)

-- A call of `next` on the iterator `before` returned `result` and left the iterator `after`.
pub record GivesToken (before : Tokenizer) (result : Option Token) (after : Tokenizer) : Type 0 where
  -- the first of the tokens that were to come, and the others still are; or none was to come, and
  -- none is
  pub items : YieldsFirstBy token_of tokens_to_come before result after
  -- it was read from the start of the rest
  pub reads : GivesNextToken (tokens_left before) result (tokens_left after)

-- What calls of `next` return, from any iterator on, is a prefix of the tokens that are still to
-- come there, and all of them if the calls continued to `None`.
abbrev pub GivesTokensInTurn : Type 0
GivesTokensInTurn =
    EveryRun GivesToken (λ calls. ItemsMapTo calls token_of (tokens_to_come calls.from))

-- an iterator at the start of a text
pub record BeginsTokens (text : List ℕ) (t : Tokenizer) : Type 0 where
  pub left : tokens_left t ≡ text
  -- the tokens of the text are still to come: at most as many as it has bytes
  pub to_come : tokens_to_come t ≡ tokens text
  pub few : length (tokens text) ≤ length text
  pub in_turn : GivesTokensInTurn

-- ---- the law

-- the text of a token
abbrev pub text_of : PlacedToken → List ℕ
text_of t = before t.from t.rest

-- The texts of tokens are a text, one after another, each at its place.
pub data AreTokensOf : List ℕ → List PlacedToken → Type 0 where
  no_token : AreTokensOf [] []
  token_then : (t : PlacedToken) (more : List PlacedToken) → text_of t ++ t.rest ≡ t.from
      → AreTokensOf t.rest more → AreTokensOf t.from (t ∷ more)

-- The tokens of a document are its text, and an edit leaves those that are not in it as they are. Tokens say what those of HTML say.
use Rattle.std.specs.Prelude.{◌≡◌, ℕ, zero, suc, List, [], ◌∷◌, ◌++◌, length, Some}
use Rattle.css_html.specs.Locality.{Said, said}
use Rattle.css_html.specs.Marks.{less_than_sign}
use Rattle.css_html.specs.Tokens.{PlacedToken, and_more, texts_of}
use Rattle.css_xml.specs.Tokens.{next_token}

-- the tokens of a text, at most `n`
abbrev pub tokens_within : ℕ → List ℕ → List PlacedToken
tokens_within zero text = []
tokens_within (suc n) text = and_more (next_token text) (λ t rest. tokens_within n rest)

-- The tokens of a text. Each takes a byte or more.
unfoldable pub tokens : List ℕ → List PlacedToken
tokens text = tokens_within (length text) text

-- the tokens of a document are the document, one after another
abbrev pub TokensAreTheDocument : Type 0
TokensAreTheDocument = (text : List ℕ) → texts_of (tokens text) ≡ text

-- From a text on, these tokens are read, and then this is left.
pub data Reads : (text : List ℕ) → (found : List Said) → (rest : List ℕ) → Type 0 where
  reads_none : (text : List ℕ) → Reads text [] text
  reads_one : (text rest : List ℕ) (found : List Said) (t : PlacedToken)
      → next_token text ≡ Some (t, t.rest) → Reads t.rest found rest → Reads text (said t ∷ found) rest

-- What is read of a document before markup is read of each text that has other markup from there on.
abbrev pub MarkupIsLocal : Type 0
MarkupIsLocal = (front old new : List ℕ) (found : List Said)
    → Reads (front ++ (less_than_sign ∷ old)) found (less_than_sign ∷ old)
    → Reads (front ++ (less_than_sign ∷ new)) found (less_than_sign ∷ new)

-- Markup put in place of other markup changes no token before it and none after it: a tag that is another one, an
-- element that is put in or taken out, or that has another text. After it the same is read as before, if it is read as
-- some tokens up to there.
abbrev pub EditsAreLocal : Type 0
EditsAreLocal = (front old new after rest : List ℕ) (found changed more : List Said)
    → Reads (front ++ (less_than_sign ∷ old)) found (less_than_sign ∷ old)
    → Reads (less_than_sign ∷ new) changed after → Reads after more rest
    → Reads (front ++ (less_than_sign ∷ new)) (found ++ (changed ++ more)) rest

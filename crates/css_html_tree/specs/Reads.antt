-- The start tags that are read of a page.
use Rattle.std.specs.Prelude.{◌≡◌, ℕ, Bool, true, false, if◌then◌else◌, List, [], ◌∷◌, ◌++◌, Some}
use Rattle.css_html.specs.declared.modes.Mode.{Mode}
use Rattle.css_html.specs.declared.tokenizer.TokenKind.{TokenKind}
use Rattle.css_html.specs.declared.tokenizer.TokenKind.TheVariants.{Text, StartTag, EndTag, Comment, Doctype, Cdata, Nothing, Cut}
use Rattle.css_html.specs.Tokens.{PlacedToken, next_token}

-- the kind is that of start tags
abbrev pub is_start : TokenKind → Bool
is_start StartTag = true
is_start Text = false
is_start EndTag = false
is_start Comment = false
is_start Doctype = false
is_start Cdata = false
is_start Nothing = false
is_start Cut = false

-- the tokens, and one more if it is a start tag
abbrev pub with_start : List PlacedToken → PlacedToken → List PlacedToken
with_start tags t = if is_start t.kind then tags ++ t ∷ [] else tags

-- Of a page some tokens were read, one after another, each in some mode, from the page's beginning on. These
-- of them are start tags, and this is left of the page.
pub data Reads (page : List ℕ) : (tags : List PlacedToken) → (rest : List ℕ) → Type 0 where
  reads_none : Reads page [] page
  reads_one : (mode : Mode) (tags : List PlacedToken) (text : List ℕ) (t : PlacedToken)
      → Reads page tags text → next_token mode text ≡ Some (t, t.rest)
      → Reads page (with_start tags t) t.rest

-- These are the start tags of what was read of a page, which may be all of it.
abbrev pub AreStartTags : (page : List ℕ) → List PlacedToken → Type 0
AreStartTags page tags = (rest : List ℕ) × Reads page tags rest

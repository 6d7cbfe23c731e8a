-- The encoding of a page, also where a `meta` after its front names it.
use Rattle.std.specs.Prelude.{◌≡◌, ℕ, List, [], map, slice_get, Some, ◌⊎◌}
use Rattle.css_html.specs.Tokens.{text_of}
use Rattle.css_html.specs.Views.{token_of}
use Rattle.css_html.specs.declared.tokenizer.Token.{Token}
use Rattle.css_html_tree.specs.Reads.{AreStartTags}
use Rattle.html_encodings.specs.Page.{found_of}
use Rattle.html_encodings.specs.declared.page.Found.{Found}
use Rattle.html_encodings.specs.declared.page.Source.TheVariants.{Default}

-- one of these tags names the encoding
abbrev pub IsNamedBy : List Token → Found → Type 0
IsNamedBy tags found =
    (k : ℕ) × (t : Token) × (slice_get tags k ≡ Some t) × (found ≡ found_of [] (text_of (token_of t)))

-- a start tag that is read of the page names the encoding
abbrev pub IsNamedLate : (page : List ℕ) → Found → Type 0
IsNamedLate page found = (tags : List Token) × AreStartTags page (map token_of tags) × IsNamedBy tags found

-- The encoding of a page: what a mark, its label or its front says, or where these say nothing, what a tag of it does.
abbrev pub IsFound : (label page : List ℕ) → Found → Type 0
IsFound label page found =
    (found ≡ found_of label page)
    ⊎ (((found_of label page).source ≡ Default) × IsNamedLate page found)

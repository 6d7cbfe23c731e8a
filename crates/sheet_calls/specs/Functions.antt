-- The functions of `@supports` that are known by their words (CSS Conditional Rules 5, section 2).
use Rattle.std.specs.Prelude.{ℕ, Bool, ◌&&◌, if◌then◌else◌, List, [], ◌∷◌, codes}
use Rattle.std.specs.List.{list_any}
use Rattle.css_text.specs.AsciiBytes.{at_sign}
use Rattle.css_text.specs.Bytes.{past_one, starts}
use Rattle.css_text.specs.Reading.{before}
use Rattle.css_syntax.specs.Tokens.{past_gap, past_word, spells}
use Rattle.css_conditions.specs.Words.{is_end}

-- the technologies and the formats of fonts that Chromium knows
abbrev pub font_technologies : List (List ℕ)
font_technologies =
    codes "color-cbdt" ∷ codes "color-colrv0" ∷ codes "color-colrv1" ∷ codes "color-sbix" ∷ codes "features-aat"
    ∷ codes "features-opentype" ∷ codes "palettes" ∷ codes "variations" ∷ []

abbrev pub font_formats : List (List ℕ)
font_formats =
    codes "collection" ∷ codes "opentype" ∷ codes "truetype" ∷ codes "woff" ∷ codes "woff2" ∷ []

-- the at-rules that it knows: of sheets, of values of font features, and of the margins of pages
abbrev pub at_rules : List (List ℕ)
at_rules =
    codes "-webkit-keyframes" ∷ codes "container" ∷ codes "counter-style" ∷ codes "font-face" ∷ codes "font-feature-values"
    ∷ codes "font-palette-values" ∷ codes "function" ∷ codes "import" ∷ codes "keyframes" ∷ codes "layer" ∷ codes "media"
    ∷ codes "namespace" ∷ codes "page" ∷ codes "position-try" ∷ codes "property" ∷ codes "scope" ∷ codes "starting-style"
    ∷ codes "supports" ∷ codes "view-transition"
    ∷ codes "annotation" ∷ codes "character-variant" ∷ codes "ornaments" ∷ codes "styleset" ∷ codes "stylistic" ∷ codes "swash"
    ∷ codes "bottom-center" ∷ codes "bottom-left" ∷ codes "bottom-left-corner" ∷ codes "bottom-right"
    ∷ codes "bottom-right-corner" ∷ codes "left-bottom" ∷ codes "left-middle" ∷ codes "left-top" ∷ codes "right-bottom"
    ∷ codes "right-middle" ∷ codes "right-top" ∷ codes "top-center" ∷ codes "top-left" ∷ codes "top-left-corner"
    ∷ codes "top-right" ∷ codes "top-right-corner" ∷ []

-- the text is one of these words, and blanks after it
abbrev pub is_word_of : List (List ℕ) → List ℕ → Bool
is_word_of words text =
    list_any (λ word. spells word (before text (past_word text))) words && is_end (past_gap (past_word text))

-- the text is `@` and the name of an at-rule, and blanks after it
abbrev pub is_at_rule : List ℕ → Bool
is_at_rule text = starts at_sign text && is_word_of at_rules (past_one text)

-- `font-tech` and `font-format` of a word, and `at-rule` of the name of one, with blanks around them
abbrev pub is_known_word : List ℕ → List ℕ → Bool
is_known_word name arguments =
    if spells (codes "font-tech") name then is_word_of font_technologies (past_gap arguments)
    else (if spells (codes "font-format") name then is_word_of font_formats (past_gap arguments)
    else spells (codes "at-rule") name && is_at_rule (past_gap arguments))

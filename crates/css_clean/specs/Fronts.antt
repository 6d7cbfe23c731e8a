-- What means the scope at the front of a selector.
use Rattle.std.specs.Prelude.{ℕ, Bool, false, ◌||◌, ◌&&◌, ◌==◌, if◌then◌else◌, List, [], ◌∷◌, codes, Option, Some, None}
use Rattle.css_text.specs.AsciiBytes.{colon}
use Rattle.css_text.specs.Reading.{before}
use Rattle.css_text.specs.Bytes.{past, past_byte, starts, starts_by}
use Rattle.css_text.specs.Characters.{is_space}
use Rattle.css_syntax.specs.Tokens.{past_word}
use Rattle.css_syntax.specs.DeclarationLists.{is_empty}
use Rattle.clean_values.specs.Values.{is_listed}

-- the elements that mean the scope
abbrev pub front_elements : List (List ℕ)
front_elements = codes "html" ∷ codes "body" ∷ []

-- the pseudo-classes that mean it
abbrev pub front_pseudos : List (List ℕ)
front_pseudos = codes "root" ∷ codes "host" ∷ []

-- a byte that ends a compound: a space byte, or one of `>+~`
abbrev pub ends_compound : ℕ → Bool
ends_compound b = is_space b || b == 62 || b == 43 || b == 126

-- what follows a word that is listed, if it ends a compound
abbrev pub after_word : List (List ℕ) → (text rest : List ℕ) → Option (List ℕ)
after_word words text rest =
    if (is_empty rest || starts_by ends_compound rest) && is_listed words (before text rest)
    then Some rest else None

-- what follows a compound that means the scope, if one is next
abbrev pub after_scope_name : List ℕ → Option (List ℕ)
after_scope_name text =
    if starts colon text
    then after_word front_pseudos (past_byte colon text) (past_word (past_byte colon text))
    else after_word front_elements text (past_word text)

-- What is left of a selector, and whether `>` joins it to the scope.
pub record InnerText : Type 0 where
  pub text : List ℕ
  pub is_child : Bool

-- what is left after blanks, and after a `>` and blanks, if that is next
abbrev pub inner_from : List ℕ → InnerText
inner_from rest = record {
  text = past is_space (past_byte 62 rest);
  is_child = starts 62 rest;
}

abbrev pub inner_after : InnerText → Option (List ℕ) → InnerText
inner_after inner None = inner
inner_after inner (Some rest) = inner_from (past is_space rest)

-- what is left after one more compound that means the scope
abbrev pub past_front : InnerText → InnerText
past_front inner = inner_after inner (after_scope_name inner.text)

-- What is left of a selector after at most two such compounds, as `html > body`.
abbrev pub inner_of : List ℕ → InnerText
inner_of text = past_front (past_front (record { text = text; is_child = false }))

-- How a value is written in quotes.
use Rattle.std.specs.Prelude.{ℕ, ◌+◌, ◌/◌, ◌%◌, Bool, not, nat_lt, ◌||◌, ◌&&◌, ◌==◌, if◌then◌else◌, List, [], ◌∷◌, ◌++◌, codes}
use Rattle.css_text.specs.AsciiBytes.{double_quote}
use Rattle.css_html.specs.Decoding.{ampersand}
use Rattle.css_html.specs.Marks.{less_than_sign}
use Rattle.html_edits.specs.declared.edits.Language.{Language}
use Rattle.html_edits.specs.declared.edits.Language.TheVariants.{Html, Xml}

-- `'`
abbrev pub single_quote : ℕ
single_quote = 39

-- A control character but for those that are spaces. A return is one, which HTML would read as a newline.
abbrev pub is_control : ℕ → Bool
is_control b = b == 127 || (nat_lt b 32 && (not (b == 9) && (not (b == 10) && not (b == 12))))

-- A character that is written as a reference by its number: in XML also one that would be read as a space.
abbrev pub is_numbered : Language → ℕ → Bool
is_numbered Html b = is_control b
is_numbered Xml b = is_control b || (b == 9 || b == 10)

-- a digit, if the number has it
abbrev pub digit_of : (b least : ℕ) → List ℕ
digit_of b least = if nat_lt b least then [] else (48 + b / least % 10) ∷ []

-- a byte as a reference by its number
abbrev pub number_reference : ℕ → List ℕ
number_reference b =
    38 ∷ 35 ∷ digit_of b 100 ++ (digit_of b 10 ++ ((48 + b % 10) ∷ 59 ∷ []))

-- a byte as it is written between these quotes
abbrev pub escaped_byte : Language → (quote b : ℕ) → List ℕ
escaped_byte language quote b =
    if b == ampersand then codes "&amp;"
    else (if b == less_than_sign then codes "&lt;"
    else (if b == double_quote && b == quote then codes "&quot;"
    else (if b == single_quote && b == quote then codes "&#39;"
    else (if is_numbered language b then number_reference b else b ∷ []))))

-- a value as it is written between these quotes
abbrev pub escaped_value : Language → (quote : ℕ) → List ℕ → List ℕ
escaped_value language quote [] = []
escaped_value language quote (b ∷ value) =
    escaped_byte language quote b ++ escaped_value language quote value

-- Whether an attribute's value satisfies a condition. A text that is empty satisfies nothing but `=`
-- and `|=`.
use Rattle.std.specs.Prelude.{ℕ, ◌-◌, Bool, true, false, not, ◌&&◌, ◌||◌, ◌==◌, if◌then◌else◌, List, [], ◌∷◌, length, drop}
use Rattle.std.specs.Char.{eq_ignore_ascii_case}
use Rattle.std.specs.List.{list_any}
use Rattle.css_text.specs.AsciiBytes.{hyphen}
use Rattle.css_text.specs.Characters.{is_space}
use Rattle.css_selector_text.specs.Components.{Comparison}
use Rattle.css_selector_text.specs.Components.Comparison.{equals, has_word, has_subtag, starts, ends, contains}

-- the same byte, or the same letter in another case if case is ignored
abbrev pub same_byte : Bool → ℕ → ℕ → Bool
same_byte ignores x y = if ignores then eq_ignore_ascii_case x y else x == y

-- the value begins with the text
abbrev pub begins : Bool → List ℕ → List ℕ → Bool
begins ignores [] value = true
begins ignores (x ∷ text) [] = false
begins ignores (x ∷ text) (y ∷ value) = same_byte ignores x y && begins ignores text value

-- the text, and the end of the value or one of these bytes after it
abbrev pub ends_by : (ℕ → Bool) → List ℕ → Bool
ends_by test [] = true
ends_by test (b ∷ rest) = test b

-- the value begins with the text, and then it ends or such a byte follows
abbrev pub begins_up_to : (ℕ → Bool) → Bool → List ℕ → List ℕ → Bool
begins_up_to test ignores text value =
    begins ignores text value && ends_by test (drop (length text) value)

-- The text is a word of the value: white space or an end is before it and after it. The first
-- argument is whether a word may begin where the value begins.
abbrev pub is_word_of : Bool → Bool → List ℕ → List ℕ → Bool
is_word_of may_begin ignores text [] = false
is_word_of may_begin ignores text (b ∷ value) =
    (may_begin && begins_up_to is_space ignores text (b ∷ value))
    || is_word_of (is_space b) ignores text value

-- the text occurs in the value
abbrev pub occurs_in : Bool → List ℕ → List ℕ → Bool
occurs_in ignores text [] = false
occurs_in ignores text (b ∷ value) = begins ignores text (b ∷ value) || occurs_in ignores text value

-- it is a hyphen
abbrev pub is_hyphen : ℕ → Bool
is_hyphen b = b == hyphen

abbrev pub is_some_text : List ℕ → Bool
is_some_text [] = false
is_some_text (b ∷ text) = true

-- the value satisfies the comparison with the text
abbrev pub is_satisfied : Comparison → Bool → List ℕ → List ℕ → Bool
is_satisfied equals ignores text value =
    length text == length value && begins ignores text value
is_satisfied has_word ignores text value =
    is_some_text text && not (list_any is_space text) && is_word_of true ignores text value
is_satisfied has_subtag ignores text value = begins_up_to is_hyphen ignores text value
is_satisfied starts ignores text value = is_some_text text && begins ignores text value
is_satisfied ends ignores text value =
    is_some_text text && begins ignores text (drop (length value - length text) value)
is_satisfied contains ignores text value = is_some_text text && occurs_in ignores text value

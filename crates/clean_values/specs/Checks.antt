-- Values that are written as they may be: names have the prefix, and urls are answers.
use Rattle.std.specs.Prelude.{ℕ, Bool, true, false, not, ◌||◌, ◌&&◌, ◌==◌, if◌then◌else◌, bytes_eq, length, List, [], ◌∷◌, codes}
use Rattle.css_text.specs.AsciiBytes.{hyphen}
use Rattle.css_text.specs.Bytes.{past_byte}
use Rattle.css_syntax.specs.Tokens.{spells}
use Rattle.clean_values.specs.Values.{ChangesText, is_listed, is_dashed, source_functions}

-- nothing is changed: no url is answered, and there is no prefix
abbrev pub changes_nothing : ChangesText → Bool
changes_nothing changes = length changes.urls == 0 && length changes.prefix == 0

-- the text begins with these bytes
abbrev pub begins_with : (front text : List ℕ) → Bool
begins_with [] text = true
begins_with (c ∷ front) [] = false
begins_with (c ∷ front) (b ∷ text) = b == c && begins_with front text

-- A word has the prefix, after two hyphens or at its start, if it is a name.
abbrev pub has_prefix : ChangesText → (named : Bool) → List ℕ → Bool
has_prefix changes named word =
    if is_dashed word then begins_with changes.prefix (past_byte hyphen (past_byte hyphen word))
    else (not named || is_listed changes.words word || begins_with changes.prefix word)

-- the name of a custom property with a prefix
abbrev pub is_custom : ChangesText → List ℕ → Bool
is_custom changes name =
    not (length changes.prefix == 0) && is_dashed name && has_prefix changes false name

-- the text is one of these, byte by byte
abbrev pub is_one_of : List (List ℕ) → List ℕ → Bool
is_one_of [] text = false
is_one_of (one ∷ more) text = bytes_eq one text || is_one_of more text

-- A function that may be in a value with one that loads a string. (No other can bring it, as `var()` can.)
abbrev pub is_beside_urls : List ℕ → Bool
is_beside_urls word = is_listed source_functions word || spells (codes "type") word

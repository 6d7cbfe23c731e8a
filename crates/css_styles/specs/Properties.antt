-- Properties and their numbers.
use Rattle.std.specs.Prelude.{ℕ, suc, if◌then◌else◌, List, [], ◌∷◌, Option, None, Some, bytes_eq}
use Rattle.std.specs.Option.{option_map}
use Rattle.std.specs.Str.{str_to_ascii_lowercase}
use Rattle.css_text.specs.AsciiBytes.{hyphen}
use Rattle.css_text.specs.Bytes.{starts_two}

-- What the names of one property have in common: that of a custom property is what it is, and others are
-- the same in lower case.
abbrev pub property_key : List ℕ → List ℕ
property_key name =
    if starts_two hyphen hyphen name then name else str_to_ascii_lowercase name

-- the number of a property: how many are before the first that is the same
abbrev pub number_in : List (List ℕ) → List ℕ → Option ℕ
number_in [] key = None
number_in (one ∷ more) key =
    if bytes_eq one key then Some 0 else option_map suc (number_in more key)

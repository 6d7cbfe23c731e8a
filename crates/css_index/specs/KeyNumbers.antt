-- Numbers of keys, by which an index files them. Keys that are the same have the same number.
use Rattle.std.specs.Prelude.{ℕ, ◌+◌, ◌*◌, ◌%◌, ◌^◌, Bool, true, false, List, [], ◌∷◌, bytes_eq}
use Rattle.std.specs.Char.{to_ascii_lowercase}
use Rattle.std.specs.Str.{str_eq_ignore_ascii_case}
use Rattle.css_selectors.specs.Keys.{Key}
use Rattle.css_selectors.specs.Keys.Key.{by_id, by_class, by_name, by_attribute, by_nothing}

-- a number for a text, counted from another, without regard to the case of ASCII letters
abbrev pub number_from : ℕ → List ℕ → ℕ
number_from n [] = n
number_from n (b ∷ text) = number_from ((n * 37 % 2 ^ 64 + to_ascii_lowercase b) % 2 ^ 64) text

-- a number for a key
abbrev pub number_of : Key → ℕ
number_of (by_id text) = number_from 1 text
number_of (by_class text) = number_from 2 text
number_of (by_name text) = number_from 3 text
number_of (by_attribute text) = number_from 4 text
number_of by_nothing = 0

-- the same kind of key with the same text; the case of ASCII letters in names does not count
abbrev pub is_same : Key → Key → Bool
is_same (by_id a) (by_id b) = bytes_eq a b
is_same (by_class a) (by_class b) = bytes_eq a b
is_same (by_name a) (by_name b) = str_eq_ignore_ascii_case a b
is_same (by_attribute a) (by_attribute b) = str_eq_ignore_ascii_case a b
is_same by_nothing by_nothing = true
is_same a b = false

-- Places of keys in a sieve, which says of most keys that they are not in a table.
use Rattle.std.specs.Prelude.{◌≡◌, ℕ, ◌+◌, ◌-◌, ◌*◌, ◌%◌, Bool, true, false, List, length, slice_index, slice_index_or, Contains}
use Rattle.std.specs.Str.{str_to_ascii_lowercase}
use Rattle.css_selectors.specs.Keys.{Key}
use Rattle.css_selectors.specs.Keys.Key.{by_id, by_class, by_name, by_attribute, by_nothing}

-- the place of a text in lower case, by its length, its first and its last byte
abbrev pub place_of_text : (kind : ℕ) → List ℕ → ℕ
place_of_text kind text =
    (kind * 251 + length text % 64 * 37 + slice_index text 0 * 5
    + slice_index text (length text - 1) * 101) % 1024

-- the place of a key; the case of ASCII letters does not count
abbrev pub sieve_place : Key → ℕ
sieve_place (by_id text) = place_of_text 0 (str_to_ascii_lowercase text)
sieve_place (by_class text) = place_of_text 1 (str_to_ascii_lowercase text)
sieve_place (by_name text) = place_of_text 2 (str_to_ascii_lowercase text)
sieve_place (by_attribute text) = place_of_text 3 (str_to_ascii_lowercase text)
sieve_place by_nothing = 0

-- the place of the key is taken
abbrev pub IsIn : List Bool → Key → Type 0
IsIn places key = slice_index_or places (sieve_place key) false ≡ true

-- the places of the keys of entries are taken
abbrev pub AreIn : List Bool → List (Key × ℕ) → Type 0
AreIn places entries = (e : Key × ℕ) → Contains entries e → IsIn places e.0

-- Language ranges and the language tags that are in them: extended filtering (RFC 4647, section
-- 3.3.2), and what Selectors 4, section 8.2, says of a range and a tag that are empty.
use Rattle.std.specs.Prelude.{◌≡◌, ◌≢◌, ℕ, Bool, true, false, ◌&&◌, ◌||◌, ◌==◌, ◌⊎◌, List, [], ◌∷◌, Option, None, Some, bytes_eq, codes, if◌then◌else◌}
use Rattle.std.specs.Char.{is_ascii_alphanumeric}
use Rattle.std.specs.List.{slice_split}
use Rattle.std.specs.Option.{option_map_or}
use Rattle.std.specs.Str.{str_eq_ignore_ascii_case}
use Rattle.css_text.specs.AsciiBytes.{hyphen}

-- the subtags of a tag or of a range, which hyphens separate
abbrev pub subtags : List ℕ → List (List ℕ)
subtags text = slice_split (λ b. b == hyphen) text

-- the subtags of a text that is left, or none
abbrev pub subtags_left : Option (List ℕ) → List (List ℕ)
subtags_left None = []
subtags_left (Some text) = subtags text

-- the wildcard
abbrev pub is_wildcard : List ℕ → Bool
is_wildcard subtag = bytes_eq subtag (codes "*")

-- a singleton: one letter or one digit
abbrev pub is_singleton : List ℕ → Bool
is_singleton [] = false
is_singleton (b ∷ []) = is_ascii_alphanumeric b
is_singleton (b ∷ c ∷ more) = false

-- Those of a tag's subtags that are after the first that equals the wanted one, whatever the case of
-- ASCII letters. There is none if a singleton is before it.
abbrev pub after_subtag : List ℕ → List (List ℕ) → Option (List (List ℕ))
after_subtag wanted [] = None
after_subtag wanted (subtag ∷ tag) =
    if str_eq_ignore_ascii_case subtag wanted then Some tag
    else (if is_singleton subtag then None else after_subtag wanted tag)

-- Whether the subtags of a range are found among those of a tag, each after those that the ones
-- before it have found. Wildcards are skipped.
abbrev pub are_found : List (List ℕ) → List (List ℕ) → Bool
are_found [] tag = true
are_found (wanted ∷ range) tag =
    if is_wildcard wanted then are_found range tag
    else option_map_or (are_found range) (after_subtag wanted tag) false

-- Whether the first subtag of a tag equals that of a range, or the latter is the wildcard, and the
-- further subtags of the range are found among those of the tag.
abbrev pub is_matched : List (List ℕ) → List (List ℕ) → Bool
is_matched [] tag = false
is_matched (first ∷ range) [] = false
is_matched (first ∷ range) (subtag ∷ tag) =
    (is_wildcard first || str_eq_ignore_ascii_case subtag first) && are_found range tag

-- Whether a language is in a range. An empty language, which stands for none, is only in the
-- empty range, and no other language is in that.
abbrev pub is_in_range : List ℕ → List ℕ → Bool
is_in_range [] [] = true
is_in_range [] (b ∷ language) = false
is_in_range (b ∷ range) [] = false
is_in_range (b ∷ range) (c ∷ language) = is_matched (subtags (b ∷ range)) (subtags (c ∷ language))

-- The subtags of a range occur among those of a tag, in order and each equal to its own, whatever the
-- case of ASCII letters. Of the tag's, no singleton is left out before the last of them; of the
-- range's, wildcards are.
pub data Occur : List (List ℕ) → List (List ℕ) → Type 0 where
  all_occur : {tag : List (List ℕ)} → Occur [] tag
  occurs : {wanted subtag : List ℕ} {range tag : List (List ℕ)}
      → str_eq_ignore_ascii_case subtag wanted ≡ true → Occur range tag
      → Occur (wanted ∷ range) (subtag ∷ tag)
  without_wildcard : {wanted : List ℕ} {range tag : List (List ℕ)} → is_wildcard wanted ≡ true
      → Occur range tag → Occur (wanted ∷ range) tag
  without_subtag : {subtag : List ℕ} {range tag : List (List ℕ)} → is_singleton subtag ≡ false
      → Occur range tag → Occur range (subtag ∷ tag)

-- The first subtag matches the first, and the further subtags occur.
pub data Matches : List (List ℕ) → List (List ℕ) → Type 0 where
  matches : {first subtag : List ℕ} {range tag : List (List ℕ)}
      → (is_wildcard first || str_eq_ignore_ascii_case subtag first) ≡ true → Occur range tag
      → Matches (first ∷ range) (subtag ∷ tag)

-- A language is in a range: both are empty, or neither is and the subtags match.
abbrev pub IsInRange : List ℕ → List ℕ → Type 0
IsInRange range language =
    ((range ≡ []) × (language ≡ []))
    ⊎ ((range ≢ []) × (language ≢ []) × Matches (subtags range) (subtags language))

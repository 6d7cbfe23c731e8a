-- Language ranges: the subtags of a text, and what extended filtering finds.
-- Serves `languages`.
use Rattle.std.proofs.Common.{◌≡◌, ◌≢◌, ℕ, ◌<◌, inl, inr, Bool, true, false, List, [], ◌∷◌, ◌++◌, length, map, take, drop, Option, None, Some, refl, ap, sym, subst, ◌∙◌, lit<, arith, Bor}
use Rattle.std.specs.Prelude.{◌==◌, ◌&&◌, ◌||◌, codes, if◌then◌else◌, MatchOption}
use Rattle.std.specs.Char.{is_ascii_alphanumeric, to_ascii_lowercase}
use Rattle.std.specs.List.{onto_first, position_or_len}
use Rattle.std.specs.Option.{option_map_or}
use Rattle.std.specs.Str.{str_eq_ignore_ascii_case, str_to_ascii_lowercase}
use Rattle.std.proofs.lemmas.Bool.Decides.{nat_tests, Decides-eqb}
use Rattle.std.proofs.lemmas.List.{append-nil, take-append-drop}
use Rattle.std.proofs.lemmas.List.Elements.{All-from_get_or}
use Rattle.std.proofs.lemmas.List.Splits.{slice_split_first, slice_split_none, length-slice_split}
use Rattle.std.proofs.lemmas.List.Sums.{fails_before_first}
use Rattle.std.proofs.lemmas.Slice.Eq.{bytes_eq-Decides}
use Rattle.std.proofs.lemmas.Str.Pattern.{IsSplitOnceResult, split_once_first}
use Rattle.css_text.specs.AsciiBytes.{hyphen}
use Rattle.css_elements.specs.TreeNodes.{ends_subtag, is_in_language as has_prefix}
use Rattle.css_tree.specs.Languages.{subtags, is_wildcard, is_singleton, after_subtag, are_found, is_matched, is_in_range, Occur, Matches, IsInRange}
use Rattle.css_tree.specs.Languages.Occur.{all_occur, occurs, without_wildcard, without_subtag}
use Rattle.css_tree.specs.Languages.Matches.{matches}

abbrev is_hyphen : ℕ → Bool
is_hyphen b = b == hyphen

-- a text that is split at its first hyphen
abbrev SubtagsSplit : List ℕ → Option (Bor (List ℕ) × Bor (List ℕ)) → Type 0
SubtagsSplit text split =
    MatchOption split (subtags text ≡ text ∷ []) (λ x. subtags text ≡ x.0.now ∷ subtags x.1.now)

pub subtags_split : (text : List ℕ) (split : Option (Bor (List ℕ) × Bor (List ℕ)))
    → IsSplitOnceResult hyphen text split → SubtagsSplit text split
subtags_split text None is =
    let none : position_or_len is_hyphen text ≡ length text =
    split_once_first hyphen text None is (lit< tt) in
    slice_split_none is_hyphen text (All-from_get_or (λ b. is_hyphen b ≡ false) text 0
    (λ i lt. fails_before_first is_hyphen text i 0 (omega arith)))
subtags_split text (Some found) is =
    let cut = split_once_first hyphen text (Some found) is (lit< tt) in
    slice_split_first is_hyphen text 0 cut.0 ∙ (λ k. sym cut.1 k ∷ subtags (sym cut.2 k))

-- the same text
pub equal_lower : (a b : List ℕ) → str_eq_ignore_ascii_case a b ≡ true
    → str_to_ascii_lowercase a ≡ str_to_ascii_lowercase b
equal_lower a b = (bytes_eq-Decides (str_to_ascii_lowercase a) (str_to_ascii_lowercase b)).0

pub equal_from_lower : (a b : List ℕ) → str_to_ascii_lowercase a ≡ str_to_ascii_lowercase b
    → str_eq_ignore_ascii_case a b ≡ true
equal_from_lower a b = (bytes_eq-Decides (str_to_ascii_lowercase a) (str_to_ascii_lowercase b)).1

-- a letter or a digit is one in lower case, too
alphanumeric-lower : (b : ℕ) → is_ascii_alphanumeric (to_ascii_lowercase b) ≡ is_ascii_alphanumeric b
alphanumeric-lower b = grind (arith, nat_tests)

singleton-lower : (a : List ℕ) → is_singleton (str_to_ascii_lowercase a) ≡ is_singleton a
singleton-lower [] = refl
singleton-lower (b ∷ []) = alphanumeric-lower b
singleton-lower (b ∷ c ∷ more) = refl

singleton-equal : (a b : List ℕ) → str_eq_ignore_ascii_case a b ≡ true
    → is_singleton a ≡ is_singleton b
singleton-equal a b same =
    sym (singleton-lower a) ∙ ap is_singleton (equal_lower a b same) ∙ singleton-lower b

-- what is found occurs
occur-after : (wanted : List ℕ) (range tag rest : List (List ℕ))
    → after_subtag wanted tag ≡ Some rest → Occur range rest → Occur (wanted ∷ range) tag
occur-after wanted range [] rest is occur = absurd (cc)
occur-after wanted range (subtag ∷ tag) rest is occur =
    by (str_eq_ignore_ascii_case subtag wanted) refl (is_singleton subtag) refl is
    (λ k. occur-after wanted range tag rest k occur)
  where
    by : (same : Bool) → str_eq_ignore_ascii_case subtag wanted ≡ same → (single : Bool)
        → is_singleton subtag ≡ single
        → (if same then Some tag else (if single then None else after_subtag wanted tag))
        ≡ Some rest
        → (after_subtag wanted tag ≡ Some rest → Occur (wanted ∷ range) tag)
        → Occur (wanted ∷ range) (subtag ∷ tag)
    by true same single s k later =
        let e : rest ≡ tag = cc in occurs same (subst (Occur range) e occur)
    by false same true s k later = absurd (cc)
    by false same false s k later = without_subtag s (later k)

occur-from_found : (range tag : List (List ℕ)) → are_found range tag ≡ true → Occur range tag
occur-from_found [] tag is = all_occur
occur-from_found (wanted ∷ range) tag is =
    by (is_wildcard wanted) refl (after_subtag wanted tag) refl is (occur-from_found range)
  where
    by : (wild : Bool) → is_wildcard wanted ≡ wild → (rest : Option (List (List ℕ)))
        → after_subtag wanted tag ≡ rest
        → (if wild then are_found range tag else option_map_or (are_found range) rest false) ≡ true
        → ((others : List (List ℕ)) → are_found range others ≡ true → Occur range others)
        → Occur (wanted ∷ range) tag
    by true wild rest r k further = without_wildcard wild (further tag k)
    by false wild None r k further = absurd (cc)
    by false wild (Some rest) r k further = occur-after wanted range tag rest r (further rest k)

-- what is found is found with one more subtag before, which is no singleton
abbrev FoundWithMore : List (List ℕ) → Type 0
FoundWithMore range = (subtag : List ℕ) (tag : List (List ℕ)) → is_singleton subtag ≡ false
    → are_found range tag ≡ true → are_found range (subtag ∷ tag) ≡ true

-- what is found after a subtag that is no singleton is found from it on
found-before : (range : List (List ℕ)) → FoundWithMore range → (wanted : List ℕ)
    → is_singleton wanted ≡ false → (tag rest : List (List ℕ)) → after_subtag wanted tag ≡ Some rest
    → are_found range rest ≡ true → are_found range tag ≡ true
found-before range more wanted single [] rest is found = absurd (cc)
found-before range more wanted single (subtag ∷ tag) rest is found =
    by (str_eq_ignore_ascii_case subtag wanted) refl (is_singleton subtag) refl is
    (λ k. found-before range more wanted single tag rest k found)
  where
    by : (same : Bool) → str_eq_ignore_ascii_case subtag wanted ≡ same → (one : Bool)
        → is_singleton subtag ≡ one
        → (if same then Some tag else (if one then None else after_subtag wanted tag)) ≡ Some rest
        → (after_subtag wanted tag ≡ Some rest → are_found range tag ≡ true)
        → are_found range (subtag ∷ tag) ≡ true
    by true same one s k later =
        let e : rest ≡ tag = cc in
        more subtag tag (singleton-equal subtag wanted same ∙ single)
        (sym (ap (are_found range) e) ∙ found)
    by false same true s k later = absurd (cc)
    by false same false s k later = more subtag tag s (later k)

found-more : (range : List (List ℕ)) → FoundWithMore range
found-more [] subtag tag single is = refl
found-more (wanted ∷ range) subtag tag single is =
    by (is_wildcard wanted) (after_subtag wanted tag) refl
    (str_eq_ignore_ascii_case subtag wanted) refl is (found-more range)
  where
    by : (wild : Bool) (rest : Option (List (List ℕ))) → after_subtag wanted tag ≡ rest
        → (same : Bool) → str_eq_ignore_ascii_case subtag wanted ≡ same
        → (if wild then are_found range tag else option_map_or (are_found range) rest false) ≡ true
        → FoundWithMore range
        → (if wild then are_found range (subtag ∷ tag)
        else option_map_or (are_found range)
        (if same then Some tag
        else (if is_singleton subtag then None else after_subtag wanted tag)) false) ≡ true
    by true rest r same s k more = more subtag tag single k
    by false None r same s k more = absurd (cc)
    by false (Some rest) r true s k more =
        found-before range more wanted (sym (singleton-equal subtag wanted s) ∙ single) tag rest r k
    by false (Some rest) r false s k more =
        ap (λ one. option_map_or (are_found range)
        (if one then None else after_subtag wanted tag) false) single
        ∙ ap (λ o. option_map_or (are_found range) o false) r ∙ k

wildcard_single : (wanted : List ℕ) → is_wildcard wanted ≡ true → is_singleton wanted ≡ false
wildcard_single wanted is = ap is_singleton ((bytes_eq-Decides wanted (codes "*")).0 is)

-- what occurs is found
found-from_occur : {range tag : List (List ℕ)} → Occur range tag → are_found range tag ≡ true
found-from_occur all_occur = refl
found-from_occur (occurs {wanted = wanted} {subtag = subtag} {range = range} {tag = tag} same o) =
    by (is_wildcard wanted) refl (found-from_occur o)
  where
    by : (wild : Bool) → is_wildcard wanted ≡ wild → are_found range tag ≡ true
        → (if wild then are_found range (subtag ∷ tag)
        else option_map_or (are_found range) (after_subtag wanted (subtag ∷ tag)) false) ≡ true
    by true wild found =
        found-more range subtag tag
        (singleton-equal subtag wanted same ∙ wildcard_single wanted wild) found
    by false wild found =
        ap (λ s. option_map_or (are_found range) (if s then Some tag
        else (if is_singleton subtag then None else after_subtag wanted tag)) false) same
        ∙ found
found-from_occur (without_wildcard {wanted = wanted} {range = range} {tag = tag} wild o) =
    ap (λ w. if w then are_found range tag
    else option_map_or (are_found range) (after_subtag wanted tag) false) wild
    ∙ found-from_occur o
found-from_occur (without_subtag {subtag = subtag} {range = range} {tag = tag} single o) =
    found-more range subtag tag single (found-from_occur o)

both : (a b : Bool) → (a && b) ≡ true → (a ≡ true) × (b ≡ true)
both true b h = (refl, h)
both false b h = absurd (cc)

-- the test of subtags decides whether they match
pub matches-from_test : (range tag : List (List ℕ)) → is_matched range tag ≡ true → Matches range tag
matches-from_test [] tag is = absurd (cc)
matches-from_test (first ∷ range) [] is = absurd (cc)
matches-from_test (first ∷ range) (subtag ∷ tag) is =
    let b = both (is_wildcard first || str_eq_ignore_ascii_case subtag first) (are_found range tag) is in
    matches b.0 (occur-from_found range tag b.1)

pub test-from_matches : {range tag : List (List ℕ)} → Matches range tag → is_matched range tag ≡ true
test-from_matches (matches {range = range} {tag = tag} same o) =
    ap (λ f. f && are_found range tag) same ∙ found-from_occur o

-- and the test of texts whether a language is in a range
pub in_range-from_test : (range language : List ℕ) → is_in_range range language ≡ true
    → IsInRange range language
in_range-from_test [] [] is = inl (refl, refl)
in_range-from_test [] (b ∷ language) is = absurd (cc)
in_range-from_test (b ∷ range) [] is = absurd (cc)
in_range-from_test (b ∷ range) (c ∷ language) is = inr (
  (λ e. absurd (cc)),
  (λ e. absurd (cc)),
  matches-from_test (subtags (b ∷ range)) (subtags (c ∷ language)) is,
)

pub test-from_in_range : (range language : List ℕ) → IsInRange range language
    → is_in_range range language ≡ true
test-from_in_range [] [] is = refl
test-from_in_range [] (b ∷ language) (inl e) = let f = e.1 in absurd (cc)
test-from_in_range [] (b ∷ language) (inr e) = absurd (e.0 refl)
test-from_in_range (b ∷ range) [] (inl e) = let f = e.0 in absurd (cc)
test-from_in_range (b ∷ range) [] (inr e) = absurd (e.1 refl)
test-from_in_range (b ∷ range) (c ∷ language) (inl e) = let f = e.0 in absurd (cc)
test-from_in_range (b ∷ range) (c ∷ language) (inr e) = test-from_matches e.2

-- the subtags of a text in lower case
onto_first-map : (f : ℕ → ℕ) (b : ℕ) (parts : List (List ℕ))
    → onto_first (f b) (map (map f) parts) ≡ map (map f) (onto_first b parts)
onto_first-map f b [] = refl
onto_first-map f b (part ∷ parts) = refl

hyphen-lower : (b : ℕ) → is_hyphen (to_ascii_lowercase b) ≡ is_hyphen b
hyphen-lower b = grind (arith, nat_tests)

subtags-lower : (text : List ℕ)
    → subtags (str_to_ascii_lowercase text) ≡ map str_to_ascii_lowercase (subtags text)
subtags-lower [] = refl
subtags-lower (b ∷ text) =
    ap (λ h. if h then [] ∷ subtags (str_to_ascii_lowercase text)
    else onto_first (to_ascii_lowercase b) (subtags (str_to_ascii_lowercase text))) (hyphen-lower b)
    ∙ by (is_hyphen b) (subtags-lower text)
  where
    by : (h : Bool)
        → subtags (str_to_ascii_lowercase text) ≡ map str_to_ascii_lowercase (subtags text)
        → (if h then [] ∷ subtags (str_to_ascii_lowercase text)
        else onto_first (to_ascii_lowercase b) (subtags (str_to_ascii_lowercase text)))
        ≡ map str_to_ascii_lowercase (if h then [] ∷ subtags text else onto_first b (subtags text))
    by true is = ap (λ parts. [] ∷ parts) is
    by false is =
        ap (onto_first (to_ascii_lowercase b)) is
        ∙ onto_first-map to_ascii_lowercase b (subtags text)

-- the subtags of a text that goes on after a hyphen
onto_first-append : (b : ℕ) (parts more : List (List ℕ)) → 0 < length parts
    → onto_first b (parts ++ more) ≡ onto_first b parts ++ more
onto_first-append b [] more some = absurd (omega arith)
onto_first-append b (part ∷ parts) more some = refl

subtags-append : (front rest : List ℕ)
    → subtags (front ++ hyphen ∷ rest) ≡ subtags front ++ subtags rest
subtags-append [] rest = refl
subtags-append (b ∷ front) rest = by (is_hyphen b) (subtags-append front rest)
  where
    by : (h : Bool) → subtags (front ++ hyphen ∷ rest) ≡ subtags front ++ subtags rest
        → (if h then [] ∷ subtags (front ++ hyphen ∷ rest)
        else onto_first b (subtags (front ++ hyphen ∷ rest)))
        ≡ (if h then [] ∷ subtags front else onto_first b (subtags front)) ++ subtags rest
    by true is = ap (λ parts. [] ∷ parts) is
    by false is =
        ap (onto_first b) is
        ∙ onto_first-append b (subtags front) (subtags rest)
        (omega (arith, length-slice_split is_hyphen front))

-- subtags that are equal in lower case, and further ones
same_heads : {A : Type 0} {x y : A} {xs ys : List A} → x ∷ xs ≡ y ∷ ys → (x ≡ y) × (xs ≡ ys)
same_heads e = (cc, cc)

occur-lower : (range tag more : List (List ℕ))
    → map str_to_ascii_lowercase tag ≡ map str_to_ascii_lowercase range → Occur range (tag ++ more)
occur-lower [] tag more same = all_occur
occur-lower (wanted ∷ range) [] more same = absurd (cc)
occur-lower (wanted ∷ range) (subtag ∷ tag) more same =
    let e = same_heads same in
    occurs (equal_from_lower subtag wanted e.0) (occur-lower range tag more e.1)

or_second : (a b : Bool) → b ≡ true → (a || b) ≡ true
or_second true b h = refl
or_second false b h = h

matches-lower : (range tag more : List (List ℕ)) → 0 < length range
    → map str_to_ascii_lowercase tag ≡ map str_to_ascii_lowercase range → Matches range (tag ++ more)
matches-lower [] tag more some same = absurd (omega arith)
matches-lower (first ∷ range) [] more some same = absurd (cc)
matches-lower (first ∷ range) (subtag ∷ tag) more some same =
    let e = same_heads same in
    matches (or_second (is_wildcard first) (str_eq_ignore_ascii_case subtag first)
    (equal_from_lower subtag first e.0)) (occur-lower range tag more e.1)

-- a text that begins with the range, whatever its case, and then ends or has a hyphen
subtags-prefix : (front rest : List ℕ) → ends_subtag rest ≡ true
    → (more : List (List ℕ)) × (subtags (front ++ rest) ≡ subtags front ++ more)
subtags-prefix front [] ends =
    ([], ap subtags (append-nil front) ∙ sym (append-nil (subtags front)))
subtags-prefix front (b ∷ rest) ends = (
  subtags rest,
  ap (λ h. subtags (front ++ h ∷ rest)) ((Decides-eqb b hyphen).0 ends) ∙ subtags-append front rest,
)

matches-prefix : (range language : List ℕ) → has_prefix range language ≡ true
    → Matches (subtags range) (subtags language)
matches-prefix range language is =
    let b = both (str_eq_ignore_ascii_case (take (length range) language) range)
    (ends_subtag (drop (length range) language)) is in
    let front = take (length range) language in
    let m = subtags-prefix front (drop (length range) language) b.1 in
    let whole : subtags language ≡ subtags front ++ m.0 =
    ap subtags (sym (take-append-drop (length range) language)) ∙ m.1 in
    let same : map str_to_ascii_lowercase (subtags front) ≡ map str_to_ascii_lowercase (subtags range) =
    sym (subtags-lower front) ∙ ap subtags (equal_lower front range b.0) ∙ subtags-lower range in
    subst (Matches (subtags range)) (sym whole) (matches-lower (subtags range) (subtags front) m.0
    (omega (arith, length-slice_split is_hyphen range)) same)

-- a language that begins with a range, which is not empty, is in it
pub in_range-prefix : (range language : List ℕ) → range ≢ [] → has_prefix range language ≡ true
    → is_in_range range language ≡ true
in_range-prefix [] language some is = absurd (some refl)
in_range-prefix (b ∷ range) [] some is =
    let e = both (str_eq_ignore_ascii_case [] (b ∷ range)) true is in
    let f = e.0 in absurd (cc)
in_range-prefix (b ∷ range) (c ∷ language) some is =
    test-from_matches (matches-prefix (b ∷ range) (c ∷ language) is)

-- Entries, cut where edits are.
-- Serves `editing` and `entries`.
use Rattle.std.proofs.Common.{◌≡◌, ◌+◌, ℕ, zero, suc, List, [], ◌∷◌, ◌++◌, map, take, drop, length, refl, sym, ap, ◌∙◌, arith}
use Rattle.std.proofs.lemmas.List.{take-map, drop-map, length-map, map-append}
use Rattle.css_edits.specs.Entries.{EntryText, SaidText, said_of}
use Rattle.css_edits.specs.declared.entries.Entry.{Entry}
use Rattle.css_edits.specs.internal.Views.{entry_of}

pub take_entries : (n : ℕ) (xs : List Entry) → map entry_of (take n xs) ≡ take n (map entry_of xs)
take_entries n xs = sym (take-map entry_of n xs)

pub drop_entries : (n : ℕ) (xs : List Entry) → map entry_of (drop n xs) ≡ drop n (map entry_of xs)
drop_entries n xs = sym (drop-map entry_of n xs)

pub count_entries : (xs : List Entry) → length (map entry_of xs) ≡ length xs
count_entries xs = length-map xs entry_of

pub more_entries : (xs ys : List Entry) → map entry_of (xs ++ ys) ≡ map entry_of xs ++ map entry_of ys
more_entries xs ys = map-append entry_of xs ys

none_and : (k : ℕ) → 0 + k ≡ k
none_and k = omega arith

one_and : (a b k : ℕ) → a + b ≡ k → suc a + b ≡ suc k
one_and a b k e = omega (arith, e)

pub both_parts : (n : ℕ) (xs : List EntryText) → length (take n xs) + length (drop n xs) ≡ length xs
both_parts zero xs = none_and (length xs)
both_parts (suc n) [] = none_and 0
both_parts (suc n) (x ∷ xs) = one_and (length (take n xs)) (length (drop n xs)) (length xs) (both_parts n xs)

-- the same of what they say
pub said_cut : (m n : ℕ) (xs : List Entry)
    → map said_of (map entry_of (take n (drop m xs))) ≡ take n (drop m (map said_of (map entry_of xs)))
said_cut m n xs =
    sym (ap (λ t. take n t) (drop-map said_of m (map entry_of xs) ∙ ap (map said_of) (drop-map entry_of m xs))
    ∙ take-map said_of n (map entry_of (drop m xs))
    ∙ ap (map said_of) (take-map entry_of n (drop m xs)))

pub said_count : (xs : List Entry) → length (map said_of (map entry_of xs)) ≡ length xs
said_count xs = length-map (map entry_of xs) said_of ∙ length-map xs entry_of

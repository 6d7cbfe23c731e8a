-- Tables of names, row by row.
use Rattle.std.proofs.Common.{◌≡◌, ◌∙◌, ℕ, suc, ◌<◌, ◌==◌, ◌||◌, ◌++◌, Bool, true, false, List, [], ◌∷◌, Option, Some, None, length, arith, refl, ap, if◌then◌else◌, bytes_eq}
use Rattle.css_text.specs.AsciiBytes.{colon}
use Rattle.css_text.specs.Bytes.{after_byte}
use Rattle.css_text.proofs.reading.EachLemmas.{Takes, each-none, each-some}
use Rattle.css_values.specs.Names.{cut_by, cut, part_before, parts_between, is_one_of, is_named_in, row_for, longhands_in, rows_with, shorthands_in}

Less : ℕ → Option (List ℕ) → Type 0
Less n None = Unit {0}
Less n (Some rest) = length rest < n

less-more : (n : ℕ) (o : Option (List ℕ)) → Less n o → Less (suc n) o
unfolding Less
less-more n None h = tt
less-more n (Some rest) h = omega arith

after-less : (byte : ℕ) (text : List ℕ) → Less (length text) (after_byte byte text)
unfolding Less
after-less byte [] = tt
after-less byte (b ∷ text) = by (after-less byte text) (b == byte)
  where
    by : Less (length text) (after_byte byte text) → (t : Bool)
        → Less (length (b ∷ text)) (if t then Some text else after_byte byte text)
    by h true = omega arith
    by h false = less-more (length text) (after_byte byte text) h

pub part_before-takes : (byte : ℕ) → Takes (part_before byte)
unfolding Less
part_before-takes byte [] = tt
part_before-takes byte (b ∷ text) = by (after_byte byte (b ∷ text)) (after-less byte (b ∷ text))
  where
    by : (o : Option (List ℕ)) → Less (length (b ∷ text)) o
        → length (cut_by (b ∷ text) o).1 < length (b ∷ text)
    by None h = omega arith
    by (Some rest) h = h

pub parts-none : (byte : ℕ) (rest : List ℕ) → part_before byte rest ≡ None
    → parts_between byte rest ≡ []
parts-none byte rest e =
    ap (λ (r : List (List ℕ) × List ℕ). r.0) (each-none (part_before byte) rest e)

pub parts-some : (byte : ℕ) (rest front left : List ℕ) → part_before byte rest ≡ Some (front, left)
    → parts_between byte rest ≡ front ∷ parts_between byte left
parts-some byte rest front left e =
    ap (λ (r : List (List ℕ) × List ℕ). r.0)
    (each-some (part_before byte) (part_before-takes byte) rest left front e)

pub named-none : (rest name : List ℕ) → part_before 32 rest ≡ None → is_named_in rest name ≡ false
named-none rest name e = ap (λ (names : List (List ℕ)). is_one_of names name) (parts-none 32 rest e)

pub named-some : (rest front left name : List ℕ) → part_before 32 rest ≡ Some (front, left)
    → is_named_in rest name ≡ (bytes_eq front name || is_named_in left name)
named-some rest front left name e =
    ap (λ (names : List (List ℕ)). is_one_of names name) (parts-some 32 rest front left e)

pub longhands-none : (rest name : List ℕ) → part_before 10 rest ≡ None
    → longhands_in rest name ≡ None
longhands-none rest name e = ap (λ (rows : List (List ℕ)). row_for rows name) (parts-none 10 rest e)

pub longhands-some : (rest row left name front names : List ℕ)
    → part_before 10 rest ≡ Some (row, left) → cut colon row ≡ (front, names)
    → longhands_in rest name ≡ (if bytes_eq front name then Some names else longhands_in left name)
longhands-some rest row left name front names e h =
    ap (λ (rows : List (List ℕ)). row_for rows name) (parts-some 10 rest row left e)
    ∙ ap (λ (found : List ℕ × List ℕ). if bytes_eq found.0 name then Some found.1 else longhands_in left name) h

pub shorthands-none : (rest name : List ℕ) → part_before 10 rest ≡ None
    → shorthands_in rest name ≡ []
shorthands-none rest name e = ap (λ (rows : List (List ℕ)). rows_with rows name) (parts-none 10 rest e)

rows-cons : (row : List ℕ) (more : List (List ℕ)) (name : List ℕ)
    → rows_with (row ∷ more) name ≡ rows_with (row ∷ []) name ++ rows_with more name
rows-cons row more name = by (is_named_in (cut colon row).1 name)
  where
    by : (t : Bool)
        → (if t then (cut colon row).0 ∷ rows_with more name else rows_with more name)
        ≡ (if t then (cut colon row).0 ∷ [] else []) ++ rows_with more name
    by true = refl
    by false = refl

pub shorthands-some : (rest row left name : List ℕ) → part_before 10 rest ≡ Some (row, left)
    → shorthands_in rest name ≡ rows_with (row ∷ []) name ++ shorthands_in left name
shorthands-some rest row left name e =
    ap (λ (rows : List (List ℕ)). rows_with rows name) (parts-some 10 rest row left e)
    ∙ rows-cons row (parts_between 10 left) name

-- What is counted of groups is counted of siblings.
-- Serves `numbered_tree`, `kinds` and `groups::nothing_seen`.
use Rattle.std.proofs.Common.{◌≡◌, ℕ, zero, suc, ◌+◌, ◌-◌, ◌<◌, ◌≤◌, inl, inr, Bool, true, false, List, [], ◌∷◌, ◌++◌, length, get_or, Option, None, Some, refl, sym, ap, subst, ◌∙◌, arith}
use Rattle.std.proofs.Math.ListN.{get_or-append}
use Rattle.std.proofs.Math.Seq.{get_or-append_seam}
use Rattle.std.proofs.lemmas.List.{length-append}
use Rattle.std.proofs.lemmas.Option.{slice_get-get_or, get_or_from_slice_get}
use Rattle.std.specs.List.{All, slice_get}
use Rattle.std.specs.Option.{option_map_or}
use Rattle.std.specs.Prelude.{◌==◌, nat_lt, if◌then◌else◌}
use Rattle.std.proofs.lemmas.Bool.Decides.{nat_tests}
use Rattle.css_matching.specs.ListTrees.{lesser}
use Rattle.css_elements.specs.Rows.{Row}
use Rattle.css_elements.specs.TreeNodes.{named_parent}
use Rattle.css_tree.specs.Counts.{count_below, last_below}
use Rattle.css_tree.specs.GroupViews.{is_in_group, seen_below, count_after as count_after_number}
use Rattle.css_tree.specs.declared.groups.Seen.{Seen}
use Rattle.css_tree.specs.Keys.{AreFamilies, HasKinds, AreKinds, kind}
use Rattle.css_tree.specs.Pages.{family, family_under, is_sibling, is_alike, is_child, count_after}
use Rattle.css_tree.proofs.Counting.{last_or_before, count_below-same, last_below-same}
use Rattle.css_tree.proofs.KindLemmas.{kind-test, kind-at_most}

-- the elements of the family with a number
module _ (rows : List Row) (families : List ℕ) (are : AreFamilies rows families) where
  family_test : (f j : ℕ) → j < length rows → is_in_group families f j ≡ (f == family rows j)
  family_test f j lt = ap (λ r. option_map_or (λ k. f == k) r false) (are.each j lt)

  family_count : (f n : ℕ) → n ≤ length rows
      → count_below (is_in_group families f) n ≡ count_below (λ j. f == family rows j) n
  family_count f n le =
      count_below-same (is_in_group families f) (λ j. f == family rows j) n
      (λ j lt. family_test f j (omega (arith, lt, le)))

  pub siblings_before : (i : ℕ) → i < length rows
      → count_below (is_in_group families (family rows i)) i ≡ count_below (is_sibling rows i) i
  siblings_before i lt = family_count (family rows i) i (omega (arith, lt))

  pub last_sibling : (i : ℕ) → i < length rows
      → last_below (is_in_group families (family rows i)) i ≡ last_below (is_sibling rows i) i
  last_sibling i lt =
      last_below-same (is_in_group families (family rows i)) (is_sibling rows i) i
      (λ j less. family_test (family rows i) j (omega (arith, lt, less)))

  -- what is seen before an element
  pub last_seen : (i : ℕ) (seen : Seen) (last : Option ℕ) → i < length rows
      → ((number : ℕ) → slice_get families i ≡ Some number → seen ≡ seen_below families number i)
      → seen.last ≡ last → last_below (is_sibling rows i) i ≡ last
  last_seen i seen last lt is read =
      sym (ap (λ s. s.last) (is (family rows i) (are.each i lt)) ∙ last_sibling i lt) ∙ read

  pub siblings_after : (i : ℕ) → i < length rows
      → count_after_number families (family rows i) i ≡ count_after (is_sibling rows i) i rows
  siblings_after i lt =
      ap (λ n. count_below (is_in_group families (family rows i)) n
      - (count_below (is_in_group families (family rows i)) i + 1)) are.all
      ∙ ap (λ n. n - (count_below (is_in_group families (family rows i)) i + 1))
      (family_count (family rows i) (length rows) (omega arith))
      ∙ ap (λ n. count_below (is_sibling rows i) (length rows) - (n + 1)) (siblings_before i lt)

  pub children : (i : ℕ)
      → count_below (is_in_group families (i + 1)) (length families)
      ≡ count_below (is_child i rows) (length rows)
  children i =
      ap (count_below (is_in_group families (i + 1))) are.all
      ∙ family_count (i + 1) (length rows) (omega arith)
      ∙ ap (λ f. count_below (λ j. f == family rows j) (length rows)) (omega arith)

-- numbers are less than the number of elements
pub family-at_most : (rows : List Row) (i : ℕ) → family rows i ≤ i
family-at_most rows i = of (named_parent rows i)
  where
    under : (p : ℕ) (b : Bool) → nat_lt p i ≡ b → family_under (if b then Some p else None) ≤ i
    under p true lt = grind (arith, nat_tests, lt)
    under p false lt = omega arith

    of : (r : Option ℕ) → family_under (lesser i r) ≤ i
    of None = omega arith
    of (Some p) = under p (nat_lt p i) refl

pub families_within : (rows : List Row) (families : List ℕ) → AreFamilies rows families
    → All (λ number. number < length rows) families
families_within rows families are k d lt =
    let all = are.all in
    let within : k < length rows = omega (arith, lt, all) in
    let is = get_or_from_slice_get families k (family rows k) d (are.each k within) in
    let most = family-at_most rows k in omega (arith, is, most, within)

pub kinds_within : (rows : List Row) (namespaces kinds : List ℕ) → AreKinds rows namespaces kinds
    → All (λ number. number < length rows) kinds
kinds_within rows namespaces kinds are k d lt =
    let all = are.all in
    let within : k < length rows = omega (arith, lt, all) in
    let is = get_or_from_slice_get kinds k (kind rows namespaces k) d (are.each k within) in
    let most = kind-at_most rows namespaces k in omega (arith, is, most, within)

-- the elements of the kind with a number
module _ (rows : List Row) (namespaces kinds : List ℕ) (are : AreKinds rows namespaces kinds) (i : ℕ)
    (within : i < length rows) where
  alike_test : (j : ℕ) → j < length rows
      → is_in_group kinds (kind rows namespaces i) j ≡ is_alike rows namespaces i j
  alike_test j lt =
      ap (λ r. option_map_or (λ k. kind rows namespaces i == k) r false) (are.each j lt)
      ∙ kind-test rows namespaces i j

  alike_count : (n : ℕ) → n ≤ length rows
      → count_below (is_in_group kinds (kind rows namespaces i)) n
      ≡ count_below (is_alike rows namespaces i) n
  alike_count n le =
      count_below-same (is_in_group kinds (kind rows namespaces i)) (is_alike rows namespaces i) n
      (λ j lt. alike_test j (omega (arith, lt, le)))

  pub alike_before : count_below (is_in_group kinds (kind rows namespaces i)) i
      ≡ count_below (is_alike rows namespaces i) i
  alike_before = alike_count i (omega (arith, within))

  pub alike_after : count_after_number kinds (kind rows namespaces i) i
      ≡ count_after (is_alike rows namespaces i) i rows
  alike_after =
      ap (λ n. count_below (is_in_group kinds (kind rows namespaces i)) n
      - (count_below (is_in_group kinds (kind rows namespaces i)) i + 1)) are.all
      ∙ ap (λ n. n - (count_below (is_in_group kinds (kind rows namespaces i)) i + 1))
      (alike_count (length rows) (omega arith))
      ∙ ap (λ n. count_below (is_alike rows namespaces i) (length rows) - (n + 1)) alike_before

-- a list of which the items below a number are known, and the next
pub known_more : {X : Type 0} (P : ℕ → X → Type 0) (xs ys : List X) (x : X) (n i : ℕ)
    → ys ≡ xs ++ x ∷ [] → length xs ≡ n → P n x
    → ((j : ℕ) → j < n → (y : X) × (slice_get xs j ≡ Some y) × P j y)
    → i < n + 1 → (y : X) × (slice_get ys i ≡ Some y) × P i y
known_more P xs ys x n i is len here before lt =
    elim (last_or_before i n (omega (arith, lt))) [
      | inl same ↦ (
        x,
        slice_get-get_or ys i x (inside i lt)
            ∙ ap Some (ap (λ zs. get_or zs i x) is ∙ ap (λ j. get_or (xs ++ x ∷ []) j x)
            (same ∙ sym len) ∙ get_or-append_seam xs x [] x),
        subst (λ j. P j x) (sym same) here,
      )
      | inr less ↦
          (let b = before i less in (
            b.0,
            slice_get-get_or ys i x (inside i lt)
                ∙ ap Some (ap (λ zs. get_or zs i x) is
                ∙ get_or-append xs (x ∷ []) x i (rw len less)
                ∙ get_or_from_slice_get xs i b.0 x b.1),
            b.2,
          ))
    ]
  where
    inside : (i : ℕ) → i < n + 1 → i < length ys
    inside i lt =
        let l = ap length is ∙ length-append xs (x ∷ []) in omega (arith, lt, l, len)

-- the kinds of the elements below an index, and of the one at it
pub kinds_more : (rows : List Row) (namespaces kinds more : List ℕ) (number n : ℕ)
    → HasKinds rows namespaces kinds n → more ≡ kinds ++ number ∷ [] → number ≡ kind rows namespaces n
    → HasKinds rows namespaces more (n + 1)
kinds_more rows namespaces kinds more number n are is of = record {
  all = ap length is ∙ length-append kinds (number ∷ []) ∙ ap (λ k. k + 1) are.all;
  each = λ i lt. (let k = known_more (λ j m. m ≡ kind rows namespaces j) kinds more number n i is
      are.all of (λ j less. (kind rows namespaces j, are.each j less, refl)) lt in
      k.1 ∙ ap Some k.2);
}

-- one more default, after defaults
pub defaults_more : {X : Type 0} (d : X) (xs : List X) → ((i : ℕ) → get_or xs i d ≡ d) → (i : ℕ)
    → get_or (xs ++ d ∷ []) i d ≡ d
defaults_more d [] h zero = refl
defaults_more d [] h (suc i) = refl
defaults_more d (x ∷ xs) h zero = h 0
defaults_more d (x ∷ xs) h (suc i) = defaults_more d xs (λ j. h (suc j)) i

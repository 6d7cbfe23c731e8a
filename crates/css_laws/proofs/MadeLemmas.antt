-- The elements of a tree that was made by its calls name the siblings directly before them.
-- Serves `page_law`.
use Rattle.std.proofs.Common.{◌≡◌, ℕ, zero, suc, ◌<◌, ◌-◌, ◌==◌, Bool, true, false, List, [], ◌∷◌, ◌++◌, length, map, Option, None, Some, IfSome, refl, sym, ap, ◌∙◌, subst, arith}
use Rattle.std.specs.Prelude.{cond, nat_eq, if◌then◌else◌}
use Rattle.std.specs.List.{slice_get, slice_set, slice_index_or}
use Rattle.std.specs.Option.{option_and_then, option_eq}
use Rattle.std.proofs.Math.Decide.{dec_lt}
use Rattle.std.proofs.lemmas.Bool.{lt-ltb}
use Rattle.std.proofs.lemmas.Bool.Decides.{nat_tests}
use Rattle.std.proofs.lemmas.List.{length-append}
use Rattle.css_matching.specs.ListTrees.{lesser, with_parent, parent_by, sibling_by}
use Rattle.css_elements.specs.Rows.{Row, nobody, last_naming, last_child, new_child, row_with, row_in, IsMissing}
use Rattle.css_elements.specs.TreeNodes.{named_parent, named_previous}
use Rattle.css_tree.specs.Counts.{last_below}
use Rattle.css_tree.specs.Pages.{is_sibling, family_under}
use Rattle.css_laws.specs.Pages.{IsMade}
use Rattle.css_laws.specs.Pages.IsMade.{of_none, with_child, with_more, with_others}

-- Only the tests below the number count.
last_same : (f g : ℕ → Bool) (n : ℕ) → ((j : ℕ) → j < n → f j ≡ g j) → last_below f n ≡ last_below g n
last_same f g zero same = refl
last_same f g (suc n) same =
    ap (λ t. cond t (Some n) (last_below f n)) (same n (omega arith))
    ∙ ap (λ o. cond (g n) (Some n) o) (last_same f g n (λ j lt. same j (omega (arith, lt))))

-- What is found is below the number, and its test is true.
pub last_found : (f : ℕ → Bool) (n : ℕ) → IfSome (last_below f n) (λ s. (s < n) × (f s ≡ true))
last_found f zero = tt
last_found f (suc n) = go (f n) refl (last_below f n) (last_found f n)
  where
    go : (t : Bool) → f n ≡ t → (o : Option ℕ) → IfSome o (λ s. (s < n) × (f s ≡ true))
        → IfSome (cond t (Some n) o) (λ s. (s < suc n) × (f s ≡ true))
    go true e o h = (omega arith, e)
    go false e None h = tt
    go false e (Some s) h = (let lt = h.0 in omega (arith, lt), h.1)

-- one further on, or the first
abbrev shifted : Bool → Option ℕ → Option ℕ
shifted first None = cond first (Some 0) None
shifted first (Some i) = Some (suc i)

last_shifted : (f : ℕ → Bool) (n : ℕ)
    → last_below f (suc n) ≡ shifted (f 0) (last_below (λ j. f (suc j)) n)
last_shifted f zero = refl
last_shifted f (suc n) = go (f (suc n)) (last_shifted f n)
  where
    go : (t : Bool) → last_below f (suc n) ≡ shifted (f 0) (last_below (λ j. f (suc j)) n)
        → cond t (Some (suc n)) (last_below f (suc n))
        ≡ shifted (f 0) (cond t (Some n) (last_below (λ j. f (suc j)) n))
    go true e = refl
    go false e = e

naming_shifted : (x parent : Option ℕ) (xs : List (Option ℕ))
    → last_naming (x ∷ xs) parent ≡ shifted (option_eq nat_eq x parent) (last_naming xs parent)
naming_shifted x parent xs = elim (last_naming xs parent) as (λ o. (elim o [
  | Some i ↦ Some (suc i)
  | None ↦ (if option_eq nat_eq x parent then Some 0 else None)
]) ≡ shifted (option_eq nat_eq x parent) o) [ None ↦ refl | Some i ↦ refl ]

-- The last child of a parent is the last element that names it.
last_is : (rows : List Row) (parent : Option ℕ)
    → last_below (λ j. option_eq nat_eq (named_parent rows j) parent) (length rows)
    ≡ last_child rows parent
last_is [] parent = refl
last_is (r ∷ rows) parent =
    last_shifted (λ j. option_eq nat_eq (named_parent (r ∷ rows) j) parent) (length rows)
    ∙ ap (shifted (option_eq nat_eq r.parent parent)) (last_is rows parent)
    ∙ sym (naming_shifted r.parent parent (map (λ row. row.parent) rows))

-- what the row at an index says
abbrev said : (Row → Option ℕ) → List Row → ℕ → Option ℕ
said of rows i = option_and_then of (slice_get rows i)

said_before : (of : Row → Option ℕ) (rows : List Row) (r : Row) (i : ℕ) → i < length rows
    → said of (rows ++ r ∷ []) i ≡ said of rows i
said_before of [] r i lt = absurd (omega (arith, lt))
said_before of (x ∷ rows) r zero lt = refl
said_before of (x ∷ rows) r (suc i) lt = said_before of rows r i (omega (arith, lt))

said_last : (of : Row → Option ℕ) (rows : List Row) (r : Row)
    → said of (rows ++ r ∷ []) (length rows) ≡ of r
said_last of [] r = refl
said_last of (x ∷ rows) r = said_last of rows r

-- A change of a row that keeps what it says changes nothing that is said.
said_changed : (of : Row → Option ℕ) (change : Row → Row) → ((r : Row) → of (change r) ≡ of r)
    → (rows : List Row) (k i : ℕ)
    → said of (slice_set rows k (change (slice_index_or rows k nobody))) i ≡ said of rows i
said_changed of change keeps [] k i = refl
said_changed of change keeps (x ∷ rows) zero zero = keeps x
said_changed of change keeps (x ∷ rows) zero (suc i) = refl
said_changed of change keeps (x ∷ rows) (suc k) zero = refl
said_changed of change keeps (x ∷ rows) (suc k) (suc i) = said_changed of change keeps rows k i

set_length : (rows : List Row) (k : ℕ) (r : Row) → length (slice_set rows k r) ≡ length rows
set_length [] k r = refl
set_length (x ∷ rows) zero r = refl
set_length (x ∷ rows) (suc k) r = let h = set_length rows k r in omega (arith, h)

-- The element at an index names a parent before it, if any, and the last one before it that names the same.
abbrev IsKept : List Row → ℕ → Type 0
IsKept rows i =
    IfSome (named_parent rows i) (λ p. p < i)
    × (named_previous rows i
    ≡ last_below (λ j. option_eq nat_eq (named_parent rows j) (named_parent rows i)) i)

transfer : (rows others : List Row) (i : ℕ)
    → ((j : ℕ) → j < suc i → named_parent others j ≡ named_parent rows j)
    → named_previous others i ≡ named_previous rows i → IsKept rows i → IsKept others i
transfer rows others i same previous kept = (
  subst (λ o. IfSome o (λ p. p < i)) (sym (same i (omega arith))) kept.0,
  previous ∙ kept.1 ∙ last_same (λ j. option_eq nat_eq (named_parent rows j) (named_parent rows i))
      (λ j. option_eq nat_eq (named_parent others j) (named_parent others i)) i
      (λ j lt. ap (λ o. option_eq nat_eq o (named_parent rows i)) (sym (same j (omega (arith, lt))))
      ∙ ap (λ o. option_eq nat_eq (named_parent others j) o) (sym (same i (omega arith)))),
)

there : (parent : Option ℕ) (count : ℕ) → (IsMissing parent count → ⊥) → IfSome parent (λ p. p < count)
there None count h = tt
there (Some p) count h = elim (dec_lt p count) [ yes lt ↦ lt | no ge ↦ absurd (h (omega (arith, ge))) ]

new_kept : (rows : List Row) (parent : Option ℕ) (name : List ℕ)
    → (IsMissing parent (length rows) → ⊥)
    → IsKept (rows ++ new_child rows parent name ∷ []) (length rows)
new_kept rows parent name found =
    let r = new_child rows parent name in
    let own = said_last (λ row. row.parent) rows r in (
      subst (λ o. IfSome o (λ p. p < length rows)) (sym own) (there parent (length rows) found),
      said_last (λ row. row.previous) rows r ∙ sym (last_is rows parent)
          ∙ last_same (λ j. option_eq nat_eq (named_parent rows j) parent)
          (λ j. option_eq nat_eq (named_parent (rows ++ r ∷ []) j)
          (named_parent (rows ++ r ∷ []) (length rows))) (length rows)
          (λ j lt. ap (λ o. option_eq nat_eq o parent) (sym (said_before (λ row. row.parent) rows r j lt))
          ∙ ap (λ o. option_eq nat_eq (named_parent (rows ++ r ∷ []) j) o) (sym own)),
    )

changed_kept : (change : Row → Row) → ((r : Row) → (change r).parent ≡ r.parent)
    → ((r : Row) → (change r).previous ≡ r.previous) → (rows : List Row) (k : ℕ)
    → ((i : ℕ) → i < length rows → IsKept rows i) → (i : ℕ)
    → i < length (slice_set rows k (change (slice_index_or rows k nobody)))
    → IsKept (slice_set rows k (change (slice_index_or rows k nobody))) i
changed_kept change parents previous rows k kept i lt =
    let same = set_length rows k (change (slice_index_or rows k nobody)) in
    transfer rows (slice_set rows k (change (slice_index_or rows k nobody))) i
    (λ j before. said_changed (λ row. row.parent) change parents rows k j)
    (said_changed (λ row. row.previous) change previous rows k i) (kept i (omega (arith, lt, same)))

made_kept : (rows : List Row) → IsMade rows → (i : ℕ) → i < length rows → IsKept rows i
made_kept rows of_none i lt = absurd (omega (arith, lt))
made_kept rows' (with_child {rows = rows} parent name made found) i lt =
    let r = new_child rows parent name in
    let count = length-append rows (r ∷ []) in elim (dec_lt i (length rows)) [
      | yes before ↦ transfer rows (rows ++ r ∷ []) i
          (λ j lt. said_before (λ row. row.parent) rows r j (omega (arith, lt, before)))
          (said_before (λ row. row.previous) rows r i before) (made_kept rows made i before)
      | no after ↦ (let e : length rows ≡ i = omega (arith, lt, after, count) in
          subst (IsKept (rows ++ r ∷ [])) e (new_kept rows parent name found))
    ]
made_kept rows' (with_more {rows = rows} name value made) i lt =
    changed_kept (λ row. row_with row name value) (λ r. refl) (λ r. refl) rows (length rows - 1)
    (made_kept rows made) i lt
made_kept rows' (with_others {rows = rows} index states made) i lt =
    changed_kept (λ row. row_in row states) (λ r. refl) (λ r. refl) rows index (made_kept rows made) i lt

lesser_kept : (i : ℕ) (o : Option ℕ) → IfSome o (λ p. p < i) → lesser i o ≡ o
lesser_kept i None lt = refl
lesser_kept i (Some p) lt = rw (lt-ltb p i lt) refl

same_family : (a b : Option ℕ) → option_eq nat_eq b a ≡ (family_under a == family_under b)
same_family None None = refl
same_family None (Some q) = grind (arith, nat_tests)
same_family (Some p) None = grind (arith, nat_tests)
same_family (Some p) (Some q) = grind (arith, nat_tests)

-- So the previous sibling is the last element before with the same parent.
pub made_in_order : (rows : List Row) → IsMade rows → (i : ℕ) → i < length rows
    → sibling_by (named_parent rows) (named_previous rows) i ≡ last_below (is_sibling rows i) i
made_in_order rows made i lt =
    ap (λ o. with_parent (named_parent rows) (parent_by (named_parent rows) i) (lesser i o)) kept.1
    ∙ found (last_below test i) (last_found test i)
    ∙ last_same test (is_sibling rows i) i (λ j before.
    same_family (named_parent rows i) (named_parent rows j)
    ∙ ap (λ o. family_under o == family_under (named_parent rows j)) (sym (own i lt))
    ∙ ap (λ o. family_under (parent_by (named_parent rows) i) == family_under o)
    (sym (own j (omega (arith, before, lt)))))
  where
    kept : IsKept rows i
    kept = made_kept rows made i lt

    test : ℕ → Bool
    test j = option_eq nat_eq (named_parent rows j) (named_parent rows i)

    own : (j : ℕ) → j < length rows → parent_by (named_parent rows) j ≡ named_parent rows j
    own j within = lesser_kept j (named_parent rows j) (made_kept rows made j within).0

    found : (o : Option ℕ) → IfSome o (λ s. (s < i) × (test s ≡ true))
        → with_parent (named_parent rows) (parent_by (named_parent rows) i) (lesser i o) ≡ o
    found None h = refl
    found (Some s) h =
        let before = h.0 in
        let same : option_eq nat_eq (parent_by (named_parent rows) s) (parent_by (named_parent rows) i)
        ≡ true = ap (λ o. option_eq nat_eq o (parent_by (named_parent rows) i))
        (own s (omega (arith, before, lt)))
        ∙ ap (λ o. option_eq nat_eq (named_parent rows s) o) (own i lt) ∙ h.1 in
        rw (lt-ltb s i h.0, same) refl

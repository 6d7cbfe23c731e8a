-- What is decided for an element, by what is for its parent.
-- Serves `surroundings`.
use Rattle.std.proofs.Common.{◌≡◌, ◌≢◌, ℕ, zero, suc, ◌+◌, ◌<◌, ◌≤◌, ◌⊎◌, inl, inr, Bool, true, false, ◌||◌, ◌&&◌, List, [], ◌∷◌, ◌++◌, length, Option, None, Some, refl, sym, ap, subst, ◌∙◌, arith}
use Rattle.std.specs.Prelude.{◌==◌, codes, nat_eq}
use Rattle.std.specs.List.{slice_get}
use Rattle.std.specs.Option.{option_eq}
use Rattle.std.proofs.lemmas.Bool.Decides.{Decides-eqb, nat_tests, same_from_decides}
use Rattle.std.proofs.lemmas.List.{length-append}
use Rattle.css_matching.specs.ListTrees.{ancestors, ancestors_step, with_those_after}
use Rattle.css_elements.specs.Rows.{Row}
use Rattle.css_elements.specs.TreeNodes.{named_parent}
use Rattle.css_tree.specs.Counts.{any_below, last_below}
use Rattle.css_tree.specs.HtmlElements.{is_named}
use Rattle.css_tree.specs.Pages.{family, family_under, is_sibling, parent_index}
use Rattle.css_tree.specs.Surroundings.{surroundings, surroundings_by, within, at_root, is_legend_of}
use Rattle.css_tree.proofs.Counting.{IsLast, last_below-is, last_or_before, same_or_other}
use Rattle.css_tree.proofs.Numbering.{known_more}

module _ (rows : List Row) (i : ℕ) where
  by_parent : (r : Option ℕ) → parent_index rows i ≡ r
      → surroundings_by rows i (with_those_after (ancestors (named_parent rows)) r) ≡ surroundings rows i
  by_parent r is =
      sym (ap (surroundings_by rows i) (ancestors_step (named_parent rows) i
      ∙ ap (with_those_after (ancestors (named_parent rows))) is))

  -- of an element without a parent
  pub surroundings-root : parent_index rows i ≡ None → at_root rows i ≡ surroundings rows i
  surroundings-root is = by_parent None is

  -- of a child
  pub surroundings-child : (parent : ℕ) → parent_index rows i ≡ Some parent
      → within rows parent i (surroundings rows parent) ≡ surroundings rows i
  surroundings-child parent is = by_parent (Some parent) is

-- ---- the first legend

any_with : (test : ℕ → Bool) (s n : ℕ) → s < n → test s ≡ true → any_below test n ≡ true
any_with test s zero lt is = absurd (omega arith)
any_with test s (suc n) lt is = elim (last_or_before s n lt) [
  | inl same ↦
      ap (λ b. any_below test n || b) (ap test (sym same) ∙ is) ∙ or_true (any_below test n)
  | inr less ↦ ap (λ b. b || test n) (any_with test s n less is)
]
  where
    or_true : (b : Bool) → (b || true) ≡ true
    or_true true = refl
    or_true false = refl

any_without : (test : ℕ → Bool) (n : ℕ) → ((j : ℕ) → j < n → test j ≡ false)
    → any_below test n ≡ false
any_without test zero none = refl
any_without test (suc n) none =
    ap (λ b. b || test n) (any_without test n (λ j lt. none j (omega (arith, lt))))
    ∙ none n (omega arith)

never_zero : (n : ℕ) → (suc n == 0) ≡ false
never_zero n = grind (arith, nat_tests)

sucs_same : (m n : ℕ) → (suc m == suc n) ≡ (n == m)
sucs_same m n =
    same_from_decides (suc m == suc n) (n == m) (Decides-eqb (suc m) (suc n)) (
      (λ h. let e = (Decides-eqb n m).0 h in omega (arith, e)),
      (λ e. (Decides-eqb n m).1 (omega (arith, e))),
    )

same_parent : (parent : ℕ) (r : Option ℕ)
    → (suc parent == family_under r) ≡ option_eq nat_eq r (Some parent)
same_parent parent None = never_zero parent
same_parent parent (Some q) = sucs_same parent q

is_parent : (parent : ℕ) (r : Option ℕ) → option_eq nat_eq r (Some parent) ≡ true → r ≡ Some parent
is_parent parent None is = absurd (cc)
is_parent parent (Some q) is = ap Some ((Decides-eqb q parent).0 is)

and_false : (b : Bool) → (b && false) ≡ false
and_false true = refl
and_false false = refl

module _ (rows : List Row) (parent i : ℕ) where
  -- a sibling that is not after the element: none from it on is a legend before the element
  pub record ArePassed (earlier : ℕ) : Type 0 where
    pub within : earlier ≤ i
    pub under : parent_index rows earlier ≡ Some parent
    pub none : (j : ℕ) → earlier ≤ j → j < i → is_legend_of rows parent j ≡ false

  pub passed-none : parent_index rows i ≡ Some parent → ArePassed i
  passed-none under = record {
    within = omega arith;
    under = under;
    none = λ j low high. absurd (omega (arith, low, high));
  }

  module _ (earlier : ℕ) (so_far : ArePassed earlier) where
    sibling-child : (j : ℕ)
        → is_sibling rows earlier j ≡ option_eq nat_eq (parent_index rows j) (Some parent)
    sibling-child j =
        ap (λ r. family_under r == family rows j) so_far.under
        ∙ same_parent parent (parent_index rows j)

    no-child : (j : ℕ) → is_sibling rows earlier j ≡ false → is_legend_of rows parent j ≡ false
    no-child j other =
        ap (λ b. is_named rows j (codes "legend") && b) (sym (sibling-child j) ∙ other)
        ∙ and_false (is_named rows j (codes "legend"))

    before-or-after : (j n : ℕ) → (j < n) ⊎ (n ≤ j)
    before-or-after j n = grind arith

    -- no sibling is left
    pub passed-all : last_below (is_sibling rows earlier) earlier ≡ None
        → false ≡ any_below (is_legend_of rows parent) i
    passed-all last =
        let is = subst (IsLast (is_sibling rows earlier) earlier) last
        (last_below-is (is_sibling rows earlier) earlier) in
        sym (any_without (is_legend_of rows parent) i (λ j lt. elim (before-or-after j earlier) [
          | inl less ↦ no-child j (is j less)
          | inr more ↦ so_far.none j more lt
        ]))

    -- the next sibling
    module _ (s : ℕ) (last : last_below (is_sibling rows earlier) earlier ≡ Some s) where
      is_last : IsLast (is_sibling rows earlier) earlier (Some s)
      is_last =
          subst (IsLast (is_sibling rows earlier) earlier) last
          (last_below-is (is_sibling rows earlier) earlier)

      child : option_eq nat_eq (parent_index rows s) (Some parent) ≡ true
      child = sym (sibling-child s) ∙ is_last.1

      sooner : s < i
      sooner = let a = is_last.0 in let b = so_far.within in omega (arith, a, b)

      pub passed-legend : is_named rows s (codes "legend") ≡ true
          → true ≡ any_below (is_legend_of rows parent) i
      passed-legend named =
          sym (any_with (is_legend_of rows parent) s i sooner
          (ap (λ b. b && option_eq nat_eq (parent_index rows s) (Some parent)) named ∙ child))

      pub passed-more : is_named rows s (codes "legend") ≡ false → ArePassed s
      passed-more other = record {
        within = (let l = sooner in omega (arith, l));
        under = is_parent parent (parent_index rows s) child;
        none = λ j low high. elim (before-or-after j earlier) [
          | inl less ↦ elim (same_or_other s j) [
            | inl same ↦
                subst (λ k. is_legend_of rows parent k ≡ false) same
                (ap (λ b. b && option_eq nat_eq (parent_index rows s) (Some parent)) other)
            | inr apart ↦ no-child j (is_last.2 j (after j low apart) less)
          ]
          | inr more ↦ so_far.none j more high
        ];
      }
        where
          after : (j : ℕ) → s ≤ j → s ≢ j → s < j
          after j low apart = elim (before-or-after s j) [
            | inl less ↦ less
            | inr more ↦ absurd (apart (omega (arith, low, more)))
          ]

-- ---- what is kept of the elements below an index, and of the one at it

pub images_more : {X : Type 0} (f : ℕ → X) (xs ys : List X) (x : X) (n : ℕ) → ys ≡ xs ++ x ∷ []
    → x ≡ f n → length xs ≡ n → ((i : ℕ) → i < n → slice_get xs i ≡ Some (f i))
    → (length ys ≡ n + 1) × ((i : ℕ) → i < n + 1 → slice_get ys i ≡ Some (f i))
images_more f xs ys x n is of len each = (
  ap length is ∙ length-append xs (x ∷ []) ∙ ap (λ k. k + 1) len,
  λ i lt.
      (let k = known_more (λ j y. y ≡ f j) xs ys x n i is len of (λ j less. (f j, each j less, refl)) lt in
      k.1 ∙ ap Some k.2),
)

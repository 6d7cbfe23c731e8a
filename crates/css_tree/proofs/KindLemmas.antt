-- Kinds of elements: those with one parent and one type.
-- Serves `kinds` and `Numbering`.
use Rattle.std.proofs.Common.{◌≡◌, ℕ, suc, [], ◌+◌, ◌<◌, ◌≤◌, ◌⊎◌, inl, inr, Bool, true, false, ◌&&◌, cond, List, length, Option, None, Some, refl, sym, ap, subst, ◌∙◌, add-one, arith, Bor}
use Rattle.std.specs.Prelude.{◌==◌, EachIndex, bytes_eq, slice_index}
use Rattle.std.proofs.lemmas.List.{get_or_past}
use Rattle.std.specs.BTreeMap.{BTreeMap, get}
use Rattle.std.specs.Bool.{Decides}
use Rattle.std.specs.Cmp.{unsigned_tied}
use Rattle.std.specs.Cmp.Lexicographic.{slice_cmp}
use Rattle.std.specs.Option.{unwrap_or}
use Rattle.std.specs.Ordering.{is_eq, nat_cmp, ordering_then}
use Rattle.std.specs.declared.cmp.Ordering.{Ordering}
use Rattle.std.specs.declared.cmp.Ordering.TheVariants.{Less, Equal, Greater}
use Rattle.std.proofs.lemmas.Bool.Decides.{Decides-eqb, Decides-and, same_from_decides}
use Rattle.std.proofs.lemmas.Map.Text.{is_eq-slice_cmp}
use Rattle.std.proofs.lemmas.Slice.Eq.{bytes_eq-Decides}
use Rattle.css_elements.specs.Rows.{Row}
use Rattle.css_elements.specs.TreeNodes.{name_at}
use Rattle.css_tree.specs.Counts.{count_below, last_below, first_below}
use Rattle.css_tree.specs.GroupViews.{is_in_group}
use Rattle.css_tree.specs.Keys.{KindKey, kind, kind_cmp, has_kind, HasKinds, IsLarge, AreNamed}
use Rattle.css_tree.specs.Pages.{family, have_one_type, is_sibling, is_alike, namespace_at}
use Rattle.css_tree.specs.declared.kinds.TheConstants.{COMPARED}
use Rattle.css_tree.proofs.Counting.{IsLast, last_below-is, first_below-none, first_below-from, first_below-false, first_below-passes, first_below-same}

order : (m n : ℕ) → (m < n) ⊎ ((m ≡ n) ⊎ (n < m))
order m n = grind arith

module _ (rows : List Row) (namespaces : List ℕ) where
  one_type : (i j : ℕ) → Decides (have_one_type rows namespaces i j)
      ((namespace_at namespaces i ≡ namespace_at namespaces j) × (name_at rows i ≡ name_at rows j))
  one_type i j =
      Decides-and (namespace_at namespaces i == namespace_at namespaces j)
      (bytes_eq (name_at rows i) (name_at rows j))
      (Decides-eqb (namespace_at namespaces i) (namespace_at namespaces j))
      (bytes_eq-Decides (name_at rows i) (name_at rows j))

  -- two elements are alike: they have one family, one namespace and one name
  alike : (i j : ℕ) → Decides (is_alike rows namespaces i j) ((family rows i ≡ family rows j)
      × ((namespace_at namespaces i ≡ namespace_at namespaces j) × (name_at rows i ≡ name_at rows j)))
  alike i j =
      Decides-and (family rows i == family rows j) (have_one_type rows namespaces i j)
      (Decides-eqb (family rows i) (family rows j)) (one_type i j)

  alike-self : (i : ℕ) → is_alike rows namespaces i i ≡ true
  alike-self i = (alike i i).1 (refl, (refl, refl))

  alike-with : (i s : ℕ) → is_alike rows namespaces i s ≡ true → (j : ℕ)
      → is_alike rows namespaces i j ≡ is_alike rows namespaces s j
  alike-with i s is j =
      let e = (alike i s).0 is in
      ap (λ f. f == family rows j && have_one_type rows namespaces i j) e.0
      ∙ ap (λ m. family rows s == family rows j
      && (m == namespace_at namespaces j && bytes_eq (name_at rows i) (name_at rows j))) e.1.0
      ∙ ap (λ n. family rows s == family rows j
      && (namespace_at namespaces s == namespace_at namespaces j && bytes_eq n (name_at rows j))) e.1.1

  -- an element that is like an earlier one is of its kind
  kind-alike : (i s : ℕ) → s < i → is_alike rows namespaces i s ≡ true
      → kind rows namespaces i ≡ kind rows namespaces s
  kind-alike i s lt is =
      ap (λ r. unwrap_or r i)
      (first_below-same (is_alike rows namespaces i) (is_alike rows namespaces s) i (alike-with i s is)
      ∙ first_below-from (is_alike rows namespaces s) s i (alike-self s) lt)

  -- an element that is like no earlier one
  kind-first : (i : ℕ) → ((j : ℕ) → j < i → is_alike rows namespaces i j ≡ false)
      → kind rows namespaces i ≡ i
  kind-first i none =
      ap (λ r. unwrap_or r i) (first_below-none (is_alike rows namespaces i) i none)

  kind_is : (i : ℕ) → (kind rows namespaces i ≤ i)
      × (is_alike rows namespaces i (kind rows namespaces i) ≡ true)
  kind_is i = of (first_below (is_alike rows namespaces i) i) refl
    where
      of : (r : Option ℕ) → first_below (is_alike rows namespaces i) i ≡ r
          → (unwrap_or r i ≤ i) × (is_alike rows namespaces i (unwrap_or r i) ≡ true)
      of None is = (omega arith, alike-self i)
      of (Some p) is =
          let h = first_below-passes (is_alike rows namespaces i) i p is in
          let l = h.0 in (omega (arith, l), h.1)

  pub kind-at_most : (i : ℕ) → kind rows namespaces i ≤ i
  kind-at_most i = (kind_is i).0

  kinds_alike : (i j : ℕ) → is_alike rows namespaces i j ≡ true
      → kind rows namespaces i ≡ kind rows namespaces j
  kinds_alike i j is = elim (order i j) [
    | inl less ↦
        (let e = (alike i j).0 is in
        sym (kind-alike j i less ((alike j i).1 (sym e.0, (sym e.1.0, sym e.1.1)))))
    | inr more ↦ elim more [
      | inl same ↦ ap (kind rows namespaces) same
      | inr greater ↦ kind-alike i j greater is
    ]
  ]

  alike_kinds : (i j : ℕ) → kind rows namespaces i ≡ kind rows namespaces j
      → is_alike rows namespaces i j ≡ true
  alike_kinds i j same =
      let e = (alike i (kind rows namespaces i)).0 (kind_is i).1 in
      let f = (alike j (kind rows namespaces j)).0 (kind_is j).1 in
      (alike i j).1 (
        e.0 ∙ ap (family rows) same ∙ sym f.0,
        (
          e.1.0 ∙ ap (namespace_at namespaces) same ∙ sym f.1.0,
          e.1.1 ∙ ap (name_at rows) same ∙ sym f.1.1,
        ),
      )

  -- two elements are of one kind if they are alike
  pub kind-test : (i j : ℕ)
      → (kind rows namespaces i == kind rows namespaces j) ≡ is_alike rows namespaces i j
  kind-test i j =
      same_from_decides (kind rows namespaces i == kind rows namespaces j) (is_alike rows namespaces i j)
      (Decides-eqb (kind rows namespaces i) (kind rows namespaces j)) (kinds_alike i j, alike_kinds i j)

  -- ---- earlier siblings, one after another

  -- an earlier sibling, or the element itself, from which on none is like the element
  pub record IsCompared (i earlier : ℕ) : Type 0 where
    pub within : earlier ≤ i
    pub sibling : family rows i ≡ family rows earlier
    pub unlike : (j : ℕ) → earlier ≤ j → j < i → is_alike rows namespaces i j ≡ false

  pub compared-none : (i : ℕ) → IsCompared i i
  compared-none i = record {
    within = omega arith;
    sibling = refl;
    unlike = λ j low high. absurd (omega (arith, low, high));
  }

  module _ (i earlier : ℕ) (so_far : IsCompared i earlier) where
    -- elements of another family
    unlike-family : (j : ℕ) → is_sibling rows earlier j ≡ false
        → is_alike rows namespaces i j ≡ false
    unlike-family j none =
        ap (λ b. b && have_one_type rows namespaces i j)
        (ap (λ f. f == family rows j) so_far.sibling ∙ none)

    unlike-type : (j : ℕ) → have_one_type rows namespaces i j ≡ false
        → is_alike rows namespaces i j ≡ false
    unlike-type j none = ap (λ b. is_sibling rows i j && b) none ∙ and_false (is_sibling rows i j)
      where
        and_false : (b : Bool) → (b && false) ≡ false
        and_false true = refl
        and_false false = refl

    before-or-after : (j n : ℕ) → (j < n) ⊎ (n ≤ j)
    before-or-after j n = grind arith

    -- no sibling is left
    pub compared-all : last_below (is_sibling rows earlier) earlier ≡ None → kind rows namespaces i ≡ i
    compared-all none =
        let is = subst (IsLast (is_sibling rows earlier) earlier) none
        (last_below-is (is_sibling rows earlier) earlier) in
        kind-first i (λ j lt. elim (before-or-after j earlier) [
          | inl less ↦ unlike-family j (is j less)
          | inr more ↦ so_far.unlike j more lt
        ])

    -- the next sibling
    module _ (s : ℕ) (last : last_below (is_sibling rows earlier) earlier ≡ Some s) where
      is_last : IsLast (is_sibling rows earlier) earlier (Some s)
      is_last =
          subst (IsLast (is_sibling rows earlier) earlier) last
          (last_below-is (is_sibling rows earlier) earlier)

      same_family : family rows i ≡ family rows s
      same_family = so_far.sibling ∙ (Decides-eqb (family rows earlier) (family rows s)).0 is_last.1

      pub sooner : s < i
      sooner = let a = is_last.0 in let b = so_far.within in omega (arith, a, b)

      pub compared-more : have_one_type rows namespaces i s ≡ false → IsCompared i s
      compared-more other = record {
        within = (let l = sooner in omega (arith, l));
        sibling = same_family;
        unlike = λ j low high. elim (before-or-after j earlier) [
          | inl less ↦ elim (order s j) [
            | inl after ↦ unlike-family j (is_last.2 j after less)
            | inr more ↦ elim more [
              | inl same ↦ ap (is_alike rows namespaces i) (sym same) ∙ unlike-type s other
              | inr before ↦ absurd (omega (arith, low, before))
            ]
          ]
          | inr more ↦ so_far.unlike j more high
        ];
      }

      -- it has the element's type, so it is like the element
      pub compared-alike : have_one_type rows namespaces i s ≡ true
          → is_alike rows namespaces i s ≡ true
      compared-alike same = (alike i s).1 (same_family, (one_type i s).0 same)

      pub compared-same : have_one_type rows namespaces i s ≡ true
          → kind rows namespaces i ≡ kind rows namespaces s
      compared-same same = kind-alike i s sooner (compared-alike same)

-- ---- no namespaces

pub none_spaced : (namespaces : List ℕ) → EachIndex namespaces (λ k. slice_index namespaces k ≡ 0)
    → (i : ℕ) → namespace_at namespaces i ≡ 0
none_spaced namespaces each i = elim (within i (length namespaces)) [
  | inl less ↦ each i less
  | inr more ↦ get_or_past namespaces i 0 more
]
  where
    within : (m n : ℕ) → (m < n) ⊎ (n ≤ m)
    within m n = grind arith

-- elements that are all in no namespace are of the kinds that they have without namespaces
pub kinds-unspaced : (rows : List Row) (namespaces kinds : List ℕ) (n : ℕ)
    → ((i : ℕ) → namespace_at namespaces i ≡ 0) → HasKinds rows [] kinds n
    → HasKinds rows namespaces kinds n
kinds-unspaced rows namespaces kinds n none are = record {
  all = are.all;
  each = λ i lt. are.each i lt ∙ ap (λ r. Some (unwrap_or r i))
      (first_below-same (is_alike rows [] i) (is_alike rows namespaces i) i (same i));
}
  where
    same : (i j : ℕ) → is_alike rows [] i j ≡ is_alike rows namespaces i j
    same i j = λ t. is_sibling rows i j
        && (sym (none i) t == sym (none j) t && bytes_eq (name_at rows i) (name_at rows j))

-- ---- kinds by families, namespaces and names

both_equal : (r s : Ordering) → is_eq (ordering_then r s) ≡ is_eq r && is_eq s
both_equal Less s = refl
both_equal Equal s = refl
both_equal Greater s = refl

-- a number and a name that are equal
pub equal_keys : (a b : ℕ × Bor (List ℕ))
    → is_eq (ordering_then (nat_cmp a.0 b.0) (slice_cmp nat_cmp a.1.now b.1.now))
    ≡ (a.0 == b.0 && bytes_eq a.1.now b.1.now)
equal_keys a b =
    both_equal (nat_cmp a.0 b.0) (slice_cmp nat_cmp a.1.now b.1.now)
    ∙ ap (λ x. x && is_eq (slice_cmp nat_cmp a.1.now b.1.now)) (unsigned_tied a.0 b.0)
    ∙ ap (λ x. a.0 == b.0 && x) (is_eq-slice_cmp a.1.now b.1.now)

pub flipped : (a b : ℕ) (x y : List ℕ) → (a == b && bytes_eq x y) ≡ (b == a && bytes_eq y x)
flipped a b x y =
    ap (λ t. t && bytes_eq x y) (same_from_decides (a == b) (b == a) (Decides-eqb a b)
    ((λ h. sym ((Decides-eqb b a).0 h)), (λ e. (Decides-eqb b a).1 (sym e))))
    ∙ ap (λ t. b == a && t) (same_from_decides (bytes_eq x y) (bytes_eq y x) (bytes_eq-Decides x y)
    ((λ h. sym ((bytes_eq-Decides y x).0 h)), (λ e. (bytes_eq-Decides y x).1 (sym e))))

-- keys that are equal have one family, one namespace and one name
equal_kinds : (a b : KindKey) → Decides (is_eq (kind_cmp a b))
    ((a.0 ≡ b.0) × ((a.1 ≡ b.1) × (a.2.now ≡ b.2.now)))
equal_kinds a b =
    subst (λ t. Decides t ((a.0 ≡ b.0) × ((a.1 ≡ b.1) × (a.2.now ≡ b.2.now)))) (sym is)
    (Decides-and (a.0 == b.0) (a.1 == b.1 && bytes_eq a.2.now b.2.now) (Decides-eqb a.0 b.0)
    (Decides-and (a.1 == b.1) (bytes_eq a.2.now b.2.now) (Decides-eqb a.1 b.1)
    (bytes_eq-Decides a.2.now b.2.now)))
  where
    each_and : (x y z : Bool) → ((x && y) && z) ≡ (x && (y && z))
    each_and true y z = refl
    each_and false y z = refl

    is : is_eq (kind_cmp a b) ≡ (a.0 == b.0 && (a.1 == b.1 && bytes_eq a.2.now b.2.now))
    is =
        both_equal (ordering_then (nat_cmp a.0 b.0) (nat_cmp a.1 b.1))
        (slice_cmp nat_cmp a.2.now b.2.now)
        ∙ ap (λ x. x && is_eq (slice_cmp nat_cmp a.2.now b.2.now))
        (both_equal (nat_cmp a.0 b.0) (nat_cmp a.1 b.1))
        ∙ ap (λ x. (x && is_eq (nat_cmp a.1 b.1)) && is_eq (slice_cmp nat_cmp a.2.now b.2.now))
        (unsigned_tied a.0 b.0)
        ∙ ap (λ x. (a.0 == b.0 && x) && is_eq (slice_cmp nat_cmp a.2.now b.2.now))
        (unsigned_tied a.1 b.1)
        ∙ ap (λ x. (a.0 == b.0 && a.1 == b.1) && x) (is_eq-slice_cmp a.2.now b.2.now)
        ∙ each_and (a.0 == b.0) (a.1 == b.1) (bytes_eq a.2.now b.2.now)

-- a family that has more members than are compared
pub large-family : (families : List ℕ) (number family count : ℕ) → number ≡ family
    → count ≡ count_below (is_in_group families number) (length families) → COMPARED < count
    → IsLarge families family
large-family families number family count of counted more =
    subst (IsLarge families) of (subst (λ n. COMPARED < n) counted more)

module _ (rows : List Row) (namespaces families : List ℕ) (n : ℕ) where
  kind_has : (key : KindKey) (j : ℕ) → Decides (has_kind rows namespaces key j)
      ((key.0 ≡ family rows j)
      × ((key.1 ≡ namespace_at namespaces j) × (key.2.now ≡ name_at rows j)))
  kind_has key j =
      Decides-and (key.0 == family rows j)
      (key.1 == namespace_at namespaces j && bytes_eq key.2.now (name_at rows j))
      (Decides-eqb key.0 (family rows j))
      (Decides-and (key.1 == namespace_at namespaces j) (bytes_eq key.2.now (name_at rows j))
      (Decides-eqb key.1 (namespace_at namespaces j)) (bytes_eq-Decides key.2.now (name_at rows j)))

  -- the key of an element
  key-alike : (key : KindKey) → has_kind rows namespaces key n ≡ true → (j : ℕ)
      → has_kind rows namespaces key j ≡ is_alike rows namespaces n j
  key-alike key has j =
      let e = (kind_has key n).0 has in
      ap (λ f. f == family rows j
      && (key.1 == namespace_at namespaces j && bytes_eq key.2.now (name_at rows j))) e.0
      ∙ ap (λ m. family rows n == family rows j
      && (m == namespace_at namespaces j && bytes_eq key.2.now (name_at rows j))) e.1.0
      ∙ ap (λ m. family rows n == family rows j
      && (namespace_at namespaces n == namespace_at namespaces j && bytes_eq m (name_at rows j))) e.1.1

  -- an element that is like an earlier one
  pub named-again : (s : ℕ) (old : BTreeMap KindKey ℕ) → s < n → is_alike rows namespaces n s ≡ true
      → AreNamed rows namespaces families old n → AreNamed rows namespaces families old (n + 1)
  named-again s old lt is are key large =
      rw add-one (are key large ∙ of (has_kind rows namespaces key n) refl)
    where
      test : ℕ → Bool
      test = has_kind rows namespaces key

      of : (b : Bool) → test n ≡ b → first_below test n ≡ first_below test (suc n)
      of false none = sym (first_below-false test n none)
      of true has =
          let there : test s ≡ true = key-alike key has s ∙ is in
          first_below-from test s n there lt
          ∙ sym (first_below-from test s (suc n) there (omega (arith, lt)))

  module _ (key : KindKey) (of : key.0 ≡ family rows n) (inside : key.1 ≡ namespace_at namespaces n)
      (named : key.2.now ≡ name_at rows n) where
    own : has_kind rows namespaces key n ≡ true
    own = (kind_has key n).1 (of, (inside, named))

    first_known : (old : BTreeMap KindKey ℕ) → IsLarge families (family rows n)
        → AreNamed rows namespaces families old n
        → get kind_cmp old key ≡ first_below (is_alike rows namespaces n) n
    first_known old large are =
        are key (subst (IsLarge families) (sym of) large)
        ∙ first_below-same (has_kind rows namespaces key) (is_alike rows namespaces n) n
        (key-alike key own)

    -- a key that the map has
    pub named-found : (old : BTreeMap KindKey ℕ) (k : ℕ) → IsLarge families (family rows n)
        → AreNamed rows namespaces families old n → get kind_cmp old key ≡ Some k
        → (k ≡ kind rows namespaces n) × AreNamed rows namespaces families old (n + 1)
    named-found old k large are is =
        let first : first_below (is_alike rows namespaces n) n ≡ Some k =
        sym (first_known old large are) ∙ is in
        let p = first_below-passes (is_alike rows namespaces n) n k first in (
          sym (ap (λ r. unwrap_or r n) first),
          named-again k old p.0 p.1 are,
        )

    -- a new key
    pub named-new : (old new : BTreeMap KindKey ℕ) → IsLarge families (family rows n)
        → AreNamed rows namespaces families old n → get kind_cmp old key ≡ None
        → ((q : KindKey) → get kind_cmp new q
        ≡ cond (is_eq (kind_cmp key q)) (Some n) (get kind_cmp old q))
        → (n ≡ kind rows namespaces n) × AreNamed rows namespaces families new (n + 1)
    named-new old new large are is updates =
        let first : first_below (is_alike rows namespaces n) n ≡ None =
        sym (first_known old large are) ∙ is in (
          sym (ap (λ r. unwrap_or r n) first),
          λ q more. rw add-one (updates q ∙ ap (λ b. cond b (Some n) (get kind_cmp old q)) (equal q)
              ∙ step q more first (has_kind rows namespaces q n) refl),
        )
      where
        equal : (q : KindKey) → is_eq (kind_cmp key q) ≡ has_kind rows namespaces q n
        equal q =
            same_from_decides (is_eq (kind_cmp key q)) (has_kind rows namespaces q n)
            (equal_kinds key q) (
              (λ h. let e = (kind_has q n).0 h in
                  (of ∙ sym e.0, (inside ∙ sym e.1.0, named ∙ sym e.1.1))),
              (λ e. (kind_has q n).1 (sym e.0 ∙ of, (sym e.1.0 ∙ inside, sym e.1.1 ∙ named))),
            )

        step : (q : KindKey) → IsLarge families q.0
            → first_below (is_alike rows namespaces n) n ≡ None → (b : Bool)
            → has_kind rows namespaces q n ≡ b
            → cond (has_kind rows namespaces q n) (Some n) (get kind_cmp old q)
            ≡ first_below (has_kind rows namespaces q) (suc n)
        step q more first false none =
            ap (λ b. cond b (Some n) (get kind_cmp old q)) none
            ∙ are q more ∙ sym (first_below-false (has_kind rows namespaces q) n none)
        step q more first true has =
            ap (λ b. cond b (Some n) (get kind_cmp old q)) has
            ∙ sym (first_below-from (has_kind rows namespaces q) n (suc n) has (omega arith)
            ∙ ap (λ r. Some (unwrap_or r n))
            (first_below-same (has_kind rows namespaces q) (is_alike rows namespaces n) n
            (key-alike q has) ∙ first))

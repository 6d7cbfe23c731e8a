-- The parents and previous siblings in a list of depths that grows. These are proofs: they are in
-- this folder since the laws of an element, which a trait requires, use them (`ElementLaws`).
use Rattle.std.proofs.Common.{◌≡◌, ℕ, ◌<◌, ◌≤◌, Bool, true, false, cond, List, [], ◌∷◌, ◌++◌, length, take, get_or, refl, sym, ap, ◌∙◌, subst, arith, Option, None, Some, IfSome, ⊎_elim}
use Rattle.std.specs.Prelude.{nat_le, nat_lt, ◌==◌}
use Rattle.std.proofs.lemmas.Bool.{cases_order}
use Rattle.std.proofs.lemmas.Bool.Decides.{nat_tests}
use Rattle.std.proofs.lemmas.Grind.{common_steps}
use Rattle.std.proofs.lemmas.List.{take-append-le, take_all, length-take, length-take-le, get_or-take}
use Rattle.cssq_tree.specs.ParentsAndSiblings.{last_index, parent_index, nearest_index, previous_index}
use Rattle.cssq_tree.specs.internal.LastIndices.{IsLast, last_index_is, last_index_of}

module _ (ds : List ℕ) (d : ℕ) where
  pub at_old : (i : ℕ) → i < length ds → get_or (ds ++ d ∷ []) i 0 ≡ get_or ds i 0
  at_old i within = grind (arith, common_steps)

  pub at_new : get_or (ds ++ d ∷ []) (length ds) 0 ≡ d
  at_new = grind (arith, common_steps)

  take_old : (i : ℕ) → i ≤ length ds → take i (ds ++ d ∷ []) ≡ take i ds
  take_old i le = take-append-le i ds (d ∷ []) le

  take_new : take (length ds) (ds ++ d ∷ []) ≡ ds
  take_new = take_old (length ds) (omega arith) ∙ take_all (length ds) ds (omega arith)

  pub parent_old : (i : ℕ) → i < length ds → parent_index (ds ++ d ∷ []) i ≡ parent_index ds i
  parent_old i within =
      λ k. last_index (λ x. nat_lt x (at_old i within k)) (take_old i (omega arith) k)

  pub parent_new : parent_index (ds ++ d ∷ []) (length ds) ≡ last_index (λ x. nat_lt x d) ds
  parent_new = λ k. last_index (λ x. nat_lt x (at_new k)) (take_new k)

  nearest_old : (i : ℕ) → i < length ds → nearest_index (ds ++ d ∷ []) i ≡ nearest_index ds i
  nearest_old i within =
      λ k. last_index (λ x. nat_le x (at_old i within k)) (take_old i (omega arith) k)

  nearest_new : nearest_index (ds ++ d ∷ []) (length ds) ≡ last_index (λ x. nat_le x d) ds
  nearest_new = λ k. last_index (λ x. nat_le x (at_new k)) (take_new k)

-- the nearest, if its depth is equal
abbrev pub equal_at : List ℕ → ℕ → Option ℕ → Option ℕ
equal_at ds depth None = None
equal_at ds depth (Some j) = cond (get_or ds j 0 == depth) (Some j) None

previous_by : (ds : List ℕ) (i : ℕ) (r : Option ℕ)
    → elim r [ None ↦ None | Some j ↦ cond (get_or ds j 0 == get_or ds i 0) (Some j) None ]
    ≡ equal_at ds (get_or ds i 0) r
previous_by ds i None = refl
previous_by ds i (Some j) = refl

pub previous_is : (ds : List ℕ) (i : ℕ)
    → previous_index ds i ≡ equal_at ds (get_or ds i 0) (nearest_index ds i)
previous_is ds i = previous_by ds i (nearest_index ds i)

last_within : (test : ℕ → Bool) (xs : List ℕ) (r : Option ℕ) → IsLast test xs r
    → IfSome r (λ i. i < length xs)
last_within test xs None last = tt
last_within test xs (Some i) last = last.0

pub nearest_within : (test : ℕ → Bool) (xs : List ℕ)
    → IfSome (last_index test xs) (λ i. i < length xs)
nearest_within test xs = last_within test xs (last_index test xs) (last_index_is test xs)

equal_old : (ds : List ℕ) (d depth : ℕ) (r : Option ℕ) → IfSome r (λ j. j < length ds)
    → equal_at (ds ++ d ∷ []) depth r ≡ equal_at ds depth r
equal_old ds d depth None within = refl
equal_old ds d depth (Some j) within =
    ap (λ x. cond (x == depth) (Some j) None) (at_old ds d j within)

pub within_longer : (r : Option ℕ) (m n : ℕ) → m ≤ n → IfSome r (λ j. j < m) → IfSome r (λ j. j < n)
within_longer None m n le within = tt
within_longer (Some j) m n le within = omega (arith, within)

module _ (ds : List ℕ) (d : ℕ) where
  pub previous_old : (i : ℕ) → i < length ds → previous_index (ds ++ d ∷ []) i ≡ previous_index ds i
  previous_old i within =
      let le : i ≤ length ds = omega arith in
      let few : IfSome (nearest_index ds i) (λ j. j < length ds) =
      within_longer (nearest_index ds i) (length (take i ds)) (length ds)
      (rw (length-take-le i ds) le)
      (nearest_within (λ x. nat_le x (get_or ds i 0)) (take i ds)) in
      previous_is (ds ++ d ∷ []) i
      ∙ (λ k. equal_at (ds ++ d ∷ []) (at_old ds d i within k) (nearest_old ds d i within k))
      ∙ equal_old ds d (get_or ds i 0) (nearest_index ds i) few
      ∙ sym (previous_is ds i)

  pub previous_new :
      previous_index (ds ++ d ∷ []) (length ds) ≡ equal_at ds d (last_index (λ x. nat_le x d) ds)
  previous_new =
      previous_is (ds ++ d ∷ []) (length ds)
      ∙ (λ k. equal_at (ds ++ d ∷ []) (at_new ds d k) (nearest_new ds d k))
      ∙ equal_old ds d d (last_index (λ x. nat_le x d) ds) (nearest_within (λ x. nat_le x d) ds)

not_lt_from : (x d : ℕ) → nat_le x d ≡ false → nat_lt x d ≡ false
not_lt_from x d fails = grind (arith, nat_tests)

not_lt_self : (x d : ℕ) → x ≡ d → nat_lt x d ≡ false
not_lt_self x d e = grind (arith, nat_tests)

is_lt_from : (x d : ℕ) → nat_le x d ≡ true → (x ≡ d → ⊥) → nat_lt x d ≡ true
is_lt_from x d le ne = grind (arith, nat_tests)

eq_test : (x d : ℕ) → x ≡ d → (x == d) ≡ true
eq_test x d e = grind (arith, nat_tests)

ne_test : (x d : ℕ) → (x ≡ d → ⊥) → (x == d) ≡ false
ne_test x d e = grind (arith, nat_tests)

moved : {x y a b : ℕ} {t : Bool} → x ≡ y → a ≡ b → nat_lt x a ≡ t → nat_lt y b ≡ t
moved {x} {y} {a} {b} p q h =
    let back : y ≡ x = sym p in let under : b ≡ a = sym q in (λ k. nat_lt (back k) (under k)) ∙ h

inside_front : (ds : List ℕ) (i k : ℕ) → i < length ds → k < i → k < length (take i ds)
inside_front ds i k within before =
    let le : i ≤ length ds = omega arith in
    rw (length-take-le i ds) before

front_inside : (ds : List ℕ) (i k : ℕ) → i < length ds → k < length (take i ds) → k < i
front_inside ds i k within before =
    let le : i ≤ length ds = omega arith in
    rw (length-take-le i ds) at before

-- the parent and the previous sibling of an element after the list, by the nearest element
module _ (ds : List ℕ) (d : ℕ) where
  pub none_near : None ≡ last_index (λ x. nat_le x d) ds
      → (None ≡ last_index (λ x. nat_lt x d) ds)
      × (None ≡ equal_at ds d (last_index (λ x. nat_le x d) ds))
  none_near is =
      let none = subst (IsLast (λ x. nat_le x d) ds) (sym is) (last_index_is _ ds) in
      (last_index_of _ ds None (λ k lt. not_lt_from _ d (none k lt)), ap (equal_at ds d) is)

  pub lesser_near : (i : ℕ) → Some i ≡ last_index (λ x. nat_le x d) ds → (get_or ds i 0 ≡ d → ⊥)
      → (Some i ≡ last_index (λ x. nat_lt x d) ds)
      × (None ≡ equal_at ds d (last_index (λ x. nat_le x d) ds))
  lesser_near i is ne =
      let last : IsLast (λ x. nat_le x d) ds (Some i) =
      subst (IsLast (λ x. nat_le x d) ds) (sym is) (last_index_is _ ds) in (
        last_index_of _ ds (Some i) (
          last.0,
          is_lt_from _ d last.1 ne,
          λ k after within. not_lt_from _ d (last.2 k after within),
        ),
        sym (ap (λ b. cond b (Some i) None) (ne_test _ d ne)) ∙ ap (equal_at ds d) is,
      )

  parent_of_equal : (i : ℕ) (r : Option ℕ) → IsLast (λ x. nat_le x d) ds (Some i)
      → get_or ds i 0 ≡ d
      → IsLast (λ x. nat_lt x (get_or ds i 0)) (take i ds) r → IsLast (λ x. nat_lt x d) ds r
  parent_of_equal i None last e none =
      λ k within. ⊎_elim
      (λ same. not_lt_self _ d (ap (λ k. get_or ds k 0) same ∙ e))
      (⊎_elim
      (λ before. moved (get_or-take i ds k 0 before) e (none k (inside_front ds i k last.0 before)))
      (λ after. not_lt_from _ d (last.2 k after within)))
      (cases_order k i)
  parent_of_equal i (Some j) last e found =
      let before : j < i = front_inside ds i j last.0 found.0 in (
        omega (arith, before, last.0),
        moved (get_or-take i ds j 0 before) e found.1,
        λ k above within. ⊎_elim
            (λ same. not_lt_self _ d (ap (λ k. get_or ds k 0) same ∙ e))
            (⊎_elim
            (λ under. moved (get_or-take i ds k 0 under) e
            (found.2 k above (inside_front ds i k last.0 under)))
            (λ after. not_lt_from _ d (last.2 k after within)))
            (cases_order k i),
      )

  pub equal_near : (i : ℕ) (r : Option ℕ) → Some i ≡ last_index (λ x. nat_le x d) ds
      → get_or ds i 0 ≡ d
      → r ≡ parent_index ds i
      → (r ≡ last_index (λ x. nat_lt x d) ds)
      × (Some i ≡ equal_at ds d (last_index (λ x. nat_le x d) ds))
  equal_near i r is e parent =
      let last : IsLast (λ x. nat_le x d) ds (Some i) =
      subst (IsLast (λ x. nat_le x d) ds) (sym is) (last_index_is _ ds) in
      let found : IsLast (λ x. nat_lt x (get_or ds i 0)) (take i ds) r =
      subst (IsLast (λ x. nat_lt x (get_or ds i 0)) (take i ds)) (sym parent)
      (last_index_is _ (take i ds)) in (
        last_index_of _ ds r (parent_of_equal i r last e found),
        sym (ap (λ b. cond b (Some i) None) (eq_test _ d e)) ∙ ap (equal_at ds d) is,
      )

pub parent_within : (ds : List ℕ) (i : ℕ) → IfSome (parent_index ds i) (λ j. j < i)
parent_within ds i =
    within_longer (parent_index ds i) (length (take i ds)) i (omega (arith, length-take i ds))
    (nearest_within (λ x. nat_lt x (get_or ds i 0)) (take i ds))

pub nearest_before : (ds : List ℕ) (i : ℕ) → IfSome (nearest_index ds i) (λ j. j < i)
nearest_before ds i =
    within_longer (nearest_index ds i) (length (take i ds)) i (omega (arith, length-take i ds))
    (nearest_within (λ x. nat_le x (get_or ds i 0)) (take i ds))

kept : (b : Bool) (i j : ℕ) → j < i → IfSome (cond b (Some j) None) (λ j. j < i)
kept true i j lt = lt
kept false i j lt = tt

equal_within : (ds : List ℕ) (depth i : ℕ) (r : Option ℕ) → IfSome r (λ j. j < i)
    → IfSome (equal_at ds depth r) (λ j. j < i)
equal_within ds depth i None within = tt
equal_within ds depth i (Some j) within = kept (get_or ds j 0 == depth) i j within

pub previous_within : (ds : List ℕ) (i : ℕ) → IfSome (previous_index ds i) (λ j. j < i)
previous_within ds i =
    subst (λ r. IfSome r (λ j. j < i)) (sym (previous_is ds i))
    (equal_within ds (get_or ds i 0) i (nearest_index ds i) (nearest_before ds i))

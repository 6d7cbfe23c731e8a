-- Last places of numbers in a list.
-- Serves `Numbers`.
use Rattle.std.proofs.Common.{◌≡◌, ℕ, ◌+◌, ◌<◌, ◌≤◌, ◌⊎◌, ◌↔◌, inl, inr, List, [], ◌∷◌, ◌++◌, length, get_or, set, take, drop, refl, sym, ap, ◌∙◌, subst, arith, get_or-set_other, length-set, length-append}
use Rattle.std.specs.Prelude.{reverse}
use Rattle.std.specs.List.{Contains}
use Rattle.std.proofs.lemmas.Grind.{get_or-set_at, common_steps}
use Rattle.std.proofs.lemmas.List.{take-append-drop, take_at, drop_at, drop-append-le, drop_all, map-append, length-map, length_push, reverse-reverse}
use Rattle.std.proofs.lemmas.List.Elements.{Contains-append_left, Contains-append_cases, Contains-append_right, Contains-push_cases, Contains-push}
use Rattle.css_open_elements.specs.internal.{IsLastPlace, numbers_of, AreBefore, AreLasts, AreMarks}
use Rattle.css_open_elements.specs.Opened.{opened_of, IsOpen}

equal_or_not : (m n : ℕ) → (m ≡ n) ⊎ (m ≡ n → ⊥)
equal_or_not m n = grind arith

order : (m n : ℕ) → (m ≤ n) ⊎ (n < m)
order m n = grind arith

none_in : (number : ℕ) → Contains [] number → ⊥
none_in number c = omega (arith, c.1)

pub last_same : (xs : List ℕ) (n : ℕ) → IsLastPlace (xs ++ n ∷ []) n (length xs + 1)
last_same xs n m = (
  λ lt. let le : m ≤ length xs = omega (arith, lt) in
      subst (λ ys. Contains ys n) (sym (drop-append-le m xs (n ∷ []) le)) (Contains-push (drop m xs) n),
  λ c. at c (order m (length xs)),
)
  where
    at : Contains (drop m (xs ++ n ∷ [])) n → (m ≤ length xs) ⊎ (length xs < m) → m < length xs + 1
    at c (inl le) = omega (arith, le)
    at c (inr lt) = absurd (none_in n (subst (λ ys. Contains ys n)
        (drop_all m (xs ++ n ∷ []) (omega (arith, lt, length_push xs n))) c))

contains_other : (xs : List ℕ) (x n m : ℕ) → (x ≡ n → ⊥)
    → Contains (drop m (xs ++ x ∷ [])) n ↔ Contains (drop m xs) n
contains_other xs x n m differs = at (order m (length xs))
  where
    at : (m ≤ length xs) ⊎ (length xs < m)
        → Contains (drop m (xs ++ x ∷ [])) n ↔ Contains (drop m xs) n
    at (inl le) = (
      λ c. elim (Contains-push_cases (drop m xs) x n
          (subst (λ ys. Contains ys n) (drop-append-le m xs (x ∷ []) le) c)) [
            | inl k ↦ k
            | inr e ↦ absurd (differs e)
          ],
      λ c. subst (λ ys. Contains ys n) (sym (drop-append-le m xs (x ∷ []) le))
          (Contains-append_left (drop m xs) (x ∷ []) n c),
    )
    at (inr lt) = (
      λ c. absurd (none_in n (subst (λ ys. Contains ys n)
          (drop_all m (xs ++ x ∷ []) (omega (arith, lt, length_push xs x))) c)),
      λ c. absurd (none_in n (subst (λ ys. Contains ys n) (drop_all m xs (omega (arith, lt))) c)),
    )

last_other : (xs : List ℕ) (x n p : ℕ) → (x ≡ n → ⊥) → IsLastPlace xs n p
    → IsLastPlace (xs ++ x ∷ []) n p
last_other xs x n p differs is m =
    let other = contains_other xs x n m differs in
    (λ lt. other.1 ((is m).0 lt), λ c. (is m).1 (other.0 c))

last_other_back : (xs : List ℕ) (x n p : ℕ) → (x ≡ n → ⊥) → IsLastPlace (xs ++ x ∷ []) n p
    → IsLastPlace xs n p
last_other_back xs x n p differs is m =
    let other = contains_other xs x n m differs in
    (λ lt. other.0 ((is m).0 lt), λ c. (is m).1 (other.1 c))

pub numbers_push : (xs : List (ℕ × ℕ)) (n p : ℕ) → numbers_of (xs ++ (n, p) ∷ []) ≡ numbers_of xs ++ n ∷ []
numbers_push xs n p = map-append (λ e. e.0) xs ((n, p) ∷ [])

pub numbers_length : (xs : List (ℕ × ℕ)) → length (numbers_of xs) ≡ length xs
numbers_length xs = length-map xs (λ e. e.0)

reversed_push : (xs : List (ℕ × ℕ)) (e : ℕ × ℕ) → reverse (xs ++ e ∷ []) ≡ e ∷ reverse xs
reversed_push xs e = grind (arith, common_steps)

-- one number more
pub lasts_push : (lasts : List ℕ) (xs : List (ℕ × ℕ)) (number last : ℕ) → AreLasts lasts xs
    → number < length lasts → last ≡ length xs + 1
    → AreLasts (set lasts number last) (xs ++ (number, get_or lasts number 0) ∷ [])
lasts_push lasts xs number last all lt is = record {
  within = λ n c. subst (λ l. n < l) (sym (length-set lasts number last))
      (elim (Contains-push_cases (numbers_of xs) number n
      (subst (λ ys. Contains ys n) (numbers_push xs number p) c)) [
        | inl x ↦ all.within n x
        | inr e ↦ subst (λ m. m < length lasts) e lt
      ]);
  lasts_are = λ n within. subst (λ ys. IsLastPlace ys n (get_or (set lasts number last) n 0))
      (sym (numbers_push xs number p)) (at n within (equal_or_not number n));
  before_are = subst AreBefore (sym (reversed_push xs (number, p))) (
    subst (λ ys. IsLastPlace (numbers_of ys) number p) (sym (reverse-reverse xs))
        (all.lasts_are number lt),
    all.before_are,
  );
}
  where
    p : ℕ
    p = get_or lasts number 0

    at : (n : ℕ) → n < length (set lasts number last) → (number ≡ n) ⊎ (number ≡ n → ⊥)
        → IsLastPlace (numbers_of xs ++ number ∷ []) n (get_or (set lasts number last) n 0)
    at n within (inl e) =
        subst (λ m. IsLastPlace (numbers_of xs ++ number ∷ []) m (get_or (set lasts number last) m 0)) e
        (subst (IsLastPlace (numbers_of xs ++ number ∷ []) number)
        (ap (λ k. k + 1) (numbers_length xs) ∙ sym is
        ∙ sym (get_or-set_at lasts number number last 0 refl lt))
        (last_same (numbers_of xs) number))
    at n within (inr differs) =
        let in_range : n < length lasts = subst (λ l. n < l) (length-set lasts number last) within in
        subst (IsLastPlace (numbers_of xs ++ number ∷ []) n)
        (sym (get_or-set_other lasts number n last 0 (λ q. differs (sym q))))
        (last_other (numbers_of xs) number n (get_or lasts n 0) differs (all.lasts_are n in_range))

-- the last number less
pub lasts_pop : (lasts : List ℕ) (xs : List (ℕ × ℕ)) (number before : ℕ)
    → AreLasts lasts (xs ++ (number, before) ∷ [])
    → (number < length lasts) × AreLasts (set lasts number before) xs
lasts_pop lasts xs number before all = (
  lt,
  record {
    within = λ n c. subst (λ l. n < l) (sym (length-set lasts number before))
        (all.within n (subst (λ ys. Contains ys n) (sym (numbers_push xs number before))
        (Contains-append_left (numbers_of xs) (number ∷ []) n c)));
    lasts_are = λ n within. at n within (equal_or_not number n);
    before_are = known.1;
  },
)
  where
    lt : number < length lasts
    lt = all.within number (subst (λ ys. Contains ys number) (sym (numbers_push xs number before))
        (Contains-push (numbers_of xs) number))

    known : IsLastPlace (numbers_of (reverse (reverse xs))) number before × AreBefore (reverse xs)
    known = subst AreBefore (reversed_push xs (number, before)) all.before_are

    at : (n : ℕ) → n < length (set lasts number before) → (number ≡ n) ⊎ (number ≡ n → ⊥)
        → IsLastPlace (numbers_of xs) n (get_or (set lasts number before) n 0)
    at n within (inl e) =
        subst (λ m. IsLastPlace (numbers_of xs) m (get_or (set lasts number before) m 0)) e
        (subst (IsLastPlace (numbers_of xs) number)
        (sym (get_or-set_at lasts number number before 0 refl lt))
        (subst (λ ys. IsLastPlace (numbers_of ys) number before) (reverse-reverse xs) known.0))
    at n within (inr differs) =
        let in_range : n < length lasts = subst (λ l. n < l) (length-set lasts number before) within in
        subst (IsLastPlace (numbers_of xs) n)
        (sym (get_or-set_other lasts number n before 0 (λ q. differs (sym q))))
        (last_other_back (numbers_of xs) number n (get_or lasts n 0) differs
        (subst (λ ys. IsLastPlace ys n (get_or lasts n 0)) (numbers_push xs number before)
        (all.lasts_are n in_range)))

-- a number after a place is one of all
pub contains_dropped : (xs : List ℕ) (m n : ℕ) → Contains (drop m xs) n → Contains xs n
contains_dropped xs m n c =
    subst (λ ys. Contains ys n) (take-append-drop m xs) (Contains-append_right (take m xs) (drop m xs) n c)

contains_taken : (xs : List ℕ) (m n : ℕ) → Contains (take m xs) n → Contains xs n
contains_taken xs m n c =
    subst (λ ys. Contains ys n) (take-append-drop m xs) (Contains-append_left (take m xs) (drop m xs) n c)

-- some open element has a number exactly where it is listed
pub listed_open : (marks listed : List ℕ) (n : ℕ) → AreMarks marks listed
    → Contains listed n ↔ IsOpen (opened_of marks listed) n
listed_open [] listed n are = (
  λ c. none_in n (subst (λ xs. Contains xs n) are c),
  λ o. absurd o,
)
listed_open (mark ∷ marks) listed n are =
    let rest = listed_open marks (take mark listed) n are.1 in (
      λ c. elim (Contains-append_cases (take mark listed) (drop mark listed) n
          (subst (λ xs. Contains xs n) (sym (take-append-drop mark listed)) c)) [
            | inl before ↦ inr (rest.0 before)
            | inr after ↦ inl after
          ],
      λ o. elim o [
        | inl own ↦ contains_dropped listed mark n own
        | inr other ↦ contains_taken listed mark n (rest.1 other)
      ],
    )

-- one more open element
pub opened_push : (marks listed numbers : List ℕ) (mark : ℕ) → mark ≡ length listed
    → opened_of (mark ∷ marks) (listed ++ numbers) ≡ numbers ∷ opened_of marks listed
opened_push marks listed numbers mark is =
    ap (λ m. opened_of (m ∷ marks) (listed ++ numbers)) is
    ∙ ap (λ xs. xs ∷ opened_of marks (take (length listed) (listed ++ numbers))) (drop_at listed numbers (length listed) refl)
    ∙ ap (λ xs. numbers ∷ opened_of marks xs) (take_at listed numbers (length listed) refl)

pub marks_push : (marks listed numbers : List ℕ) (mark : ℕ) → mark ≡ length listed
    → AreMarks marks listed → AreMarks (mark ∷ marks) (listed ++ numbers)
marks_push marks listed numbers mark is are = (
  omega (arith, is, length-append listed numbers),
  subst (AreMarks marks) (sym (take_at listed numbers (length listed) refl) ∙ ap (λ m. take m (listed ++ numbers)) (sym is)) are,
)

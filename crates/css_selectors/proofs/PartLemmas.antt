-- A selector as the definitions see it and as the code goes through it.
-- Serves `meeting`.
use Rattle.std.proofs.Common.{◌≡◌, ℕ, zero, suc, ◌+◌, ◌<◌, ◌≤◌, ◌↔◌, ◌⊎◌, Bool, true, false, List, [], ◌∷◌, length, get_or, map, drop, IsTrue, Option, None, Some, Vec, Global, refl, sym, ◌∙◌, ap, subst, inl, inr, arith, add-one, drop-cons}
use Rattle.std.specs.Prelude.{not, ◌==◌}
use Rattle.std.specs.Option.{option_map, is_some}
use Rattle.std.proofs.lemmas.Bool.{false≢true}
use Rattle.css_selector_text.specs.declared.components.Condition.{Condition as ConditionOf, Not, Is, Where, Tested}
use Rattle.css_selector_text.specs.declared.components.ListTest.{ListTest as ListTestOf}
use Rattle.css_selector_text.specs.declared.components.Complex.{Complex, out-Complex}
use Rattle.css_selector_text.specs.declared.components.Part.{Part as PartOf}
use Rattle.css_selectors.specs.Documents.{Document}
use Rattle.css_selector_text.specs.Components.{Selector, conditions_from, parts_from, selectors_from}
use Rattle.css_selectors.specs.Meanings.{combinator_at, part_count, IsMet, AreMet, MeetsPart, MatchesAny, IsPlaced, Matches}
use Rattle.css_selectors.specs.Costs.{condition_cost, compound_cost, dearest_part, list_cost, most_tests, selector_cost}
use Rattle.css_selector_text.specs.Views.{condition_of, part_of, complex_of}
use Rattle.css_selector_text.proofs.ConditionViews.{condition_not, condition_is, condition_where, condition_tested}

pub part_count-from : (ps : List PartOf) → part_count (parts_from (map part_of ps)) ≡ length ps
part_count-from [] = refl
part_count-from (p ∷ ps) = let h = part_count-from ps in omega (arith, h)

pub combinator_at-from : (ps : List PartOf) (i : ℕ) (x : PartOf) → i < length ps
    → (get_or ps i x).combinator ≡ combinator_at (parts_from (map part_of ps)) i
combinator_at-from [] i x lt = absurd (omega (arith, lt))
combinator_at-from (p ∷ ps) zero x lt = refl
combinator_at-from (p ∷ ps) (suc i) x lt = combinator_at-from ps i x (omega (arith, lt))

module _ {Node : Type 0} (d : Document Node) where
  pub meets_part : (ps : List PartOf) (i : ℕ) (x : PartOf) (n : Node) (b : Bool) → i < length ps
      → (IsTrue b ↔ AreMet d (conditions_from (map condition_of (get_or ps i x).conditions.items)) n)
      → (IsTrue b ↔ MeetsPart d (parts_from (map part_of ps)) i n)
  meets_part [] i x n b lt h = absurd (omega (arith, lt))
  meets_part (p ∷ ps) zero x n b lt h = h
  meets_part (p ∷ ps) (suc i) x n b lt h = meets_part ps i x n b (omega (arith, lt)) h

  pub part_cheaper : (ps : List PartOf) (i : ℕ) (x : PartOf) (n : Node) → i < length ps
      → compound_cost d (conditions_from (map condition_of (get_or ps i x).conditions.items)) n
      ≤ dearest_part d (parts_from (map part_of ps)) n
  part_cheaper [] i x n lt = absurd (omega (arith, lt))
  part_cheaper (p ∷ ps) zero x n lt = omega arith
  part_cheaper (p ∷ ps) (suc i) x n lt =
      let h = part_cheaper ps i x n (omega (arith, lt)) in omega (arith, h)

  pub no_parts : (ps : List PartOf) (n : Node) → length ps ≡ 0
      → IsPlaced d (parts_from (map part_of ps)) n → ⊥
  no_parts [] n e h = h.1.meets 0 (omega arith)
  no_parts (p ∷ ps) n e h = absurd (omega (arith, e))

  -- the closure's answer
  pub part_answered : (ps : List PartOf) (i : ℕ) (x : PartOf) (xs : List ConditionOf) (m n : Node)
      (b : Bool) → i < length ps → xs ≡ (get_or ps i x).conditions.items → m ≡ n
      → (IsTrue b ↔ AreMet d (conditions_from (map condition_of xs)) m)
      → (IsTrue b ↔ MeetsPart d (parts_from (map part_of ps)) i n)
  part_answered ps i x xs m n b lt same on h =
      meets_part ps i x n b lt
      (subst (λ k. IsTrue b
      ↔ AreMet d (conditions_from (map condition_of (get_or ps i x).conditions.items)) k) on
      (subst (λ ys. IsTrue b ↔ AreMet d (conditions_from (map condition_of ys)) m)
      same h))

  pub part_charged : (ps : List PartOf) (i : ℕ) (x : PartOf) (xs : List ConditionOf) (m n : Node)
      (t s : ℕ) → i < length ps → xs ≡ (get_or ps i x).conditions.items → m ≡ n
      → t ≤ s + compound_cost d (conditions_from (map condition_of xs)) m
      → t ≤ s + dearest_part d (parts_from (map part_of ps)) n
  part_charged ps i x xs m n t s lt same on h =
      let c = part_cheaper ps i x n lt in
      let k = subst (λ k. t
      ≤ s + compound_cost d (conditions_from (map condition_of (get_or ps i x).conditions.items)) k) on
      (subst (λ ys. t ≤ s + compound_cost d (conditions_from (map condition_of ys)) m)
      same h) in
      omega (arith, c, k)

  -- ---- a lone compound selector

  pub lone_answered : (ps : List PartOf) (x : PartOf) (xs : List ConditionOf) (n : Node) (b : Bool)
      → length ps ≡ 1 → xs ≡ (get_or ps 0 x).conditions.items
      → (IsTrue b ↔ AreMet d (conditions_from (map condition_of xs)) n)
      → (IsTrue b ↔ IsPlaced d (parts_from (map part_of ps)) n)
  lone_answered [] x xs n b one same h = absurd (omega (arith, one))
  lone_answered (p ∷ []) x xs n b one same h =
      let k = subst (λ ys. IsTrue b ↔ AreMet d (conditions_from (map condition_of ys)) n) same h in (
        λ t. (
          λ i. n,
          record {
            meets = λ i le. (let e : 0 ≡ i = omega (arith, le) in
                subst (λ j. MeetsPart d (parts_from (map part_of (p ∷ []))) j n) e (k.0 t));
            relates = λ i lt. absurd (omega (arith, lt));
            ends = refl;
          },
        ),
        λ m. k.1 (subst (MeetsPart d (parts_from (map part_of (p ∷ []))) 0) m.1.ends
            (m.1.meets 0 (omega arith))),
      )
  lone_answered (p ∷ q ∷ ps) x xs n b one same h = absurd (omega (arith, one))

  pub lone_charged : (ps : List PartOf) (x : PartOf) (xs : List ConditionOf) (n : Node) (t s : ℕ)
      → length ps ≡ 1 → xs ≡ (get_or ps 0 x).conditions.items
      → t ≤ s + compound_cost d (conditions_from (map condition_of xs)) n
      → t ≤ s + selector_cost d (parts_from (map part_of ps)) n
  lone_charged [] x xs n t s one same h = absurd (omega (arith, one))
  lone_charged (p ∷ []) x xs n t s one same h =
      let k = subst (λ ys. t ≤ s + compound_cost d (conditions_from (map condition_of ys)) n) same h in
      omega (arith, k)
  lone_charged (p ∷ q ∷ ps) x xs n t s one same h = absurd (omega (arith, one))

  pub more_charged : (ps : List PartOf) (n : Node) (t s : ℕ) → (length ps == 0) ≡ false
      → (length ps ≡ 1 → ⊥)
      → t ≤ s + most_tests d (parts_from (map part_of ps)) n
      → t ≤ s + selector_cost d (parts_from (map part_of ps)) n
  more_charged [] n t s some more h = absurd (cc)
  more_charged (p ∷ []) n t s some more h = absurd (more refl)
  more_charged (p ∷ q ∷ ps) n t s some more h = h

  -- ---- lists

  not_iff : (r : Bool) (M : Type 0) → (IsTrue r ↔ M) → (IsTrue (not r) ↔ (M → ⊥))
  not_iff true M h = (λ e m. false≢true e, λ f. absurd (f (h.0 refl)))
  not_iff false M h = (λ e m. false≢true (h.1 m), λ f. refl)

  pub met_not : (c : ConditionOf) (v : Vec Complex Global) (xs : List Complex) (n : Node) (r : Bool)
      → c ≡ Not v → xs ≡ v.items
      → (IsTrue r ↔ MatchesAny d (selectors_from (map complex_of xs)) n)
      → (IsTrue (not r) ↔ IsMet d (condition_of c) n)
  met_not c v xs n r is same h =
      subst (λ y. IsTrue (not r) ↔ IsMet d y n) (sym (ap condition_of is ∙ condition_not v))
      (subst (λ ys. IsTrue (not r) ↔ (MatchesAny d (selectors_from (map complex_of ys)) n → ⊥)) same
      (not_iff r (MatchesAny d (selectors_from (map complex_of xs)) n) h))

  pub met_listed : (c : ConditionOf) (v : Vec Complex Global) (xs : List Complex) (n : Node)
      (r : Bool) → (c ≡ Is v) ⊎ (c ≡ Where v) → xs ≡ v.items
      → (IsTrue r ↔ MatchesAny d (selectors_from (map complex_of xs)) n)
      → (IsTrue r ↔ IsMet d (condition_of c) n)
  met_listed c v xs n r (inl is) same h =
      subst (λ y. IsTrue r ↔ IsMet d y n) (sym (ap condition_of is ∙ condition_is v))
      (subst (λ ys. IsTrue r ↔ MatchesAny d (selectors_from (map complex_of ys)) n) same h)
  met_listed c v xs n r (inr is) same h =
      subst (λ y. IsTrue r ↔ IsMet d y n) (sym (ap condition_of is ∙ condition_where v))
      (subst (λ ys. IsTrue r ↔ MatchesAny d (selectors_from (map complex_of ys)) n) same h)

  charged_by : (c : ConditionOf) (xs : List Complex) (n : Node) (t s : ℕ)
      → list_cost d (selectors_from (map complex_of xs)) n ≡ condition_cost d (condition_of c) n
      → t ≤ s + list_cost d (selectors_from (map complex_of xs)) n
      → t ≤ s + condition_cost d (condition_of c) n
  charged_by c xs n t s e h = omega (arith, e, h)

  pub charged_not : (c : ConditionOf) (v : Vec Complex Global) (xs : List Complex) (n : Node)
      (t s : ℕ) → c ≡ Not v → xs ≡ v.items
      → t ≤ s + list_cost d (selectors_from (map complex_of xs)) n
      → t ≤ s + condition_cost d (condition_of c) n
  charged_not c v xs n t s is same h =
      charged_by c xs n t s
      (ap (λ ys. list_cost d (selectors_from (map complex_of ys)) n) same
      ∙ sym (ap (λ y. condition_cost d y n) (ap condition_of is ∙ condition_not v)))
      h

  pub charged_listed : (c : ConditionOf) (v : Vec Complex Global) (xs : List Complex) (n : Node)
      (t s : ℕ) → (c ≡ Is v) ⊎ (c ≡ Where v) → xs ≡ v.items
      → t ≤ s + list_cost d (selectors_from (map complex_of xs)) n
      → t ≤ s + condition_cost d (condition_of c) n
  charged_listed c v xs n t s (inl is) same h =
      charged_by c xs n t s
      (ap (λ ys. list_cost d (selectors_from (map complex_of ys)) n) same
      ∙ sym (ap (λ y. condition_cost d y n) (ap condition_of is ∙ condition_is v)))
      h
  charged_listed c v xs n t s (inr is) same h =
      charged_by c xs n t s
      (ap (λ ys. list_cost d (selectors_from (map complex_of ys)) n) same
      ∙ sym (ap (λ y. condition_cost d y n) (ap condition_of is ∙ condition_where v)))
      h

  -- what is answered by the number of its list
  pub met_tested : (c : ConditionOf) (t : ListTestOf) (v : Vec Complex Global) (n : Node)
      → c ≡ Tested t v → (IsTrue false ↔ IsMet d (condition_of c) n)
  met_tested c t v n is =
      subst (λ y. IsTrue false ↔ IsMet d y n) (sym (ap condition_of is ∙ condition_tested t v))
      (λ h. false≢true h, λ h. absurd h)

  module _ (xs : List Complex) (i : ℕ) (x : Complex) (ps : List PartOf) (n : Node)
      (lt : i < length xs) (at : x ≡ get_or xs i x) (same : ps ≡ (out-Complex x).parts.items) where
    split : drop i xs ≡ x ∷ drop (i + 1) xs
    split =
        drop-cons xs i x lt ∙ ap (λ y. y ∷ drop (suc i) xs) (sym at)
        ∙ ap (λ k. x ∷ drop k xs) (sym (add-one i))

    parts_of : parts_from (map part_of ps) ≡ parts_from (complex_of x)
    parts_of = ap (λ ys. parts_from (map part_of ys)) same

    pub any_here : IsPlaced d (parts_from (map part_of ps)) n
        → MatchesAny d (selectors_from (map complex_of (drop i xs))) n
    any_here h =
        subst (λ ys. MatchesAny d (selectors_from (map complex_of ys)) n) (sym split)
        (inl (subst (λ p. IsPlaced d p n) parts_of h))

    pub any_step : (A : Type 0) → (IsPlaced d (parts_from (map part_of ps)) n → ⊥)
        → (MatchesAny d (selectors_from (map complex_of (drop i xs))) n ↔ A)
        → (MatchesAny d (selectors_from (map complex_of (drop (i + 1) xs))) n ↔ A)
    any_step A fails h =
        let k = subst (λ ys. MatchesAny d (selectors_from (map complex_of ys)) n ↔ A) split h in (
          λ m. k.0 (inr m),
          λ a. later (k.1 a),
        )
      where
        later : IsPlaced d (parts_from (complex_of x)) n
            ⊎ MatchesAny d (selectors_from (map complex_of (drop (i + 1) xs))) n
            → MatchesAny d (selectors_from (map complex_of (drop (i + 1) xs))) n
        later (inl m) = absurd (fails (subst (λ p. IsPlaced d p n) (sym parts_of) m))
        later (inr m) = m

    pub list_step : list_cost d (selectors_from (map complex_of (drop i xs))) n
        ≡ selector_cost d (parts_from (map part_of ps)) n
        + list_cost d (selectors_from (map complex_of (drop (i + 1) xs))) n
    list_step =
        ap (λ ys. list_cost d (selectors_from (map complex_of ys)) n) split
        ∙ ap (λ p. selector_cost d p n + list_cost d (selectors_from (map complex_of (drop (i + 1) xs))) n)
        (sym parts_of)

-- ---- selectors

pub none_mapped : {A B : Type 0} (f : A → B) (o : Option A) → false ≡ is_some o
    → option_map f o ≡ None
none_mapped f None e = refl
none_mapped f (Some x) e = absurd (cc)

module _ {Node : Type 0} (d : Document Node) (s : Selector) (ps : List PartOf) (n : Node)
    (same : s.parts ≡ map part_of ps) where
  pub matched : (r : Bool) → s.pseudo_element ≡ None
      → (IsTrue r ↔ IsPlaced d (parts_from (map part_of ps)) n) → IsTrue r ↔ Matches d s n
  matched r none h =
      let p = subst (λ qs. IsTrue r ↔ IsPlaced d (parts_from qs) n) (sym same) h in
      (λ t. (none, p.0 t), λ m. p.1 m.1)

  pub matched_within : (t u : ℕ) → t ≤ u + most_tests d (parts_from (map part_of ps)) n
      → t ≤ u + most_tests d (parts_from s.parts) n
  matched_within t u h = subst (λ qs. t ≤ u + most_tests d (parts_from qs) n) (sym same) h

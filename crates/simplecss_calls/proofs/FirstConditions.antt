-- What an element satisfies that a selector matches, and the indices of what matches it.
-- Serves `tested`.
use Rattle.std.proofs.Common.{◌≡◌, ◌+◌, ◌-◌, ◌<◌, ◌↔◌, inl, inr, Bool, true, false, IsTrue, ℕ, zero, suc, List, [], ◌∷◌, ◌++◌, length, map, get_or, refl, sym, ap, ◌∙◌, subst, arith}
use Rattle.std.specs.Prelude.{if◌then◌else◌}
use Rattle.std.specs.List.{Contains}
use Rattle.std.specs.List.Sorted.{IsStrictlyIncreasing}
use Rattle.std.proofs.lemmas.Bool.{cases_lt}
use Rattle.std.proofs.lemmas.List.{append-nil, get_or_append_left, length-append, length-map}
use Rattle.std.proofs.lemmas.List.Elements.{Contains-append_left, Contains-append_right, Contains-get_or, Contains-push_cases}
use Rattle.std.proofs.Math.Seq.{get_or-append_seam}
use Rattle.css_selector_text.specs.Components.{Part, Selector, conditions_from, parts_from}
use Rattle.css_selectors.specs.Documents.{Document}
use Rattle.css_selectors.specs.Keys.{conditions_at}
use Rattle.css_selectors.specs.Meanings.{AreMet, Matches, MeetsPart, part_count}
use Rattle.css_selectors.proofs.KeyLemmas.{met_at}
use Rattle.css_selectors.proofs.PlacementListLemmas.{count_from}
use Rattle.css_index.specs.Found.{AreAll}
use Rattle.css_tree.specs.Html.{condition_in, html_selector, part_in}
use Rattle.css_tree.specs.declared.html.HtmlMode.{HtmlMode}

-- ---- the last compound selector

-- a node that a selector matches meets it
last_met : {Node : Type 0} (d : Document Node) (n : Node) (s : Selector) → Matches d s n
    → AreMet d (conditions_from (conditions_at s.parts (length s.parts - 1))) n
last_met d n s h =
    let p = h.1 in
    let last = part_count (parts_from s.parts) - 1 in
    met_at d n s.parts (length s.parts - 1)
    (subst (λ k. MeetsPart d (parts_from s.parts) (k - 1) n) (count_from d s.parts)
    (subst (MeetsPart d (parts_from s.parts) last) p.1.ends (p.1.meets last (omega arith))))

read_at : (mode : HtmlMode) (parts : List Part) (i : ℕ)
    → conditions_at (map (part_in mode) parts) i ≡ map (condition_in mode) (conditions_at parts i)
read_at mode [] i = refl
read_at mode (p ∷ parts) zero = refl
read_at mode (p ∷ parts) (suc i) = read_at mode parts i

-- the same, as an HTML document reads the selector
pub last_read : {Node : Type 0} (d : Document Node) (n : Node) (mode : HtmlMode) (s : Selector)
    → Matches d (html_selector mode s) n
    → AreMet d (conditions_from (map (condition_in mode) (conditions_at s.parts (length s.parts - 1)))) n
last_read d n mode s h =
    subst (λ cs. AreMet d (conditions_from cs) n)
    (ap (λ k. conditions_at (map (part_in mode) s.parts) (k - 1)) (length-map s.parts (part_in mode))
    ∙ read_at mode s.parts (length s.parts - 1))
    (last_met d n (html_selector mode s) h)

-- ---- indices in order

-- the wanted ones below a number
abbrev pub Before : (ℕ → Type 0) → ℕ → ℕ → Type 0
Before W n i = (i < n) × W i

rises_to : (xs : List ℕ) (n : ℕ) → IsStrictlyIncreasing xs → ((x : ℕ) → Contains xs x → x < n)
    → IsStrictlyIncreasing (xs ++ n ∷ [])
rises_to xs n up below k lt =
    let len = length-append xs (n ∷ []) in
    elim (cases_lt (k + 1) (length xs)) [
      | inl inside ↦
          (let one = get_or_append_left xs (n ∷ []) 0 k (omega (arith, inside)) in
          let next = get_or_append_left xs (n ∷ []) 0 (k + 1) inside in
          let h = up k inside in
          omega (arith, one, next, h))
      | inr past ↦
          (let last : k + 1 ≡ length xs = omega (arith, lt, len, past) in
          let one = get_or_append_left xs (n ∷ []) 0 k (omega (arith, last)) in
          let next : get_or (xs ++ n ∷ []) (k + 1) 0 ≡ n =
          ap (λ i. get_or (xs ++ n ∷ []) i 0) last ∙ get_or-append_seam xs n [] 0 in
          let h = below (get_or xs k 0) (Contains-get_or xs k 0 (omega (arith, last))) in
          omega (arith, one, next, h))
    ]

pub all_none : (W : ℕ → Type 0) → AreAll (Before W 0) []
all_none W = record {
  ascending = λ k lt. absurd (omega (arith, lt));
  exactly = λ i. (λ c. absurd (let l = c.1 in omega (arith, l)), λ h. absurd (let l = h.0 in omega (arith, l)));
}

-- one more that is wanted
all_more : (W : ℕ → Type 0) (n : ℕ) (xs : List ℕ) → AreAll (Before W n) xs → W n
    → AreAll (Before W (n + 1)) (xs ++ n ∷ [])
all_more W n xs are w = record {
  ascending = rises_to xs n are.ascending (λ x c. ((are.exactly x).0 c).0);
  exactly = λ i. (
    λ c. elim (Contains-push_cases xs n i c) [
      | inl old ↦ (let h = (are.exactly i).0 old in let l = h.0 in (omega (arith, l), h.1))
      | inr same ↦ (omega (arith, same), subst W same w)
    ],
    λ h. elim (cases_lt i n) [
      | inl less ↦ Contains-append_left xs (n ∷ []) i ((are.exactly i).1 (less, h.1))
      | inr past ↦
          (let l = h.0 in
          let same : n ≡ i = omega (arith, l, past) in
          Contains-append_right xs (n ∷ []) i (subst (Contains (n ∷ [])) same (0, omega arith, refl)))
    ],
  );
}

-- one more that is not
all_same : (W : ℕ → Type 0) (n : ℕ) (xs : List ℕ) → AreAll (Before W n) xs → ¬ W n
    → AreAll (Before W (n + 1)) xs
all_same W n xs are unwanted = record {
  ascending = are.ascending;
  exactly = λ i. (
    λ c. let h = (are.exactly i).0 c in let l = h.0 in (omega (arith, l), h.1),
    λ h. elim (cases_lt i n) [
      | inl less ↦ (are.exactly i).1 (less, h.1)
      | inr past ↦
          (let l = h.0 in let same : i ≡ n = omega (arith, l, past) in absurd (unwanted (subst W same h.1)))
    ],
  );
}

-- one more by a test
pub all_tested : (W : ℕ → Type 0) (n : ℕ) (xs : List ℕ) (b : Bool) → AreAll (Before W n) xs → IsTrue b ↔ W n
    → AreAll (Before W (n + 1)) (xs ++ (if b then n ∷ [] else []))
all_tested W n xs true are h = all_more W n xs are (h.0 refl)
all_tested W n xs false are h =
    subst (AreAll (Before W (n + 1))) (sym (append-nil xs)) (all_same W n xs are (λ w. absurd (let f = h.1 w in cc)))

-- all of them
pub all_done : (W : ℕ → Type 0) (n : ℕ) (xs : List ℕ) → AreAll (Before W n) xs → ((i : ℕ) → W i → i < n)
    → AreAll W xs
all_done W n xs are within = record {
  ascending = are.ascending;
  exactly = λ i. (λ c. ((are.exactly i).0 c).1, λ w. (are.exactly i).1 (within i w, w));
}

-- A relative selector has a match exactly if its parts lead to elements one after another.
-- Serves `has_marks` and `marking_laws`.
use Rattle.std.proofs.Common.{◌≡◌, ℕ, zero, suc, ◌+◌, ◌-◌, ◌<◌, ◌≤◌, ◌↔◌, ◌⊎◌, inl, inr, Bool, true, false, List, [], ◌∷◌, ◌++◌, get_or, length, map, take, IsTrue, refl, sym, ap, subst, ◌∙◌, add-one, arith}
use Rattle.std.specs.Prelude.{◌||◌, ◌==◌}
use Rattle.std.proofs.lemmas.Bool.Decides.{Decides-eqb, not_from_Decides}
use Rattle.std.proofs.lemmas.List.{map_more}
use Rattle.css_matching.specs.declared.Combinator.{Combinator}
use Rattle.css_matching.specs.ListTrees.{spot}
use Rattle.css_matching.specs.Placements.{Relates, IsPlacement}
use Rattle.css_selector_text.specs.declared.components.Complex.{Complex}
use Rattle.css_selector_text.specs.Components.{Part, Conditions, Parts, parts_from, selectors_from}
use Rattle.css_selector_text.specs.Components.Parts.{end_of_selector, with_part}
use Rattle.css_selectors.specs.Documents.{shape}
use Rattle.css_selectors.specs.Meanings.{part_count, AreMet, MeetsPart}
use Rattle.css_selector_text.specs.Views.{complex_of}
use Rattle.css_tree.specs.HasSelectors.{combinator_after, MeetsAfter, HasMatch, HasAny}
use Rattle.css_tree.specs.Pages.{Page, page_document}
use Rattle.css_tree.specs.Steps.{is_set, Leads}
use Rattle.css_tree.proofs.PageElements.{IsElement, related_element}

module _ (page : Page) where
  -- the elements of a placement of the parts after an element, of which the last is this one
  abbrev IsAfter : Parts → ℕ → ℕ → (ℕ → Page × ℕ) → Type 0
  IsAfter parts i end place =
      IsPlacement (shape page_document) (combinator_after parts)
      (MeetsAfter (MeetsPart page_document parts) (spot page i)) (part_count parts) (spot page end)
      place

  abbrev Ends : Parts → ℕ → Type 0
  Ends parts i = (end : ℕ) × (end < length page.rows) × ((place : ℕ → Page × ℕ) × IsAfter parts i end place)

  -- an element, and then the others
  abbrev first_then : Page × ℕ → (ℕ → Page × ℕ) → ℕ → Page × ℕ
  first_then n place zero = n
  first_then n place (suc k) = place k

  -- ---- from elements one after another

  module _ (c : Combinator) (cs : Conditions) (parts : Parts) (i j : ℕ)
      (relates : Relates (shape page_document) c (spot page i) (spot page j))
      (met : AreMet page_document cs (spot page j)) (end : ℕ) (place : ℕ → Page × ℕ)
      (is : IsAfter parts j end place) where
    first_is : place 0 ≡ spot page j
    first_is = is.meets 0 (omega arith)

    more_meets : (k : ℕ) → k ≤ part_count parts + 1
        → MeetsAfter (MeetsPart page_document (with_part c cs parts)) (spot page i) k
        (first_then (spot page i) place k)
    more_meets zero le = refl
    more_meets (suc zero) le = subst (AreMet page_document cs) (sym first_is) met
    more_meets (suc (suc k)) le = is.meets (suc k) (omega arith)

    more_relates : (k : ℕ) → k < part_count parts + 1
        → Relates (shape page_document) (combinator_after (with_part c cs parts) (suc k))
        (first_then (spot page i) place k) (first_then (spot page i) place (suc k))
    more_relates zero lt =
        subst (Relates (shape page_document) c (spot page i)) (sym first_is) relates
    more_relates (suc k) lt = rw add-one at (is.relates k (omega arith))

    more_after : IsAfter (with_part c cs parts) i end (first_then (spot page i) place)
    more_after = record {
      meets = more_meets;
      relates = λ k lt. rw add-one (more_relates k lt);
      ends = rw add-one is.ends;
    }

  leads_ends : (parts : Parts) (i : ℕ) → i < length page.rows → Leads page parts i → Ends parts i
  leads_ends end_of_selector i lt h = (
    i,
    lt,
    (
      λ k. spot page i,
      record {
        meets = λ k le. (let first : 0 ≡ k = omega arith in
            subst (λ m. MeetsAfter (MeetsPart page_document end_of_selector) (spot page i) m
            (spot page i)) first refl);
        relates = λ k less. absurd (omega arith);
        ends = refl;
      },
    ),
  )
  leads_ends (with_part c cs parts) i lt h =
      let more = leads_ends parts h.0 h.1 h.3.1 in (
        more.0,
        more.1,
        (
          first_then (spot page i) more.2.0,
          more_after c cs parts i h.0 h.2 h.3.0 more.0 more.2.0 more.2.1,
        ),
      )

  -- ---- from a placement

  ends_leads : (parts : Parts) (i end : ℕ) (place : ℕ → Page × ℕ) → end < length page.rows
      → IsAfter parts i end place → Leads page parts i
  ends_leads end_of_selector i end place lt is = tt
  ends_leads (with_part c cs parts) i end place lt is = (
    (place 1).1,
    second.within,
    subst (Relates (shape page_document) c (spot page i)) at
        (subst (λ n. Relates (shape page_document) c n (place 1)) first (is.relates 0 (omega arith))),
    (
      subst (AreMet page_document cs) at (is.meets 1 (omega arith)),
      ends_leads parts (place 1).1 end (λ k. place (suc k)) lt (record {
        meets = later_meets;
        relates = λ k less. rw add-one (rw add-one at (is.relates (suc k) (omega arith)));
        ends = rw add-one at is.ends;
      }),
    ),
  )
    where
      first : place 0 ≡ spot page i
      first = is.meets 0 (omega arith)

      -- all are elements of the page
      elements : (left k : ℕ) → k + left ≡ part_count parts + 1 → IsElement page (place k)
      elements zero k same =
          let last : k ≡ part_count parts + 1 = omega arith in
          subst (IsElement page) (sym (ap place last ∙ is.ends)) (record { there = refl; within = lt })
      elements (suc left) k same =
          related_element page (combinator_after (with_part c cs parts) (k + 1)) (place k)
          (place (k + 1)) (is.relates k (omega arith)) (elements left (k + 1) (omega arith))

      second : IsElement page (place 1)
      second = elements (part_count parts) 1 (omega arith)

      at : place 1 ≡ spot page (place 1).1
      at = ap (λ p. (p, (place 1).1)) second.there

      later_meets : (k : ℕ) → k ≤ part_count parts
          → MeetsAfter (MeetsPart page_document parts) (spot page (place 1).1) k (place (suc k))
      later_meets zero le = at
      later_meets (suc k) le = is.meets (suc (suc k)) (omega arith)

  pub match_leads : (parts : Parts) (i : ℕ) → i < length page.rows
      → HasMatch page parts i ↔ ((0 < part_count parts) × Leads page parts i)
  match_leads parts i lt = (
    λ h. (h.0, ends_leads parts i h.1.0 h.1.2.0 h.1.1 h.1.2.1),
    λ h. (h.0, leads_ends parts i lt h.1),
  )

  -- one selector more
  pub any_more : (ss : List (List Part)) (s : List Part) (i : ℕ)
      → HasAny page (selectors_from (ss ++ s ∷ [])) i
      ↔ (HasAny page (selectors_from ss) i ⊎ HasMatch page (parts_from s) i)
  any_more [] s i = (first, second)
    where
      first : HasMatch page (parts_from s) i ⊎ ⊥ → ⊥ ⊎ HasMatch page (parts_from s) i
      first (inl h) = inr h
      first (inr h) = absurd h

      second : ⊥ ⊎ HasMatch page (parts_from s) i → HasMatch page (parts_from s) i ⊎ ⊥
      second (inl h) = absurd h
      second (inr h) = inl h
  any_more (t ∷ ss) s i = (first (any_more ss s i).0, second (any_more ss s i).1)
    where
      first : (HasAny page (selectors_from (ss ++ s ∷ [])) i
          → HasAny page (selectors_from ss) i ⊎ HasMatch page (parts_from s) i)
          → HasMatch page (parts_from t) i ⊎ HasAny page (selectors_from (ss ++ s ∷ [])) i
          → (HasMatch page (parts_from t) i ⊎ HasAny page (selectors_from ss) i)
          ⊎ HasMatch page (parts_from s) i
      first more (inl h) = inl (inl h)
      first more (inr h) = elim (more h) [ inl k ↦ inl (inr k) | inr k ↦ inr k ]

      second : (HasAny page (selectors_from ss) i ⊎ HasMatch page (parts_from s) i
          → HasAny page (selectors_from (ss ++ s ∷ [])) i)
          → (HasMatch page (parts_from t) i ⊎ HasAny page (selectors_from ss) i)
          ⊎ HasMatch page (parts_from s) i
          → HasMatch page (parts_from t) i ⊎ HasAny page (selectors_from (ss ++ s ∷ [])) i
      second more (inl (inl h)) = inl h
      second more (inl (inr h)) = inr (more (inl h))
      second more (inr h) = inr (more (inr h))

-- one selector more, of which the marks are added or which has no parts
module _ (page : Page) (ss : List Complex) (s : Complex) (k : ℕ) (lt : k < length ss)
    (at : s ≡ get_or ss k s) where
  taken : (i : ℕ) → HasAny page (selectors_from (map complex_of (take (k + 1) ss))) i
      ↔ (HasAny page (selectors_from (map complex_of (take k ss))) i
      ⊎ HasMatch page (parts_from (complex_of s)) i)
  taken i =
      subst (λ xs. HasAny page (selectors_from xs) i
      ↔ (HasAny page (selectors_from (map complex_of (take k ss))) i
      ⊎ HasMatch page (parts_from (complex_of s)) i))
      (sym (map_more complex_of ss k s lt
      ∙ ap (λ x. map complex_of (take k ss) ++ complex_of x ∷ []) (sym at)))
      (any_more page (map complex_of (take k ss)) (complex_of s) i)

  pub any_added : (old found new : List Bool)
      → ((i : ℕ) → i < length page.rows → IsTrue (is_set old i)
      ↔ HasAny page (selectors_from (map complex_of (take k ss))) i)
      → ((i : ℕ) → i < length page.rows → IsTrue (is_set found i)
      ↔ Leads page (parts_from (complex_of s)) i)
      → 0 < part_count (parts_from (complex_of s))
      → ((i : ℕ) → i < length page.rows → is_set new i ≡ (is_set old i || is_set found i))
      → (i : ℕ) → i < length page.rows → IsTrue (is_set new i)
      ↔ HasAny page (selectors_from (map complex_of (take (k + 1) ss))) i
  any_added old found new were leads some is i within = (
    λ t. (taken i).1 (elim (split (is_set old i) (is_set found i) (sym (is i within) ∙ t)) [
      | inl h ↦ inl ((were i within).0 h)
      | inr h ↦ inr ((match_leads page (parts_from (complex_of s)) i within).1
          (some, (leads i within).0 h))
    ]),
    λ h. is i within ∙ elim ((taken i).0 h) [
      | inl before ↦ left (is_set old i) (is_set found i) ((were i within).1 before)
      | inr match ↦ right (is_set old i) (is_set found i) ((leads i within).1
          ((match_leads page (parts_from (complex_of s)) i within).0 match).1)
    ],
  )
    where
      split : (a b : Bool) → IsTrue (a || b) → IsTrue a ⊎ IsTrue b
      split true b t = inl refl
      split false b t = inr t

      left : (a b : Bool) → IsTrue a → IsTrue (a || b)
      left true b t = refl
      left false b t = absurd (cc)

      right : (a b : Bool) → IsTrue b → IsTrue (a || b)
      right true b t = refl
      right false b t = t

  pub any_without : (new : List Bool)
      → ((i : ℕ) → i < length page.rows → IsTrue (is_set new i)
      ↔ HasAny page (selectors_from (map complex_of (take k ss))) i)
      → part_count (parts_from (complex_of s)) ≡ 0
      → (i : ℕ) → i < length page.rows → IsTrue (is_set new i)
      ↔ HasAny page (selectors_from (map complex_of (take (k + 1) ss))) i
  any_without new were none i within = (
    λ t. (taken i).1 (inl ((were i within).0 t)),
    λ h. elim ((taken i).0 h) [
      | inl before ↦ (were i within).1 before
      | inr match ↦ (let some = match.0 in absurd (omega arith))
    ],
  )

-- how many there are, by whether there is none
pub some_there : (n : ℕ) (b : Bool) → b ≡ (n == 0) → b ≡ false → 0 < n
some_there n b is not_none =
    let other = not_from_Decides (n == 0) (Decides-eqb n 0) (sym is ∙ not_none) in
    omega (arith, other)

pub none_there : (n : ℕ) (b : Bool) → b ≡ (n == 0) → b ≡ true → n ≡ 0
none_there n b is none = (Decides-eqb n 0).0 (sym is ∙ none)

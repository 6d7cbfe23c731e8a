-- The ends of stretches, as a selector is filled and as it is searched.
-- Serves `draft::Draft` (the ends are kept) and `matching::{climb, continues}` (they are gone
-- through).
use Rattle.std.proofs.Common.{◌≡◌, ◌≢◌, ℕ, zero, suc, ◌+◌, ◌-◌, ◌<◌, ◌≤◌, ◌↔◌, List, [], ◌∷◌, ◌++◌, ◌⊎◌, inl, inr, Option, Some, None, length, get_or, refl, add-one, sub-one, sym, ap, ◌∙◌, arith, IsTrue}
use Rattle.std.proofs.Math.Decide.{dec_lt}
use Rattle.std.proofs.lemmas.List.{length-append, get_or_append_left, get_or_at, get_or_default}
use Rattle.std.proofs.lemmas.List.Elements.{All-contains, All-from_get_or, Contains-get_or, Contains-append_left, Contains-push, Contains-push_cases}
use Rattle.std.proofs.lemmas.Map.Keys.{sorted_from_strictly_increasing, below_from_sorted}
use Rattle.std.specs.List.{Contains, last_or}
use Rattle.std.specs.List.Sorted.{IsStrictlyIncreasing}
use Rattle.simplecss_grammar.specs.Components.{Component, Combinator}
use Rattle.simplecss_grammar.specs.Components.Combinator.{none, descendant, child, adjacent}
use Rattle.simplecss_selector.specs.Placements.{is_step}
use Rattle.simplecss_selector.specs.Shapes.{component_at, any_component}
use Rattle.simplecss_selector.specs.internal.Stretches.{BeginsStretch, IsStretch, AreStretchEnds, all_stretch_ends, kept_ends_after}

-- ---- lists of numbers that rise

rises : (xs : List ℕ) (i j : ℕ) → IsStrictlyIncreasing xs → i < j → j < length xs
    → get_or xs i 0 < get_or xs j 0
rises xs i j h below within =
    below_from_sorted xs i j 0 (sorted_from_strictly_increasing xs h) below within

rises_front : (xs ys : List ℕ) → IsStrictlyIncreasing (xs ++ ys) → IsStrictlyIncreasing xs
rises_front xs ys h k within =
    omega (
      arith,
      h k (omega (arith, length-append xs ys)),
      get_or_append_left xs ys 0 k (omega arith),
      get_or_append_left xs ys 0 (k + 1) (omega arith),
    )

rises_push : (xs : List ℕ) (y : ℕ) → IsStrictlyIncreasing xs
    → ((k : ℕ) → k < length xs → get_or xs k 0 < y) → IsStrictlyIncreasing (xs ++ y ∷ [])
rises_push xs y h below k within =
    let here = get_or_append_left xs (y ∷ []) 0 k (omega (arith, length-append xs (y ∷ []))) in
    elim (dec_lt (k + 1) (length xs)) [
      | yes before ↦
          omega (arith, h k before, here, get_or_append_left xs (y ∷ []) 0 (k + 1) before)
      | no there ↦ omega (
        arith,
        below k (omega (arith, length-append xs (y ∷ []))),
        here,
        get_or_at xs y [] 0 (k + 1) (omega (arith, length-append xs (y ∷ []))),
      )
    ]

-- what precedes a number is below it
below_last : (xs : List ℕ) (x k : ℕ) → IsStrictlyIncreasing (xs ++ x ∷ []) → k < length xs
    → get_or xs k 0 < x
below_last xs x k h within =
    omega (
      arith,
      rises (xs ++ x ∷ []) k (length xs) h within (omega (arith, length-append xs (x ∷ []))),
      get_or_append_left xs (x ∷ []) 0 k within,
      get_or_at xs x [] 0 (length xs) refl,
    )

-- the last number grows
rises_more : (xs : List ℕ) (x y : ℕ) → IsStrictlyIncreasing (xs ++ x ∷ []) → x ≤ y
    → IsStrictlyIncreasing (xs ++ y ∷ [])
rises_more xs x y h more = rises_push xs y (rises_front xs (x ∷ []) h)
    (λ k within. omega (arith, below_last xs x k h within))

last_or-push : {A : Type 0} (o : Option A) (xs : List A) (x : A) → last_or o (xs ++ x ∷ []) ≡ Some x
last_or-push o [] x = refl
last_or-push o (y ∷ xs) x = last_or-push (Some y) xs x

-- ---- as a selector is filled

-- the stretches depend only on the combinators
pub AreStretchEnds-same : (cs ds : List Component) (kept : List ℕ) → length cs ≡ length ds
    → ((k : ℕ) → (component_at cs k).combinator ≡ (component_at ds k).combinator)
    → AreStretchEnds cs (all_stretch_ends cs kept) → AreStretchEnds ds (all_stretch_ends ds kept)
AreStretchEnds-same cs ds kept same joined_by r =
    rw (← same)
    (record {
      rising = r.rising;
      whole = r.whole ∙ ap Some same;
      begins = λ k within. rw (← joined_by k) (r.begins k (omega arith));
    })

-- an index is among the ends, or the new end comes after it
contains_kept : (kept : List ℕ) (n k : ℕ) → k < n → Contains (0 ∷ (kept ++ n ∷ [])) k
    → Contains (0 ∷ kept) k
contains_kept kept n k before h =
    elim (Contains-push_cases (0 ∷ kept) n k h) [ inl there ↦ there | inr e ↦ absurd (omega arith) ]

-- only the last end is the number of components
contains_none : (kept : List ℕ) (n : ℕ) → IsStrictlyIncreasing (0 ∷ (kept ++ n ∷ []))
    → Contains (0 ∷ kept) n → ⊥
contains_none kept n h c =
    let below : n < n = All-contains (λ x. x < n) (0 ∷ kept) n (All-from_get_or (λ x. x < n)
    (0 ∷ kept) 0 (λ k within. below_last (0 ∷ kept) n k h within)) c in
    absurd (omega arith)

begins_before : (cs : List Component) (c : Component) (k : ℕ) → k < length cs
    → BeginsStretch (cs ++ c ∷ []) k ↔ BeginsStretch cs k
begins_before cs c k within =
    rw (get_or_append_left cs (c ∷ []) any_component k within) (λ b. b, λ b. b)

begins_there : (cs : List Component) (c : Component)
    → BeginsStretch (cs ++ c ∷ []) (length cs) ↔ ((length cs ≡ 0) ⊎ (c.combinator ≡ descendant))
begins_there cs c = rw (get_or_at cs c [] any_component (length cs) refl) (λ b. b, λ b. b)

-- one more component begins a stretch
ends_begun : (cs : List Component) (c : Component) (kept : List ℕ) → c.combinator ≡ descendant
    → AreStretchEnds cs (all_stretch_ends cs kept)
    → AreStretchEnds (cs ++ c ∷ []) (all_stretch_ends (cs ++ c ∷ []) (kept ++ length cs ∷ []))
ends_begun cs c kept e r =
    let more : length (cs ++ c ∷ []) ≡ length cs + 1 = length-append cs (c ∷ []) in
    record {
      rising = rises_push (0 ∷ (kept ++ length cs ∷ [])) (length (cs ++ c ∷ [])) r.rising
          (λ k within. elim (dec_lt k (length (0 ∷ kept))) [
            | yes before ↦ omega (
              arith,
              below_last (0 ∷ kept) (length cs) k r.rising before,
              get_or_append_left (0 ∷ kept) (length cs ∷ []) 0 k before,
            )
            | no there ↦ omega (
              arith,
              get_or_at (0 ∷ kept) (length cs) [] 0 k
                  (omega (arith, length-append kept (length cs ∷ []))),
            )
          ]);
      whole = last_or-push None (kept ++ length cs ∷ []) (length (cs ++ c ∷ []));
      begins = λ k within. elim (dec_lt k (length cs)) [
        | yes before ↦
            (let old = r.begins k before in let same = begins_before cs c k before in (
              λ b. Contains-append_left (0 ∷ (kept ++ length cs ∷ []))
                  (length (cs ++ c ∷ []) ∷ []) k (old.0 (same.0 b)),
              λ h. same.1 (old.1 (contains_kept (kept ++ length cs ∷ []) (length (cs ++ c ∷ [])) k
                  (omega arith) h)),
            ))
        | no there ↦
            (let last : length cs ≡ k = omega arith in
            rw (← last) (
              λ b. Contains-append_left (0 ∷ (kept ++ length cs ∷ [])) (length (cs ++ c ∷ []) ∷ [])
                  (length cs) (Contains-push (0 ∷ kept) (length cs)),
              λ h. (begins_there cs c).1 (inr e),
            ))
      ];
    }

-- one more component continues the last stretch
ends_joined : (cs : List Component) (c : Component) (kept : List ℕ) → 0 < length cs
    → (c.combinator ≡ descendant → ⊥) → AreStretchEnds cs (all_stretch_ends cs kept)
    → AreStretchEnds (cs ++ c ∷ []) (all_stretch_ends (cs ++ c ∷ []) kept)
ends_joined cs c kept some step r =
    let more : length (cs ++ c ∷ []) ≡ length cs + 1 = length-append cs (c ∷ []) in
    record {
      rising = rises_more (0 ∷ kept) (length cs) (length (cs ++ c ∷ [])) r.rising (omega arith);
      whole = last_or-push None kept (length (cs ++ c ∷ []));
      begins = λ k within. elim (dec_lt k (length cs)) [
        | yes before ↦
            (let old = r.begins k before in let same = begins_before cs c k before in (
              λ b. Contains-append_left (0 ∷ kept) (length (cs ++ c ∷ []) ∷ []) k
                  (contains_kept kept (length cs) k before (old.0 (same.0 b))),
              λ h. same.1 (old.1 (Contains-append_left (0 ∷ kept) (length cs ∷ []) k
                  (contains_kept kept (length (cs ++ c ∷ [])) k (omega arith) h))),
            ))
        | no there ↦
            (let last : length cs ≡ k = omega arith in
            rw (← last) (
              λ b. elim ((begins_there cs c).0 b)
                  [ inl z ↦ absurd (omega arith) | inr d ↦ absurd (step d) ],
              λ h. absurd (contains_none kept (length cs) r.rising
                  (contains_kept kept (length (cs ++ c ∷ [])) (length cs) (omega arith) h)),
            ))
      ];
    }

pub AreStretchEnds-push : (cs : List Component) (c : Component) (kept : List ℕ) → 0 < length cs
    → c.combinator ≢ none → AreStretchEnds cs (all_stretch_ends cs kept)
    → AreStretchEnds (cs ++ c ∷ [])
    (all_stretch_ends (cs ++ c ∷ []) (kept_ends_after c.combinator (length cs) kept))
AreStretchEnds-push cs c kept some j r = by c.combinator refl
  where
    by : (joined_by : Combinator) → c.combinator ≡ joined_by
        → AreStretchEnds (cs ++ c ∷ [])
        (all_stretch_ends (cs ++ c ∷ []) (kept_ends_after joined_by (length cs) kept))
    by none e = absurd (j e)
    by descendant e = ends_begun cs c kept e r
    by child e = ends_joined cs c kept some
        (λ d. absurd (let same : child ≡ descendant = sym e ∙ d in (cc))) r
    by adjacent e = ends_joined cs c kept some
        (λ d. absurd (let same : adjacent ≡ descendant = sym e ∙ d in (cc))) r

-- ---- as it is searched

-- nothing is between two neighbours
none_between : (xs : List ℕ) (r k : ℕ) → IsStrictlyIncreasing xs → r + 1 < length xs
    → get_or xs r 0 < k → k < get_or xs (r + 1) 0 → Contains xs k → ⊥
none_between xs r k h within above below (i, inside, is) =
    let at : get_or xs i 0 ≡ k = get_or_default xs i 0 k inside ∙ is in
    elim (dec_lt i r) [
      | yes lower ↦ absurd (omega (arith, rises xs i r h lower (omega arith)))
      | no up ↦ elim (dec_lt (r + 1) i) [
        | yes higher ↦ absurd (omega (arith, rises xs (r + 1) i h higher inside))
        | no down ↦ elim (dec_lt r i) [
          | yes next ↦
              (let e : i ≡ r + 1 = omega arith in absurd (omega (arith, ap (λ j. get_or xs j 0) e)))
          | no same ↦
              (let e : i ≡ r = omega arith in absurd (omega (arith, ap (λ j. get_or xs j 0) e)))
        ]
      ]
    ]

at_next : (x : ℕ) (xs : List ℕ) (r d : ℕ) → get_or (x ∷ xs) (r + 1) d ≡ get_or xs r d
at_next x xs r d = rw add-one refl

-- The stretch before which `r` others end.
pub AreStretchEnds-stretch : (cs : List Component) (kept : List ℕ) (r first last : ℕ)
    → AreStretchEnds cs (all_stretch_ends cs kept) → r ≤ length kept → first ≡ get_or (0 ∷ kept) r 0
    → last + 1 ≡ get_or (all_stretch_ends cs kept) r 0 → IsStretch cs first last
AreStretchEnds-stretch cs kept r first last ends counted begun ended =
    let bounds : List ℕ = 0 ∷ all_stretch_ends cs kept in
    let many : length bounds ≡ length kept + 2 =
    omega (arith, length-append kept (length cs ∷ [])) in
    let low : first ≡ get_or bounds r 0 =
    begun ∙ sym (get_or_append_left (0 ∷ kept) (length cs ∷ []) 0 r (omega arith)) in
    let high : last + 1 ≡ get_or bounds (r + 1) 0 =
    ended ∙ sym (at_next 0 (all_stretch_ends cs kept) r 0) in
    let apart : get_or bounds r 0 < get_or bounds (r + 1) 0 = ends.rising r (omega arith) in
    let whole : get_or bounds (length kept + 1) 0 ≡ length cs =
    get_or_at (0 ∷ kept) (length cs) [] 0 (length kept + 1) (omega arith) in
    let within : last < length cs = elim (dec_lt r (length kept)) [
      | yes before ↦ omega
          (arith, rises bounds (r + 1) (length kept + 1) ends.rising (omega arith) (omega arith))
      | no there ↦ (let e : r ≡ length kept = omega arith in
          omega (arith, ap (λ i. get_or bounds (i + 1) 0) e))
    ] in
    record {
      ordered = omega arith;
      within = within;
      begun =
          (ends.begins first (omega arith)).1 (rw low (Contains-get_or bounds r 0 (omega arith)));
      unbroken = λ k above below b. none_between bounds r k ends.rising (omega arith) (omega arith)
          (omega arith) ((ends.begins k (omega arith)).0 b);
    }

-- ---- as a stretch is gone up

-- within a stretch each component but the first is joined to the one before by a step
pub IsStretch-step : (cs : List Component) (first last k : ℕ) (joined_by : Combinator)
    → IsStretch cs first last → first < k → k ≤ last → joined_by ≡ (component_at cs k).combinator
    → (joined_by ≡ none → k ≡ 0) → IsTrue (is_step (component_at cs k).combinator)
IsStretch-step cs first last k joined_by stretch above below e start =
    rw (← e) (by joined_by e start)
  where
    by : (joined_by : Combinator) → joined_by ≡ (component_at cs k).combinator
        → (joined_by ≡ none → k ≡ 0) → IsTrue (is_step joined_by)
    by none e start = let z : k ≡ 0 = start refl in absurd (omega arith)
    by descendant e start = absurd (stretch.unbroken k above below (inr (sym e)))
    by child e start = refl
    by adjacent e start = refl

-- a stretch that is not the first of all begins after a gap
pub IsStretch-gap : (cs : List Component) (first last : ℕ) → IsStretch cs first last → 0 < first
    → (component_at cs first).combinator ≡ descendant
IsStretch-gap cs first last stretch some =
    elim stretch.begun [ inl z ↦ absurd (omega arith) | inr d ↦ d ]

-- ---- from one stretch to the one before it

pub AreStretchEnds-last : (cs : List Component) (kept : List ℕ) (r first last : ℕ)
    → AreStretchEnds cs (all_stretch_ends cs kept) → r ≡ length kept → first ≡ get_or (0 ∷ kept) r 0
    → last + 1 ≡ length cs → IsStretch cs first last
AreStretchEnds-last cs kept r first last ends counted begun ended =
    AreStretchEnds-stretch cs kept r first last ends (omega arith) begun
    (ended ∙ sym (get_or_at kept (length cs) [] 0 r (sym counted)))

-- a stretch that does not begin at 0 begins where the one before it ends
pub begun-after : (kept : List ℕ) (n first : ℕ) → first ≡ get_or (0 ∷ kept) n 0 → 0 < first
    → (0 < n) × (get_or kept (n - 1) 0 ≡ first)
begun-after kept zero first e some = absurd (omega arith)
begun-after kept (suc n) first e some = (omega arith, (rw sub-one (sym e)))

-- the stretch before the one that begins at `first`
pub before-within : (kept : List ℕ) (n first : ℕ) → n ≤ length kept → first ≡ get_or (0 ∷ kept) n 0
    → 0 < first → (n - 1 < length kept) × (0 < get_or kept (n - 1) 0)
before-within kept n first counted e some =
    let after = begun-after kept n first e some in
    (omega (arith, after.0), rw after.1 some)

pub AreStretchEnds-before : (cs : List Component) (kept : List ℕ) (n first before last : ℕ)
    → AreStretchEnds cs (all_stretch_ends cs kept) → n ≤ length kept → first ≡ get_or (0 ∷ kept) n 0
    → 0 < first → before ≡ get_or (0 ∷ kept) (n - 1) 0 → last + 1 ≡ get_or kept (n - 1) 0
    → (n - 1 < length kept) × IsStretch cs before last × (last + 1 ≡ first)
AreStretchEnds-before cs kept n first before last ends counted begun some start ended =
    let after = begun-after kept n first begun some in
    let within : n - 1 < length kept = omega (arith, after.0) in (
      within,
      AreStretchEnds-stretch cs kept (n - 1) before last ends (omega arith) start
          (ended ∙ sym (get_or_append_left kept (length cs ∷ []) 0 (n - 1) within)),
      ended ∙ after.1,
    )

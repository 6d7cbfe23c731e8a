-- The indices of the selectors whose key an element reports.
-- Serves `RuleIndex::matching_counted` (only rules whose key the element reports are tested).
use Rattle.std.proofs.Common.{◌≡◌, ℕ, ◌<◌, ◌≤◌, ◌↔◌, ◌⊎◌, inl, inr, List, [], ◌∷◌, Bool, true, false, cond, Option, None, Some, IsTrue, length, get_or, refl, sym, ap, ◌∙◌, subst, arith}
use Rattle.std.specs.Prelude.{◌&&◌, OnOk, Result, Ok, Err}
use Rattle.std.specs.List.{All, filter, Contains, sum_by, range_with_len}
use Rattle.std.specs.List.Sorted.{IsStrictlyIncreasing}
use Rattle.std.proofs.lemmas.List.{length-map}
use Rattle.std.proofs.lemmas.List.Sums.{sum_by-cons}
use Rattle.std.proofs.lemmas.List.Elements.{Contains-get_or, Contains-append_left, Contains-append_right, Contains-append_cases}
use Rattle.std.proofs.lemmas.Bool.{false≢true}
use Rattle.simplecss_grammar.specs.Components.{Component}
use Rattle.simplecss_selector.specs.Buckets.{Bucket, Near, ReportsBuckets, bucket_of, reports_bucket}
use Rattle.simplecss_selector.specs.Placements.{HasPlacement}
use Rattle.simplecss_selector.specs.Trees.{Tree}
use Rattle.simplecss_selector.proofs.BucketLemmas.{bucket_needed}
use Rattle.simplecss.specs.internal.Chains.{selectors_of, IsLastBefore, AreChained}
use Rattle.simplecss.specs.internal.LastByBucket.{last_in_bucket}
use Rattle.simplecss.specs.internal.Recents.{Leads, AreStarts}
use Rattle.simplecss.specs.Matching.{AreMatches}
use Rattle.simplecss.specs.internal.Kept.{AreKeyed, AreKept}
use Rattle.simplecss.specs.SelectorIndices.{selector_at, key_at, Adds, AreTheIndices}
use Rattle.simplecss.specs.declared.index.link.Link.{Link}
use Rattle.simplecss.specs.declared.index.last_by_bucket.LastByBucket.{LastByBucket}
use Rattle.simplecss.proofs.Adding.{contains_none, contains_one, added}
use Rattle.simplecss.proofs.Ascending.{indices_are, sum_of_values, values_at}
use Rattle.simplecss.proofs.Following.{After}

-- each key leads to the last of all selectors with it
pub lasts_lead : (lasts : LastByBucket) (links : List Link) (selectors : List (List Component))
    → AreChained lasts links → selectors_of links ≡ selectors → (key : Bucket)
    → IsLastBefore selectors (length selectors) key (last_in_bucket lasts key)
lasts_lead lasts links selectors chained is key =
    let n : length links ≡ length selectors =
    sym (length-map links (λ l. l.selector.value)) ∙ ap length is in
    subst (λ ss. IsLastBefore ss (length selectors) key (last_in_bucket lasts key)) is (subst
    (λ m. IsLastBefore (selectors_of links) m key (last_in_bucket lasts key)) n (chained.last key))

module _ (is_reported : Bucket → Bool) (lasts : LastByBucket) (links : List Link)
    (selectors : List (List Component)) (chained : AreChained lasts links)
    (is : selectors_of links ≡ selectors) where
  abbrev Has : ℕ → Type 0
  Has index = IsTrue (is_reported (key_at selectors index))

  -- where a key leads, there is a selector with it
  led_to : (index : ℕ) → Leads is_reported lasts index → (index < length selectors) × Has index
  led_to index h =
      let at : IsLastBefore selectors (length selectors) h.0 (Some index) =
      subst (IsLastBefore selectors (length selectors) h.0) h.2
      (lasts_lead lasts links selectors chained is h.0) in
      (at.0, subst (λ key. IsTrue (is_reported key)) (sym at.1) h.1)

  -- a selector of a bucket is the last of it, or before that
  led_from : (index : ℕ) → index < length selectors → Has index
      → (last : ℕ) × Leads is_reported lasts last × (index ≤ last)
      × (key_at selectors index ≡ key_at selectors last)
  led_from index lt has = at (last_in_bucket lasts (key_at selectors index)) refl
      (lasts_lead lasts links selectors chained is (key_at selectors index))
    where
      order : (last : ℕ) → (index ≤ last) ⊎ (last < index)
      order last = grind arith

      at : (last : Option ℕ) → last_in_bucket lasts (key_at selectors index) ≡ last
          → IsLastBefore selectors (length selectors) (key_at selectors index) last
          → (last : ℕ) × Leads is_reported lasts last × (index ≤ last)
          × (key_at selectors index ≡ key_at selectors last)
      at None e h = absurd (h index lt refl)
      at (Some last) e h = of_order (order last)
        where
          of_order : (index ≤ last) ⊎ (last < index)
              → (last : ℕ) × Leads is_reported lasts last × (index ≤ last)
              × (key_at selectors index ≡ key_at selectors last)
          of_order (inl l) = (last, (key_at selectors index, has, e), l, sym h.1)
          of_order (inr l) = absurd (h.2 index l lt refl)

  -- where the keys lead are starts
  pub starts_led : (cleared indices : List ℕ) → cleared ≡ []
      → Adds cleared indices (Leads is_reported lasts) → AreStarts is_reported selectors indices
  starts_led cleared indices none leads = record {
    within = λ index c. led_to index (only index c);
    reached = λ index lt has. let last = led_from index lt has in
        (last.0, (added cleared indices leads last.0).1 (inr last.1), last.2, last.3);
  }
    where
      only : (index : ℕ) → Contains indices index → Leads is_reported lasts index
      only index c = elim ((added cleared indices leads index).0 c) [
        | inl x ↦ absurd (contains_none index (subst (λ xs. Contains xs index) none x))
        | inr y ↦ y
      ]

  -- starts, and where other keys lead, are starts of all these keys
  pub starts_more : (is_other is_one : Bucket → Bool) (old indices : List ℕ)
      → ((key : Bucket) → IsTrue (is_one key) → IsTrue (is_other key) ⊎ IsTrue (is_reported key))
      → ((key : Bucket) → IsTrue (is_other key) → IsTrue (is_one key))
      → ((key : Bucket) → IsTrue (is_reported key) → IsTrue (is_one key))
      → AreStarts is_other selectors old → Adds old indices (Leads is_reported lasts)
      → AreStarts is_one selectors indices
  starts_more is_other is_one old indices splits from_other from_wanted starts leads = record {
    within = λ index c. elim ((added old indices leads index).0 c) [
      | inl x ↦ let h = starts.within index x in (h.0, from_other (key_at selectors index) h.1)
      | inr y ↦ let h = led_to index y in (h.0, from_wanted (key_at selectors index) h.1)
    ];
    reached = λ index lt has. elim (splits (key_at selectors index) has) [
      | inl x ↦
          let last = starts.reached index lt x in
          (last.0, (added old indices leads last.0).1 (inl last.1), last.2, last.3)
      | inr y ↦
          let last = led_from index lt y in
          (last.0, (added old indices leads last.0).1 (inr last.1), last.2, last.3)
    ];
  }

  pub led_within : (old indices sorted : List ℕ)
      → ((index : ℕ) → Contains old index → index < length selectors)
      → Adds old indices (Leads is_reported lasts)
      → ((index : ℕ) → Contains sorted index ↔ Contains indices index) → (index : ℕ)
      → Contains sorted index → index < length selectors
  led_within old indices sorted within leads same index c = elim ((added old indices leads index).0
      ((same index).0 c)) [ inl x ↦ within index x | inr y ↦ (led_to index y).0 ]

filter_contains : (p : ℕ → Bool) (xs : List ℕ) (x : ℕ)
    → Contains (filter p xs) x ↔ (Contains xs x × IsTrue (p x))
filter_contains p [] x = (λ c. absurd (contains_none x c), λ h. absurd (contains_none x h.0))
filter_contains p (y ∷ ys) x = at (filter_contains p ys x) (p y) refl
  where
    at : Contains (filter p ys) x ↔ (Contains ys x × IsTrue (p x)) → (b : Bool) → p y ≡ b
        → Contains (cond b (y ∷ filter p ys) (filter p ys)) x ↔ (Contains (y ∷ ys) x × IsTrue (p x))
    at later true e = (
      λ c. elim (Contains-append_cases (y ∷ []) (filter p ys) x c) [
        | inl h ↦ (
          Contains-append_left (y ∷ []) ys x h,
          subst (λ v. IsTrue (p v)) ((contains_one y x).0 h) e,
        )
        | inr h ↦ let r = later.0 h in (Contains-append_right (y ∷ []) ys x r.0, r.1)
      ],
      λ h. elim (Contains-append_cases (y ∷ []) ys x h.0) [
        | inl c ↦ Contains-append_left (y ∷ []) (filter p ys) x c
        | inr c ↦ Contains-append_right (y ∷ []) (filter p ys) x (later.1 (c, h.1))
      ],
    )
    at later false e = (
      λ c. let r = later.0 c in (Contains-append_right (y ∷ []) ys x r.0, r.1),
      λ h. elim (Contains-append_cases (y ∷ []) ys x h.0) [
        | inl c ↦ absurd
            (false≢true (sym e ∙ subst (λ v. IsTrue (p v)) (sym ((contains_one y x).0 c)) h.1))
        | inr c ↦ later.1 (c, h.1)
      ],
    )

both_true : (a b : Bool) → IsTrue (a && b) ↔ (IsTrue a × IsTrue b)
both_true true b = (λ h. (refl, h), λ h. h.1)
both_true false b = (λ h. absurd (false≢true h), λ h. h.0)

-- of the starts, and of what is before them in their chains, those are kept that the test keeps: they
-- are all selectors whose key is reported and which it keeps
pub are_kept : (reported : Near) (keeps : List Component → Bool)
    (selectors : List (List Component)) (starts sorted all kept final : List ℕ)
    → AreStarts (reports_bucket reported) selectors starts
    → ((index : ℕ) → Contains sorted index ↔ Contains starts index)
    → Adds sorted all (After selectors (λ index. keeps (selector_at selectors index)) sorted)
    → kept ≡ filter (λ index. keeps (selector_at selectors index)) all
    → IsStrictlyIncreasing final → ((index : ℕ) → Contains final index ↔ Contains kept index)
    → AreKept reported keeps selectors final
are_kept reported keeps selectors starts sorted all kept final are same after is up same_again =
    record {
      ascending = up;
      exactly = λ index. (
        λ c. let h = (filter_contains test all index).0
            (subst (λ xs. Contains xs index) is ((same_again index).0 c)) in
            let k = there index ((added sorted all after index).0 h.0) in
            (k.0, (both index).1 (k.1, h.1)),
        λ h. let x = (both index).0 h.1 in
            (same_again index).1 (subst (λ xs. Contains xs index) (sym is)
            ((filter_contains test all index).1 (
              (added sorted all after index).1
                  (back index x.1 (are.reached index h.0 x.0)),
              x.1,
            ))),
      );
    }
  where
    test : ℕ → Bool
    test index = keeps (selector_at selectors index)

    both : (index : ℕ)
        → IsTrue (reports_bucket reported (key_at selectors index) && test index)
        ↔ (IsTrue (reports_bucket reported (key_at selectors index)) × IsTrue (test index))
    both index = both_true (reports_bucket reported (key_at selectors index)) (test index)

    there : (index : ℕ) → Contains sorted index ⊎ After selectors test sorted index
        → (index < length selectors) × IsTrue (reports_bucket reported (key_at selectors index))
    there index (inl c) = are.within index ((same index).0 c)
    there index (inr h) =
        let last = are.within h.0 ((same h.0).0 h.1) in (
          omega (arith, h.2, last.0),
          subst (λ key. IsTrue (reports_bucket reported key)) (sym h.3) last.1,
        )

    order : (index last : ℕ) → index ≤ last → (last ≡ index) ⊎ (index < last)
    order index last le = grind arith

    back : (index : ℕ) → IsTrue (test index)
        → (last : ℕ) × Contains starts last × (index ≤ last)
        × (key_at selectors index ≡ key_at selectors last)
        → Contains sorted index ⊎ After selectors test sorted index
    back index passes h = elim (order index h.0 h.2) [
      | inl e ↦ inl (subst (λ p. Contains sorted p) e ((same h.0).1 h.1))
      | inr l ↦ inr (h.0, (same h.0).1 h.1, l, h.3, passes)
    ]

-- a test that keeps all keeps the selectors whose key is reported
pub all_kept : (reported : Near) (selectors : List (List Component)) (indices : List ℕ)
    → AreKept reported (λ selector. true) selectors indices → AreKeyed reported selectors indices
all_kept reported selectors indices are = record {
  ascending = are.ascending;
  exactly = λ index. (
    λ c. let h = (are.exactly index).0 c in
        (h.0, ((both_true (reports_bucket reported (key_at selectors index)) true).0 h.1).0),
    λ h. (are.exactly index).1
        (h.0, (both_true (reports_bucket reported (key_at selectors index)) true).1 (h.1, refl)),
  );
}

-- what holds anyway holds on success
pub known_on_ok : {T E P : Type 0} (r : Result T E) → P → OnOk r P
known_on_ok (Ok x) p = p
known_on_ok (Err e) p = tt

-- of the candidates, which pass a test, those are kept that match, and each selector that matches
-- passes the test
found_matches : {Node : Type 0} (tree : Tree Node) (n : Node) (test : List Component → Bool)
    (selectors : List (List Component)) (candidates final : List ℕ)
    → ((index : ℕ) → HasPlacement tree (selector_at selectors index) n → index < length selectors
    → IsTrue (test (selector_at selectors index)))
    → AreTheIndices (λ index. IsTrue (test (selector_at selectors index))) (length selectors) candidates
    → IsStrictlyIncreasing final
    → ((index : ℕ) → Contains final index
    ↔ (Contains candidates index × HasPlacement tree (selector_at selectors index) n))
    → AreMatches tree n selectors final
found_matches tree n test selectors candidates final passes are up kept =
    record {
      ascending = up;
      exactly = λ index. (
        λ c. let h = (kept index).0 c in (((are.exactly index).0 h.0).0, h.1),
        λ h. (kept index).1 ((are.exactly index).1 (h.0, passes index h.1 h.0), h.1),
      );
    }

-- of those that are kept those are matches that have a placement, if the test keeps each of them
pub kept_matches : {Node : Type 0} (tree : Tree Node) (n : Node) (reported : Near)
    (keeps : List Component → Bool) (selectors : List (List Component))
    (candidates final : List ℕ)
    → ((index : ℕ) → HasPlacement tree (selector_at selectors index) n → index < length selectors
    → IsTrue (keeps (selector_at selectors index)))
    → ReportsBuckets tree n reported
    → AreKept reported keeps selectors candidates → IsStrictlyIncreasing final
    → ((index : ℕ) → Contains final index
    ↔ (Contains candidates index × HasPlacement tree (selector_at selectors index) n))
    → AreMatches tree n selectors final
kept_matches tree n reported keeps selectors candidates final needs reports =
    found_matches tree n (λ s. reports_bucket reported (bucket_of s) && keeps s) selectors candidates
    final (λ index h lt. (both_true (reports_bucket reported (key_at selectors index))
    (keeps (selector_at selectors index))).1 (
      reports (key_at selectors index) (bucket_needed tree (selector_at selectors index) n h),
      needs index h lt,
    ))

-- of the candidates those are kept that match, and no other selector does
pub are_matches : {Node : Type 0} (tree : Tree Node) (n : Node) (reported : Near)
    (selectors : List (List Component)) (candidates final : List ℕ)
    → ReportsBuckets tree n reported → AreKeyed reported selectors candidates
    → IsStrictlyIncreasing final
    → ((index : ℕ) → Contains final index
    ↔ (Contains candidates index × HasPlacement tree (selector_at selectors index) n))
    → AreMatches tree n selectors final
are_matches tree n reported selectors candidates final reports =
    found_matches tree n (λ s. reports_bucket reported (bucket_of s)) selectors candidates final
    (λ index h lt. reports (key_at selectors index)
    (bucket_needed tree (selector_at selectors index) n h))

-- the indices are below the number
pub indices_within : (IsOne : ℕ → Type 0) (number : ℕ) (indices : List ℕ)
    → AreTheIndices IsOne number indices → All (λ index. index < number) indices
indices_within IsOne number indices are k d lt =
    ((are.exactly (get_or indices k d)).0 (Contains-get_or indices k d lt)).0

-- a sum over the indices of the selectors that are tested is one over these selectors
pub sum_of_tested : (test : List Component → Bool) (selectors : List (List Component))
    (candidates : List ℕ) (cost : List Component → ℕ)
    → AreTheIndices (λ index. IsTrue (test (selector_at selectors index))) (length selectors) candidates
    → sum_by (λ index. cost (selector_at selectors index)) candidates
    ≡ sum_by cost (filter test selectors)
sum_of_tested test selectors candidates cost are =
    ap (sum_by (λ index. cost (selector_at selectors index))) (indices_are (λ index.
    test (selector_at selectors index)) (length selectors) candidates are)
    ∙ sum_of_values (selector_at selectors) test cost (range_with_len 0 (length selectors))
    ∙ ap (λ ss. sum_by cost (filter test ss)) (values_at selectors [])

-- so many ones are the length
pub ones : {X : Type 0} (xs : List X) → sum_by (λ x. 1) xs ≡ length xs
ones [] = refl
ones (x ∷ xs) =
    let first = sum_by-cons (λ x. 1) x xs in
    let others = ones xs in
    omega (arith, first, others)

-- there are as many indices as selectors that are tested
pub number_tested : (test : List Component → Bool) (selectors : List (List Component))
    (candidates : List ℕ)
    → AreTheIndices (λ index. IsTrue (test (selector_at selectors index))) (length selectors) candidates
    → length candidates ≡ length (filter test selectors)
number_tested test selectors candidates are =
    sym (ones candidates) ∙ sum_of_tested test selectors candidates (λ selector. 1) are
    ∙ ones (filter test selectors)

-- The ranges of the attributes of elements among those of all.
-- Serves `Tree::{push, set_attribute, set_states, attributes}`.
use Rattle.std.proofs.Common.{◌≡◌, ◌≢◌, ℕ, suc, ◌+◌, ◌-◌, ◌<◌, ◌≤◌, Bool, true, false, List, [], ◌∷◌, ◌++◌, length, map, get_or, set, take, drop, refl, sym, ap, ◌∙◌, subst, length-append, length-drop, arith}
use Rattle.std.specs.List.{slice_range}
use Rattle.std.specs.Prelude.{nat_eq}
use Rattle.std.proofs.Math.ListN.{get_or-append, get_or-map}
use Rattle.std.proofs.Math.Seq.{get_or-append_seam, map-set_same}
use Rattle.std.proofs.lemmas.List.{get_or-map as get_or-map_at, map-set, length-map, map-append, drop-append-le, take-append-le, take_all, length-set, get_or-set_same, get_or-set_other}
use Rattle.std.proofs.lemmas.Bool.Decides.{nat_tests}
use Rattle.css_elements.specs.declared.tree.Entry.{Entry}
use Rattle.css_elements.specs.Rows.{Attribute, AreRanges, attribute_of, nobody, row_of, row_with, with_attribute}

-- an empty range
pub empty_range : (all : List Attribute) (n : ℕ) → map attribute_of (slice_range all n n) ≡ []
empty_range all n =
    let none : n - n ≡ 0 = omega arith in ap (λ k. map attribute_of (take k (drop n all))) none

-- a range that is there stays where more is appended
range_longer : (all more : List Attribute) (a b : ℕ) → a ≤ b → b ≤ length all
    → slice_range (all ++ more) a b ≡ slice_range all a b
range_longer all more a b order within =
    ap (take (b - a)) (drop-append-le a all more (omega (arith, order, within)))
    ∙ take-append-le (b - a) (drop a all) more (omega (arith, order, within, length-drop a all))

-- a range up to the end, with one more
pub range_last : (all : List Attribute) (one : Attribute) (a : ℕ) → a ≤ length all
    → slice_range (all ++ one ∷ []) a (length all + 1) ≡ slice_range all a (length all) ++ one ∷ []
range_last all one a within =
    let cut = drop-append-le a all (one ∷ []) within in
    let count = length-drop a all in
    let more = length-append (drop a all) (one ∷ []) in
    ap (take (length all + 1 - a)) cut
    ∙ take_all (length all + 1 - a) (drop a all ++ one ∷ []) (omega (arith, within, count, more))
    ∙ ap (λ xs. xs ++ one ∷ [])
    (sym (take_all (length all - a) (drop a all) (omega (arith, within, count))))

-- rows do not change where further attributes are appended
pub rows_longer : (all more : List Attribute) (entries : List Entry)
    → ((i : ℕ) (d : Entry) → i < length entries
    → ((get_or entries i d).first ≤ (get_or entries i d).end)
    × ((get_or entries i d).end ≤ length all))
    → map (row_of (all ++ more)) entries ≡ map (row_of all) entries
rows_longer all more [] within = refl
rows_longer all more (e ∷ entries) within =
    let here = within 0 e (omega arith) in
    ap (λ xs. (record {
      name = e.name.now;
      attributes = map attribute_of xs;
      parent = e.parent;
      previous = e.previous;
      states = e.states;
    }) ∷ map (row_of (all ++ more)) entries) (range_longer all more e.first e.end here.0 here.1)
    ∙ ap (λ rows. row_of all e ∷ rows)
    (rows_longer all more entries (λ i d lt. within (suc i) d (omega (arith, lt))))

-- what each has is the same
same_at : (f : Entry → ℕ) (xs ys : List Entry) (i : ℕ) (d : Entry) → map f xs ≡ map f ys
    → f (get_or xs i d) ≡ f (get_or ys i d)
same_at f xs ys i d e =
    sym (get_or-map f xs i d) ∙ ap (λ zs. get_or zs i (f d)) e ∙ get_or-map f ys i d

module _ (entries : List Entry) (count : ℕ) (ranges : AreRanges entries count) where
  -- a new element without attributes
  pub ranges_more : (e : Entry) (more : List Entry) → more ≡ entries ++ e ∷ [] → e.first ≡ count
      → e.end ≡ count → AreRanges more count
  ranges_more e more are first end = subst (λ es. AreRanges es count) (sym are) (record {
    within = λ i d lt. by i d (nat_eq i (length entries)) refl lt;
    last = λ i d at.
        let here : i ≡ length entries = omega (arith, at, length-append entries (e ∷ [])) in
        ap (λ j. (get_or (entries ++ e ∷ []) j d).end) here
        ∙ ap (λ x. x.end) (get_or-append_seam entries e [] d) ∙ end;
  })
    where
      IsWithin : Entry → Type 0
      IsWithin x = (x.first ≤ x.end) × (x.end ≤ count)

      by : (i : ℕ) (d : Entry) (t : Bool) → nat_eq i (length entries) ≡ t
          → i < length (entries ++ e ∷ [])
          → ((get_or (entries ++ e ∷ []) i d).first ≤ (get_or (entries ++ e ∷ []) i d).end)
          × ((get_or (entries ++ e ∷ []) i d).end ≤ count)
      by i d true test lt =
          let at : i ≡ length entries = grind (arith, nat_tests, test) in
          let same = ap (λ j. get_or (entries ++ e ∷ []) j d) at ∙ get_or-append_seam entries e [] d in
          let f = ap (λ x. x.first) same ∙ first in
          let g = ap (λ x. x.end) same ∙ end in
          (omega (arith, f, g), omega (arith, g))
      by i d false test lt =
          let other : i ≢ length entries = grind (arith, nat_tests, test) in
          let count' = length-append entries (e ∷ []) in
          let less : i < length entries = omega (arith, lt, other, count') in
          let same = get_or-append entries (e ∷ []) d i less in
          let f = ap (λ x. x.first) same in
          let g = ap (λ x. x.end) same in
          let h = ranges.within i d less in
          (omega (arith, f, g, h.0), omega (arith, g, h.1))

  -- an entry is replaced by one with the same range
  pub ranges_set : (k : ℕ) (reported d : Entry) → reported.first ≡ (get_or entries k d).first
      → reported.end ≡ (get_or entries k d).end → AreRanges (set entries k reported) count
  ranges_set k reported d first end =
      let firsts = map-set_same (λ x. x.first) entries k reported d first in
      let ends = map-set_same (λ x. x.end) entries k reported d end in
      let len = length-set entries k reported in
      record {
        within = λ i x lt.
            let less : i < length entries = omega (arith, lt, len) in
            let f = same_at (λ y. y.first) (set entries k reported) entries i x firsts in
            let g = same_at (λ y. y.end) (set entries k reported) entries i x ends in
            let h = ranges.within i x less in
            (omega (arith, f, g, h.0), omega (arith, g, h.1));
        last = λ i x at.
            let here : i + 1 ≡ length entries = omega (arith, at, len) in
            same_at (λ y. y.end) (set entries k reported) entries i x ends ∙ ranges.last i x here;
      }

  -- the last element has one more attribute
  pub ranges_longer : (more k : ℕ) (reported d : Entry) → more ≡ count + 1 → k + 1 ≡ length entries
      → reported.first ≡ (get_or entries k d).first → reported.end ≡ more
      → AreRanges (set entries k reported) more
  ranges_longer more k reported d new at first end =
      let len = length-set entries k reported in
      record {
        within = λ i x lt. by i x (nat_eq i k) refl (omega (arith, lt, len));
        last = λ i x here.
            let same : i ≡ k = omega (arith, at, here, len) in
            let less : k < length entries = omega (arith, at) in
            ap (λ j. (get_or (set entries k reported) j x).end) same
            ∙ ap (λ y. y.end) (get_or-set_same entries k reported x less) ∙ end;
      }
    where
      by : (i : ℕ) (x : Entry) (t : Bool) → nat_eq i k ≡ t → i < length entries
          → ((get_or (set entries k reported) i x).first ≤ (get_or (set entries k reported) i x).end)
          × ((get_or (set entries k reported) i x).end ≤ more)
      by i x true test lt =
          let same : i ≡ k = grind (arith, nat_tests, test) in
          let less : k < length entries = omega (arith, at) in
          let is = ap (λ j. get_or (set entries k reported) j x) same
          ∙ get_or-set_same entries k reported x less in
          let f = ap (λ y. y.first) is in
          let g = ap (λ y. y.end) is in
          let h = ranges.within k d less in
          (omega (arith, f, g, first, end, new, h.0, h.1), omega (arith, g, end))
      by i x false test lt =
          let other : i ≢ k = grind (arith, nat_tests, test) in
          let is = get_or-set_other entries k i reported x other in
          let f = ap (λ y. y.first) is in
          let g = ap (λ y. y.end) is in
          let h = ranges.within i x lt in
          (omega (arith, f, g, h.0), omega (arith, g, h.1, new))

-- a range up to the end and one more attribute
pub attributes_with : (all more : List Attribute) (one : Attribute) (first last end : ℕ)
    → more ≡ all ++ one ∷ [] → first ≤ last → last ≡ length all → end ≡ length all + 1
    → map attribute_of (slice_range more first end)
    ≡ map attribute_of (slice_range all first last) ++ attribute_of one ∷ []
attributes_with all more one first last end are order last-is end-is =
    ap (λ xs. map attribute_of (slice_range xs first end)) are
    ∙ ap (λ n. map attribute_of (slice_range (all ++ one ∷ []) first n)) end-is
    ∙ ap (map attribute_of) (range_last all one first (omega (arith, order, last-is)))
    ∙ map-append attribute_of (slice_range all first (length all)) (one ∷ [])
    ∙ ap (λ n. map attribute_of (slice_range all first n) ++ attribute_of one ∷ []) (sym last-is)

-- the rows, of which the last has one more attribute
pub rows_with : (all more : List Attribute) (one : Attribute) (entries : List Entry)
    → AreRanges entries (length all) → more ≡ all ++ one ∷ [] → (k : ℕ) (reported d : Entry)
    → k + 1 ≡ length entries
    → row_of more reported ≡ row_with (row_of all (get_or entries k d)) one.0.now one.1.now
    → map (row_of more) (set entries k reported)
    ≡ with_attribute (map (row_of all) entries) one.0.now one.1.now
rows_with all more one entries ranges are k reported d last is =
    let at : k ≡ length (map (row_of all) entries) - 1 =
    omega (arith, last, length-map entries (row_of all)) in
    let less : k < length entries = omega (arith, last) in
    map-set (row_of more) entries k reported
    ∙ ap (λ rows. set rows k (row_of more reported))
    (ap (λ xs. map (row_of xs) entries) are ∙ rows_longer all (one ∷ []) entries ranges.within)
    ∙ ap (set (map (row_of all) entries) k) (is
    ∙ ap (λ row. row_with row one.0.now one.1.now)
    (sym (get_or-map_at (row_of all) entries k d nobody less)))
    ∙ ap (λ j. set (map (row_of all) entries) j
    (row_with (get_or (map (row_of all) entries) j nobody) one.0.now one.1.now)) at

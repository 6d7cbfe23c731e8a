-- For each property of which a declaration counts exactly one wins.
-- Serves the laws of `laws`.
use Rattle.std.proofs.Common.{◌≡◌, ◌<◌, ◌≤◌, ℕ, zero, suc, Bool, true, false, not, ◌&&◌, filter, List, [], ◌∷◌, length, get_or, map, Option, None, Some, refl, sym, ap, ◌∙◌, arith}
use Rattle.std.specs.Prelude.{bytes_eq, min}
use Rattle.std.specs.List.{Contains, count_by}
use Rattle.std.specs.List.Sorted.{IsStrictlyIncreasing}
use Rattle.std.specs.declared.cmp.Ordering.TheVariants.{Equal}
use Rattle.std.proofs.lemmas.List.Elements.{All-contains, All-contains_itself, All-head, All-weaker, filter_passes}
use Rattle.std.proofs.lemmas.List.Folds.{list_any_none}
use Rattle.std.proofs.lemmas.List.Sorted.{Contains-permutation, IsPermutation-sym}
use Rattle.std.proofs.lemmas.List.Sums.{length-filter}
use Rattle.css_text.proofs.order.ListFacts.{passing-map}
use Rattle.css_text.proofs.order.RankLemmas.{ordered_arranges, ordered_keeps}
use Rattle.css_cascade.specs.Cascade.{Wins, beats, cascade_cmp, winner_from}
use Rattle.css_cascade.proofs.WinnerLemmas.{wins}
use Rattle.css_sheet.specs.SheetOrder.{SheetRuleText}
use Rattle.css_styles.specs.Contenders.{Contender, OwnText, contenders, is_property, of_property}
use Rattle.css_styles.specs.Properties.{property_key}
use Rattle.css_styles.specs.Winners.{HaveNoHints, WinnerText, as_winner, counted, in_order, is_beaten, settled, unbeaten, winners}
use Rattle.css_styles.specs.internal.Stepping.{seen}
use Rattle.css_styles.proofs.DistinctLemmas.{Distinct, Told, contenders-distinct, counting-distinct, distinct-filter, settled-distinct}
use Rattle.css_styles.proofs.LawLemmas.{contains-filter, contains-kept, none-beats, not-true, same-property, tied}
use Rattle.css_styles.proofs.NumberLemmas.{bytes-itself, bytes-same}
use Rattle.css_styles.proofs.PropertyLemmas.{property-keys}
use Rattle.css_styles.proofs.RankLemmas.{less, less_ranks}
use Rattle.css_styles.proofs.RollingLemmas.{of_its_property}
use Rattle.css_styles.proofs.WinningLemmas.{filtered-none, none-found}

-- ---- names of one property

one-key : (property name : List ℕ) → is_property property name ≡ true
    → property_key property ≡ property_key name
one-key property name e =
    bytes-same (property_key property) (property_key name) (sym (property-keys property name) ∙ e)

keyed : (property name : List ℕ) → property_key property ≡ property_key name
    → is_property property name ≡ true
keyed property name e =
    property-keys property name ∙ ap (bytes_eq (property_key property)) (sym e)
    ∙ bytes-itself (property_key property)

-- ---- those of a property

some-there : {X : Type 0} (xs : List X) (x : X) → Contains xs x → 1 ≤ length xs
some-there xs x c = let l = c.1 in omega (arith, l)

at-most-one : (cs : List Contender) → Distinct cs
    → ((a b : Contender) → Contains cs a → Contains cs b → cascade_cmp a.weight b.weight ≡ Equal)
    → length cs ≤ 1
at-most-one [] d alike = omega arith
at-most-one (a ∷ []) d alike = omega arith
at-most-one (a ∷ b ∷ cs) d alike =
    absurd (All-head (Told a) b cs d.0 (alike a b (0, omega arith, refl) (1, omega arith, refl)))

module _ (property : List ℕ) (all : List Contender) where
  abbrev is-of : Contender → Bool
  is-of c = is_property property c.declaration.name

  abbrev stands : Contender → Bool
  stands c = not (is_beaten all c)

  passes-at : (p : Contender → Bool) (cs : List Contender) (c : Contender) → Contains (filter p cs) c
      → p c ≡ true
  passes-at p cs c h = All-contains (λ x. p x ≡ true) (filter p cs) c (filter_passes p cs) h

  -- one that none of those of the property beats is unbeaten
  module _ (w : Contender) (won : Wins seen (of_property property all) w) where
    of-w : is-of w ≡ true
    of-w = passes-at is-of all w won.found_there

    rival : (other : Contender) → Contains all other → (t : Bool)
        → is_property w.declaration.name other.declaration.name ≡ t
        → (t && beats (seen other) (seen w)) ≡ false
    rival other h true e =
        All-contains (λ c. beats (seen c) (seen w) ≡ false) (of_property property all) other won.unbeaten
        (contains-kept is-of all other h
        (keyed property other.declaration.name
        (one-key property w.declaration.name of-w ∙ one-key w.declaration.name other.declaration.name e)))
    rival other h false e = refl

    not-beaten : is_beaten all w ≡ false
    not-beaten =
        list_any_none
        (λ (other : Contender). is_property w.declaration.name other.declaration.name && beats other.weight w.weight)
        all
        (All-weaker (Contains all)
        (λ other. (is_property w.declaration.name other.declaration.name && beats other.weight w.weight) ≡ false)
        (λ other h. rival other h (is_property w.declaration.name other.declaration.name) refl) all
        (All-contains_itself all))

    stays : Contains (of_property property (unbeaten all)) w
    stays =
        contains-kept is-of (unbeaten all) w
        (contains-kept stands all w (contains-filter is-of all w won.found_there) (ap not not-beaten)) of-w

  -- none that is unbeaten is beaten by another of the property
  never-beats : (a b : Contender) → Contains (of_property property (unbeaten all)) a
      → Contains (of_property property (unbeaten all)) b → beats (seen b) (seen a) ≡ false
  never-beats a b in-a in-b =
      let stands-a = contains-filter is-of (unbeaten all) a in-a in
      let b-in = contains-filter stands all b (contains-filter is-of (unbeaten all) b in-b) in
      All-contains (λ c. beats (seen c) (seen a) ≡ false) (of_its_property all a) b
      (none-beats a all (not-true (is_beaten all a) (passes-at stands all a stands-a)))
      (contains-kept (λ c. is_property a.declaration.name c.declaration.name) all b b-in
      (keyed a.declaration.name b.declaration.name
      (sym (one-key property a.declaration.name (passes-at is-of (unbeaten all) a in-a))
      ∙ one-key property b.declaration.name (passes-at is-of (unbeaten all) b in-b))))

  pub one-unbeaten : Distinct all
      → length (of_property property (unbeaten all)) ≡ min 1 (length (of_property property all))
  one-unbeaten d = by (winner_from seen None (of_property property all)) refl
    where
      by : (best : Option Contender) → winner_from seen None (of_property property all) ≡ best
          → length (of_property property (unbeaten all)) ≡ min 1 (length (of_property property all))
      by None e =
          let none = none-found (of_property property all) e in
          ap length (filtered-none is-of stands all none)
          ∙ sym (ap (λ (cs : List Contender). min 1 (length cs)) none)
      by (Some w) e =
          let won = wins seen (of_property property all) w e in
          let some = some-there (of_property property all) w won.found_there in
          let stay = some-there (of_property property (unbeaten all)) w (stays w won) in
          let most =
          at-most-one (of_property property (unbeaten all))
          (distinct-filter is-of (unbeaten all) (distinct-filter stands all d))
          (λ a b in-a in-b.
          tied (seen a) (seen b) (never-beats b a in-b in-a) (never-beats a b in-a in-b)) in
          omega (arith, some, stay, most)

-- ---- those that win

pub one-wins : (rules : List SheetRuleText) (indices : List ℕ) (own : OwnText) → HaveNoHints rules
    → IsStrictlyIncreasing indices → (property : List ℕ)
    → count_by (λ (w : WinnerText). is_property property w.declaration.name) (winners rules indices own)
    ≡ min 1 (length (of_property property (counted rules indices own)))
one-wins rules indices own no-hints up property =
    let all = contenders rules indices own in
    let kept = unbeaten (counted rules indices own) in
    let is-won : WinnerText → Bool = λ w. is_property property w.declaration.name in
    sym (length-filter is-won (winners rules indices own))
    ∙ passing-map as_winner is-won (in_order kept)
    ∙ (ordered_arranges (less seen) (less_ranks seen) kept).counts (λ c. is_property property c.declaration.name)
    ∙ one-unbeaten property (counted rules indices own)
    (counting-distinct (settled all)
    (settled-distinct all (contenders-distinct rules own indices no-hints up)))

module _ {X Y : Type 0} (f : X → Y) where
  contains-mapped : (xs : List X) (y : Y) → Contains (map f xs) y → (x : X) × Contains xs x × (f x ≡ y)
  contains-mapped [] y c = let l = c.1 in absurd (omega (arith, l))
  contains-mapped (x ∷ xs) y c = at (λ d. contains-mapped xs y d) c.0 c.1 c.2
    where
      at : (Contains (map f xs) y → (z : X) × Contains xs z × (f z ≡ y)) → (k : ℕ)
          → k < length (map f (x ∷ xs)) → get_or (map f (x ∷ xs)) k y ≡ y
          → (z : X) × Contains (x ∷ xs) z × (f z ≡ y)
      at rest zero l e = (x, (0, omega arith, refl), e)
      at rest (suc k) l e =
          let r = rest (k, omega (arith, l), e) in
          let m = r.1.1 in
          (r.0, (suc r.1.0, omega (arith, m), r.1.2), r.2)

-- each of them counts, and no other of its property that does beats it
pub each-is-best : (rules : List SheetRuleText) (indices : List ℕ) (own : OwnText) (w : WinnerText)
    → Contains (winners rules indices own) w
    → (one : Contender) × (as_winner one ≡ w)
    × Wins (λ (c : Contender). c.weight) (of_property one.declaration.name (counted rules indices own)) one
each-is-best rules indices own w h =
    let all = counted rules indices own in
    let found = contains-mapped as_winner (in_order (unbeaten all)) w h in
    let one = found.0 in
    let kept =
    Contains-permutation (in_order (unbeaten all)) (unbeaten all) one
    (IsPermutation-sym (unbeaten all) (in_order (unbeaten all))
    (ordered_keeps (less seen) (less_ranks seen) (unbeaten all))) found.1 in
    let stands : Contender → Bool = λ c. not (is_beaten all c) in (
      one,
      found.2,
      record {
        found_there =
            contains-kept (λ c. is_property one.declaration.name c.declaration.name) all one
            (contains-filter stands all one kept) (same-property one.declaration.name);
        unbeaten =
            none-beats one all
            (not-true (is_beaten all one)
            (All-contains (λ c. stands c ≡ true) (unbeaten all) one (filter_passes stands all) kept));
      },
    )

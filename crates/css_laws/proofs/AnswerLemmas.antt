-- What wins is decided: two answers name the same declarations.
-- Serves `answer_law`.
use Rattle.std.proofs.Common.{◌≡◌, ℕ, zero, suc, ◌+◌, ◌<◌, ◌≤◌, ◌⊎◌, inl, inr, Bool, true, false, cond, not, ◌&&◌, ◌==◌, if◌then◌else◌, filter, List, [], ◌∷◌, length, map, get_or, Option, None, Some, refl, sym, ap, ◌∙◌, subst, arith}
use Rattle.std.specs.Prelude.{bytes_eq}
use Rattle.std.specs.Char.{to_ascii_lowercase}
use Rattle.std.specs.List.{Contains, count_by, list_any}
use Rattle.std.specs.Ordering.{MatchOrdering, is_gt, nat_cmp, ordering_reverse}
use Rattle.std.specs.Str.{str_to_ascii_lowercase}
use Rattle.std.specs.declared.cmp.Ordering.{Ordering}
use Rattle.std.specs.declared.cmp.Ordering.TheVariants.{Less, Equal, Greater}
use Rattle.std.proofs.lemmas.Cmp.{ranked}
use Rattle.std.proofs.lemmas.List.{get_or_default, get_or-map, length-map}
use Rattle.std.proofs.lemmas.List.Elements.{All-contains, All-contains_itself, All-filter, All-map, All-weaker, filter_passes}
use Rattle.std.proofs.lemmas.List.Folds.{Any-from_list_any, list_any-from_Any}
use Rattle.std.proofs.lemmas.List.Sums.{length-filter}
use Rattle.std.proofs.lemmas.Slice.Eq.{bytes_eq-Decides}
use Rattle.css_text.specs.AsciiBytes.{hyphen}
use Rattle.css_text.specs.Bytes.{starts, starts_two}
use Rattle.css_cascade.specs.Cascade.{Weighed, beats, cascade_cmp}
use Rattle.css_cascade.specs.Rollbacks.{best_of, is_left, is_left_under, left_after, left_once}
use Rattle.css_cascade.proofs.CascadeLemmas.{cascade_total}
use Rattle.css_cascade.proofs.WinnerLemmas.{found-some, wins}
use Rattle.css_sheet.specs.Sheets.{SheetText}
use Rattle.css_styles.specs.Contenders.{Contender, OwnText, is_property, of_property}
use Rattle.css_styles.specs.Winners.{AreDistinct, WinnerText, as_value, as_winner, counting_each, is_first, settled, settled_in}
use Rattle.css_tree.specs.Pages.{Page}
use Rattle.page_calls.specs.declared.modern.document_kind.DocumentKind.{DocumentKind}
use Rattle.css_laws.specs.Headline.{Applies, AreTheWinners}

both-ways : (s t : Bool) → (s ≡ true → t ≡ true) → (t ≡ true → s ≡ true) → s ≡ t
both-ways true t into from = sym (into refl)
both-ways false true into from = from refl
both-ways false false into from = refl

-- ---- names of one property

abbrev is_custom : List ℕ → Bool
is_custom name = starts_two hyphen hyphen name

lower-hyphen : (b : ℕ) → (to_ascii_lowercase b == hyphen) ≡ (b == hyphen)
lower-hyphen b = grind arith

lower-starts : (text : List ℕ) → starts hyphen (str_to_ascii_lowercase text) ≡ starts hyphen text
lower-starts [] = refl
lower-starts (b ∷ text) = lower-hyphen b

lower-custom : (name : List ℕ) → is_custom (str_to_ascii_lowercase name) ≡ is_custom name
lower-custom [] = refl
lower-custom (b ∷ text) =
    ap (λ t. t && starts hyphen (str_to_ascii_lowercase text)) (lower-hyphen b)
    ∙ ap (λ t. (b == hyphen) && t) (lower-starts text)

bytes-turned : (a b : List ℕ) → bytes_eq a b ≡ true → bytes_eq b a ≡ true
bytes-turned a b e = (bytes_eq-Decides b a).1 (sym ((bytes_eq-Decides a b).0 e))

clash : {X : Type 0} {t : Bool} → t ≡ true → t ≡ false → X
clash e f = absurd (let no : true ≡ false = sym e ∙ f in cc)

turned : (property name : List ℕ) → is_property property name ≡ true → is_property name property ≡ true
turned property name is = by (is_custom property) (is_custom name) refl refl is
  where
    lower : List ℕ → List ℕ
    lower = str_to_ascii_lowercase

    by : (s t : Bool) → is_custom property ≡ s → is_custom name ≡ t
        → (if s then bytes_eq name property else bytes_eq (lower name) (lower property)) ≡ true
        → (if t then bytes_eq property name else bytes_eq (lower property) (lower name)) ≡ true
    by true true e f h = bytes-turned name property h
    by true false e f h =
        clash e (ap is_custom (sym ((bytes_eq-Decides name property).0 h)) ∙ f)
    by false true e f h =
        clash (lower-custom name ∙ f)
        (ap is_custom ((bytes_eq-Decides (lower name) (lower property)).0 h) ∙ lower-custom property ∙ e)
    by false false e f h = bytes-turned (lower name) (lower property) h

-- ---- elements

abbrev Within : {X : Type 0} → List X → List X → Type 0
Within xs ys = (x : _) → Contains xs x → Contains ys x

module _ {X : Type 0} (p : X → Bool) where
  in-whole : (xs : List X) (x : X) → Contains (filter p xs) x → Contains xs x
  in-whole xs x h =
      All-contains (Contains xs) (filter p xs) x (All-filter p (Contains xs) xs (All-contains_itself xs)) h

  passes : (xs : List X) (x : X) → Contains (filter p xs) x → p x ≡ true
  passes xs x h = All-contains (λ y. p y ≡ true) (filter p xs) x (filter_passes p xs) h

  kept : (xs : List X) (x : X) → Contains xs x → p x ≡ true → Contains (filter p xs) x
  kept [] x h e = let l = h.1 in absurd (omega (arith, l))
  kept (y ∷ xs) x h e = at (λ c. kept xs x c e) h.0 h.1 h.2
    where
      by : (t : Bool) → Contains (filter p xs) x → Contains (cond t (y ∷ filter p xs) (filter p xs)) x
      by true c = let l = c.1 in (suc c.0, omega (arith, l), c.2)
      by false c = c

      at : (Contains xs x → Contains (filter p xs) x) → (k : ℕ) → k < suc (length xs)
          → get_or (y ∷ xs) k x ≡ x → Contains (cond (p y) (y ∷ filter p xs) (filter p xs)) x
      at rest zero l same =
          subst (λ t. Contains (cond t (y ∷ filter p xs) (filter p xs)) x) (sym (ap p same ∙ e))
          (0, omega arith, same)
      at rest (suc k) l same = by (p y) (rest (k, omega (arith, l), same))

  any-within : (xs ys : List X) → Within xs ys → list_any p xs ≡ true → list_any p ys ≡ true
  any-within xs ys into e =
      let any = Any-from_list_any p xs e in
      let there = into any.1 (any.0, any.2, any.3) in
      list_any-from_Any p ys (there.0, any.1, there.1, there.2, any.4)

  some-passes : (xs : List X) → 1 ≤ count_by p xs → (x : X) × Contains xs x × (p x ≡ true)
  some-passes xs more = by (filter p xs) (length-filter p xs) (in-whole xs) (passes xs)
    where
      by : (found : List X) → length found ≡ count_by p xs → Within found xs
          → ((x : X) → Contains found x → p x ≡ true) → (x : X) × Contains xs x × (p x ≡ true)
      by [] e into pass = absurd (omega (arith, e, more))
      by (x ∷ found) e into pass = (x, into x (0, omega arith, refl), pass x (0, omega arith, refl))

module _ {X Y : Type 0} (f : X → Y) where
  from-map : (xs : List X) (y : Y) → Contains (map f xs) y → (x : X) × Contains xs x × (f x ≡ y)
  from-map xs y c =
      All-contains (λ z. (x : X) × Contains xs x × (f x ≡ z)) (map f xs) y
      (All-map (λ z. (x : X) × Contains xs x × (f x ≡ z)) f xs
      (All-weaker (Contains xs) (λ x. (z : X) × Contains xs z × (f z ≡ f x)) (λ x h. (x, h, refl)) xs
      (All-contains_itself xs))) c

  to-map : (xs : List X) (x : X) → Contains xs x → Contains (map f xs) (f x)
  to-map xs x c =
      let l = c.1 in
      (c.0, omega (arith, l, length-map xs f), get_or-map f xs c.0 x (f x) l ∙ ap f c.2)

-- ---- declarations that are told apart

abbrev seen : Contender → Weighed
seen one = one.weight

abbrev rivals : List Contender → Contender → List Contender
rivals all one = of_property one.declaration.name all

-- two of these that nothing tells apart in the order of the cascade are one
abbrev AreTold : List Contender → Type 0
AreTold found =
    (a b : Contender) → Contains found a → Contains found b → cascade_cmp (seen a) (seen b) ≡ Equal → a ≡ b

pub told-apart : (found : List Contender) → AreDistinct found → AreTold found
told-apart found distinct a b in-a in-b tie = by (nat_cmp i j) (ranked i j (nat_cmp i j) refl)
  where
    i : ℕ
    i = in-a.0

    j : ℕ
    j = in-b.0

    there : get_or found j a ≡ b
    there = get_or_default found j a b in-b.1 ∙ in-b.2

    by : (r : Ordering) → MatchOrdering r (i < j) (i ≡ j) (j < i) → a ≡ b
    by Less less =
        absurd (distinct i j a less in-b.1
        (ap (λ (c : Contender). cascade_cmp c.weight (get_or found j a).weight) in-a.2
        ∙ ap (λ (c : Contender). cascade_cmp a.weight c.weight) there ∙ tie))
    by Equal same = sym in-a.2 ∙ ap (λ k. get_or found k a) same ∙ there
    by Greater less =
        absurd (distinct j i a less in-a.1
        (ap (λ (c : Contender). cascade_cmp c.weight (get_or found i a).weight) there
        ∙ ap (λ (c : Contender). cascade_cmp b.weight c.weight) in-a.2
        ∙ cascade_total.antisymm b.weight a.weight ∙ ap ordering_reverse tie))

told-filter : (p : Contender → Bool) (all : List Contender) → AreTold all → AreTold (filter p all)
told-filter p all told a b in-a in-b = told a b (in-whole p all a in-a) (in-whole p all b in-b)

tied : (a b : Weighed) → beats a b ≡ false → beats b a ≡ false → cascade_cmp a b ≡ Equal
tied a b e f = by (cascade_cmp a b) e (sym (ap is_gt (cascade_total.antisymm b a)) ∙ f)
  where
    by : (r : Ordering) → is_gt r ≡ false → is_gt (ordering_reverse r) ≡ false → r ≡ Equal
    by Less e f = absurd (cc)
    by Equal e f = refl
    by Greater e f = absurd (cc)

-- ---- the best of them

none-best : (found : List Contender) (one : Contender) → best_of seen found ≡ None → Contains found one → ⊥
none-best [] one e h = let l = h.1 in omega (arith, l)
none-best (x ∷ more) one e h = found-some (λ (w : Weighed). w) (seen x) (map seen more) e

module _ (xs ys : List Contender) (told : AreTold xs) (into : Within xs ys) (from : Within ys xs) where
  -- the best of the one is none that is worse than one of the other
  best-is : (w : Weighed) → best_of seen xs ≡ Some w → (c : Contender) × Contains xs c × (seen c ≡ w)
  best-is w e = from-map seen xs w (wins (λ (v : Weighed). v) (map seen xs) w e).found_there

  same-weight : (a b : Weighed) → best_of seen xs ≡ Some a → best_of seen ys ≡ Some b → a ≡ b
  same-weight a b e f =
      let won = wins (λ (v : Weighed). v) (map seen xs) a e in
      let lost = wins (λ (v : Weighed). v) (map seen ys) b f in
      let one = from-map seen xs a won.found_there in
      let other = from-map seen ys b lost.found_there in
      let first : beats b a ≡ false =
      All-contains (λ w. beats w a ≡ false) (map seen xs) b won.unbeaten
      (subst (Contains (map seen xs)) other.2 (to-map seen xs other.0 (from other.0 other.1))) in
      let second : beats a b ≡ false =
      All-contains (λ w. beats w b ≡ false) (map seen ys) a lost.unbeaten
      (subst (Contains (map seen ys)) one.2 (to-map seen ys one.0 (into one.0 one.1))) in
      let tie : cascade_cmp (seen one.0) (seen other.0) ≡ Equal =
      ap (λ w. cascade_cmp w (seen other.0)) one.2 ∙ ap (cascade_cmp a) other.2 ∙ tied a b second first in
      sym one.2 ∙ ap seen (told one.0 other.0 one.1 (from other.0 other.1) tie) ∙ other.2

  best-same : best_of seen xs ≡ best_of seen ys
  best-same = by (best_of seen xs) (best_of seen ys) refl refl
    where
      by : (o p : Option Weighed) → best_of seen xs ≡ o → best_of seen ys ≡ p → o ≡ p
      by None None e f = refl
      by None (Some b) e f =
          let there = from-map seen ys b (wins (λ (v : Weighed). v) (map seen ys) b f).found_there in
          absurd (none-best xs there.0 e (from there.0 there.1))
      by (Some a) None e f =
          let there = from-map seen xs a (wins (λ (v : Weighed). v) (map seen xs) a e).found_there in
          absurd (none-best ys there.0 f (into there.0 there.1))
      by (Some a) (Some b) e f = ap Some (same-weight a b e f)

-- ---- those that count

filter-within : (p q : Contender → Bool) (xs ys : List Contender) → Within xs ys → ((c : Contender) → p c ≡ q c)
    → Within (filter p xs) (filter q ys)
filter-within p q xs ys into same c h =
    kept q ys c (into c (in-whole p xs c h)) (sym (same c) ∙ passes p xs c h)

abbrev stays : List Contender → Contender → Bool
stays all one = is_left_under (best_of seen (rivals all one)) (seen one)

stays-same : (xs ys : List Contender) → AreTold xs → Within xs ys → Within ys xs → (c : Contender)
    → stays xs c ≡ stays ys c
stays-same xs ys told into from c =
    let p : Contender → Bool = λ other. is_property c.declaration.name other.declaration.name in
    ap (λ (best : Option Weighed). is_left_under best (seen c))
    (best-same (rivals xs c) (rivals ys c) (told-filter p xs told)
    (filter-within p p xs ys into (λ d. refl)) (filter-within p p ys xs from (λ d. refl)))

-- two lists have the same elements, and these are told apart
record Alike (xs ys : List Contender) : Type 0 where
  told : AreTold xs
  into : Within xs ys
  from : Within ys xs

once-alike : (xs ys : List Contender) → Alike xs ys → Alike (left_once seen rivals xs) (left_once seen rivals ys)
once-alike xs ys alike =
    let same = stays-same xs ys alike.told alike.into alike.from in
    record {
      told = told-filter (stays xs) xs alike.told;
      into = filter-within (stays xs) (stays ys) xs ys alike.into same;
      from = filter-within (stays ys) (stays xs) ys xs alike.from (λ c. sym (same c));
    }

after-alike : (times : ℕ) (xs ys : List Contender) → Alike xs ys
    → Alike (left_after seen rivals times xs) (left_after seen rivals times ys)
after-alike zero xs ys alike = alike
after-alike (suc times) xs ys alike =
    once-alike (left_after seen rivals times xs) (left_after seen rivals times ys) (after-alike times xs ys alike)

-- in the end nothing more is taken out
module _ (all : List Contender) where
  shorter : (p : Contender → Bool) (xs : List Contender)
      → (filter p xs ≡ xs) ⊎ (suc (length (filter p xs)) ≤ length xs)
  shorter p [] = inl refl
  shorter p (x ∷ xs) = by (p x) (shorter p xs)
    where
      by : (t : Bool) → (filter p xs ≡ xs) ⊎ (suc (length (filter p xs)) ≤ length xs)
          → (cond t (x ∷ filter p xs) (filter p xs) ≡ x ∷ xs)
          ⊎ (suc (length (cond t (x ∷ filter p xs) (filter p xs))) ≤ suc (length xs))
      by true (inl e) = inl (ap (λ ys. x ∷ ys) e)
      by true (inr l) = inr (omega (arith, l))
      by false (inl e) = let len = ap length e in inr (omega (arith, len))
      by false (inr l) = inr (omega (arith, l))

  abbrev after : ℕ → List Contender
  after k = left_after seen rivals k all

  -- more times change nothing, or each time one was taken out
  counted-down : (k : ℕ) → (after (suc k) ≡ after k) ⊎ (length (after k) + k ≤ length all)
  counted-down zero = inr (omega arith)
  counted-down (suc k) =
      elim (counted-down k) [
        | inl e ↦ inl (ap (left_once seen rivals) e)
        | inr l ↦ elim (shorter (stays (after k)) (after k)) [
          | inl e ↦ inl (ap (left_once seen rivals) e)
          | inr less ↦ inr (omega (arith, l, less))
        ]
      ]

  none-left : (xs : List Contender) → length xs ≤ 0 → xs ≡ []
  none-left [] l = refl
  none-left (x ∷ xs) l = absurd (omega (arith, l))

  fixed : after (suc (length all)) ≡ after (length all)
  fixed =
      elim (counted-down (length all)) [
        | inl e ↦ e
        | inr l ↦
            let none = none-left (after (length all)) (omega (arith, l)) in
            ap (left_once seen rivals) none ∙ sym none
      ]

  again : (more times : ℕ) → times ≡ more + length all → after times ≡ after (length all)
  again zero times e = ap after (let f : times ≡ length all = omega (arith, e) in f)
  again (suc more) zero e = absurd (omega (arith, e))
  again (suc more) (suc times) e =
      ap (left_once seen rivals) (again more times (omega (arith, e))) ∙ fixed

counting-within : (xs ys : List Contender) → Alike xs ys → Within (counting_each xs) (counting_each ys)
counting-within xs ys alike c h =
    let times = length ys + length xs in
    let e : times ≡ length ys + length xs = refl in
    let f : times ≡ length xs + length ys = omega (arith, e) in
    subst (λ (found : List Contender). Contains found c) (again ys (length xs) times f)
    ((after-alike times xs ys alike).into c
    (subst (λ (found : List Contender). Contains found c) (sym (again xs (length ys) times e)) h))

counting-told : (xs : List Contender) → AreTold xs → AreTold (counting_each xs)
counting-told xs told =
    (after-alike (length xs) xs xs (record { told = told; into = λ c h. h; from = λ c h. h })).told

-- ---- those that nothing is before

first-same : (xs ys : List Contender) → Within xs ys → Within ys xs → (w : Weighed) → is_first xs w ≡ is_first ys w
first-same xs ys into from w =
    let p : Contender → Bool = λ other. is_left other.weight w in
    ap not (both-ways (list_any p xs) (list_any p ys) (any-within p xs ys into) (any-within p ys xs from))

settled-same : (xs ys : List Contender) → Within xs ys → Within ys xs → (c : Contender)
    → settled_in xs c ≡ settled_in ys c
settled-same xs ys into from c =
    ap (λ (t : Bool). record {
      weight = if t then as_value c.weight else c.weight;
      declaration = c.declaration;
      source = c.source;
      place = c.place;
    }) (first-same xs ys into from c.weight)

settled-within : (xs ys : List Contender) → Within xs ys → Within ys xs → Within (settled xs) (settled ys)
settled-within xs ys into from c h =
    let one = from-map (settled_in xs) xs c h in
    subst (Contains (settled ys)) (sym (settled-same xs ys into from one.0) ∙ one.2)
    (to-map (settled_in ys) ys one.0 (into one.0 one.1))

settled-cmp : (all : List Contender) (a b : Contender)
    → cascade_cmp (settled_in all a).weight (settled_in all b).weight ≡ cascade_cmp a.weight b.weight
settled-cmp all a b = by (is_first all a.weight) (is_first all b.weight)
  where
    by : (s t : Bool)
        → cascade_cmp (if s then as_value a.weight else a.weight) (if t then as_value b.weight else b.weight)
        ≡ cascade_cmp a.weight b.weight
    by true true = refl
    by true false = refl
    by false true = refl
    by false false = refl

settled-told : (all : List Contender) → AreTold all → AreTold (settled all)
settled-told all told a b in-a in-b tie =
    let one = from-map (settled_in all) all a in-a in
    let other = from-map (settled_in all) all b in-b in
    let e =
    told one.0 other.0 one.1 other.1
    (sym (settled-cmp all one.0 other.0) ∙ ap (λ (c : Contender). cascade_cmp c.weight (settled_in all other.0).weight) one.2
    ∙ ap (λ (c : Contender). cascade_cmp a.weight c.weight) other.2 ∙ tie) in
    sym one.2 ∙ ap (settled_in all) e ∙ other.2

settled-alike : (xs ys : List Contender) → Alike xs ys → Alike (settled xs) (settled ys)
settled-alike xs ys alike = record {
  told = settled-told xs alike.told;
  into = settled-within xs ys alike.into alike.from;
  from = settled-within ys xs alike.from alike.into;
}

-- ---- answers

named-same : (one other : Contender) (winner second : WinnerText) → as_winner other ≡ second → one ≡ other
    → as_winner one ≡ winner → second ≡ winner
named-same one other winner second e f g = sym e ∙ sym (ap as_winner f) ∙ g

module _ (holds : List ℕ → List ℕ → Bool) (sheets : List SheetText) (kind : DocumentKind) (page : Page) (index : ℕ)
    (own : OwnText) where
  pub alike-once : (found : List WinnerText) → AreTheWinners holds sheets kind page index own found
      → (one other : Contender) → Applies holds sheets kind page index own one
      → Applies holds sheets kind page index own other → cascade_cmp one.weight other.weight ≡ Equal → one ≡ other
  alike-once found are one other applies also =
      told-apart are.applying are.distinct one other ((are.apply one).1 applies) ((are.apply other).1 also)

  module _ (found others : List WinnerText) (are : AreTheWinners holds sheets kind page index own found)
      (also : AreTheWinners holds sheets kind page index own others) where
    applying-alike : Alike are.applying also.applying
    applying-alike = record {
      told = told-apart are.applying are.distinct;
      into = λ c h. (also.apply c).1 ((are.apply c).0 h);
      from = λ c h. (are.apply c).1 ((also.apply c).0 h);
    }

    back-alike : Alike also.applying are.applying
    back-alike = record {
      told = told-apart also.applying also.distinct;
      into = applying-alike.from;
      from = applying-alike.into;
    }

    abbrev here : List Contender
    here = counting_each (settled are.applying)

    abbrev there : List Contender
    there = counting_each (settled also.applying)

    into-there : Within here there
    into-there =
        counting-within (settled are.applying) (settled also.applying)
        (settled-alike are.applying also.applying applying-alike)

    into-here : Within there here
    into-here =
        counting-within (settled also.applying) (settled are.applying)
        (settled-alike also.applying are.applying back-alike)

    pub in-others : (winner : WinnerText) → Contains found winner → Contains others winner
    in-others winner h =
        let best = are.best winner h in
        let one = best.0 in
        let name = one.declaration.name in
        let of : Contender → Bool = λ c. is_property name c.declaration.name in
        let counts = in-whole of here one best.2.found_there in
        let named = passes of here one best.2.found_there in
        let one-there = kept of there one (into-there one counts) named in
        let l = one-there.1 in
        let e = also.one name in
        let some =
        some-passes (λ (w : WinnerText). is_property name w.declaration.name) others (omega (arith, e, l)) in
        let second = also.best some.0 some.1 in
        let other = second.0 in
        let same-name : is_property name other.declaration.name ≡ true =
        ap (λ (w : WinnerText). is_property name w.declaration.name) second.1 ∙ some.2 in
        let of-other : Contender → Bool = λ c. is_property other.declaration.name c.declaration.name in
        let other-counts = in-whole of-other there other second.2.found_there in
        let unbeaten : beats (seen other) (seen one) ≡ false =
        All-contains (λ (c : Contender). beats (seen c) (seen one) ≡ false) (of_property name here) other best.2.unbeaten
        (kept of here other (into-here other other-counts) same-name) in
        let also-unbeaten : beats (seen one) (seen other) ≡ false =
        All-contains (λ (c : Contender). beats (seen c) (seen other) ≡ false) (of_property other.declaration.name there) one
        second.2.unbeaten
        (kept of-other there one (into-there one counts) (turned name other.declaration.name same-name)) in
        let told = counting-told (settled are.applying) (settled-told are.applying applying-alike.told) in
        let same : one ≡ other =
        told one other counts (into-here other other-counts) (tied (seen one) (seen other) also-unbeaten unbeaten) in
        subst (Contains others) (named-same one other winner some.0 second.1 same best.1) some.1

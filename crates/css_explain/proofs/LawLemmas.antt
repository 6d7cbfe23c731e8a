-- What an explanation says of the declarations that apply to an element.
-- Serves `laws::explain_law`.
use Rattle.std.proofs.Common.{◌≡◌, ℕ, zero, suc, ◌+◌, ◌-◌, ◌<◌, ◌≤◌, Bool, true, false, not, ◌&&◌, cond, filter, List, [], ◌∷◌, length, get_or, map, Option, None, Some, refl, sym, ap, ◌∙◌, subst, arith, reverse}
use Rattle.std.specs.List.{All, AllByRecursion, AllPairs, slice_get}
use Rattle.std.specs.List.Sorted.{IsPermutation, IsStrictlyIncreasing, ties}
use Rattle.std.specs.declared.cmp.Ordering.{Ordering}
use Rattle.std.specs.declared.cmp.Ordering.TheVariants.{Less, Equal, Greater}
use Rattle.std.specs.Ordering.{is_gt, is_lt, ordering_reverse}
use Rattle.std.proofs.lemmas.Cmp.{tied_itself}
use Rattle.std.proofs.lemmas.List.{get_or-reverse, length-reverse}
use Rattle.std.proofs.lemmas.List.Elements.{All-head, All-tail, filter_passes}
use Rattle.std.proofs.lemmas.List.Sorted.{IsPermutation-reverse, IsPermutation-trans}
use Rattle.css_text.proofs.order.RankLemmas.{Arranges, Rises, ordered_arranges, ordered_keeps}
use Rattle.css_cascade.specs.Cascade.{Weighed, beats, cascade_cmp}
use Rattle.css_cascade.proofs.CascadeLemmas.{cascade_total}
use Rattle.css_sheet.specs.SheetOrder.{SheetRuleText}
use Rattle.css_styles.specs.Contenders.{Contender, OwnText, contenders, is_named, of_names}
use Rattle.css_styles.specs.Winners.{HaveNoHints, in_order}
use Rattle.css_styles.proofs.DistinctLemmas.{Distinct, Told, contenders-distinct, distinct-filter}
use Rattle.css_explain.specs.Explanations.{ExplainedText, criterion, explained, explanation, losing, lost_by, strongest_first}
use Rattle.css_explain.proofs.OrderLemmas.{weaker, weaker_ranks}

abbrev contender_in : ExplainedText → Contender
contender_in one = one.contender

-- ---- each is there once

all-in : (before : Option Weighed) (cs : List Contender) → map contender_in (losing before cs) ≡ cs
all-in before [] = refl
all-in before (one ∷ more) = ap (λ cs. one ∷ cs) (all-in (Some one.weight) more)

pub each-there : (found : List Contender) → IsPermutation found (map contender_in (explained found))
each-there found =
    subst (IsPermutation found) (sym (all-in None (strongest_first found)))
    (IsPermutation-trans found (in_order found) (reverse (in_order found))
    (ordered_keeps weaker weaker_ranks found) (IsPermutation-reverse (in_order found)))

-- ---- each has the criterion between it and the one before

some-is : {X : Type 0} {x y : X} → Some x ≡ Some y → x ≡ y
some-is e = cc

criterion-next : (before : Option Weighed) (cs : List Contender) (k : ℕ) (one other : ExplainedText)
    → slice_get (losing before cs) k ≡ Some one → slice_get (losing before cs) (suc k) ≡ Some other
    → other.lost_by ≡ Some (criterion one.contender.weight other.contender.weight)
criterion-next before [] k one other e f = absurd (cc)
criterion-next before (c ∷ []) zero one other e f = absurd (cc)
criterion-next before (c ∷ d ∷ cs) zero one other e f =
    let first : record { contender = c; lost_by = lost_by before c.weight } ≡ one = some-is e in
    let second : record { contender = d; lost_by = Some (criterion c.weight d.weight) } ≡ other = some-is f in
    subst (λ (two : ExplainedText). two.lost_by ≡ Some (criterion one.contender.weight two.contender.weight)) second
    (ap (λ (one : ExplainedText). Some (criterion one.contender.weight d.weight)) first)
criterion-next before (c ∷ cs) (suc k) one other e f = criterion-next (Some c.weight) cs k one other e f

pub criterion-after : (found : List Contender) (k : ℕ) (one other : ExplainedText)
    → slice_get (explained found) k ≡ Some one → slice_get (explained found) (k + 1) ≡ Some other
    → other.lost_by ≡ Some (criterion one.contender.weight other.contender.weight)
criterion-after found k one other e f =
    let next : suc k ≡ k + 1 = omega arith in
    criterion-next None (strongest_first found) k one other e
    (ap (slice_get (explained found)) next ∙ f)

-- ---- each beats those after it

reversed : (r : Ordering) → is_gt r ≡ is_lt (ordering_reverse r)
reversed Less = refl
reversed Equal = refl
reversed Greater = refl

beats-weaker : (a b : Contender) → beats a.weight b.weight ≡ weaker b a
beats-weaker a b =
    reversed (cascade_cmp a.weight b.weight) ∙ ap is_lt (sym (cascade_total.antisymm b.weight a.weight))

and-left : (a b : Bool) → (not a && not b) ≡ true → a ≡ false
and-left true b e = absurd (cc)
and-left false b e = refl

and-right : (a b : Bool) → (not a && not b) ≡ true → b ≡ false
and-right true b e = absurd (cc)
and-right false true e = absurd (cc)
and-right false false e = refl

not-both : {G : Type 0} (t : Bool) → t ≡ true → t ≡ false → G
not-both t e f = absurd (let no : true ≡ false = sym e ∙ f in cc)

tied-equal : (x a : Contender) → ties weaker x a ≡ true → cascade_cmp x.weight a.weight ≡ Equal
tied-equal x a t = by (cascade_cmp x.weight a.weight) refl
  where
    by : (r : Ordering) → cascade_cmp x.weight a.weight ≡ r → r ≡ Equal
    by Less e = not-both (weaker x a) (ap is_lt e) (and-left (weaker x a) (weaker a x) t)
    by Equal e = refl
    by Greater e =
        not-both (weaker a x) (sym (beats-weaker x a) ∙ ap is_gt e) (and-right (weaker x a) (weaker a x) t)

at-most-one : (x : Contender) (cs : List Contender) → Distinct cs
    → All (λ (c : Contender). ties weaker x c ≡ true) cs → length cs ≤ 1
at-most-one x [] d tied = omega arith
at-most-one x (a ∷ []) d tied = omega arith
at-most-one x (a ∷ b ∷ cs) d tied =
    let Tied : Contender → Type 0 = λ c. ties weaker x c ≡ true in
    let of-a = tied-equal x a (All-head Tied a (b ∷ cs) tied) in
    let of-b = tied-equal x b (All-head Tied b cs (All-tail Tied a (b ∷ cs) tied)) in
    absurd (All-head (Told a) b cs d.0
    (sym (cascade_total.congr x.weight a.weight b.weight of-a) ∙ of-b))

few-tied : (cs : List Contender) → Distinct cs → (x : Contender) → length (filter (ties weaker x) cs) ≤ 1
few-tied cs d x =
    at-most-one x (filter (ties weaker x) cs) (distinct-filter (ties weaker x) cs d)
    (filter_passes (ties weaker x) cs)

-- each later one beats each earlier one
abbrev Strict : List Contender → Type 0
Strict [] = Unit {0}
Strict (x ∷ xs) = AllByRecursion (λ (y : Contender). weaker x y ≡ true) xs × Strict xs

none-tied : (x : Contender) (ys : List Contender) → AllByRecursion (λ (y : Contender). weaker y x ≡ false) ys
    → filter (ties weaker x) ys ≡ [] → AllByRecursion (λ (y : Contender). weaker x y ≡ true) ys
none-tied x [] over none = tt
none-tied x (y ∷ ys) over none =
    let found = by (none-tied x ys over.1) (weaker x y) refl in (found.0, found.1)
  where
    rest : List Contender
    rest = filter (ties weaker x) ys

    by : (rest ≡ [] → AllByRecursion (λ (y : Contender). weaker x y ≡ true) ys) → (t : Bool)
        → weaker x y ≡ t → (t ≡ true) × AllByRecursion (λ (y : Contender). weaker x y ≡ true) ys
    by later true e =
        let fails : ties weaker x y ≡ false = ap (λ t. not t && not (weaker y x)) e in
        (refl, later (sym (ap (λ t. cond t (y ∷ rest) rest) fails) ∙ none))
    by later false e =
        let passes : ties weaker x y ≡ true =
        ap (λ t. not t && not (weaker y x)) e ∙ ap not over.0 in
        absurd (let no : y ∷ rest ≡ [] = sym (ap (λ t. cond t (y ∷ rest) rest) passes) ∙ none in cc)

fewer : (t : Bool) (x : Contender) (xs : List Contender) → length (cond t (x ∷ xs) xs) ≤ 1 → length xs ≤ 1
fewer true x xs l = omega (arith, l)
fewer false x xs l = l

none-left : (xs : List Contender) → length xs + 1 ≤ 1 → xs ≡ []
none-left [] l = refl
none-left (x ∷ xs) l = absurd (omega (arith, l))

strict : (ys : List Contender) → Rises weaker ys
    → ((x : Contender) → length (filter (ties weaker x) ys) ≤ 1) → Strict ys
strict [] rises few = tt
strict (y ∷ ys) rises few =
    let itself : ties weaker y y ≡ true =
    ap (λ r. not (is_lt r) && not (is_lt r)) (tied_itself cascade_total y.weight) in
    let rest = filter (ties weaker y) ys in
    let whole : length (y ∷ rest) ≤ 1 =
    subst (λ t. length (cond t (y ∷ rest) rest) ≤ 1) itself (few y) in (
      none-tied y ys rises.0 (none-left rest (omega (arith, whole))),
      strict ys rises.1 (λ x. fewer (ties weaker x y) y (filter (ties weaker x) ys) (few x)),
    )

all-at : (P : Contender → Type 0) (xs : List Contender) (k : ℕ) (d : Contender) → AllByRecursion P xs
    → k < length xs → P (get_or xs k d)
all-at P [] k d all l = absurd (omega (arith, l))
all-at P (x ∷ xs) zero d all l = all.0
all-at P (x ∷ xs) (suc k) d all l = all-at P xs k d all.1 (omega (arith, l))

strict-at : (ys : List Contender) (i j : ℕ) (d : Contender) → Strict ys → i < j → j < length ys
    → weaker (get_or ys i d) (get_or ys j d) ≡ true
strict-at [] i j d s less l = absurd (omega (arith, l))
strict-at (y ∷ ys) i zero d s less l = absurd (omega (arith, less))
strict-at (y ∷ ys) zero (suc j) d s less l =
    all-at (λ (z : Contender). weaker y z ≡ true) ys j d s.0 (omega (arith, l))
strict-at (y ∷ ys) (suc i) (suc j) d s less l =
    strict-at ys i j d s.1 (omega (arith, less)) (omega (arith, l))

abbrev Beats : Contender → Contender → Type 0
Beats one other = beats one.weight other.weight ≡ true

turned-pairs : (ys : List Contender) → Strict ys → AllPairs Beats (reverse ys)
turned-pairs ys s i j d less within =
    let count : length (reverse ys) ≡ length ys = length-reverse ys in
    let short : j < length ys = omega (arith, within, count) in
    let a = get_or ys (length ys - 1 - i) d in
    let b = get_or ys (length ys - 1 - j) d in
    subst (λ (one : Contender). Beats one (get_or (reverse ys) j d))
    (sym (get_or-reverse ys i d (omega (arith, less, short))))
    (subst (Beats a) (sym (get_or-reverse ys j d short))
    (beats-weaker a b
    ∙ strict-at ys (length ys - 1 - j) (length ys - 1 - i) d s (omega (arith, less, short))
    (omega (arith, less, short))))

in-order-strict : (found : List Contender) → Distinct found → Strict (in_order found)
in-order-strict found d =
    let arranged : Arranges weaker found (in_order found) = ordered_arranges weaker weaker_ranks found in
    strict (in_order found) arranged.rises
    (λ x. subst (λ (xs : List Contender). length xs ≤ 1) (sym (arranged.stable x)) (few-tied found d x))

pub each-beats : (rules : List SheetRuleText) (indices : List ℕ) (own : OwnText) (names : List (List ℕ))
    → HaveNoHints rules → IsStrictlyIncreasing indices
    → AllPairs Beats (map contender_in (explanation rules indices own names))
each-beats rules indices own names no-hints up =
    let all = contenders rules indices own in
    let found = of_names names all in
    subst (AllPairs Beats) (sym (all-in None (strongest_first found)))
    (turned-pairs (in_order found) (in-order-strict found
    (distinct-filter (λ (one : Contender). is_named names one.declaration.name) all
    (contenders-distinct rules own indices no-hints up))))

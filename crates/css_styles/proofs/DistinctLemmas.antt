-- No two declarations of an element are alike in the order of the cascade.
-- Serves the laws of `laws`.
use Rattle.std.proofs.Common.{◌≡◌, ℕ, zero, suc, ◌+◌, ◌<◌, ◌≤◌, Bool, true, false, cond, filter, if◌then◌else◌, List, [], ◌∷◌, ◌++◌, length, map, get_or, Option, None, Some, refl, sym, ap, ◌∙◌, subst, arith}
use Rattle.std.specs.List.{All, Contains, slice_get}
use Rattle.std.specs.List.Sorted.{IsStrictlyIncreasing}
use Rattle.std.specs.Option.{is_some}
use Rattle.std.specs.Cmp.Lexicographic.{slice_cmp}
use Rattle.std.specs.declared.cmp.Ordering.{Ordering}
use Rattle.std.specs.declared.cmp.Ordering.TheVariants.{Less, Equal, Greater}
use Rattle.std.specs.Ordering.{MatchOrdering, bool_cmp, nat_cmp, ordering_reverse, ordering_then}
use Rattle.std.proofs.lemmas.Cmp.{ranked}
use Rattle.std.proofs.lemmas.List.{get_or_default}
use Rattle.std.proofs.lemmas.List.Elements.{All-append, All-cons, All-filter, All-head, All-map, All-nil, All-tail, All-weaker}
use Rattle.std.proofs.lemmas.List.Kept.{AllPairs-cons}
use Rattle.css_syntax.specs.DeclarationLists.{DeclarationText}
use Rattle.css_cascade.specs.Cascade.{Weighed, cascade_cmp, important_layer, important_origin, layered_cmp, normal_layer, normal_origin, origin_cmp, origin_rank, rule_cmp}
use Rattle.css_cascade.specs.Rollbacks.{best_of, is_left_under, left_after}
use Rattle.css_cascade.specs.declared.weights.Origin.{Origin}
use Rattle.css_cascade.specs.declared.weights.Origin.TheVariants.{UserAgent, User, Hint, Author}
use Rattle.css_cascade.proofs.CascadeLemmas.{cascade_total}
use Rattle.css_sheet.specs.SheetOrder.{SheetRuleText}
use Rattle.css_styles.specs.Contenders.{Contender, OwnText, contenders, in_presentation, in_rule, in_style, in_turn, is_declared, of_own, of_rules, own_declarations, placed, rule_declarations, stated_at, states_at}
use Rattle.css_styles.specs.Winners.{AreDistinct, HaveNoHints, as_value, counting_each, is_first, settled, settled_in}
use Rattle.css_styles.specs.internal.Stepping.{seen}
use Rattle.css_styles.proofs.IndexLemmas.{Rising, rises}
use Rattle.css_styles.proofs.RollingLemmas.{of_its_property}

both-equal : (r s : Ordering) → ordering_then r s ≡ Equal → (r ≡ Equal) × (s ≡ Equal)
both-equal Less s e = absurd (cc)
both-equal Equal s e = (refl, e)
both-equal Greater s e = absurd (cc)

nat-equal : (m n : ℕ) → nat_cmp m n ≡ Equal → m ≡ n
nat-equal m n e = by (nat_cmp m n) (ranked m n (nat_cmp m n) refl) e
  where
    by : (r : Ordering) → MatchOrdering r (m < n) (m ≡ n) (n < m) → r ≡ Equal → m ≡ n
    by Less h e = absurd (cc)
    by Equal h e = h
    by Greater h e = absurd (cc)

bool-equal : (s t : Bool) → bool_cmp s t ≡ Equal → s ≡ t
bool-equal true true e = refl
bool-equal true false e = absurd (cc)
bool-equal false true e = absurd (cc)
bool-equal false false e = refl

-- what is the same of two that nothing tells apart
record Same (a b : Weighed) : Type 0 where
  origin : origin_rank a.origin ≡ origin_rank b.origin
  attached : a.attached ≡ b.attached
  place : slice_cmp nat_cmp a.place b.place ≡ Equal

origin-same : (a b : Weighed) → a.important ≡ b.important → normal_origin a ≡ normal_origin b
    → important_origin b ≡ important_origin a → origin_rank a.origin ≡ origin_rank b.origin
origin-same a b e = by a.important b.important e
  where
    by : (s t : Bool) → s ≡ t
        → (if s then 0 else origin_rank a.origin) ≡ (if t then 0 else origin_rank b.origin)
        → (if t then origin_rank b.origin else 0) ≡ (if s then origin_rank a.origin else 0)
        → origin_rank a.origin ≡ origin_rank b.origin
    by true true e f g = sym g
    by true false e f g = absurd (cc)
    by false true e f g = absurd (cc)
    by false false e f g = f

same-of : (a b : Weighed) → cascade_cmp a b ≡ Equal → Same a b
same-of a b e =
    let important = both-equal (bool_cmp a.important b.important) (origin_cmp a b) e in
    let normal = both-equal (nat_cmp (normal_origin a) (normal_origin b)) _ important.1 in
    let turned = both-equal (nat_cmp (important_origin b) (important_origin a)) _ normal.1 in
    let attached = both-equal (bool_cmp a.attached b.attached) (layered_cmp a b) turned.1 in
    let layer = both-equal (nat_cmp (normal_layer a) (normal_layer b)) _ attached.1 in
    let later = both-equal (nat_cmp (important_layer b) (important_layer a)) (rule_cmp a b) layer.1 in
    let rule = both-equal (slice_cmp nat_cmp a.specificity b.specificity) _ later.1 in
    record {
      origin =
          origin-same a b (bool-equal a.important b.important important.0)
          (nat-equal (normal_origin a) (normal_origin b) normal.0)
          (nat-equal (important_origin b) (important_origin a) turned.0);
      attached = bool-equal a.attached b.attached attached.0;
      place = rule.1;
    }

places-same : (i j k l : ℕ) → slice_cmp nat_cmp (i ∷ j ∷ []) (k ∷ l ∷ []) ≡ Equal → (i ≡ k) × (j ≡ l)
places-same i j k l e =
    let first = both-equal (nat_cmp i k) (slice_cmp nat_cmp (j ∷ []) (l ∷ [])) e in
    let second = both-equal (nat_cmp j l) Equal first.1 in
    (nat-equal i k first.0, nat-equal j l second.0)

some-is : {X : Type 0} {x y : X} → Some x ≡ Some y → x ≡ y
some-is e = cc

pub all-at : {X : Type 0} (P : X → Type 0) (xs : List X) (k : ℕ) (x : X) → All P xs
    → slice_get xs k ≡ Some x → P x
all-at P [] k x all e = absurd (cc)
all-at P (y ∷ xs) zero x all e = subst P (some-is e) (All-head P y xs all)
all-at P (y ∷ xs) (suc k) x all e = all-at P xs k x (All-tail P y xs all) e

is-hint : (o : Origin) → origin_rank o ≡ 2 → o ≡ Hint
is-hint UserAgent e = absurd (omega (arith, e))
is-hint User e = absurd (omega (arith, e))
is-hint Hint e = refl
is-hint Author e = absurd (omega (arith, e))

-- ---- lists of which no two are alike

abbrev pub Told : Contender → Contender → Type 0
Told a b = cascade_cmp a.weight b.weight ≡ Equal → ⊥

abbrev pub Distinct : List Contender → Type 0
Distinct [] = Unit {0}
Distinct (c ∷ cs) = All (Told c) cs × Distinct cs

pub distinct-filter : (p : Contender → Bool) (cs : List Contender) → Distinct cs → Distinct (filter p cs)
distinct-filter p [] d = tt
distinct-filter p (c ∷ cs) d = by (p c) (distinct-filter p cs d.1)
  where
    by : (t : Bool) → Distinct (filter p cs) → Distinct (cond t (c ∷ filter p cs) (filter p cs))
    by true rest = (All-filter p (Told c) cs d.0, rest)
    by false rest = rest

distinct-append : (xs ys : List Contender) → Distinct xs → Distinct ys
    → All (λ x. All (Told x) ys) xs → Distinct (xs ++ ys)
distinct-append [] ys dx dy across = dy
distinct-append (x ∷ xs) ys dx dy across = (
  All-append (Told x) xs ys dx.0 (All-head (λ z. All (Told z) ys) x xs across),
  distinct-append xs ys dx.1 dy (All-tail (λ z. All (Told z) ys) x xs across),
)

pub distinct-pairs : (cs : List Contender) → Distinct cs → AreDistinct cs
distinct-pairs [] d = λ i j e less within. absurd (omega (arith, within))
distinct-pairs (c ∷ cs) d = AllPairs-cons Told c cs d.0 (distinct-pairs cs d.1)

-- two that are alike are one
pub alike-are-one : (found : List Contender) → AreDistinct found → (a b : Contender) → Contains found a
    → Contains found b → cascade_cmp a.weight b.weight ≡ Equal → a.weight ≡ b.weight
alike-are-one found distinct a b in-a in-b tie =
    by (nat_cmp i j) (ranked i j (nat_cmp i j) refl)
  where
    i : ℕ
    i = in-a.0

    j : ℕ
    j = in-b.0

    there : get_or found j a ≡ b
    there = get_or_default found j a b in-b.1 ∙ in-b.2

    by : (r : Ordering) → MatchOrdering r (i < j) (i ≡ j) (j < i) → a.weight ≡ b.weight
    by Less less =
        absurd (distinct i j a less in-b.1
        (ap (λ (c : Contender). cascade_cmp c.weight (get_or found j a).weight) in-a.2
        ∙ ap (λ (c : Contender). cascade_cmp a.weight c.weight) there ∙ tie))
    by Equal same =
        ap (λ (c : Contender). c.weight) (sym in-a.2 ∙ ap (λ k. get_or found k a) same ∙ there)
    by Greater less =
        absurd (distinct j i a less in-a.1
        (ap (λ (c : Contender). cascade_cmp c.weight (get_or found i a).weight) there
        ∙ ap (λ (c : Contender). cascade_cmp b.weight c.weight) in-a.2
        ∙ cascade_total.antisymm b.weight a.weight ∙ ap ordering_reverse tie))

-- ---- declarations one after another

-- its place is one of those after a number, from this one on
record At (first from : ℕ) (c : Contender) : Type 0 where
  number : ℕ
  least : from ≤ number
  is : c.weight.place ≡ first ∷ number ∷ []

told-places : (a b : Contender) (i j k l : ℕ) → a.weight.place ≡ i ∷ j ∷ []
    → b.weight.place ≡ k ∷ l ∷ [] → ((i ≡ k) × (j ≡ l) → ⊥) → Told a b
told-places a b i j k l at-a at-b apart tie =
    apart (places-same i j k l
    (sym (ap (λ ps. slice_cmp nat_cmp ps (k ∷ l ∷ [])) at-a)
    ∙ sym (ap (slice_cmp nat_cmp a.weight.place) at-b) ∙ (same-of a.weight b.weight tie).place))

module _ (contends : ℕ → DeclarationText → Contender) where
  -- what holds of each, holds of all
  all-placed : (P : Contender → Type 0) → ((k : ℕ) (d : DeclarationText) → P (contends k d)) → (from : ℕ)
      (all : List DeclarationText) → All P (placed contends from all)
  all-placed P holds from [] = All-nil P
  all-placed P holds from (d ∷ all) =
      All-cons P (contends from d) (placed contends (from + 1) all) (holds from d)
      (all-placed P holds (from + 1) all)

  all-turn : (P : Contender → Type 0) → ((k : ℕ) (d : DeclarationText) → P (contends k d))
      → (all : List DeclarationText) → All P (in_turn contends 0 all)
  all-turn P holds all =
      All-filter is_declared P (placed contends 0 all) (all-placed P holds 0 all)

  module _ (first : ℕ)
      (is : (k : ℕ) (d : DeclarationText) → (contends k d).weight.place ≡ first ∷ k ∷ []) where
    all-at-places : (from : ℕ) (all : List DeclarationText) → All (At first from) (placed contends from all)
    all-at-places from [] = All-nil (At first from)
    all-at-places from (d ∷ all) =
        All-cons (At first from) (contends from d) (placed contends (from + 1) all)
        (record { number = from; least = omega arith; is = is from d })
        (All-weaker (At first (from + 1)) (At first from)
        (λ c t. let l = t.least in record { number = t.number; least = omega (arith, l); is = t.is })
        (placed contends (from + 1) all) (all-at-places (from + 1) all))

    placed-distinct : (from : ℕ) (all : List DeclarationText) → Distinct (placed contends from all)
    placed-distinct from [] = tt
    placed-distinct from (d ∷ all) = (
      All-weaker (At first (from + 1)) (Told (contends from d))
          (λ c t. told-places (contends from d) c first from first t.number (is from d) t.is
          (λ e. let l = t.least in let s = e.1 in omega (arith, l, s)))
          (placed contends (from + 1) all) (all-at-places (from + 1) all),
      placed-distinct (from + 1) all,
    )

    turn-distinct : (all : List DeclarationText) → Distinct (in_turn contends 0 all)
    turn-distinct all = distinct-filter is_declared (placed contends 0 all) (placed-distinct 0 all)

-- ---- those of rules

module _ (rules : List SheetRuleText) where
  -- it is a declaration of the rule at an index
  record OfRule (index : ℕ) (c : Contender) : Type 0 where
    rule : SheetRuleText
    at : slice_get rules index ≡ Some rule
    number : ℕ
    is : c.weight.place ≡ index ∷ number ∷ []
    origin : c.weight.origin ≡ rule.origin
    attached : c.weight.attached ≡ false

  -- the same of one of the rules from an index on
  abbrev From : ℕ → Contender → Type 0
  From a c = (index : ℕ) × (a ≤ index) × OfRule index c

  stated-of : (index : ℕ) → All (OfRule index) (stated_at rules index)
  stated-of index = by (slice_get rules index) refl
    where
      one : (rule : SheetRuleText) → slice_get rules index ≡ Some rule → (t : Bool)
          → All (OfRule index)
          (if t then [] else in_turn (in_rule index rule) 0 (rule_declarations rule))
      one rule at true = All-nil (OfRule index)
      one rule at false =
          all-turn (in_rule index rule) (OfRule index)
          (λ k d. record {
            rule = rule;
            at = at;
            number = k;
            is = refl;
            origin = refl;
            attached = refl;
          }) (rule_declarations rule)

      by : (o : Option SheetRuleText) → slice_get rules index ≡ o → All (OfRule index) (states_at index o)
      by None at = All-nil (OfRule index)
      by (Some rule) at = one rule at (is_some rule.pseudo_element)

  stated-distinct : (index : ℕ) → Distinct (stated_at rules index)
  stated-distinct index = by (slice_get rules index)
    where
      one : (rule : SheetRuleText) (t : Bool)
          → Distinct (if t then [] else in_turn (in_rule index rule) 0 (rule_declarations rule))
      one rule true = tt
      one rule false = turn-distinct (in_rule index rule) index (λ k d. refl) (rule_declarations rule)

      by : (o : Option SheetRuleText) → Distinct (states_at index o)
      by None = tt
      by (Some rule) = one rule (is_some rule.pseudo_element)

  rules-from : (a : ℕ) (is : List ℕ) → Rising a is → All (From a) (of_rules rules is)
  rules-from a [] r = All-nil (From a)
  rules-from a (k ∷ is) r =
      let l = r.0 in
      All-append (From a) (stated_at rules k) (of_rules rules is)
      (All-weaker (OfRule k) (From a) (λ c o. (k, l, o)) (stated_at rules k) (stated-of k))
      (All-weaker (From (k + 1)) (From a) (λ c f. let m = f.1 in (f.0, omega (arith, l, m), f.2))
      (of_rules rules is) (rules-from (k + 1) is r.1))

  rules-distinct : (a : ℕ) (is : List ℕ) → Rising a is → Distinct (of_rules rules is)
  rules-distinct a [] r = tt
  rules-distinct a (k ∷ is) r =
      distinct-append (stated_at rules k) (of_rules rules is) (stated-distinct k)
      (rules-distinct (k + 1) is r.1)
      (All-weaker (OfRule k) (λ x. All (Told x) (of_rules rules is))
      (λ x o. All-weaker (From (k + 1)) (Told x)
      (λ c f. told-places x c k o.number f.0 f.2.number o.is f.2.is
      (λ e. let l = f.1 in let s = e.0 in omega (arith, l, s)))
      (of_rules rules is) (rules-from (k + 1) is r.1)) (stated_at rules k) (stated-of k))

  -- ---- the element's own

  told-attached : (a b : Contender) → a.weight.attached ≡ false → b.weight.attached ≡ true → Told a b
  told-attached a b e f tie =
      let no : false ≡ true = sym e ∙ (same-of a.weight b.weight tie).attached ∙ f in cc

  told-hint : (a b : Contender) (o : Origin) → a.weight.origin ≡ o → (o ≡ Hint → ⊥)
      → b.weight.origin ≡ Hint → Told a b
  told-hint a b o e other f tie =
      other (is-hint o
      (sym (ap origin_rank e) ∙ (same-of a.weight b.weight tie).origin ∙ ap origin_rank f))

  module _ (own : OwnText) where
    abbrev hints : List Contender
    hints = in_turn in_presentation 0 (own_declarations own.presentation)

    abbrev styled : List Contender
    styled = in_turn in_style 0 (own_declarations own.style)

    all-told-styled : (a : Contender) → a.weight.attached ≡ false → All (Told a) styled
    all-told-styled a e =
        all-turn in_style (Told a) (λ k d. told-attached a (in_style k d) e refl) (own_declarations own.style)

    own-distinct : Distinct (of_own own)
    own-distinct =
        distinct-append hints styled
        (turn-distinct in_presentation 0 (λ k d. refl) (own_declarations own.presentation))
        (turn-distinct in_style 0 (λ k d. refl) (own_declarations own.style))
        (all-turn in_presentation (λ x. All (Told x) styled)
        (λ k d. all-told-styled (in_presentation k d) refl) (own_declarations own.presentation))

    -- where no rule is of the origin of presentational hints, no two of those that apply are alike
    pub contenders-distinct : (indices : List ℕ) → HaveNoHints rules → IsStrictlyIncreasing indices
        → Distinct (contenders rules indices own)
    contenders-distinct indices no-hints up =
        let r = rises 0 indices (λ some. omega arith) up in
        distinct-append (of_rules rules indices) (of_own own) (rules-distinct 0 indices r) own-distinct
        (All-weaker (From 0) (λ x. All (Told x) (of_own own))
        (λ x f. All-append (Told x) hints styled
        (all-turn in_presentation (Told x)
        (λ k d. told-hint x (in_presentation k d) f.2.rule.origin f.2.origin
        (all-at (λ (rule : SheetRuleText). rule.origin ≡ Hint → ⊥) rules f.0 f.2.rule no-hints f.2.at) refl)
        (own_declarations own.presentation))
        (all-told-styled x f.2.attached))
        (of_rules rules indices) (rules-from 0 indices r))

-- ---- those that count

settled-cmp : (all : List Contender) (a b : Contender)
    → cascade_cmp (settled_in all a).weight (settled_in all b).weight ≡ cascade_cmp a.weight b.weight
settled-cmp all a b = by (is_first all a.weight) (is_first all b.weight)
  where
    by : (s t : Bool)
        → cascade_cmp (if s then as_value a.weight else a.weight) (if t then as_value b.weight else b.weight)
        ≡ cascade_cmp a.weight b.weight
    by true true = refl
    by true false = refl
    by false true = refl
    by false false = refl

settled-from : (all cs : List Contender) → Distinct cs
    → Distinct (map (settled_in all) cs)
settled-from all [] d = tt
settled-from all (c ∷ cs) d = (
  All-map (Told (settled_in all c)) (settled_in all) cs
      (All-weaker (Told c) (λ e. Told (settled_in all c) (settled_in all e))
      (λ e told tie. told (sym (settled-cmp all c e) ∙ tie)) cs d.0),
  settled-from all cs d.1,
)

pub settled-distinct : (all : List Contender) → Distinct all → Distinct (settled all)
settled-distinct all d = settled-from all all d

after-distinct : (all : List Contender) → Distinct all → (times : ℕ)
    → Distinct (left_after seen of_its_property times all)
after-distinct all d zero = d
after-distinct all d (suc times) =
    distinct-filter
    (λ one. is_left_under (best_of seen (of_its_property (left_after seen of_its_property times all) one)) (seen one))
    (left_after seen of_its_property times all) (after-distinct all d times)

pub counting-distinct : (all : List Contender) → Distinct all → Distinct (counting_each all)
counting-distinct all d = after-distinct all d (length all)

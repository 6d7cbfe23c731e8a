-- Counts over flat lists.
-- Serves `Selector::specificity` (ids, classes and names are counted in flat lists).
use Rattle.std.proofs.Common.{◌≡◌, ℕ, ◌+◌, List, [], ◌∷◌, ◌++◌, Bool, true, false, Option, Some, None, length, drop, map, refl, sym, ap, ◌∙◌, arith, cond, not, is_some, sum_by, count_by}
use mir.Val.{bool_byte}
use Rattle.std.proofs.lemmas.List.{drop_all}
use Rattle.std.proofs.lemmas.List.Folds.{drop_split}
use Rattle.std.proofs.lemmas.List.Sums.{sum_by-append, sum_by-cons}
use Rattle.std.specs.List.{slice_range}
use Rattle.std.specs.Option.{option_map}
use Rattle.simplecss_grammar.specs.Components.{Component, Subselector}
use Rattle.simplecss_selector.specs.internal.SelectorViews.{subselector_of, component_of_flat, components_from, Tile}
use Rattle.simplecss_selector.specs.declared.selector.FlatComponent.{FlatComponent}
use Rattle.simplecss_selector.specs.declared.selector.SubSelector.{SubSelector}

count_by-cons : {X : Type 0} (p : X → Bool) (x : X) (xs : List X)
    → count_by p (x ∷ xs) ≡ cond (p x) 1 0 + count_by p xs
count_by-cons p x xs = sum_by-cons (λ y. cond (p y) 1 0) x xs

pub count_by-map : {X Y : Type 0} (p : Y → Bool) (f : X → Y) (xs : List X)
    → count_by p (map f xs) ≡ count_by (λ x. p (f x)) xs
count_by-map p f [] = refl
count_by-map p f (x ∷ xs) =
    omega (
      arith,
      count_by-cons p (f x) (map f xs),
      count_by-cons (λ y. p (f y)) x xs,
      count_by-map p f xs,
    )

count_by-append : {X : Type 0} (p : X → Bool) (xs ys : List X)
    → count_by p (xs ++ ys) ≡ count_by p xs + count_by p ys
count_by-append p xs ys = sum_by-append (λ x. cond (p x) 1 0) xs ys

pub count_by-push : {X : Type 0} (p : X → Bool) (xs : List X) (x : X)
    → count_by p (xs ++ x ∷ []) ≡ count_by p xs + cond (p x) 1 0
count_by-push p xs x = omega (arith, count_by-append p xs (x ∷ []), count_by-cons p x [])

-- a number that is made of a bool
pub bool_byte-is : (b d : Bool) → b ≡ d → bool_byte b ≡ cond d 1 0
bool_byte-is true d e = rw (← e) refl
bool_byte-is false d e = rw (← e) refl

one_or_none : (b : Bool) → cond b 1 0 + cond (not b) 1 0 ≡ 1
one_or_none true = refl
one_or_none false = refl

pub count_by-not : {X : Type 0} (p : X → Bool) (xs : List X)
    → count_by p xs + count_by (λ x. not (p x)) xs ≡ length xs
count_by-not p [] = refl
count_by-not p (x ∷ xs) =
    omega (
      arith,
      one_or_none (p x),
      count_by-cons p x xs,
      count_by-cons (λ y. not (p y)) x xs,
      count_by-not p xs,
    )

-- the subselectors of all components are those of the one list
pub sum_by-components_from : (p : Subselector → Bool) (start : ℕ) (ps : List FlatComponent)
    (ss : List SubSelector) → Tile start ps (length ss)
    → sum_by (λ c. count_by p c.compound.subselectors) (components_from start ps ss)
    ≡ count_by (λ s. p (subselector_of s)) (drop start ss)
sum_by-components_from p start [] ss t = sym (ap (count_by (λ s. p (subselector_of s)))
    (drop_all start ss (let e : start ≡ length ss = t in omega arith)))
sum_by-components_from p start (q ∷ ps) ss t =
    let first = sum_by-cons (λ (c : Component). count_by p c.compound.subselectors)
    (component_of_flat q (slice_range ss start q.end)) (components_from q.end ps ss) in
    let rest = sum_by-components_from p q.end ps ss t.1 in
    let here = count_by-map p subselector_of (slice_range ss start q.end) in
    let both = ap (count_by (λ s. p (subselector_of s))) (drop_split ss start q.end t.0)
    ∙ count_by-append (λ s. p (subselector_of s)) (slice_range ss start q.end) (drop q.end ss) in
    first ∙ ap (λ n. n + sum_by (λ (c : Component). count_by p c.compound.subselectors)
    (components_from q.end ps ss)) here
    ∙ ap (λ n. count_by (λ s. p (subselector_of s)) (slice_range ss start q.end) + n) rest
    ∙ sym both

is_some-option_map : {A B : Type 0} (f : A → B) (o : Option A)
    → is_some (option_map f o) ≡ is_some o
is_some-option_map f None = refl
is_some-option_map f (Some a) = refl

pub count_by-components_from : (start : ℕ) (ps : List FlatComponent) (ss : List SubSelector)
    → count_by (λ c. is_some c.compound.name) (components_from start ps ss)
    ≡ count_by (λ p. is_some p.name) ps
count_by-components_from start [] ss = refl
count_by-components_from start (p ∷ ps) ss =
    count_by-cons (λ (c : Component). is_some c.compound.name)
    (component_of_flat p (slice_range ss start p.end)) (components_from p.end ps ss)
    ∙ ap (λ b. cond {A = ℕ} b 1 0 + count_by (λ (c : Component). is_some c.compound.name)
    (components_from p.end ps ss)) (is_some-option_map (λ n. n.now) p.name)
    ∙ ap (λ n. cond {A = ℕ} (is_some p.name) 1 0 + n) (count_by-components_from p.end ps ss)
    ∙ sym (count_by-cons (λ (q : FlatComponent). is_some q.name) p ps)

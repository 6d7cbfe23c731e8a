-- Facts on lists: filters, what a search finds, what holds of each element.
-- Serves `RankLemmas`, and by it `order::{sort_rules, merge}` and `laws::{order_laws,
-- index_in_sheet_law}`.
use Rattle.std.proofs.Common.{◌≡◌, ℕ, ◌+◌, ◌<◌, suc, zero, Bool, true, false, cond, ◌&&◌, List, [], ◌∷◌, length, get_or, take, map, filter, Option, Some, ap, ◌∙◌, sym, subst, refl, arith}
use Rattle.std.proofs.lemmas.List.{length-map}
use Rattle.std.specs.Option.{option_map}
use Rattle.std.specs.List.{find, filter_map, range_with_len, AllByRecursion, cons_option}
use Rattle.std.proofs.lemmas.List.Elements.{filter_agree}

-- ---- the part of a list that passes a test

pub none_pass : {X : Type 0} (p : X → Bool) (xs : List X) → AllByRecursion (λ x. p x ≡ false) xs
    → filter p xs ≡ []
none_pass p [] h = refl
none_pass p (x ∷ xs) h = ap (λ b. cond b (x ∷ filter p xs) (filter p xs)) h.0 ∙ none_pass p xs h.1

pub all_at : {X : Type 0} (P : X → Type 0) (xs : List X) (i : ℕ) (d : X) → AllByRecursion P xs
    → i < length xs → P (get_or xs i d)
all_at P [] i d a h = absurd (omega arith)
all_at P (x ∷ xs) zero d a h = a.0
all_at P (x ∷ xs) (suc i) d a h = all_at P xs i d a.1 (omega arith)

-- how many pass
abbrev pub passing : {X : Type 0} → (X → Bool) → List X → ℕ
passing p xs = length (filter p xs)

pub head_passes : {X : Type 0} (p : X → Bool) (x : X) (xs : List X) → p x ≡ true
    → filter p (x ∷ xs) ≡ x ∷ filter p xs
head_passes p x xs e = ap (λ b. cond b (x ∷ filter p xs) (filter p xs)) e

pub head_fails : {X : Type 0} (p : X → Bool) (x : X) (xs : List X) → p x ≡ false
    → filter p (x ∷ xs) ≡ filter p xs
head_fails p x xs e = ap (λ b. cond b (x ∷ filter p xs) (filter p xs)) e

-- where the element at i passes, it is in the part after those before it that pass
pub record Passes {X : Type 0} (p : X → Bool) (xs : List X) (i : ℕ) (d : X) : Type 0 where
  pub short : passing p (take i xs) < passing p xs
  pub there : get_or (filter p xs) (passing p (take i xs)) d ≡ get_or xs i d

passes_at : {X : Type 0} (p : X → Bool) (x : X) (xs : List X) (i : ℕ) (d : X) (b : Bool) → p x ≡ b
    → Passes p xs i d → Passes p (x ∷ xs) (suc i) d
passes_at p x xs i d true e s = record {
  short =
      rw (head_passes p x xs e, head_passes p x (take i xs) e)
      (let t : passing p (take i xs) < passing p xs = s.short in omega arith);
  there = rw (head_passes p x xs e, head_passes p x (take i xs) e) s.there;
}
passes_at p x xs i d false e s = record {
  short = rw (head_fails p x xs e, head_fails p x (take i xs) e) s.short;
  there = rw (head_fails p x xs e, head_fails p x (take i xs) e) s.there;
}

pub passes : {X : Type 0} (p : X → Bool) (xs : List X) (i : ℕ) (d : X) → i < length xs
    → p (get_or xs i d) ≡ true → Passes p xs i d
passes p [] i d h e = absurd (omega arith)
passes p (x ∷ xs) zero d h e = record {
  short = rw (head_passes p x xs e) (omega arith);
  there = ap (λ l. get_or l 0 d) (head_passes p x xs e);
}
passes p (x ∷ xs) (suc i) d h e = passes_at p x xs i d (p x) refl (passes p xs i d (omega arith) e)

-- each element of the part is somewhere in the list
pub record OccursAt {X : Type 0} (p : X → Bool) (xs : List X) (j : ℕ) (d : X) : Type 0 where
  pub at : ℕ
  pub within : at < length xs
  pub before : passing p (take at xs) ≡ j
  pub same : get_or xs at d ≡ get_or (filter p xs) j d

occurs_at : {X : Type 0} (p : X → Bool) (x : X) (xs : List X) (j : ℕ) (d : X) (b : Bool) → p x ≡ b
    → ((i : ℕ) → i < passing p xs → OccursAt p xs i d) → j < passing p (x ∷ xs)
    → OccursAt p (x ∷ xs) j d
occurs_at p x xs zero d true e later h = record {
  at = 0;
  within = omega arith;
  before = refl;
  same = sym (ap (λ l. get_or l 0 d) (head_passes p x xs e));
}
occurs_at p x xs (suc j) d true e later h =
    let short : j < passing p xs = omega (arith, ap length (head_passes p x xs e)) in
    let s = later j short in
    record {
      at = suc s.at;
      within = let w : s.at < length xs = s.within in omega arith;
      before = ap length (head_passes p x (take s.at xs) e) ∙ ap suc s.before;
      same = s.same ∙ sym (ap (λ l. get_or l (suc j) d) (head_passes p x xs e));
    }
occurs_at p x xs j d false e later h =
    let s = later j (subst (λ n. j < n) (ap length (head_fails p x xs e)) h) in
    record {
      at = suc s.at;
      within = let w : s.at < length xs = s.within in omega arith;
      before = ap length (head_fails p x (take s.at xs) e) ∙ s.before;
      same = s.same ∙ sym (ap (λ l. get_or l j d) (head_fails p x xs e));
    }

pub occurs : {X : Type 0} (p : X → Bool) (xs : List X) (j : ℕ) (d : X) → j < passing p xs
    → OccursAt p xs j d
occurs p [] j d h = absurd (omega arith)
occurs p (x ∷ xs) j d h = occurs_at p x xs j d (p x) refl (λ i. occurs p xs i d) h

-- ---- what is found, and lists that are gathered

-- what a search finds, where all that passes looks alike
found_at : {A X : Type 0} (p : A → Bool) (g : A → X) (y : X) (e : A) (es : List A) (b : Bool)
    → p e ≡ b → (p e ≡ true → g e ≡ y) → option_map g (find p es) ≡ Some y
    → option_map g (find p (e ∷ es)) ≡ Some y
found_at p g y e es true is here later =
    ap (λ c. option_map g (cond c (Some e) (find p es))) is ∙ ap Some (here is)
found_at p g y e es false is here later =
    ap (λ c. option_map g (cond c (Some e) (find p es))) is ∙ later

pub found : {A X : Type 0} (p : A → Bool) (g : A → X) (y : X) (es : List A) (i : ℕ) (d : A)
    → i < length es → p (get_or es i d) ≡ true
    → ((j : ℕ) → j < length es → p (get_or es j d) ≡ true → g (get_or es j d) ≡ y)
    → option_map g (find p es) ≡ Some y
found p g y [] i d h hit all = absurd (omega arith)
found p g y (e ∷ es) zero d h hit all =
    ap (λ c. option_map g (cond c (Some e) (find p es))) hit ∙ ap Some (all 0 (omega arith) hit)
found p g y (e ∷ es) (suc i) d h hit all =
    found_at p g y e es (p e) refl (all 0 (omega arith))
    (found p g y es i d (omega arith) hit (λ j w. all (suc j) (omega arith)))

-- a list that is gathered item by item
pub gathered : {X : Type 0} (f : ℕ → Option X) (a : ℕ) (ys : List X)
    → ((k : ℕ) (d : X) → k < length ys → f (a + k) ≡ Some (get_or ys k d))
    → filter_map f (range_with_len a (length ys)) ≡ ys
gathered f a [] h = refl
gathered f a (y ∷ ys) h =
    let first : f a ≡ Some y = ap f (omega arith) ∙ h 0 y (omega arith) in
    ap (λ o. cons_option o (filter_map f (range_with_len (a + 1) (length ys)))) first
    ∙ ap (λ l. y ∷ l)
    (gathered f (a + 1) ys (λ k d w. ap f (omega arith) ∙ h (suc k) d (omega arith)))

pub all_map : {X : Type 0} (P Q : X → Type 0) (f : (x : X) → P x → Q x) (xs : List X)
    → AllByRecursion P xs → AllByRecursion Q xs
all_map P Q f [] a = tt
all_map P Q f (x ∷ xs) a = (f x a.0, all_map P Q f xs a.1)

-- ---- filters

filter_and_at : {X : Type 0} (x : X) (xs : List X) (b c : Bool) (q : X → Bool) → q x ≡ c
    → filter q (cond b (x ∷ xs) xs) ≡ cond (b && c) (x ∷ filter q xs) (filter q xs)
filter_and_at x xs true true q e = head_passes q x xs e
filter_and_at x xs true false q e = head_fails q x xs e
filter_and_at x xs false c q e = refl

-- two filters are one
pub filter_and : {X : Type 0} (p q : X → Bool) (xs : List X)
    → filter q (filter p xs) ≡ filter (λ x. p x && q x) xs
filter_and p q [] = refl
filter_and p q (x ∷ xs) =
    filter_and_at x (filter p xs) (p x) (q x) q refl
    ∙ ap (λ l. cond (p x && q x) (x ∷ l) l) (filter_and p q xs)

and_swap : (b c : Bool) → (b && c) ≡ (c && b)
and_swap true true = refl
and_swap true false = refl
and_swap false true = refl
and_swap false false = refl

pub filter_swap : {X : Type 0} (p q : X → Bool) (xs : List X)
    → filter q (filter p xs) ≡ filter p (filter q xs)
filter_swap p q xs =
    filter_and p q xs ∙ filter_agree (λ x. p x && q x) (λ x. q x && p x) (λ x. and_swap (p x) (q x))
    xs ∙ sym (filter_and q p xs)

all_filter_at : {X : Type 0} (P : X → Type 0) (x : X) (xs : List X) (b : Bool) → P x
    → AllByRecursion P xs → AllByRecursion P (cond b (x ∷ xs) xs)
all_filter_at P x xs true h a = (h, a)
all_filter_at P x xs false h a = a

pub all_filter : {X : Type 0} (P : X → Type 0) (p : X → Bool) (xs : List X) → AllByRecursion P xs
    → AllByRecursion P (filter p xs)
all_filter P p [] a = tt
all_filter P p (x ∷ xs) a = all_filter_at P x (filter p xs) (p x) a.0 (all_filter P p xs a.1)

-- ---- lists that a function made

filter-map_at : {X Y : Type 0} (f : X → Y) (x : X) (xs : List X) (b : Bool)
    → cond b (f x ∷ map f xs) (map f xs) ≡ map f (cond b (x ∷ xs) xs)
filter-map_at f x xs true = refl
filter-map_at f x xs false = refl

pub filter-map : {X Y : Type 0} (f : X → Y) (p : Y → Bool) (xs : List X)
    → filter p (map f xs) ≡ map f (filter (λ x. p (f x)) xs)
filter-map f p [] = refl
filter-map f p (x ∷ xs) =
    ap (λ l. cond (p (f x)) (f x ∷ l) l) (filter-map f p xs)
    ∙ filter-map_at f x (filter (λ z. p (f z)) xs) (p (f x))

pub all-map : {X Y : Type 0} (f : X → Y) (P : Y → Type 0) (xs : List X)
    → AllByRecursion (λ x. P (f x)) xs → AllByRecursion P (map f xs)
all-map f P [] a = tt
all-map f P (x ∷ xs) a = (a.0, all-map f P xs a.1)

pub passing-map : {X Y : Type 0} (f : X → Y) (p : Y → Bool) (xs : List X)
    → passing p (map f xs) ≡ passing (λ x. p (f x)) xs
passing-map f p xs = ap length (filter-map f p xs) ∙ length-map (filter (λ x. p (f x)) xs) f

-- the first of the part that passes, passes
filter_head_at : {X : Type 0} (p : X → Bool) (z : X) (zs : List X) (x : X) (rest : List X)
    (b : Bool) → p z ≡ b → (filter p zs ≡ x ∷ rest → p x ≡ true)
    → cond b (z ∷ filter p zs) (filter p zs) ≡ x ∷ rest → p x ≡ true
filter_head_at p z zs x rest true e later h = let same : z ≡ x = cc in ap p (sym same) ∙ e
filter_head_at p z zs x rest false e later h = later h

pub filter_head : {X : Type 0} (p : X → Bool) (xs : List X) (x : X) (rest : List X)
    → filter p xs ≡ x ∷ rest → p x ≡ true
filter_head p [] x rest h = absurd (cc)
filter_head p (z ∷ zs) x rest h =
    filter_head_at p z zs x rest (p z) refl (filter_head p zs x rest) h

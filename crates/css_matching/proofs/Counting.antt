-- How many tests the steps of the search make.
-- Serves the contract of `matches`.
use Rattle.std.proofs.Common.{◌≡◌, ℕ, zero, suc, ◌+◌, ◌-◌, ◌*◌, ◌<◌, ◌≤◌, max, Bool, true, false, cond, Option, Some, None, refl, arith}
use Rattle.std.proofs.Math.Decide.{dec_lt}
use Rattle.std.proofs.Math.Nat.{mul-le-mul_left, mul-le-mul_right}
use Rattle.std.specs.Option.{option_map_or}
use Rattle.css_matching.specs.declared.Combinator.{Combinator}
use Rattle.css_matching.specs.declared.Combinator.TheVariants.{Descendant, Child, Adjacent, Sibling}
use Rattle.css_matching.specs.Trees.{Tree, Counts}
use Rattle.css_matching.specs.internal.Search.{IsUp}
use Rattle.css_matching.specs.Placements.{IsBeyond}
use Rattle.css_matching.specs.Placements.IsBeyond.{is_next, is_further}
use Rattle.css_matching.specs.Bounds.{is_adjacent, is_sibling, run_length, longest_free, fixed_by, free_by, fixed_and_free, fixed_length, above_length, longest_fixed, levels_by, level_count, most_levels, width}

one_less : (j : ℕ) → suc j - 1 ≡ j
one_less j = omega arith

pub run_length-some : (combinator : ℕ → Combinator) (i : ℕ) → 0 < run_length combinator i
run_length-some combinator zero = omega arith
run_length-some combinator (suc j) = elim (is_adjacent (combinator (suc j)))
    as (λ b. 0 < cond b (run_length combinator j + 1) 1) [ true ↦ omega arith | false ↦ omega arith ]

pub run_length-step : (combinator : ℕ → Combinator) (i : ℕ) → 0 < i → combinator i ≡ Adjacent
    → run_length combinator i ≡ run_length combinator (i - 1) + 1
run_length-step combinator zero some e = absurd (omega arith)
run_length-step combinator (suc j) some e = rw (e, one_less j) refl

pub run_length-sibling : (combinator : ℕ → Combinator) (i : ℕ) → 0 < i → combinator i ≡ Sibling
    → run_length combinator i ≡ 1
run_length-sibling combinator zero some e = absurd (omega arith)
run_length-sibling combinator (suc j) some e = rw e refl

pub fixed_length-adjacent : (combinator : ℕ → Combinator) (i : ℕ) → 0 < i
    → combinator i ≡ Adjacent → fixed_length combinator i ≡ 1 + fixed_length combinator (i - 1)
fixed_length-adjacent combinator zero some e = absurd (omega arith)
fixed_length-adjacent combinator (suc j) some e = rw (e, one_less j) refl

pub fixed_length-sibling : (combinator : ℕ → Combinator) (i : ℕ) → 0 < i
    → combinator i ≡ Sibling → fixed_length combinator i ≡ 1 + above_length combinator (i - 1)
fixed_length-sibling combinator zero some e = absurd (omega arith)
fixed_length-sibling combinator (suc j) some e = rw (e, one_less j) refl

pub above_length-adjacent : (combinator : ℕ → Combinator) (i : ℕ) → 0 < i
    → combinator i ≡ Adjacent → above_length combinator (i - 1) ≡ above_length combinator i
above_length-adjacent combinator zero some e = absurd (omega arith)
above_length-adjacent combinator (suc j) some e = rw (e, one_less j) refl

pub above_length-sibling : (combinator : ℕ → Combinator) (i : ℕ) → 0 < i
    → combinator i ≡ Sibling → above_length combinator (i - 1) ≡ above_length combinator i
above_length-sibling combinator zero some e = absurd (omega arith)
above_length-sibling combinator (suc j) some e = rw (e, one_less j) refl

pub above_length-child : (combinator : ℕ → Combinator) (i : ℕ) → 0 < i
    → combinator i ≡ Child → above_length combinator i ≡ fixed_length combinator (i - 1)
above_length-child combinator zero some e = absurd (omega arith)
above_length-child combinator (suc j) some e = rw (e, one_less j) refl

run_by : (c : Combinator) (run fixed free : ℕ) → run ≤ fixed
    → cond (is_adjacent c) (run + 1) 1 ≤ fixed_by c 1 fixed free
run_by Descendant run fixed free h = omega arith
run_by Child run fixed free h = omega arith
run_by Adjacent run fixed free h = omega (arith, h)
run_by Sibling run fixed free h = omega arith

pub run_fixed : (combinator : ℕ → Combinator) (i : ℕ)
    → run_length combinator i ≤ fixed_length combinator i
run_fixed combinator zero = omega arith
run_fixed combinator (suc j) = run_by (combinator (suc j)) (run_length combinator j)
    (fixed_and_free combinator j).0 (fixed_and_free combinator j).1 (run_fixed combinator j)

up_ends : (c : Combinator) (run fixed free : ℕ) → IsUp c
    → (fixed_by c 1 fixed free ≡ 1 + free_by c fixed free) × (cond (is_adjacent c) (run + 1) 1 ≡ 1)
up_ends Descendant run fixed free up = (omega arith, refl)
up_ends Child run fixed free up = (omega arith, refl)
up_ends Adjacent run fixed free up = absurd up
up_ends Sibling run fixed free up = absurd up

-- where a level begins
pub fixed_length-up : (combinator : ℕ → Combinator) (i : ℕ) → (0 < i → IsUp (combinator i))
    → (fixed_length combinator i ≡ 1 + above_length combinator i) × (run_length combinator i ≡ 1)
fixed_length-up combinator zero up = (omega arith, refl)
fixed_length-up combinator (suc j) up = up_ends (combinator (suc j)) (run_length combinator j)
    (fixed_and_free combinator j).0 (fixed_and_free combinator j).1 (up (omega arith))

pub level_count-adjacent : (combinator : ℕ → Combinator) (i : ℕ) → 0 < i
    → combinator i ≡ Adjacent → level_count combinator (i - 1) ≡ level_count combinator i
level_count-adjacent combinator zero some e = absurd (omega arith)
level_count-adjacent combinator (suc j) some e = rw (e, one_less j) refl

pub level_count-sibling : (combinator : ℕ → Combinator) (i : ℕ) → 0 < i
    → combinator i ≡ Sibling → level_count combinator (i - 1) ≡ level_count combinator i
level_count-sibling combinator zero some e = absurd (omega arith)
level_count-sibling combinator (suc j) some e = rw (e, one_less j) refl

pub level_count-child : (combinator : ℕ → Combinator) (i : ℕ) → 0 < i
    → combinator i ≡ Child → level_count combinator i ≡ level_count combinator (i - 1) + 1
level_count-child combinator zero some e = absurd (omega arith)
level_count-child combinator (suc j) some e = rw (e, one_less j) refl

levels_by-some : (c : Combinator) (n : ℕ) → 0 < n → 0 < levels_by c n
levels_by-some Descendant n h = omega arith
levels_by-some Child n h = omega arith
levels_by-some Adjacent n h = h
levels_by-some Sibling n h = h

pub level_count-some : (combinator : ℕ → Combinator) (i : ℕ) → 0 < level_count combinator i
level_count-some combinator zero = omega arith
level_count-some combinator (suc j) =
    levels_by-some (combinator (suc j)) (level_count combinator j) (level_count-some combinator j)

module _ (combinator : ℕ → Combinator) (f g : ℕ → ℕ)
    (own : (i : ℕ) → f i ≤ g i) (more : (i : ℕ) → g i ≤ g (suc i)) where
  pub below : (i last : ℕ) → i ≤ last → g i ≤ g last
  below i zero h = let e : i ≡ 0 = omega arith in rw e (omega arith)
  below i (suc l) h = elim (dec_lt l i) [
    | yes k ↦ (let e : i ≡ suc l = omega arith in rw e (omega arith))
    | no k ↦ (let m = more l in let r = below i l (omega arith) in omega arith)
  ]

  pub own_below : (i last : ℕ) → i ≤ last → f i ≤ g last
  own_below i last h = let k = below i last h in let o = own i in omega arith

own_fixed : (combinator : ℕ → Combinator) (i : ℕ)
    → fixed_length combinator i ≤ longest_fixed combinator i
own_fixed combinator zero = omega arith
own_fixed combinator (suc j) = omega arith

own_levels : (combinator : ℕ → Combinator) (i : ℕ)
    → level_count combinator i ≤ most_levels combinator i
own_levels combinator zero = omega arith
own_levels combinator (suc j) = omega arith

more_fixed : (combinator : ℕ → Combinator) (i : ℕ)
    → longest_fixed combinator i ≤ longest_fixed combinator (suc i)
more_fixed combinator i = omega arith

more_free : (combinator : ℕ → Combinator) (i : ℕ)
    → longest_free combinator i ≤ longest_free combinator (suc i)
more_free combinator i = by (is_sibling (combinator (suc i)))
  where
    by : (b : Bool) → longest_free combinator i
        ≤ cond b (max (run_length combinator i) (longest_free combinator i)) (longest_free combinator i)
    by true = omega arith
    by false = omega arith

pub longest_free-below : (combinator : ℕ → Combinator) (i last : ℕ) → i ≤ last
    → longest_free combinator i ≤ longest_free combinator last
longest_free-below combinator = below combinator (longest_free combinator)
    (longest_free combinator) (λ i. omega arith) (more_free combinator)

free_own : (combinator : ℕ → Combinator) (i : ℕ) → 0 < i → combinator i ≡ Sibling
    → run_length combinator (i - 1) ≤ longest_free combinator i
free_own combinator zero some e = absurd (omega arith)
free_own combinator (suc j) some e = rw (e, one_less j) (omega arith)

pub free_bound : (combinator : ℕ → Combinator) (i last : ℕ) → 0 < i → combinator i ≡ Sibling
    → i ≤ last → run_length combinator (i - 1) ≤ longest_free combinator last
free_bound combinator i last some e le =
    let a = free_own combinator i some e in let b = longest_free-below combinator i last le in
    omega (arith, a, b)

more_levels : (combinator : ℕ → Combinator) (i : ℕ)
    → most_levels combinator i ≤ most_levels combinator (suc i)
more_levels combinator i = omega arith

pub fixed_length-bound : (combinator : ℕ → Combinator) (i last : ℕ) → i ≤ last
    → fixed_length combinator i ≤ longest_fixed combinator last
fixed_length-bound combinator = own_below combinator (fixed_length combinator)
    (longest_fixed combinator) (own_fixed combinator) (more_fixed combinator)

pub level_count-bound : (combinator : ℕ → Combinator) (i last : ℕ) → i ≤ last
    → level_count combinator i ≤ most_levels combinator last
level_count-bound combinator = own_below combinator (level_count combinator)
    (most_levels combinator) (own_levels combinator) (more_levels combinator)

module _ {Node : Type 0} (tree : Tree Node) where
  -- the widths of the node and of all above it, added up
  abbrev pub total : ℕ → ℕ → Node → ℕ
  total l zero n = 0
  total l (suc d) n = width tree l n + option_map_or (total l d) (tree.parent n) 0

  width-more : (l : ℕ) (n : Node) → width tree l n ≤ width tree (suc l) n
  width-more zero n = omega arith
  width-more (suc l) n = more (λ p. width-more l p) (tree.parent n)
    where
      more : ((p : Node) → width tree l p ≤ width tree (suc l) p) → (o : Option Node)
          → tree.earlier n + option_map_or (width tree l) o 0
          ≤ tree.earlier n + option_map_or (width tree (suc l)) o 0
      more again None = omega arith
      more again (Some p) = let h = again p in omega arith

  pub width-below : (n : Node) (i last : ℕ) → i ≤ last → width tree i n ≤ width tree last n
  width-below n = below (λ i. Child) (λ i. width tree i n) (λ i. width tree i n) (λ i. omega arith)
      (λ i. width-more i n)

  total-zero : (d : ℕ) (n : Node) → total zero d n ≡ 0
  total-zero zero n = refl
  total-zero (suc d) n = none (λ p. total-zero d p) (tree.parent n)
    where
      none : ((p : Node) → total zero d p ≡ 0) → (o : Option Node)
          → 0 + option_map_or (total zero d) o 0 ≡ 0
      none again None = omega arith
      none again (Some p) = let h = again p in omega arith

  total-suc : Counts tree.parent tree.depth → (l d : ℕ) (n : Node) → tree.depth n ≡ d
      → total (suc l) (suc d) n
      ≡ width tree (suc d) n + option_map_or (total l d) (tree.parent n) 0
  total-suc law l zero n e = top (tree.parent n) refl
    where
      top : (o : Option Node) → tree.parent n ≡ o → total (suc l) 1 n
          ≡ width tree 1 n + option_map_or (total l 0) (tree.parent n) 0
      top None f = rw f (omega arith)
      top (Some p) f =
          let h = law n in let c : tree.depth n ≡ tree.depth p + 1 = (rw f at h) in
          absurd (omega (arith, c, e))
  total-suc law l (suc k) n e = up (λ p h. total-suc law l k p h) (tree.parent n) refl
    where
      up : ((p : Node) → tree.depth p ≡ k → total (suc l) (suc k) p
          ≡ width tree (suc k) p + option_map_or (total l k) (tree.parent p) 0)
          → (o : Option Node) → tree.parent n ≡ o → total (suc l) (suc (suc k)) n
          ≡ width tree (suc (suc k)) n + option_map_or (total l (suc k)) (tree.parent n) 0
      up again None f =
          let h = law n in let c : tree.depth n ≡ 0 = (rw f at h) in absurd (omega (arith, c, e))
      up again (Some p) f =
          let h = law n in let c : tree.depth n ≡ tree.depth p + 1 = (rw f at h) in
          let r = again p (omega (arith, c, e)) in
          rw f (omega (arith, r))

  pub total-le : Counts tree.parent tree.depth → (l : ℕ) (n : Node)
      → total l (suc (tree.depth n)) n ≤ l * width tree (suc (tree.depth n)) n
  total-le law zero n = rw (total-zero (suc (tree.depth n)) n) (omega arith)
  total-le law (suc l) n =
      let h = total-le law l n in
      let s = total-suc law l (tree.depth n) n refl in
      omega arith

  pub total-some : (l d : ℕ) (n : Node) → width tree l n ≤ total l (suc d) n
  total-some l d n = omega arith

  total-parent : Counts tree.parent tree.depth → (l : ℕ) (n p : Node) → tree.parent n ≡ Some p
      → total l (suc (tree.depth n)) n ≡ width tree l n + total l (suc (tree.depth p)) p
  total-parent law l n p e =
      let h = law n in let c : tree.depth n ≡ tree.depth p + 1 = (rw e at h) in
      let d : tree.depth n ≡ suc (tree.depth p) = omega (arith, c) in
      rw (e, d) refl

  pub total-beyond : Counts tree.parent tree.depth → (l : ℕ) (n v : Node) → IsBeyond tree.parent v n
      → width tree l n + total l (suc (tree.depth v)) v ≤ total l (suc (tree.depth n)) n
  total-beyond law l n v (is_next e) = let h = total-parent law l n v e in omega (arith, h)
  total-beyond law l n v (is_further {p = p} e q) =
      let h = total-parent law l n p e in let r = total-beyond law l p v q in omega (arith, h, r)

  pub width-once : (combinator : ℕ → Combinator) (i : ℕ) (n : Node)
      → tree.earlier n ≤ width tree (level_count combinator i) n
  width-once combinator i n = by (level_count combinator i) (level_count-some combinator i)
    where
      by : (l : ℕ) → 0 < l → tree.earlier n ≤ width tree l n
      by zero h = absurd (omega (arith, h))
      by (suc l) h = omega arith

  pub width-parent : (l k : ℕ) (n p : Node) → k ≡ l + 1 → tree.parent n ≡ Some p
      → width tree k n ≡ tree.earlier n + width tree l p
  width-parent l k n p e f = let s : k ≡ suc l = omega (arith, e) in rw (s, f) refl

-- a first run of a level, which leaves the candidate with `a` earlier siblings
pub level_first : (F a b t r begun : ℕ) → a < b → t ≤ begun + r
    → t + F * (a + 1) ≤ begun + r + F * b
level_first F a b t r begun l s =
    let p : F * (a + 1) ≤ F * b = mul-le-mul_left F (omega (arith, l)) in omega (arith, p, s)

pub level_more : (F a b t u r begun X : ℕ) → a < b → r ≤ F → u ≤ t + r
    → t + F * (b + 1) ≤ begun + X → u + F * (a + 1) ≤ begun + X
level_more F a b t u r begun X l h s i =
    let p : F * (a + 1) ≤ F * b = mul-le-mul_left F (omega (arith, l)) in omega (arith, p, h, s, i)

pub level_last : (F b t u r begun X : ℕ) → r ≤ F → u ≤ t + r → t + F * (b + 1) ≤ begun + X
    → u ≤ begun + X
level_last F b t u r begun X h s i =
    let p : F * 1 ≤ F * (b + 1) = mul-le-mul_left F (omega arith) in omega (arith, p, h, s, i)

-- One level of a stretch: `r` is the length of its last run, `x` the fixed parts from it on, `e` the
-- earlier siblings, and `w` the width of the levels from it on.
pub stretch_last : (F f r x e w t u begun X : ℕ) → f ≤ F → r ≤ x → e ≤ w → u ≤ t + r + f * e
    → t + x + F * w ≤ begun + X → u ≤ begun + X
stretch_last F f r x e w t u begun X h m k s i =
    let p : f * e ≤ F * e = mul-le-mul_right e h in
    let q : F * e ≤ F * w = mul-le-mul_left F k in
    omega (arith, p, q, m, s, i)

pub stretch_more : (F f r x y e w v t u begun X : ℕ) → f ≤ F → x ≡ r + y → w ≡ e + v
    → u ≤ t + r + f * e → t + x + F * w ≤ begun + X → u + y + F * v ≤ begun + X
stretch_more F f r x y e w v t u begun X h m k s i =
    let p : f * e ≤ F * e = mul-le-mul_right e h in
    let q : F * w ≡ F * e + F * v = (rw k (omega arith)) in
    omega (arith, p, q, m, s, i)

-- One stretch, of a search from where the widths add up to `b` at depth `d`, which leaves `a` and
-- depth `c`.
pub search_once : (T F f r x w a b c d t u begun X : ℕ) → f ≤ F → r ≤ T → c < d → x ≤ w → w + a ≤ b
    → u ≤ t + r + f * x → t + T * (d + 1) + F * b ≤ begun + X → u + T * (c + 1) + F * a ≤ begun + X
search_once T F f r x w a b c d t u begun X h m n k l s i =
    let p : f * x ≤ F * x = mul-le-mul_right x h in
    let q : F * (x + a) ≤ F * b = mul-le-mul_left F (omega (arith, k, l)) in
    let z : T * (c + 1) ≤ T * d = mul-le-mul_left T (omega (arith, n)) in
    omega (arith, p, q, z, m, s, i)

pub search_last : (T F f r x w b d t u begun X : ℕ) → f ≤ F → r ≤ T → x ≤ w → w ≤ b
    → u ≤ t + r + f * x → t + T * (d + 1) + F * b ≤ begun + X → u ≤ begun + X
search_last T F f r x w b d t u begun X h m k l s i =
    let p : f * x ≤ F * x = mul-le-mul_right x h in
    let q : F * x ≤ F * b = mul-le-mul_left F (omega (arith, k, l)) in
    let z : T * 1 ≤ T * (d + 1) = mul-le-mul_left T (omega arith) in
    omega (arith, p, q, z, m, s, i)

-- The bound on the tests by the longest stretch, where no part is joined by `~`, and by the parts.
-- Serves `bound_law`.
use Rattle.std.proofs.Common.{◌≡◌, ℕ, zero, suc, ◌+◌, ◌-◌, ◌*◌, ◌<◌, ◌≤◌, ◌≢◌, Bool, true, false, cond, List, [], ◌∷◌, length, max, refl, ap, ◌∙◌, arith}
use Rattle.std.proofs.Math.Nat.{mul-le-mul_left, mul-le-mul_right}
use Rattle.css_matching.specs.declared.Combinator.{Combinator}
use Rattle.css_matching.specs.declared.Combinator.TheVariants.{Descendant, Child, Adjacent, Sibling}
use Rattle.css_matching.specs.Bounds.{is_adjacent, is_sibling, run_length, longest_free, fixed_by, free_by, fixed_and_free, fixed_length, longest_fixed, levels_by, level_count, most_levels}
use Rattle.css_matching.proofs.Counting.{fixed_length-bound}
use Rattle.css_selectors.specs.Documents.{Document}
use Rattle.css_selector_text.specs.Components.{Part, Selector, parts_from}
use Rattle.css_selectors.specs.Meanings.{combinator_at}
use Rattle.css_selectors.specs.Costs.{most_questions}
use Rattle.css_selectors.proofs.PlacementListLemmas.{count_from}
use Rattle.css_selectors.specs.TestBounds.{earlier_siblings, HasNoSibling, is_step, joined_length, longest_stretch}

-- the questions, with the number of parts as the length of their list
abbrev counted : {Node : Type 0} → Document Node → Selector → Node → ℕ
counted document s n =
    let combinator = combinator_at (parts_from s.parts) in
    let last = length s.parts - 1 in
    longest_fixed combinator last * (document.depth n + 1)
    + longest_free combinator last * (most_levels combinator last * earlier_siblings document n)

pub most_questions-counted : {Node : Type 0} (document : Document Node) (s : Selector) (n : Node)
    → most_questions document (parts_from s.parts) n ≡ counted document s n
most_questions-counted document s n =
    let combinator = combinator_at (parts_from s.parts) in
    ap (λ count. longest_fixed combinator (count - 1) * (document.depth n + 1)
    + longest_free combinator (count - 1)
    * (most_levels combinator (count - 1) * earlier_siblings document n)) (count_from document s.parts)

joined_length-le : (parts : List Part) → joined_length parts ≤ length parts
joined_length-le [] = omega arith
joined_length-le (p ∷ ps) =
    elim (is_step p.combinator) as (λ b. cond b (joined_length ps + 1) 0 ≤ length (p ∷ ps))
    [ true ↦ (let h = joined_length-le ps in omega arith) | false ↦ omega arith ]

pub longest_stretch-le : (parts : List Part) → longest_stretch parts ≤ length parts
longest_stretch-le [] = omega arith
longest_stretch-le (p ∷ ps) =
    let h = longest_stretch-le ps in let j = joined_length-le ps in omega arith

is_sibling-without : (c : Combinator) → c ≢ Sibling → is_sibling c ≡ false
is_sibling-without Descendant h = refl
is_sibling-without Child h = refl
is_sibling-without Adjacent h = refl
is_sibling-without Sibling h = absurd (h refl)

longest_free-without : (combinator : ℕ → Combinator) (last : ℕ)
    → ((i : ℕ) → 0 < i → i ≤ last → combinator i ≢ Sibling) → longest_free combinator last ≡ 0
longest_free-without combinator zero h = refl
longest_free-without combinator (suc q) h =
    rw (is_sibling-without (combinator (suc q)) (h (suc q) (omega arith) (omega arith)))
    (longest_free-without combinator q (λ i some le. h i some (omega (arith, le))))

fixed_by-without : (c : Combinator) (fixed free : ℕ) → c ≢ Sibling
    → fixed_by c 1 fixed free ≡ cond (is_step c) (fixed + 1) 1
fixed_by-without Descendant fixed free h = refl
fixed_by-without Child fixed free h = omega arith
fixed_by-without Adjacent fixed free h = omega arith
fixed_by-without Sibling fixed free h = absurd (h refl)

-- One more part makes a stretch of `f` parts one of `f'`. The longest so far has `m`, the parts after
-- it begin with `j` that are joined, and the longest stretch of them has `s`.
one_more : (b : Bool) (f f' m j s : ℕ) → f ≤ m → f' ≡ cond b (f + 1) 1
    → max (max (max f' m) (f' + j)) s ≡ max (max m (f + cond b (j + 1) 0)) (max (j + 1) s)
one_more true f f' m j s h e = omega (arith, h, e)
one_more false f f' m j s h e = omega (arith, h, e)

fixed_length-suc : (combinator : ℕ → Combinator) (i : ℕ) (c : Combinator)
    → combinator (suc i) ≡ c → c ≢ Sibling
    → fixed_length combinator (suc i) ≡ cond (is_step c) (fixed_length combinator i + 1) 1
fixed_length-suc combinator i c e without =
    let h = fixed_and_free combinator i in rw e (fixed_by-without c h.0 h.1 without)

-- the parts after part `i`, up to `last`
longest_fixed-from : (combinator : ℕ → Combinator) (i last : ℕ) (ps : List Part)
    → last ≡ i + length ps
    → ((j k : ℕ) → j ≡ suc (i + k) → k < length ps → combinator j ≡ combinator_at (parts_from ps) k)
    → ((k : ℕ) → k < length ps → combinator_at (parts_from ps) k ≢ Sibling)
    → longest_fixed combinator last
    ≡ max (max (longest_fixed combinator i) (fixed_length combinator i + joined_length ps))
    (longest_stretch ps)
longest_fixed-from combinator i last [] e same without =
    let here : last ≡ i = omega (arith, e) in
    let own = fixed_length-bound combinator i i (omega arith) in
    rw here (omega (arith, own))
longest_fixed-from combinator i last (p ∷ ps) e same without =
    let after = longest_fixed-from combinator (suc i) last ps (omega (arith, e))
    (λ j k at within. same j (suc k) (omega (arith, at)) (omega (arith, within)))
    (λ k within. without (suc k) (omega (arith, within))) in
    let fixed = fixed_length-suc combinator i p.combinator (same (suc i) 0 (omega arith) (omega arith))
    (without 0 (omega arith)) in
    after ∙ one_more (is_step p.combinator) (fixed_length combinator i)
    (fixed_length combinator (suc i)) (longest_fixed combinator i) (joined_length ps)
    (longest_stretch ps) (fixed_length-bound combinator i i (omega arith)) fixed

longest_fixed-without : (parts : List Part) → 0 < length parts → HasNoSibling parts
    → longest_fixed (combinator_at (parts_from parts)) (length parts - 1) ≡ longest_stretch parts
longest_fixed-without [] some without = absurd (omega (arith, some))
longest_fixed-without (p ∷ ps) some without =
    let from = longest_fixed-from (combinator_at (parts_from (p ∷ ps))) 0 (length (p ∷ ps) - 1) ps (omega arith)
    (λ j k at within. (let e : j ≡ suc k = omega (arith, at) in rw e refl))
    (λ k within. without (suc k) (omega arith) (omega (arith, within))) in
    from ∙ omega arith

none_more : (a b : ℕ) → a + 0 * b ≡ a
none_more a b = omega arith

pub counted-without : {Node : Type 0} (document : Document Node) (s : Selector) (n : Node)
    → 0 < length s.parts → HasNoSibling s.parts
    → counted document s n ≡ longest_stretch s.parts * (document.depth n + 1)
counted-without document s n some without =
    let last = length s.parts - 1 in
    let none = longest_free-without (combinator_at (parts_from s.parts)) last
    (λ i more le. without i more (omega (arith, le, some))) in
    rw (longest_fixed-without s.parts some without, none)
    (none_more (longest_stretch s.parts * (document.depth n + 1))
    (most_levels (combinator_at (parts_from s.parts)) last * earlier_siblings document n))

pub counted-le-without : {Node : Type 0} (document : Document Node) (s : Selector) (n : Node)
    → 0 < length s.parts → HasNoSibling s.parts
    → counted document s n ≤ length s.parts * (document.depth n + 1)
counted-le-without document s n some without =
    rw (counted-without document s n some without)
    (mul-le-mul_right (document.depth n + 1) (longest_stretch-le s.parts))

fixed_by-le : (c : Combinator) (fixed free q : ℕ) → fixed ≤ q + 1 → free ≤ q
    → (fixed_by c 1 fixed free ≤ suc q + 1) × (free_by c fixed free ≤ suc q)
fixed_by-le Descendant fixed free q h k = (omega arith, omega arith)
fixed_by-le Child fixed free q h k = (omega (arith, h), omega (arith, h))
fixed_by-le Adjacent fixed free q h k = (omega (arith, h), omega (arith, k))
fixed_by-le Sibling fixed free q h k = (omega (arith, k), omega (arith, k))

levels_by-le : (c : Combinator) (n q : ℕ) → n ≤ q + 1 → levels_by c n ≤ suc q + 1
levels_by-le Descendant n q h = omega arith
levels_by-le Child n q h = omega (arith, h)
levels_by-le Adjacent n q h = omega (arith, h)
levels_by-le Sibling n q h = omega (arith, h)

-- each number is at most that of the parts up to `q`
module _ (combinator : ℕ → Combinator) where
  fixed_and_free-le : (q : ℕ)
      → ((fixed_and_free combinator q).0 ≤ q + 1) × ((fixed_and_free combinator q).1 ≤ q)
  fixed_and_free-le zero = (omega arith, omega arith)
  fixed_and_free-le (suc q) =
      let h = fixed_and_free combinator q in let le = fixed_and_free-le q in
      fixed_by-le (combinator (suc q)) h.0 h.1 q le.0 le.1

  pub longest_fixed-le : (q : ℕ) → longest_fixed combinator q ≤ q + 1
  longest_fixed-le zero = omega arith
  longest_fixed-le (suc q) =
      let own = (fixed_and_free-le (suc q)).0 in let before = longest_fixed-le q in
      omega (arith, own, before)

  run_length-le : (q : ℕ) → run_length combinator q ≤ q + 1
  run_length-le zero = omega arith
  run_length-le (suc q) =
      let h = run_length-le q in
      elim (is_adjacent (combinator (suc q))) as (λ b. cond b (run_length combinator q + 1) 1 ≤ suc q + 1)
      [ true ↦ omega (arith, h) | false ↦ omega arith ]

  pub longest_free-le : (q : ℕ) → longest_free combinator q ≤ q + 1
  longest_free-le zero = omega arith
  longest_free-le (suc q) =
      let run = run_length-le q in let before = longest_free-le q in
      elim (is_sibling (combinator (suc q)))
      as (λ b. cond b (max (run_length combinator q) (longest_free combinator q))
      (longest_free combinator q) ≤ suc q + 1)
      [ true ↦ omega (arith, run, before) | false ↦ omega (arith, before) ]

  level_count-le : (q : ℕ) → level_count combinator q ≤ q + 1
  level_count-le zero = omega arith
  level_count-le (suc q) =
      levels_by-le (combinator (suc q)) (level_count combinator q) q (level_count-le q)

  pub most_levels-le : (q : ℕ) → most_levels combinator q ≤ q + 1
  most_levels-le zero = omega arith
  most_levels-le (suc q) =
      let own = level_count-le (suc q) in let before = most_levels-le q in
      omega (arith, own, before)

pub sum_le : (fixed free levels nodes siblings parts : ℕ) → fixed ≤ parts → free ≤ parts → levels ≤ parts
    → fixed * nodes + free * (levels * siblings) ≤ parts * (nodes + parts * siblings)
sum_le fixed free levels nodes siblings parts a b c =
    let f = mul-le-mul_right nodes a in
    let l = mul-le-mul_left free (mul-le-mul_right siblings c) in
    let r = mul-le-mul_right (parts * siblings) b in
    omega (arith, f, l, r)

pub counted-le : {Node : Type 0} (document : Document Node) (s : Selector) (n : Node)
    → 0 < length s.parts → counted document s n
    ≤ length s.parts * (document.depth n + 1 + length s.parts * earlier_siblings document n)
counted-le document s n some =
    let combinator = combinator_at (parts_from s.parts) in
    let last = length s.parts - 1 in
    let parts : last + 1 ≡ length s.parts = omega (arith, some) in
    let fixed = longest_fixed-le combinator last in
    let free = longest_free-le combinator last in
    let levels = most_levels-le combinator last in
    sum_le (longest_fixed combinator last) (longest_free combinator last) (most_levels combinator last)
    (document.depth n + 1) (earlier_siblings document n) (length s.parts)
    (omega (arith, parts, fixed)) (omega (arith, parts, free)) (omega (arith, parts, levels))

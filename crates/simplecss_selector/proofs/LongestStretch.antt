-- How long a stretch of joined components is.
-- Serves `Selector::matches_counted` (the bound on the tests by stretches).
use Rattle.std.proofs.Common.{◌≡◌, ℕ, zero, suc, ◌+◌, ◌*◌, ◌<◌, ◌≤◌, Bool, true, false, List, [], ◌∷◌, length, IsTrue, arith, cond, subst}
use Rattle.std.proofs.Math.Decide.{dec_lt}
use Rattle.std.proofs.Math.Nat.{mul-le-mul_left, mul-le-mul_right}
use Rattle.simplecss_grammar.specs.Components.{Component}
use Rattle.simplecss_selector.specs.Placements.{is_joined, joined_length, longest_stretch}
use Rattle.simplecss_selector.specs.Shapes.{component_at}

-- the components from one index to before another are each joined to the one before
abbrev pub AreJoined : List Component → ℕ → ℕ → Type 0
AreJoined cs from to = (k : ℕ) → from ≤ k → k < to → IsTrue (is_joined (component_at cs k))

joined_more : (b : Bool) (n more : ℕ) → IsTrue b → n ≤ more → suc n ≤ cond b (more + 1) 0
joined_more b n more t h = rw t (omega arith)

joined_length-bound : (cs : List Component) (n : ℕ) → n ≤ length cs → AreJoined cs 0 n
    → n ≤ joined_length cs
joined_length-bound cs zero h j = omega arith
joined_length-bound [] (suc n) h j = absurd (omega arith)
joined_length-bound (c ∷ cs) (suc n) h j =
    joined_more (is_joined c) n (joined_length cs) (j 0 (omega arith) (omega arith))
    (joined_length-bound cs n (omega arith) (λ k a b. j (suc k) (omega arith) (omega arith)))

pub longest_stretch-bound : (cs : List Component) (index left : ℕ) → index < left → left ≤ length cs
    → AreJoined cs (index + 1) left → left ≤ index + longest_stretch cs
longest_stretch-bound [] index left h w j = absurd (omega arith)
longest_stretch-bound (c ∷ cs) index zero h w j = absurd (omega arith)
longest_stretch-bound (c ∷ cs) zero (suc l) h w j =
    let b : l ≤ joined_length cs =
    joined_length-bound cs l (omega arith) (λ k a b. j (suc k) (omega arith) (omega arith)) in
    omega arith
longest_stretch-bound (c ∷ cs) (suc p) (suc l) h w j =
    let b : l ≤ p + longest_stretch cs = longest_stretch-bound cs p l (omega arith) (omega arith)
    (λ k a b. j (suc k) (omega arith) (omega arith)) in
    omega arith

-- A stretch that was followed back from index `last` to `index`, with one test at each, made no
-- more tests than the longest has components.
pub stretch_tests-bound : (cs : List Component) (index last before after : ℕ) → index ≤ last
    → last < length cs → AreJoined cs (index + 1) (last + 1) → after + index ≡ before + last
    → after + 1 ≤ before + longest_stretch cs
stretch_tests-bound cs index last before after h w j counted =
    omega (
      arith,
      counted,
      longest_stretch-bound cs index (last + 1) (omega (arith, h)) (omega (arith, w)) j,
    )

-- no stretch is longer than the whole
pub joined_length-le : (cs : List Component) → joined_length cs ≤ length cs
joined_length-le [] = omega arith
joined_length-le (c ∷ cs) =
    elim (is_joined c) as (λ b. cond b (joined_length cs + 1) 0 ≤ length (c ∷ cs))
    [ true ↦ (let h = joined_length-le cs in omega arith) | false ↦ omega arith ]

pub longest_stretch-le : (cs : List Component) → longest_stretch cs ≤ length cs
longest_stretch-le [] = omega arith
longest_stretch-le (c ∷ cs) =
    let h = longest_stretch-le cs in
    let j = joined_length-le cs in
    omega arith

-- one more component is joined, just before the others
pub AreJoined-more : (cs : List Component) (p q left : ℕ) → q ≡ p
    → IsTrue (is_joined (component_at cs p)) → AreJoined cs (p + 1) left → AreJoined cs q left
AreJoined-more cs p q left e b j k from to =
    elim (dec_lt p k) [
      | yes more ↦ j k (omega arith) to
      | no fewer ↦ (let here : p ≡ k = omega arith in
          subst (λ (x : ℕ). IsTrue (is_joined (component_at cs x))) here b)
    ]

stretch_times-le : (cs : List Component) (d : ℕ) → longest_stretch cs * d ≤ length cs * d
stretch_times-le cs d = mul-le-mul_right d (longest_stretch-le cs)

-- a higher candidate leaves room for one more stretch
pub falls : (l a b : ℕ) → a < b → l + l * (a + 1) ≤ l * (b + 1)
falls l a b h = let p : l * (a + 1) ≤ l * b = mul-le-mul_left l (omega arith) in omega arith

-- the tests of one stretch
pub spent_once : (l d before after : ℕ) → after + 1 ≤ before + l → after + 1 ≤ before + l * (d + 1)
spent_once l d before after h =
    let p : l * 1 ≤ l * (d + 1) = mul-le-mul_left l (omega arith) in
    omega arith

-- the tests of a last stretch, after those before it
pub spent_last : (l d before now after bound : ℕ) → now + 1 + l * (d + 1) ≤ before + bound
    → after ≤ now + l → after + 1 ≤ before + bound
spent_last l d before now after bound s h =
    let p : l * 1 ≤ l * (d + 1) = mul-le-mul_left l (omega arith) in
    omega arith

-- what is spent on a first stretch, of which the candidate at the depth `a` is left
pub spent_first : (l a b before after : ℕ) → a < b → after + 1 ≤ before + l
    → after + 1 + l * (a + 1) ≤ before + l * (b + 1)
spent_first l a b before after h t = let p = falls l a b h in omega arith

-- the same of one more stretch
pub spent_more : (l a b before now after bound : ℕ) → a < b → now + 1 + l * (b + 1) ≤ before + bound
    → after ≤ now + l → after + 1 + l * (a + 1) ≤ before + bound
spent_more l a b before now after bound h s t = let p = falls l a b h in omega arith

pub longest_stretch-some : (cs : List Component) → 0 < length cs → 0 < longest_stretch cs
longest_stretch-some [] some = absurd (omega arith)
longest_stretch-some (c ∷ cs) some = omega arith

once_le : (l d : ℕ) → 0 < l → 1 ≤ l * (d + 1)
once_le l d some =
    let h : 1 * (d + 1) ≤ l * (d + 1) = mul-le-mul_right (d + 1) (omega arith) in
    omega arith

-- one test
pub once_within : (l d before after : ℕ) → 0 < l → after ≡ before + 1 → after ≤ before + l * (d + 1)
once_within l d before after some one = let h = once_le l d some in omega arith

-- one test, and then others
pub one_more : (before now after : ℕ) → now ≡ before + 1 → now ≤ after → before < after
one_more before now after one h = omega arith

pub all_more : (before now after last all : ℕ) → now ≡ before + 1 → last + 1 ≡ all
    → now + last ≤ after → before + all ≤ after
all_more before now after last all one e h = omega arith

pub within_more : (before now after bound : ℕ) → now ≡ before + 1 → after + 1 ≤ now + bound
    → after ≤ before + bound
within_more before now after bound one h = omega arith

pub within_all : (cs : List Component) (d before now after : ℕ) → now ≡ before + 1
    → after + 1 ≤ now + longest_stretch cs * d → after ≤ before + length cs * d
within_all cs d before now after one h = let t = stretch_times-le cs d in omega arith

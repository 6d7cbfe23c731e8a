-- What the tests of a search cost.
use Rattle.std.specs.Prelude.{ℕ, ◌+◌, ◌*◌, ◌<◌, ◌≤◌, ◌↔◌, Bool, IsTrue}
use Rattle.std.specs.Borrow.{Bor, MutBor}

-- from one count of tests to another, no more than `cost`
abbrev pub IsSpent : ℕ → ℕ → ℕ → Type 0
IsSpent cost total total' = (total ≤ total') × (total' ≤ total + cost)

-- the same of one test, which counts itself
abbrev pub IsTested : ℕ → ℕ → ℕ → Type 0
IsTested cost total total' = (total < total') × (total' ≤ total + cost + 1)

-- From one count of tests to another, each test added at least one to the total, and fewer than any
-- number that is greater than `cost` and one more: with `c` for each test, the total is covered.
abbrev pub IsCharged : ℕ → ℕ → ℕ → ℕ → ℕ → Type 0
IsCharged cost tests total tests' total' =
    (tests' + total ≤ tests + total')
    × ((c : ℕ) → cost < c → total' + c * tests ≤ total + c * tests')

-- A function that tests an element for a part, by what its calls require and may do: it can be called
-- for each part, it says whether the element's node meets the part, and it adds its tests to the count.
pub record IsPartTest {E Node : Type 0} (pre : ℕ → Bor E → MutBor ℕ → Type 0)
    (post : ℕ → Bor E → MutBor ℕ → Bool → MutBor ℕ → Type 0) (count : ℕ)
    (Meets : ℕ → Node → Type 0) (node : E → Node) (cost : Node → ℕ) : Type 0 where
  pub asks : (i : ℕ) (e : Bor E) (t : MutBor ℕ) → i < count → pre i e t
  pub answers : (i : ℕ) (e : Bor E) (t : MutBor ℕ) (r : Bool) (u : MutBor ℕ) → i < count
      → post i e t r u → IsTrue r ↔ Meets i (node e.now)
  pub costs : (i : ℕ) (e : Bor E) (t : MutBor ℕ) (r : Bool) (u : MutBor ℕ) → i < count
      → post i e t r u → IsSpent (cost (node e.now)) t.now u.now

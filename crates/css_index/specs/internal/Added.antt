-- Which indices are added to a list.
use Rattle.std.specs.Prelude.{◌↔◌, ◌⊎◌, ℕ, List, Contains}

-- to the old indices those were added that were found and are kept
abbrev pub AreAdded : (ℕ → Type 0) → List ℕ → List ℕ → List ℕ → Type 0
AreAdded Keeps old found new = (index : ℕ) → Contains new index
    ↔ (Contains old index ⊎ (Contains found index × Keeps index))

-- each index is kept
abbrev pub KeepsEach : ℕ → Type 0
KeepsEach index = Unit {0}

-- Bits of keys: a set of keys as 64 bits, in which each key sets one bit.
use Rattle.std.specs.Prelude.{ℕ, List, Contains}
use Rattle.css_matching.specs.Hashes.{mark_of, Covers}
use Rattle.cssq_tree.specs.TreeText.{key_of}

-- the bits have the bit of the key of each field
abbrev pub AreMarked : List (List ℕ) → ℕ → Type 0
AreMarked fields seen =
    (field : List ℕ) → Contains fields field → Covers seen (mark_of (key_of field))

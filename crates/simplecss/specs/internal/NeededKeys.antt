-- The numbers of the keys that selectors need of ancestors.
use Rattle.std.specs.Prelude.{◌≡◌, ◌<◌, ℕ, List, Some, IsTrue, length, map}
use Rattle.std.specs.List.{All}
use Rattle.simplecss_selector.specs.AncestorKeys.{ancestor_keys}
use Rattle.simplecss_selector.specs.Keys.{Key}
use Rattle.simplecss_selector.specs.KeyViews.{key_value}
use Rattle.simplecss.specs.OpenPaths.{numbered, needed_keys}
use Rattle.simplecss.specs.internal.LastByKey.{last_for}
use Rattle.simplecss.specs.OnlyKeys.{requires_only_key}
use Rattle.simplecss.specs.internal.Chains.{selectors_of, AreChained}
use Rattle.simplecss.specs.declared.index.last_by_key.LastByKey.{LastByKey}
use Rattle.simplecss.specs.declared.index.last_by_bucket.LastByBucket.{LastByBucket}
use Rattle.simplecss.specs.declared.index.link.Link.{Link}
use Rattle.simplecss.specs.declared.index.needed_keys.NeededKeys.{NeededKeys}

-- the keys, by their numbers
abbrev pub keys_of : NeededKeys → List Key
keys_of needed = map key_value needed.keys.items

-- each key has its number, and no other key has one
pub record AreNumbered (numbers : LastByKey) (keys : List Key) : Type 0 where
  pub known : (number : ℕ) → number < length keys
      → last_for numbers (numbered keys number) ≡ Some number
  pub only : (key : Key) (number : ℕ) → last_for numbers key ≡ Some number
      → (number < length keys) × (numbered keys number ≡ key)

-- the same of what is kept
abbrev pub HasNumbers : NeededKeys → Type 0
HasNumbers needed = AreNumbered needed.numbers (keys_of needed)

-- the numbers are those of these keys
pub record AreNumbersOf (all : List Key) (numbers : List ℕ) (keys : List Key) : Type 0 where
  pub within : All (λ number. number < length all) numbers
  pub are : map (numbered all) numbers ≡ keys

-- each link has the numbers of the keys that its selector needs of ancestors
pub record AreNeeded (needed : NeededKeys) (links : List Link) : Type 0 where
  pub numbered : HasNumbers needed
  pub keys : keys_of needed ≡ needed_keys (selectors_of links)
  pub have : All (λ link. AreNumbersOf (keys_of needed) link.needed.items
      (ancestor_keys link.selector.value)) links

-- each link says whether its selector requires nothing but its key
abbrev pub AreOnly : List Link → Type 0
AreOnly links = All (λ link. link.is_only_key ≡ requires_only_key link.selector.value) links

-- the links of an index: they are in chains, have the numbers of the keys that they need, and say
-- which selectors require nothing but their key
pub record AreIndexed (lasts : LastByBucket) (needed : NeededKeys) (links : List Link) : Type 0 where
  pub chained : AreChained lasts links
  pub numbered : AreNeeded needed links
  pub only : AreOnly links

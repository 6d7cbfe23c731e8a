-- Selectors in chains, each of which leads from the last selector with a key back through all with
-- that key.
use Rattle.std.specs.Prelude.{◌≡◌, ℕ, ◌<◌, List, map, length, Option, None, Some}
use Rattle.std.specs.List.{slice_get}
use Rattle.std.specs.Option.{option_map_or}
use Rattle.simplecss_grammar.specs.Components.{Component}
use Rattle.simplecss_selector.specs.Buckets.{Bucket}
use Rattle.simplecss.specs.SelectorIndices.{key_at}
use Rattle.simplecss.specs.internal.LastByBucket.{last_in_bucket}
use Rattle.simplecss.specs.declared.index.last_by_bucket.LastByBucket.{LastByBucket}
use Rattle.simplecss.specs.declared.index.link.Link.{Link}

-- the selectors of links, in order
abbrev pub selectors_of : List Link → List (List Component)
selectors_of links = map (λ link. link.selector.value) links

-- this is the last index before the end whose selector has the key, or there is none
abbrev pub IsLastBefore : List (List Component) → ℕ → Bucket → Option ℕ → Type 0
IsLastBefore selectors end key None = (index : ℕ) → index < end → key_at selectors index ≡ key → ⊥
IsLastBefore selectors end key (Some last) =
    (last < end) × (key_at selectors last ≡ key)
    × ((index : ℕ) → last < index → index < end → key_at selectors index ≡ key → ⊥)

-- the link before the one at an index
abbrev pub earlier_at : List Link → ℕ → Option ℕ
earlier_at links index = option_map_or (λ link. link.earlier) (slice_get links index) None

-- Each key leads to the last selector with it, and each link leads to the last earlier selector
-- with the key of its own.
pub record AreChained (lasts : LastByBucket) (links : List Link) : Type 0 where
  pub last : (key : Bucket)
      → IsLastBefore (selectors_of links) (length links) key (last_in_bucket lasts key)
  pub earlier : (index : ℕ) → index < length links
      → IsLastBefore (selectors_of links) index (key_at (selectors_of links) index)
      (earlier_at links index)

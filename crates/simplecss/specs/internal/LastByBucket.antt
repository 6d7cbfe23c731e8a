-- The last index for each selector's key, on the element, its parent or its previous sibling.
use Rattle.std.specs.Prelude.{◌≡◌, ◌⊎◌, ℕ, Option, None, Some}
use Rattle.simplecss_selector.specs.Keys.{Reported}
use Rattle.simplecss_selector.specs.Buckets.{Bucket}
use Rattle.simplecss_selector.specs.Buckets.Bucket.{of_element, of_parent, of_previous}
use Rattle.simplecss.specs.internal.LastByKey.{last_for, KeyLeads}
use Rattle.simplecss.specs.declared.index.last_by_key.LastByKey.{LastByKey}
use Rattle.simplecss.specs.declared.index.last_by_bucket.LastByBucket.{LastByBucket}

-- the last index in a bucket, if it has one
abbrev pub last_in_bucket : LastByBucket → Bucket → Option ℕ
last_in_bucket lasts (of_element key) = last_for lasts.own key
last_in_bucket lasts (of_parent key) = last_for lasts.parent key
last_in_bucket lasts (of_previous key) = last_for lasts.previous key

-- the index is now the last in the bucket, and every other bucket has its last index unchanged
abbrev pub TakesBucket : LastByBucket → LastByBucket → Bucket → ℕ → Type 0
TakesBucket old new bucket index = (other : Bucket)
    → ((bucket ≡ other) × (last_in_bucket new other ≡ Some index))
    ⊎ ((bucket ≡ other → ⊥) × (last_in_bucket new other ≡ last_in_bucket old other))

-- a key that a neighbour reports, if there is one, leads to the index
abbrev pub NeighbourLeads : LastByKey → Option Reported → ℕ → Type 0
NeighbourLeads lasts None index = ⊥
NeighbourLeads lasts (Some reported) index = KeyLeads reported lasts index

-- What is found by an element's name and classes only, and by its other keys.
use Rattle.std.specs.Prelude.{◌≡◌, ◌≤◌, ◌<◌, ℕ, List, [], Option, Some, None, Bool, true, false, IsTrue, Contains, length, bytes_eq, string_bytes}
use Rattle.std.specs.Option.{option_map}
use Rattle.simplecss_grammar.specs.Components.{Component}
use Rattle.simplecss_grammar.specs.Components.Operator.{has_word}
use Rattle.simplecss_selector.specs.Keys.{Key, Reported, reports_key, has_satisfying_value}
use Rattle.simplecss_selector.specs.Keys.Key.{by_id, by_class, by_name, by_attribute, by_nothing}
use Rattle.simplecss_selector.specs.Buckets.{Bucket, Near, reports_bucket}
use Rattle.simplecss_selector.specs.Buckets.Bucket.{of_element, of_parent, of_previous}
use Rattle.simplecss.specs.internal.Kept.{AreKeyed}
use Rattle.simplecss.specs.SelectorIndices.{key_at}
use Rattle.simplecss.specs.internal.LastByBucket.{last_in_bucket}
use Rattle.simplecss.specs.declared.index.recent.Slot.{Slot}
use Rattle.simplecss.specs.declared.index.last_by_bucket.LastByBucket.{LastByBucket}

-- whether an element with the name and the class value reports the key, whatever else it has
abbrev pub names_key : List ℕ → Option (List ℕ) → Key → Bool
names_key name class (by_id text) = false
names_key name class (by_class word) = has_satisfying_value (has_word word) class
names_key name class (by_name own) = bytes_eq name own
names_key name class (by_attribute own) = false
names_key name class by_nothing = true

-- the same of a bucket
abbrev pub names_bucket : List ℕ → Option (List ℕ) → Bucket → Bool
names_bucket name class (of_element key) = names_key name class key
names_bucket name class (of_parent key) = false
names_bucket name class (of_previous key) = false

-- whether an element reports the key by its id or another attribute
abbrev pub adds_key : Reported → Key → Bool
adds_key reported (by_id text) = reports_key reported (by_id text)
adds_key reported (by_class word) = false
adds_key reported (by_name name) = false
adds_key reported (by_attribute name) = reports_key reported (by_attribute name)
adds_key reported by_nothing = false

-- whether the bucket's key is reported by the element's id, another attribute, its parent or its
-- previous sibling
abbrev pub adds_bucket : Near → Bucket → Bool
adds_bucket near (of_element key) = adds_key near.own key
adds_bucket near (of_parent key) = reports_bucket near (of_parent key)
adds_bucket near (of_previous key) = reports_bucket near (of_previous key)

-- a bucket of these leads to the index
abbrev pub Leads : (Bucket → Bool) → LastByBucket → ℕ → Type 0
Leads is_reported lasts index =
    (bucket : Bucket) × IsTrue (is_reported bucket) × (last_in_bucket lasts bucket ≡ Some index)

-- each index is of a selector whose key is one of these, and for each selector with such a key the
-- list has the index, or a later one of a selector with the same key
pub record AreStarts (is_reported : Bucket → Bool) (selectors : List (List Component))
    (indices : List ℕ) : Type 0 where
  pub within : (index : ℕ) → Contains indices index
      → (index < length selectors) × IsTrue (is_reported (key_at selectors index))
  pub reached : (index : ℕ) → index < length selectors → IsTrue (is_reported (key_at selectors index))
      → (last : ℕ) × Contains indices last × (index ≤ last)
      × (key_at selectors index ≡ key_at selectors last)

-- the indices are those of the selectors whose key is reported, for every element with the name and
-- the class value, if no selector's key is reported otherwise
abbrev pub IsFound : List (List Component) → List ℕ → Option (List ℕ) → List ℕ → Type 0
IsFound selectors name class indices = (near : Near) → near.own.name ≡ name → near.own.class ≡ class
    → AreStarts (adds_bucket near) selectors [] → AreKeyed near selectors indices

-- a slot is empty, or has what was found by its name and class value
abbrev pub IsSlotOf : List (List Component) → Option Slot → Type 0
IsSlotOf selectors None = Unit {0}
IsSlotOf selectors (Some slot) =
    IsFound selectors (string_bytes slot.name)
    (option_map string_bytes slot.class) slot.indices.items

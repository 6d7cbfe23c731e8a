-- The last index for each key.
use Rattle.std.specs.Prelude.{◌≡◌, ◌⊎◌, ℕ, List, Bool, Option, None, Some, IsTrue}
use Rattle.simplecss_selector.specs.Keys.{Key, Reported, reports_key}
use Rattle.simplecss_selector.specs.Keys.Key.{by_id, by_class, by_name, by_attribute, by_nothing}
use Rattle.simplecss_selector.specs.Operators.{is_word_of}
use Rattle.simplecss.specs.internal.TextIndices.{index_for_text}
use Rattle.simplecss.specs.declared.index.last_by_key.LastByKey.{LastByKey}

-- the last index for a key, if it has one
abbrev pub last_for : LastByKey → Key → Option ℕ
last_for lasts (by_id text) = index_for_text lasts.ids.indices text
last_for lasts (by_class word) = index_for_text lasts.classes.indices word
last_for lasts (by_name name) = index_for_text lasts.names.indices name
last_for lasts (by_attribute name) = index_for_text lasts.attributes.indices name
last_for lasts by_nothing = lasts.any

-- the index is now the last for the key, and every other key has its last index unchanged
abbrev pub TakesIndex : LastByKey → LastByKey → Key → ℕ → Type 0
TakesIndex old new key index = (other : Key)
    → ((key ≡ other) × (last_for new other ≡ Some index))
    ⊎ ((key ≡ other → ⊥) × (last_for new other ≡ last_for old other))

-- the id, if there is one, leads to the index
abbrev pub IdLeads : LastByKey → Option (List ℕ) → ℕ → Type 0
IdLeads lasts None index = ⊥
IdLeads lasts (Some text) index = last_for lasts (by_id text) ≡ Some index

-- a word of the class, if there is one, leads to the index
abbrev pub ClassLeads : LastByKey → Option (List ℕ) → ℕ → Type 0
ClassLeads lasts None index = ⊥
ClassLeads lasts (Some value) index =
    (word : List ℕ) × IsTrue (is_word_of word value) × (last_for lasts (by_class word) ≡ Some index)

-- an attribute that the element has leads to the index
abbrev pub AttributeLeads : LastByKey → (List ℕ → Bool) → ℕ → Type 0
AttributeLeads lasts has index =
    (name : List ℕ) × IsTrue (has name) × (last_for lasts (by_attribute name) ≡ Some index)

-- a reported key leads to the index
abbrev pub KeyLeads : Reported → LastByKey → ℕ → Type 0
KeyLeads reported lasts index =
    (key : Key) × IsTrue (reports_key reported key) × (last_for lasts key ≡ Some index)

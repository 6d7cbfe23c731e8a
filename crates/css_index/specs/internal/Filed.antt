-- Keys of selectors, filed by a number of each.
use Rattle.std.specs.Prelude.{◌≡◌, ℕ, ◌+◌, ◌-◌, ◌*◌, ◌/◌, ◌%◌, ◌^◌, ◌<◌, ◌↔◌, ◌⊎◌, ◌==◌, Bool, true, false, List, [], ◌∷◌, ◌++◌, map, length, take, Option, None, Some, Contains, IsTrue, filter}
use Rattle.std.specs.List.{slice_get, flat_map, list_any}
use Rattle.std.specs.Global.{Vec}
use Rattle.css_selector_text.specs.AttributeTests.{is_satisfied}
use Rattle.css_selector_text.specs.Components.{Selector}
use Rattle.css_selector_text.specs.Components.Comparison.{has_word}
use Rattle.css_selectors.specs.Documents.{Document}
use Rattle.css_selectors.specs.Keys.{Key}
use Rattle.css_selectors.specs.Keys.Key.{by_id}
use Rattle.css_selectors.specs.Meanings.{satisfies}
use Rattle.css_selectors.specs.KeyViews.{key_of}
use Rattle.css_index.specs.KeyNumbers.{number_of, is_same}
use Rattle.css_index.specs.Reported.{Reported, reports_key}
use Rattle.css_index.specs.Tested.{filed_keys}
use Rattle.css_index.specs.declared.filed_key.FiledKey.{FiledKey}

-- the place of a key with this number among so many, by the upper half of a multiple of the number
abbrev pub place_by : ℕ → ℕ → ℕ
place_by count number = number * 11400714819323198485 % 2 ^ 64 / 2 ^ 32 % count

-- the place of a key among so many
abbrev pub place_of : ℕ → Key → ℕ
place_of count key = place_by count (number_of key)

-- what contracts see of an entry: its key, and the index of its selector
abbrev pub entry_of : FiledKey → Key × ℕ
entry_of e = (key_of e.key, e.rule)

-- the keys, each with the index
abbrev pub with_index : ℕ → List Key → List (Key × ℕ)
with_index index keys = map (λ key. (key, index)) keys

-- the keys of selectors, each with the index of its selector, counted from a number
abbrev pub entries_from : ℕ → List Selector → List (Key × ℕ)
entries_from index [] = []
entries_from index (s ∷ ss) =
    with_index index (filed_keys s) ++ entries_from (index + 1) ss

-- the keys of selectors, each with the index of its selector
abbrev pub entries_of : List Selector → List (Key × ℕ)
entries_of selectors = entries_from 0 selectors

-- the last of the entries has the key
abbrev pub HasLastKey : List FiledKey → Key → Type 0
HasLastKey entries key = (d : FiledKey) × (0 < length entries)
    × (slice_get entries (length entries - 1) ≡ Some d) × (key_of d.key ≡ key)

-- each entry that repeats the one before it has its key
abbrev pub AreRuns : List FiledKey → Type 0
AreRuns entries = (i : ℕ) (e : FiledKey) → slice_get entries i ≡ Some e → e.repeats ≡ true
    → HasLastKey (take i entries) (key_of e.key)

-- the entries at each place
abbrev pub AllRuns : List (Vec FiledKey) → Type 0
AllRuns buckets = (place : ℕ) (bucket : Vec FiledKey) → slice_get buckets place ≡ Some bucket
    → AreRuns bucket.items

-- the entries whose key has this place among so many
abbrev pub entries_at : ℕ → ℕ → List (Key × ℕ) → List (Key × ℕ)
entries_at count place entries = filter (λ e. place_of count e.0 == place) entries

-- the list at each place has the entries whose keys have it, in order
abbrev pub AreFiledAt : ℕ → List (Key × ℕ) → List (Vec FiledKey) → Type 0
AreFiledAt count entries buckets = (place : ℕ) (bucket : Vec FiledKey)
    → slice_get buckets place ≡ Some bucket
    → map entry_of bucket.items ≡ entries_at count place entries

-- there is a place, and the list at each has the entries whose keys have it, in order and in runs
pub record AreFiled (entries : List (Key × ℕ)) (buckets : List (Vec FiledKey)) : Type 0 where
  pub some : 0 < length buckets
  pub filed : AreFiledAt (length buckets) entries buckets
  pub runs : AllRuns buckets

-- whether an entry's key is the same as this
abbrev pub is_found_by : Key → Key × ℕ → Bool
is_found_by key e = is_same e.0 key

-- the indices of the entries whose key is the same as this
abbrev pub found_by : List (Key × ℕ) → Key → List ℕ
found_by entries key = map (λ e. e.1) (filter (is_found_by key) entries)

-- the same for an entry whose key is the same as one of these
abbrev pub found_by_any : List (Key × ℕ) → List Key → List ℕ
found_by_any entries keys = flat_map (found_by entries) keys

-- these are the words of a value
abbrev pub AreWords : List ℕ → List (List ℕ) → Type 0
AreWords value words = (text : List ℕ)
    → IsTrue (is_satisfied has_word false text value) ↔ Contains words text

-- these are the first words of a value, and the others are in the rest, if more may follow
abbrev pub AreFirstWords : List ℕ → List (List ℕ) → Option (List ℕ) → Type 0
AreFirstWords value words None = AreWords value words
AreFirstWords value words (Some rest) = (text : List ℕ)
    → IsTrue (is_satisfied has_word false text value)
    ↔ (Contains words text ⊎ IsTrue (is_satisfied has_word false text rest))

-- these are the words of a value, or there is none
abbrev pub AreClasses : Option (List ℕ) → List (List ℕ) → Type 0
AreClasses value words = (text : List ℕ)
    → IsTrue (satisfies has_word false text value) ↔ Contains words text

-- these are the keys that an element reports
abbrev pub AreReported : {Node : Type 0} → Document Node → Node → Reported → List Key → Type 0
AreReported document n reported keys = (own : Key)
    → IsTrue (reports_key document n reported own) ↔ IsTrue (list_any (is_same own) keys)

-- the key of an id, if there is one
abbrev pub id_keys : Option (List ℕ) → List Key
id_keys None = []
id_keys (Some text) = by_id text ∷ []

-- Paths of open elements: the keys that a sheet's selectors need of ancestors have numbers, and a path
-- has for each open element the numbers of the keys that it reports.
use Rattle.std.specs.Prelude.{◌≡◌, ◌<◌, ◌↔◌, ◌&&◌, ℕ, List, [], ◌∷◌, ◌++◌, Bool, true, false, Option, Some, None, length, take, drop, slice_index_or, Contains, IsTrue, bytes_eq, nat_lt, not, filter, if◌then◌else◌}
use Rattle.std.specs.List.{fold, flat_map, list_any, list_all}
use Rattle.simplecss_grammar.specs.Components.{Component}
use Rattle.simplecss_selector.specs.AncestorKeys.{ancestor_keys}
use Rattle.simplecss_selector.specs.Keys.{Key, Reported, reports_key}
use Rattle.simplecss_selector.specs.Keys.Key.{by_id, by_class, by_name, by_attribute, by_nothing}
use Rattle.simplecss_selector.specs.Trees.{Tree}
use Rattle.simplecss_selector.specs.Buckets.{Near, Bucket, reports_bucket, bucket_of}
use Rattle.simplecss_selector.specs.Buckets.Bucket.{of_parent}
use Rattle.simplecss.specs.OnlyKeys.{requires_only_key}
use Rattle.simplecss.specs.SelectorIndices.{key_at}

-- whether two keys are equal
abbrev pub same_key : Key → Key → Bool
same_key (by_id a) (by_id b) = bytes_eq a b
same_key (by_class a) (by_class b) = bytes_eq a b
same_key (by_name a) (by_name b) = bytes_eq a b
same_key (by_attribute a) (by_attribute b) = bytes_eq a b
same_key by_nothing by_nothing = true
same_key a b = false

-- the keys with one more, unless it is among them
abbrev pub add_key : List Key → Key → List Key
add_key keys key = if list_any (same_key key) keys then keys else keys ++ key ∷ []

-- the keys that selectors need of ancestors, each once, in the order in which they first occur
abbrev pub needed_keys : List (List Component) → List Key
needed_keys selectors = fold add_key [] (flat_map ancestor_keys selectors)

-- the key with a number
abbrev pub numbered : List Key → ℕ → Key
numbered keys number = slice_index_or keys number by_nothing

-- Open elements, by the numbers of the keys that they report, and by the selectors that are to be
-- tested on their children since they report the key that is required of a parent.
pub record Path : Type 0 where
  -- the selectors
  pub selectors : List (List Component)
  -- the numbers of all open elements, in the order in which they were opened
  pub listed : List ℕ
  -- for all open elements, the indices of the last selectors with a key of the parent
  pub starts : List ℕ
  -- for each open element, the last first, how many numbers and indices there were before it
  pub marks : List (ℕ × ℕ)

-- the numbers are those of the keys that are reported
abbrev pub AreReported : List Key → Reported → List ℕ → Type 0
AreReported keys reported numbers = (number : ℕ) → Contains numbers number
    ↔ ((number < length keys) × IsTrue (reports_key reported (numbered keys number)))

-- this is the last index of a selector with the key
abbrev pub IsLast : List (List Component) → Bucket → ℕ → Type 0
IsLast selectors bucket last =
    (last < length selectors) × (key_at selectors last ≡ bucket)
    × ((index : ℕ) → last < index → index < length selectors → key_at selectors index ≡ bucket → ⊥)

-- the indices are the last of selectors that want a parent with a key that is reported
abbrev pub AreParentStarts : List (List Component) → Reported → List ℕ → Type 0
AreParentStarts selectors reported starts = (last : ℕ) → Contains starts last
    ↔ ((key : Key) × IsTrue (reports_key reported key) × IsLast selectors (of_parent key) last)

-- an element that denotes the node reports these numbers and indices
abbrev pub IsOpened : {Node Self : Type 0} → (Self → Node) → (Self → Reported)
    → List (List Component) → Node → List ℕ → List ℕ → Type 0
IsOpened {Self = Self} node reported selectors n numbers starts =
    (e : Self) × (node e ≡ n) × AreReported (needed_keys selectors) (reported e) numbers
    × AreParentStarts selectors (reported e) starts

-- the open elements are the node and its ancestors, if there is a node
abbrev pub AreOpened : {Node Self : Type 0} → Tree Node → (Self → Node) → (Self → Reported)
    → List (List Component) → Option Node → List (ℕ × ℕ) → List ℕ → List ℕ → Type 0
AreOpened tree node reported selectors None [] listed starts = (listed ≡ []) × (starts ≡ [])
AreOpened tree node reported selectors (Some n) [] listed starts = ⊥
AreOpened tree node reported selectors None (m ∷ ms) listed starts = ⊥
AreOpened tree node reported selectors (Some n) (m ∷ ms) listed starts =
    IsOpened node reported selectors n (drop m.0 listed) (drop m.1 starts)
    × AreOpened tree node reported selectors (tree.parent n) ms (take m.0 listed) (take m.1 starts)

-- the path is open to the node: the open elements are the node and its ancestors, if there is one
abbrev pub IsOpenTo : {Node Self : Type 0} → Tree Node → (Self → Node) → (Self → Reported) → Path
    → Option Node → Type 0
IsOpenTo tree node reported path place =
    AreOpened tree node reported path.selectors place path.marks path.listed path.starts

-- the numbers and indices that stay when these elements are open, and the last is closed
abbrev pub listed_after : List (ℕ × ℕ) → List ℕ → List ℕ
listed_after [] listed = listed
listed_after (m ∷ ms) listed = take m.0 listed

abbrev pub starts_after : List (ℕ × ℕ) → List ℕ → List ℕ
starts_after [] starts = starts
starts_after (m ∷ ms) starts = take m.1 starts

-- all but the first
abbrev pub all_but_first : List (ℕ × ℕ) → List (ℕ × ℕ)
all_but_first [] = []
all_but_first (m ∷ ms) = ms

-- the element that was opened last is closed, if there is one
abbrev pub left : Path → Path
left path = record {
  selectors = path.selectors;
  listed = listed_after path.marks path.listed;
  starts = starts_after path.marks path.starts;
  marks = all_but_first path.marks;
}

-- whether the number is that of the key
abbrev pub is_number : List Key → Key → ℕ → Bool
is_number keys key number = nat_lt number (length keys) && same_key (numbered keys number) key

-- whether each key that the selector needs of ancestors is one that an open element reports
abbrev pub are_open : List Key → List ℕ → List Component → Bool
are_open keys listed selector =
    list_all (λ key. list_any (is_number keys key) listed) (ancestor_keys selector)

-- whether the selector may match: its key is reported, and open elements report those of ancestors
abbrev pub is_open_for : Near → Path → List Component → Bool
is_open_for reported path selector = reports_bucket reported (bucket_of selector)
    && are_open (needed_keys path.selectors) path.listed selector

-- the selectors that may match
abbrev pub open_for : Near → Path → List (List Component)
open_for reported path = filter (is_open_for reported path) path.selectors

-- the selectors that are tested: those that may match and require more than their key
abbrev pub tested_open : Near → Path → List (List Component)
tested_open reported path = filter (λ selector. not (requires_only_key selector)) (open_for reported path)

-- Walks along a page: the keys that selectors need of an element's ancestors and of its parent have
-- numbers, and of each open element it is known which of these it reports.
use Rattle.std.specs.Prelude.{◌≡◌, ◌<◌, ◌↔◌, ⊤, ℕ, List, [], ◌∷◌, Option, Some, None, length, Contains, IsTrue}
use Rattle.std.specs.List.{All, slice_get}
use Rattle.css_open_elements.specs.Opened.{IsOpen, IsOfLast}
use Rattle.css_selectors.specs.AncestorKeys.{ancestor_keys, parent_keys}
use Rattle.css_selector_text.specs.Components.{Selector}
use Rattle.css_selectors.specs.Documents.{Document}
use Rattle.css_selectors.specs.Keys.{Key}
use Rattle.css_index.specs.Reported.{Reported, reports_key}
use Rattle.css_index.specs.KeyNumbers.{is_same}

-- keys, each with its number
abbrev pub Numbered : Type 0
Numbered = List (Key × ℕ)

-- a key that is the same as this has the number
abbrev pub HasNumber : Numbered → Key → ℕ → Type 0
HasNumber needed key number =
    (own : Key) × Contains needed (own, number) × IsTrue (is_same own key)

-- the numbers are less than there are keys
abbrev pub AreNumbered : Numbered → Type 0
AreNumbered needed = (e : Key × ℕ) → Contains needed e → e.1 < length needed

-- each key keeps its number
abbrev pub IsMore : Numbered → Numbered → Type 0
IsMore old new = (e : Key × ℕ) → Contains old e → Contains new e

-- the numbers of the keys
pub record AreNumbersOf (needed : Numbered) (keys : List Key) (numbers : List ℕ) : Type 0 where
  pub each : (key : Key) → Contains keys key
      → (number : ℕ) × Contains numbers number × HasNumber needed key number
  pub only : (number : ℕ) → Contains numbers number
      → (key : Key) × Contains keys key × HasNumber needed key number

-- what contracts see of a walk: the selectors, the keys that they need above an element, for each
-- selector the numbers of those of ancestors and of the parent, and for each open element, the last
-- first, the numbers of those that it reports
pub record Walk : Type 0 where
  pub selectors : List Selector
  pub needed : Numbered
  pub needs : List (List ℕ × List ℕ)
  pub opened : List (List ℕ)

-- the numbers of what selectors need
abbrev pub AreNeeds : Numbered → List Selector → List (List ℕ × List ℕ) → Type 0
AreNeeds needed [] [] = ⊤
AreNeeds needed [] (need ∷ needs) = ⊥
AreNeeds needed (s ∷ selectors) [] = ⊥
AreNeeds needed (s ∷ selectors) (need ∷ needs) =
    AreNumbersOf needed (ancestor_keys s) need.0 × AreNumbersOf needed (parent_keys s) need.1
    × AreNeeds needed selectors needs

-- a selector is at the index, and open elements have the numbers that it needs
abbrev pub IsKeptAt : Walk → ℕ → Type 0
IsKeptAt walk index = (need : List ℕ × List ℕ) × (slice_get walk.needs index ≡ Some need)
    × All (IsOpen walk.opened) need.0 × All (IsOfLast walk.opened) need.1

-- the numbers are those of the keys that are reported
abbrev pub AreReportedNumbers : {Node : Type 0} → Document Node → Node → Reported → Numbered → List ℕ
    → Type 0
AreReportedNumbers document n reported needed numbers = (number : ℕ) → Contains numbers number
    ↔ ((own : Key) × Contains needed (own, number) × IsTrue (reports_key document n reported own))

-- an element that denotes the node reports these numbers
abbrev pub IsOpened : {Node Self : Type 0} → Document Node → (Self → Node) → (Self → Reported)
    → Numbered → Node → List ℕ → Type 0
IsOpened {Self = Self} document node reported needed n numbers =
    (e : Self) × (node e ≡ n) × AreReportedNumbers document n (reported e) needed numbers

-- the open elements are the node and its ancestors, if there is a node
abbrev pub AreOpened : {Node Self : Type 0} → Document Node → (Self → Node) → (Self → Reported)
    → Numbered → Option Node → List (List ℕ) → Type 0
AreOpened document node reported needed None [] = ⊤
AreOpened document node reported needed (Some n) [] = ⊥
AreOpened document node reported needed None (numbers ∷ opened) = ⊥
AreOpened document node reported needed (Some n) (numbers ∷ opened) =
    IsOpened document node reported needed n numbers
    × AreOpened document node reported needed (document.parent n) opened

-- the walk is open to the node: the open elements are the node and its ancestors, if there is one
abbrev pub IsOpenTo : {Node Self : Type 0} → Document Node → (Self → Node) → (Self → Reported)
    → Walk → Option Node → Type 0
IsOpenTo document node reported walk place =
    AreOpened document node reported walk.needed place walk.opened

-- an open element reports the key
abbrev pub KeyIsOpen : Walk → Key → Type 0
KeyIsOpen walk key = (number : ℕ) × HasNumber walk.needed key number × IsOpen walk.opened number

-- the element that was opened last reports the key
abbrev pub KeyIsOfLast : Walk → Key → Type 0
KeyIsOfLast walk key = (number : ℕ) × HasNumber walk.needed key number × IsOfLast walk.opened number

-- open elements report all keys that the selector needs above an element
pub record IsKept (walk : Walk) (s : Selector) : Type 0 where
  pub ancestors : (key : Key) → Contains (ancestor_keys s) key → KeyIsOpen walk key
  pub parent : (key : Key) → Contains (parent_keys s) key → KeyIsOfLast walk key

-- The numbers by which the elements of a tree are grouped.
use Rattle.std.specs.Prelude.{◌≡◌, ℕ, ◌+◌, ◌<◌, ◌&&◌, ◌==◌, Bool, List, length, Some, bytes_eq}
use Rattle.std.specs.Borrow.{Bor}
use Rattle.std.specs.BTreeMap.{BTreeMap, get}
use Rattle.std.specs.Cmp.Lexicographic.{slice_cmp}
use Rattle.std.specs.List.{slice_get}
use Rattle.std.specs.Option.{unwrap_or}
use Rattle.std.specs.Ordering.{nat_cmp, ordering_then}
use Rattle.std.specs.declared.cmp.Ordering.{Ordering}
use Rattle.css_elements.specs.Rows.{Row}
use Rattle.css_elements.specs.TreeNodes.{name_at}
use Rattle.css_tree.specs.Counts.{count_below, first_below}
use Rattle.css_tree.specs.GroupViews.{is_in_group}
use Rattle.css_tree.specs.Pages.{family, is_alike, language_of, namespace_at}
use Rattle.css_tree.specs.declared.kinds.TheConstants.{COMPARED}

-- the number of the family of each element
pub record AreFamilies (rows : List Row) (families : List ℕ) : Type 0 where
  pub all : length families ≡ length rows
  pub each : (i : ℕ) → i < length rows → slice_get families i ≡ Some (family rows i)

-- the number of a kind: the index of the first element that is like this one
abbrev pub kind : List Row → (namespaces : List ℕ) → ℕ → ℕ
kind rows namespaces i = unwrap_or (first_below (is_alike rows namespaces i) i) i

-- the numbers of the kinds of the elements below an index
pub record HasKinds (rows : List Row) (namespaces kinds : List ℕ) (n : ℕ) : Type 0 where
  pub all : length kinds ≡ n
  pub each : (i : ℕ) → i < n → slice_get kinds i ≡ Some (kind rows namespaces i)

-- the number of the kind of each element
abbrev pub AreKinds : List Row → (namespaces : List ℕ) → List ℕ → Type 0
AreKinds rows namespaces kinds = HasKinds rows namespaces kinds (length rows)

-- the languages of the elements below an index
pub record AreLanguages (rows : List Row) (languages : List (Bor (List ℕ))) (n : ℕ) : Type 0 where
  pub all : length languages ≡ n
  pub each : (i : ℕ) → i < n → (language : Bor (List ℕ)) × (slice_get languages i ≡ Some language)
      × (language.now ≡ language_of rows i)

-- ---- how the numbers of kinds are found

-- the number of a family, the number of a namespace, and a name
abbrev pub KindKey : Type 0
KindKey = ℕ × ℕ × Bor (List ℕ)

-- the order of these
abbrev pub kind_cmp : KindKey → KindKey → Ordering
kind_cmp a b =
    ordering_then (ordering_then (nat_cmp a.0 b.0) (nat_cmp a.1 b.1))
    (slice_cmp nat_cmp a.2.now b.2.now)

-- whether the element at an index is of a family, is in a namespace and has a name
abbrev pub has_kind : List Row → (namespaces : List ℕ) → KindKey → ℕ → Bool
has_kind rows namespaces key j =
    key.0 == family rows j
    && (key.1 == namespace_at namespaces j && bytes_eq key.2.now (name_at rows j))

-- a family with more members than are compared one after another
abbrev pub IsLarge : List ℕ → ℕ → Type 0
IsLarge families number = COMPARED < count_below (is_in_group families number) (length families)

-- for each large family, each namespace and each name the first of the elements below an index
abbrev pub AreNamed : List Row → (namespaces : List ℕ) → List ℕ → BTreeMap KindKey ℕ → ℕ → Type 0
AreNamed rows namespaces families named n =
    (key : KindKey) → IsLarge families key.0
    → get kind_cmp named key ≡ first_below (has_kind rows namespaces key) n

-- an element of a kind that is named before: what is named below its index is so with it
abbrev pub NamesNoMore : List Row → (namespaces : List ℕ) → List ℕ → ℕ → Type 0
NamesNoMore rows namespaces families n = (named : BTreeMap KindKey ℕ)
    → AreNamed rows namespaces families named n → AreNamed rows namespaces families named (n + 1)

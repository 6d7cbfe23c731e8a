-- What a selector means as it was read (Selectors 4; CSS Nesting 1, section 3): which elements it matches, where
-- `&`, `:has()` and lists after `An+B` say what the standard says. No list has a number here, and nothing is marked.
use Rattle.std.specs.Prelude.{◌≡◌, ℕ, zero, suc, ◌-◌, ◌<◌, ◌⊎◌, ◌==◌, Bool, true, false, List, [], ◌∷◌, Option, None, IsTrue}
use Rattle.css_matching.specs.Placements.{HasPlacement}
use Rattle.css_selector_text.specs.Components.{Simple, ListTest, Condition, Conditions, Parts, Selectors, Selector, parts_from}
use Rattle.css_selector_text.specs.Components.Simple.{nesting}
use Rattle.css_selector_text.specs.Components.ListTest.{has, nth_child, nth_last_child}
use Rattle.css_selector_text.specs.Components.Condition.{simple, negation, any_of, where_any, tested}
use Rattle.css_selector_text.specs.Components.Conditions.{end_of_compound, with_condition}
use Rattle.css_selector_text.specs.Components.Parts.{end_of_selector, with_part}
use Rattle.css_selector_text.specs.Components.Selectors.{end_of_list, with_selector}
use Rattle.css_selectors.specs.Documents.{Document, shape}
use Rattle.css_selectors.specs.Meanings.{holds, combinator_at, part_count}
use Rattle.css_tree.specs.HasSelectors.{combinator_after, MeetsAfter}
use Rattle.css_tree.specs.SiblingCounts.{IsNumberedAmong}

-- whether a condition stands within the list of a `:has()`
pub data Side : Type 0 where
  outside : Side
  inside : Side

-- which elements an `&` of each number denotes, on either side
abbrev pub Denotation : Type 0 → Type 1
Denotation Node = Side → ℕ → Node → Type 0

-- `:has()` cannot be nested (Selectors 4, section 4.5): within the list of another it is true of no element, also
-- where that list reaches it through `&`.
abbrev pub IsOutermost : Side → Type 0
IsOutermost outside = Unit {0}
IsOutermost inside = ⊥

-- the simple selector is true of the element
abbrev pub SimpleMeans : {Node : Type 0} → Document Node → Denotation Node → Side → Simple → Node → Type 0
SimpleMeans document Denotes side (nesting list) n = Denotes side list.number n
SimpleMeans document Denotes side s n = IsTrue (holds document n s)

-- The pseudo-class is true of the element, by which elements its list means, and which are so by the list as
-- relative selectors (Selectors 4, sections 4.5, 13.3.1 and 13.3.2).
abbrev pub TestMeans : {Node : Type 0} → Document Node → (next_sibling : Node → Option Node) → Side → ListTest
    → (Listed HasListed : Node → Type 0) → Node → Type 0
TestMeans document next_sibling side has Listed HasListed n = IsOutermost side × HasListed n
TestMeans document next_sibling side (nth_child p) Listed HasListed n =
    Listed n × IsNumberedAmong document.previous_sibling Listed p n
TestMeans document next_sibling side (nth_last_child p) Listed HasListed n =
    Listed n × IsNumberedAmong next_sibling Listed p n

-- An element ends a placement of this one and then of the parts of a relative selector. There is no such element
-- for a selector without parts.
abbrev pub EndsAfter : {Node : Type 0} → Document Node → (IsElement : Node → Type 0) → Parts
    → (Meets : ℕ → Node → Type 0) → Node → Type 0
EndsAfter {Node} document IsElement parts Meets n =
    (0 < part_count parts)
    × ((end : Node) × IsElement end
    × HasPlacement (shape document) (combinator_after parts) (MeetsAfter Meets n) (part_count parts) end)

-- `IsElement` are the elements among which `:has()` seeks.
module _ {Node : Type 0} (document : Document Node) (next_sibling : Node → Option Node) (IsElement : Node → Type 0)
    (Denotes : Denotation Node) where
  abbrev mutual
    -- the condition is true of the element
    pub Means : Side → Condition → Node → Type 0
    Means side (simple s) n = SimpleMeans document Denotes side s n
    Means side (negation selectors) n = AnyMeans side selectors n → ⊥
    Means side (any_of selectors) n = AnyMeans side selectors n
    Means side (where_any selectors) n = AnyMeans side selectors n
    Means side (tested test selectors) n =
        TestMeans document next_sibling side test (AnyMeans side selectors) (HasMeans selectors) n

    -- all of a compound selector are
    pub AllMean : Side → Conditions → Node → Type 0
    AllMean side end_of_compound n = Unit {0}
    AllMean side (with_condition c conditions) n = Means side c n × AllMean side conditions n

    -- the compound selector at an index is
    pub PartMeans : Side → Parts → ℕ → Node → Type 0
    PartMeans side end_of_selector i n = ⊥
    PartMeans side (with_part c conditions parts) zero n = AllMean side conditions n
    PartMeans side (with_part c conditions parts) (suc i) n = PartMeans side parts i n

    -- one of a list matches the element
    pub AnyMeans : Side → Selectors → Node → Type 0
    AnyMeans side end_of_list n = ⊥
    AnyMeans side (with_selector parts selectors) n =
        HasPlacement (shape document) (combinator_at parts) (PartMeans side parts) (part_count parts - 1) n
        ⊎ AnyMeans side selectors n

    -- one of a list of relative selectors matches an element, relative to this one
    pub HasMeans : Selectors → Node → Type 0
    HasMeans end_of_list n = ⊥
    HasMeans (with_selector parts selectors) n =
        EndsAfter document IsElement parts (PartMeans inside parts) n ⊎ HasMeans selectors n

  -- the complex selector matches the element
  abbrev pub ComplexMeans : Side → Parts → Node → Type 0
  ComplexMeans side parts n =
      HasPlacement (shape document) (combinator_at parts) (PartMeans side parts) (part_count parts - 1) n

  -- The selector matches the element. A selector with a pseudo-element matches none.
  abbrev pub SelectorMeans : Side → Selector → Node → Type 0
  SelectorMeans side s n = (s.pseudo_element ≡ None) × ComplexMeans side (parts_from s.parts) n

  -- one of the selectors does
  abbrev pub OneMeans : List Selector → Side → Node → Type 0
  OneMeans [] side n = ⊥
  OneMeans (s ∷ selectors) side n = SelectorMeans side s n ⊎ OneMeans selectors side n

-- ---- what `&` denotes

-- outside of nested rules it is the scoping root, which the list of number 0 is
abbrev pub outermost : {Node : Type 0} → Document Node → Denotation Node
outermost document side number n = IsTrue (document.is_in_list n 0)

abbrev pub chosen : Bool → Type 0 → Type 0 → Type 0
chosen true A B = A
chosen false A B = B

-- that of the number after `count` is one more
abbrev pub with_denoted : {Node : Type 0} → Denotation Node → ℕ → (Listed : Side → Node → Type 0) → Denotation Node
with_denoted Denotes count Listed side number n = chosen (number == suc count) (Listed side n) (Denotes side number n)

-- Directly in a nested rule it is `:is()` of the selectors of the rule around it (CSS Nesting 1, section 3). The lists
-- of those are numbered in the order of the texts, so each asks only of those before it.
abbrev pub denoted : {Node : Type 0} → Document Node → (next_sibling : Node → Option Node) → (IsElement : Node → Type 0)
    → Denotation Node → ℕ → List (List Selector) → Denotation Node
denoted document next_sibling IsElement Denotes count [] = Denotes
denoted document next_sibling IsElement Denotes count (list ∷ lists) =
    denoted document next_sibling IsElement
    (with_denoted Denotes count (OneMeans document next_sibling IsElement Denotes list)) (suc count) lists

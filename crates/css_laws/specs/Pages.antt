-- Pages of the crate `css_tree`, whose elements answer to both kinds of selectors, and the selectors that
-- mean the same on them.
use Rattle.std.specs.Prelude.{◌≡◌, ◌≢◌, ◌==◌, ◌++◌, ◌∷◌, ℕ, false, List, [], length, All, Option, IfSome}
use Rattle.std.specs.List.{list_any}
use Rattle.simplecss_grammar.specs.Components.{Subselector, Component}
use Rattle.simplecss_grammar.specs.Components.KnownPseudoClass.{first_child, link, visited, hover, active, focus, lang}
use Rattle.simplecss_grammar.specs.Components.Operator.{exists, equals, has_word, begins_with}
use Rattle.simplecss_grammar.specs.Components.Subselector.{attribute, pseudo_class}
use Rattle.css_elements.specs.Rows.{Row, IsMissing, new_child, with_attribute, with_states}
use Rattle.css_elements.specs.TreeNodes.{attribute_at}
use Rattle.css_elements.specs.declared.tree.States.{States}
use Rattle.css_text.specs.AsciiBytes.{hyphen}
use Rattle.css_tree.specs.Languages.{is_wildcard}
use Rattle.css_laws.specs.OneTree.{HasOnlySpaces}

-- The elements of a tree that was made by its calls: of none, with one more child, with one more attribute
-- of the last element, or with other states of one.
pub data IsMade : List Row → Type 0 where
  of_none : IsMade []
  with_child : {rows : List Row} (parent : Option ℕ) (name : List ℕ) → IsMade rows
      → (IsMissing parent (length rows) → ⊥) → IsMade (rows ++ new_child rows parent name ∷ [])
  with_more : {rows : List Row} (name value : List ℕ) → IsMade rows
      → IsMade (with_attribute rows name value)
  with_others : {rows : List Row} (index : ℕ) (states : States) → IsMade rows
      → IsMade (with_states rows index states)

-- no value of an attribute has white space other than U+0020
abbrev pub HaveOnlySpaces : List Row → Type 0
HaveOnlySpaces rows =
    (i : ℕ) (name : List ℕ) → IfSome (attribute_at rows i name) HasOnlySpaces

-- `~=` with a word that is not empty, and `:lang()` with one subtag, which is not `*`; all others
abbrev pub IsShared : Subselector → Type 0
IsShared (attribute name exists) = Unit {0}
IsShared (attribute name (equals text)) = Unit {0}
IsShared (attribute name (has_word word)) = word ≢ []
IsShared (attribute name (begins_with start)) = Unit {0}
IsShared (pseudo_class first_child) = Unit {0}
IsShared (pseudo_class link) = Unit {0}
IsShared (pseudo_class visited) = Unit {0}
IsShared (pseudo_class hover) = Unit {0}
IsShared (pseudo_class active) = Unit {0}
IsShared (pseudo_class focus) = Unit {0}
IsShared (pseudo_class (lang tag)) =
    (tag ≢ []) × (list_any (λ b. b == hyphen) tag ≡ false) × (is_wildcard tag ≡ false)

-- all of a selector
abbrev pub AreShared : List Component → Type 0
AreShared components = All (λ c. All IsShared c.compound.subselectors) components

-- The printed texts of selectors and sheets, joined from the texts of their components and rules.
use Rattle.std.specs.Prelude.{ℕ, Bool, true, not, ◌||◌, ◌&&◌, ◌==◌, if◌then◌else◌, List, [], ◌∷◌, ◌++◌, Option, None, Some, codes, map}
use Rattle.std.specs.List.{flat_map, join_with_byte, list_all}
use Rattle.css_text.specs.AsciiBytes.{newline, single_quote, backslash}
use Rattle.simplecss_grammar.specs.Components.{Operator, KnownPseudoClass, Subselector, Combinator, Component}
use Rattle.simplecss_grammar.specs.Components.Operator.{exists, equals, has_word, begins_with}
use Rattle.simplecss_grammar.specs.Components.KnownPseudoClass.{lang}
use Rattle.simplecss_grammar.specs.Components.Subselector.{attribute, pseudo_class}
use Rattle.simplecss_grammar.specs.Components.Combinator.{none, descendant, child, adjacent}
use Rattle.simplecss_grammar.specs.Declarations.{StyleDeclaration}
use Rattle.simplecss_grammar.specs.PseudoClasses.{pseudo_class_name}
use Rattle.simplecss_grammar.specs.Statements.{StyleRule}

-- a pseudo-class without its colon
abbrev pub pseudo_class_text : KnownPseudoClass → List ℕ
pseudo_class_text (lang language) = codes "lang(" ++ language ++ codes ")"
pseudo_class_text class = pseudo_class_name class

-- an operator and its value, which is always printed in apostrophes
abbrev pub operator_text : Operator → List ℕ
operator_text exists = []
operator_text (equals value) = codes "='" ++ value ++ codes "'"
operator_text (has_word value) = codes "~='" ++ value ++ codes "'"
operator_text (begins_with value) = codes "|='" ++ value ++ codes "'"

-- an attribute in brackets, or a pseudo-class after its colon
abbrev pub subselector_text : Subselector → List ℕ
subselector_text (attribute name operator) =
    codes "[" ++ name ++ operator_text operator ++ codes "]"
subselector_text (pseudo_class class) = codes ":" ++ pseudo_class_text class

-- what is printed before a component
abbrev pub combinator_text : Combinator → List ℕ
combinator_text none = []
combinator_text descendant = codes " "
combinator_text child = codes " > "
combinator_text adjacent = codes " + "

-- the type name, or `*`
abbrev pub type_text : Option (List ℕ) → List ℕ
type_text None = codes "*"
type_text (Some name) = name

-- a component with the combinator before it
abbrev pub component_text : Component → List ℕ
component_text c =
    combinator_text c.combinator ++ type_text c.compound.name
    ++ flat_map subselector_text c.compound.subselectors

-- the components one after another
abbrev pub selector_text : List Component → List ℕ
selector_text components = flat_map component_text components

-- the importance of a declaration
abbrev pub important_text : Bool → List ℕ
important_text important = if important then codes " !important" else []

-- a declaration, closed by a semicolon
abbrev pub declaration_text : StyleDeclaration → List ℕ
declaration_text p = p.name ++ codes ":" ++ p.value ++ important_text p.important ++ codes ";"

-- the selector, then the declarations between braces
abbrev pub rule_text : StyleRule → List ℕ
rule_text rule =
    selector_text rule.components ++ codes " { " ++ flat_map declaration_text rule.declarations
    ++ codes " }"

-- the rules' texts, with a newline between each two
abbrev pub sheet_text : List StyleRule → List ℕ
sheet_text rules = join_with_byte newline (map rule_text rules)

-- each apostrophe of the text directly follows a backslash of it; the byte before the text is
-- `previous`
abbrev pub escaped_after : ℕ → List ℕ → Bool
escaped_after previous [] = true
escaped_after previous (b ∷ text) =
    (not (b == single_quote) || previous == backslash) && escaped_after b text

-- The value of an operator has no bare apostrophe. (It is printed after an apostrophe, which is no
-- backslash, as 0 is none.)
abbrev pub is_clean_operator : Operator → Bool
is_clean_operator exists = true
is_clean_operator (equals value) = escaped_after 0 value
is_clean_operator (has_word value) = escaped_after 0 value
is_clean_operator (begins_with value) = escaped_after 0 value

-- the same of the value of an attribute
abbrev pub is_clean_subselector : Subselector → Bool
is_clean_subselector (attribute name operator) = is_clean_operator operator
is_clean_subselector (pseudo_class class) = true

-- every apostrophe in an attribute value of the selector directly follows a backslash of that value
abbrev pub is_clean : List Component → Bool
is_clean components =
    list_all (λ c. list_all is_clean_subselector c.compound.subselectors) components

-- The `@import` rules of a sheet that are in force (CSS Cascading 5, section 2): no valid rule is
-- before them but names of layers, and none is between them.
use Rattle.std.specs.Prelude.{ℕ, ◌-◌, length, Bool, false, ◌||◌, if◌then◌else◌, List, [], ◌∷◌, codes, map, Option, Some, None}
use Rattle.std.specs.Option.{is_some}
use Rattle.css_syntax.specs.Tokens.{spells}
use Rattle.css_syntax.specs.Statements.{BlockText, AtRuleText, StatementText, rule_set, at_rule_statement, skipped_statement}
use Rattle.css_syntax.specs.Placed.{PlacedStatement, placed_statements}
use Rattle.css_cascade.specs.LayerNames.{block_name, layer_names}
use Rattle.css_selector_text.specs.Names.{Names, no_names}
use Rattle.css_sheet.specs.RuleSelectors.{context, is_listed, listed_under}
use Rattle.css_sheet.specs.SheetItems.{is_layer}
use Rattle.css_sheet.specs.ImportRules.{UrlText, ImportText, url_here, import_from}
use Rattle.css_sheet.specs.NamespaceRules.{NamespaceText, namespace_here}

-- What a statement is to the imports and the namespace rules after it: an import; a namespace rule; names of
-- layers; another rule that is valid; or nothing, since it is invalid, unknown or `@charset`.
pub data FrontRule : Type 0 where
  import_rule : ImportText → FrontRule
  namespace_rule : NamespaceText → FrontRule
  layer_list : FrontRule
  other_rule : FrontRule
  not_a_rule : FrontRule

abbrev pub other_if : Bool → FrontRule
other_if is_valid = if is_valid then other_rule else not_a_rule

-- the at-rules about fonts
unfoldable pub is_font_rule : List ℕ → Bool
is_font_rule name =
    spells (codes "font-face") name || spells (codes "font-feature-values") name
    || spells (codes "font-palette-values") name

-- the at-rules that rules are in, but `@layer`
unfoldable pub is_outer_rule : List ℕ → Bool
is_outer_rule name =
    spells (codes "media") name || spells (codes "supports") name || spells (codes "container") name
    || spells (codes "scope") name || spells (codes "starting-style") name

-- the at-rules about what moves
unfoldable pub is_animation_rule : List ℕ → Bool
is_animation_rule name =
    spells (codes "keyframes") name || spells (codes "-webkit-keyframes") name
    || spells (codes "view-transition") name

-- the others with a block
unfoldable pub is_definition_rule : List ℕ → Bool
is_definition_rule name =
    spells (codes "page") name || spells (codes "property") name || spells (codes "counter-style") name
    || spells (codes "position-try") name || spells (codes "function") name

-- the names of at-rules with a block, but `@layer`
abbrev pub is_block_rule : List ℕ → Bool
is_block_rule name =
    is_outer_rule name || is_font_rule name || is_animation_rule name || is_definition_rule name

abbrev pub import_if : (start size : ℕ) → Option (UrlText × List ℕ) → FrontRule
import_if start size None = not_a_rule
import_if start size (Some found) = import_rule (import_from start size found)

abbrev pub list_if : Bool → FrontRule
list_if is_valid = if is_valid then layer_list else not_a_rule

abbrev pub namespace_if : Option NamespaceText → FrontRule
namespace_if None = not_a_rule
namespace_if (Some one) = namespace_rule one

-- an at-rule with this name and this prelude, without a block
unfoldable pub statement_rule : (start size : ℕ) → (name prelude : List ℕ) → FrontRule
statement_rule start size name prelude =
    if spells (codes "import") name then import_if start size (url_here prelude)
    else (if is_layer name then list_if (is_some (layer_names prelude))
    else (if spells (codes "namespace") name then namespace_if (namespace_here prelude)
    else not_a_rule))

-- the same with a block
unfoldable pub block_rule : (name prelude : List ℕ) → FrontRule
block_rule name prelude =
    other_if (if is_layer name then is_some (block_name prelude (0 ∷ 0 ∷ [])) else is_block_rule name)

abbrev pub at_rule_in_front : (start size : ℕ) → AtRuleText → Option BlockText → FrontRule
at_rule_in_front start size rule None = statement_rule start size rule.name rule.prelude.text
at_rule_in_front start size rule (Some block) = block_rule rule.name rule.prelude.text

-- a statement with this start and size, where these names are declared
abbrev pub rule_in_front : Names → (start size : ℕ) → StatementText → FrontRule
rule_in_front names start size (rule_set prelude block) =
    other_if (is_listed (listed_under (context None names) prelude))
rule_in_front names start size (at_rule_statement rule) = at_rule_in_front start size rule rule.block
rule_in_front names start size (skipped_statement fault) = not_a_rule

-- A statement of a sheet that has as many bytes, before which no namespace is declared: after a namespace rule
-- no import is in force.
abbrev pub front_rule : (sheet_size : ℕ) → PlacedStatement → FrontRule
front_rule sheet_size placed =
    rule_in_front no_names (sheet_size - length placed.from) (length placed.part.text)
    placed.part.statement

-- the imports that follow an import: no other rule may be between
abbrev pub further_imports : List FrontRule → List ImportText
further_imports [] = []
further_imports (import_rule one ∷ more) = one ∷ further_imports more
further_imports (namespace_rule one ∷ more) = []
further_imports (layer_list ∷ more) = []
further_imports (other_rule ∷ more) = []
further_imports (not_a_rule ∷ more) = further_imports more

-- The imports of a sheet with these rules: no rule may be before the first but names of layers.
abbrev pub imports_of : List FrontRule → List ImportText
imports_of [] = []
imports_of (import_rule one ∷ more) = one ∷ further_imports more
imports_of (namespace_rule one ∷ more) = []
imports_of (layer_list ∷ more) = imports_of more
imports_of (other_rule ∷ more) = []
imports_of (not_a_rule ∷ more) = imports_of more

-- the imports of a sheet that are in force
abbrev pub sheet_imports : List ℕ → List ImportText
sheet_imports text = imports_of (map (front_rule (length text)) (placed_statements false text))

-- The rules of a sheet that are too late to count: `@charset`, which counts only as its first bytes (CSS
-- Syntax 3, section 3.2); `@import`, of which those in force are defined (CSS Cascading 5, section 2); and
-- `@namespace`, which no rule is before but `@import` and names of layers (CSS Namespaces 3, section 3).
use Rattle.std.specs.Prelude.{ℕ, Bool, true, false, not, ◌||◌, ◌&&◌, ◌==◌, if◌then◌else◌, List, [], ◌∷◌, ◌++◌, codes, length, Option, Some, None}
use Rattle.std.specs.List.{list_any}
use Rattle.css_syntax.specs.Tokens.{spells}
use Rattle.css_syntax.specs.Statements.{BlockText, AtRuleText, StatementText, rule_set, at_rule_statement, skipped_statement}
use Rattle.css_sheet.specs.ImportRules.{ImportText}
use Rattle.css_sheet.specs.Imports.{sheet_imports}
use Rattle.css_sheet.specs.SheetItems.{ConditionText, SheetItemText, sheet_items}
use Rattle.css_lint.specs.declared.kinds.Kind.{Kind}
use Rattle.css_lint.specs.declared.kinds.Kind.TheVariants.{LateCharset, LateImport, LateNamespace}
use Rattle.css_lint.specs.declared.late.TheConstants.{BLOCK_RULES}
use Rattle.css_lint.specs.Places.{PlaceText, sized}

-- whether browsers know the block of an at-rule with this name, which is not a group rule
abbrev pub is_block_rule : List ℕ → Bool
is_block_rule name = list_any (λ keyword. spells keyword.now name) BLOCK_RULES

abbrev pub ends_with : List ℕ → Option BlockText → Bool
ends_with name None = false
ends_with name (Some block) = is_block_rule name

-- whether a statement is a rule that no `@namespace` may follow: a rule set, or such an at-rule
abbrev pub ends_front : StatementText → Bool
ends_front (rule_set prelude block) = true
ends_front (at_rule_statement rule) = ends_with rule.name rule.block
ends_front (skipped_statement fault) = false

abbrev pub is_none : Option BlockText → Bool
is_none None = true
is_none (Some block) = false

-- whether an at-rule has this name and no block
abbrev pub is_statement : (keyword : List ℕ) → AtRuleText → Bool
is_statement keyword rule = is_none rule.block && spells keyword rule.name

-- whether the import that begins at an offset is one of these
abbrev pub is_in_force : List ImportText → (start : ℕ) → Bool
is_in_force imports start = list_any (λ one. one.start == start) imports

-- what is too late of an at-rule that begins at an offset: `@namespace`, if it follows such a rule; and what
-- is not at the start of the text: `@charset`, and `@import` if it is not in force
abbrev pub late_kind : (in_force follows : Bool) → AtRuleText → (start : ℕ) → Option Kind
late_kind in_force follows rule start =
    if is_statement (codes "namespace") rule then (if follows then Some LateNamespace else None)
    else (if start == 0 then None
    else (if is_statement (codes "charset") rule then Some LateCharset
    else (if is_statement (codes "import") rule && not in_force then Some LateImport else None)))

abbrev pub late_in : (in_force follows : Bool) → StatementText → (start : ℕ) → Option Kind
late_in in_force follows (rule_set prelude block) start = None
late_in in_force follows (at_rule_statement rule) start = late_kind in_force follows rule start
late_in in_force follows (skipped_statement fault) start = None

abbrev pub place_if : (start size : ℕ) → Option Kind → List PlaceText
place_if start size None = []
place_if start size (Some kind) = sized kind start size ∷ []

abbrev pub is_some_around : List ConditionText → Bool
is_some_around [] = false
is_some_around (condition ∷ conditions) = true

-- whether an item follows such a rule, if it is not in a group rule, which is one
abbrev pub follows_at : (follows : Bool) → SheetItemText → Bool
follows_at follows item = follows || is_some_around item.conditions

-- an item that is too late, where these imports are in force
abbrev pub late_item : List ImportText → (follows : Bool) → SheetItemText → List PlaceText
late_item imports follows item =
    place_if item.places.start (length item.part.text)
    (late_in (is_in_force imports item.places.start) follows item.part.statement item.places.start)

-- the items that are too late, where the first follows such a rule or not
abbrev pub late_from : List ImportText → (follows : Bool) → List SheetItemText → List PlaceText
late_from imports follows [] = []
late_from imports follows (item ∷ more) =
    late_item imports (follows_at follows item) item
    ++ late_from imports (follows_at follows item || ends_front item.part.statement) more

-- the rules of a sheet that are too late, in order
abbrev pub late_rules : List ℕ → List PlaceText
late_rules text = late_from (sheet_imports text) false (sheet_items text)

-- What a sheet says again: the imports of the same sheet, and the rules with the same selectors.
use Rattle.std.specs.Prelude.{ℕ, ◌-◌, List, [], ◌∷◌, ◌++◌, length, map, slice_get, Option, Some, None}
use Rattle.std.specs.List.{flat_map}
use Rattle.css_syntax.specs.Parts.{Stated}
use Rattle.css_syntax.specs.Statements.{StatementText, rule_set, at_rule_statement, skipped_statement}
use Rattle.css_sheet.specs.ImportRules.{UrlText, quoted, bare, ImportLayer, unlayered, layered, layered_as, ImportText}
use Rattle.css_sheet.specs.Imports.{sheet_imports}
use Rattle.css_sheet.specs.SheetItems.{ConditionText, SheetItemText, sheet_items}
use Rattle.css_lint.specs.declared.kinds.Kind.TheVariants.{RepeatedImport, RepeatedRule}
use Rattle.css_lint.specs.Keys.{KeyedText, repeated, spaced}
use Rattle.css_lint.specs.Places.{PlaceText, sized}

-- ---- imports

abbrev pub url_key : UrlText → List ℕ
url_key (quoted text) = text
url_key (bare text) = text

abbrev pub layer_key : ImportLayer → List ℕ
layer_key unlayered = []
layer_key layered = 257 ∷ []
layer_key (layered_as name) = 258 ∷ spaced name

abbrev pub condition_key : Option (List ℕ) → List ℕ
condition_key None = []
condition_key (Some condition) = spaced condition

-- what an import says: its url as written, its layer, its condition and its media queries, with a
-- number that is no byte between these
abbrev pub import_key : ImportText → List ℕ
import_key one =
    url_key one.url ++ (256 ∷ (layer_key one.layer ++ (256 ∷ (condition_key one.supports
    ++ (256 ∷ spaced one.media)))))

abbrev pub keyed_import : ImportText → KeyedText
keyed_import one =
    record { key = import_key one; place = sized RepeatedImport one.start one.size }

-- the imports of a sheet in force that say the same as one before
abbrev pub repeated_imports : List ℕ → List PlaceText
repeated_imports text = repeated (map keyed_import (sheet_imports text))

-- ---- rules

abbrev pub start_if : Option ConditionText → ℕ
start_if None = 0
start_if (Some condition) = condition.places.start

-- where the innermost of these group rules begins
abbrev pub innermost_start : List ConditionText → ℕ
innermost_start conditions = start_if (slice_get conditions (length conditions - 1))

-- what a rule set in group rules says: how many these are, where the innermost begins, and its
-- selectors
abbrev pub rule_key : List ConditionText → Stated → List ℕ
rule_key conditions prelude =
    length conditions ∷ (innermost_start conditions ∷ spaced prelude.text)

abbrev pub keyed_statement : List ConditionText → (prelude_start : ℕ) → StatementText
    → List KeyedText
keyed_statement conditions start (rule_set prelude block) =
    record {
      key = rule_key conditions prelude;
      place = sized RepeatedRule start (length prelude.text);
    } ∷ []
keyed_statement conditions start (at_rule_statement rule) = []
keyed_statement conditions start (skipped_statement fault) = []

-- a rule set with its selectors, and nothing of another item
abbrev pub keyed_item : SheetItemText → List KeyedText
keyed_item item = keyed_statement item.conditions item.places.prelude item.part.statement

-- the rule sets of a sheet whose selectors are those of one before in the same group rule
abbrev pub repeated_rules : List ℕ → List PlaceText
repeated_rules text = repeated (flat_map keyed_item (sheet_items text))

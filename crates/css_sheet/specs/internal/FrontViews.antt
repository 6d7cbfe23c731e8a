-- What contracts of private functions see of the rules at the front of a sheet.
use Rattle.std.specs.Prelude.{◌≡◌, Bool, true, false, List, [], ◌∷◌, ◌++◌, map}
use Rattle.css_sheet.specs.declared.import_rules.Import.{Import}
use Rattle.css_sheet.specs.declared.imports.FrontRule.{FrontRule}
use Rattle.css_sheet.specs.declared.imports.FrontRule.TheVariants as rules
use Rattle.css_sheet.specs.ImportRules.{ImportText}
use Rattle.css_sheet.specs.Imports.{import_rule, namespace_rule, layer_list, other_rule, not_a_rule, imports_of, further_imports}
use Rattle.css_sheet.specs.Imports.{FrontRule as RuleText}
use Rattle.css_sheet.specs.ImportViews.{import_of}
use Rattle.css_sheet.specs.internal.FoundViews.{found_namespace}

abbrev pub front_rule_of : FrontRule → RuleText
front_rule_of (rules.Import one) = import_rule (import_of one)
front_rule_of (rules.Namespace one) = namespace_rule (found_namespace one)
front_rule_of rules.LayerList = layer_list
front_rule_of rules.OtherRule = other_rule
front_rule_of rules.NoRule = not_a_rule

-- the imports of these rules, which follow those
abbrev pub still : List Import → List RuleText → List ImportText
still [] rules = imports_of rules
still (one ∷ imports) rules = further_imports rules

-- these imports, and those of the rules that follow them
abbrev pub all_with : List Import → List RuleText → List ImportText
all_with imports rules = map import_of imports ++ still imports rules

-- The first of these rules was added to imports if it is one; or none may follow.
abbrev pub TakesRule : Bool → List Import → RuleText → List RuleText → List Import → Type 0
TakesRule true before rule rules after = all_with after rules ≡ all_with before (rule ∷ rules)
TakesRule false before rule rules after = map import_of after ≡ all_with before (rule ∷ rules)

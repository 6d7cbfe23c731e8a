-- What contracts see of rules: the components of their selectors, and their declarations.
use Rattle.std.specs.Prelude.{List, map}
use Rattle.simplecss_grammar.specs.Statements.{StyleRule}
use Rattle.simplecss_declaration.specs.DeclarationViews.{declarations_of}
use Rattle.simplecss.specs.declared.sheet.rules.Rule.{Rule}
use Rattle.simplecss.specs.declared.sheet.style_sheet.StyleSheet.{StyleSheet}

abbrev pub rule_of : Rule → StyleRule
rule_of r = record { components = r.selector; declarations = declarations_of r.declarations.items }

-- what contracts see of each rule of a list, in order
abbrev pub rules_of : List Rule → List StyleRule
rules_of rules = map rule_of rules

-- what contracts see of the rules of a style sheet, in their order
abbrev pub rules_in : StyleSheet → List StyleRule
rules_in sheet = rules_of sheet.rules.items

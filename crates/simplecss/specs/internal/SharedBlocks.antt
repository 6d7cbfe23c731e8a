-- Rules that share a block.
use Rattle.std.specs.Prelude.{List, map}
use Rattle.simplecss_grammar.specs.Components.{Component}
use Rattle.simplecss_grammar.specs.Declarations.{StyleDeclaration}
use Rattle.simplecss_grammar.specs.Statements.{StyleRule}
use Rattle.simplecss_declaration.specs.DeclarationViews.{declaration_of}
use Rattle.simplecss.specs.declared.sheet.statements.RuleReader.{RuleReader}

abbrev pub rule_with : List StyleDeclaration → List Component → StyleRule
rule_with declarations components = record { components = components; declarations = declarations }

-- a rule for each selector, with all declarations of the block
abbrev pub rules_with : List StyleDeclaration → List (List Component) → List StyleRule
rules_with declarations selectors = map (rule_with declarations) selectors

-- the rules of the statement that a reader has read last
abbrev pub rules_read : RuleReader → List StyleRule
rules_read reader = rules_with (map declaration_of reader.declarations.items) reader.selectors.items

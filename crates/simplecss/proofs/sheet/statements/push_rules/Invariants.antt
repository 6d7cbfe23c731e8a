use Rattle.std.proofs.Common.{◌≡◌, ◌++◌, map}
use Rattle.simplecss_declaration.specs.DeclarationViews.{declaration_of}
use Rattle.simplecss.specs.RuleViews.{rule_of}
use Rattle.simplecss.specs.internal.SharedBlocks.{rules_with}
use Rattle.simplecss.proofs.sheet.statements.push_rules.Given as goal

abbrev pub invariant-selectors : goal.invariant-selectors
invariant-selectors l = map rule_of l.rules.items ≡ map rule_of l.initial.rules.items
    ++ rules_with (map declaration_of l.fn.declarations) l.yielded

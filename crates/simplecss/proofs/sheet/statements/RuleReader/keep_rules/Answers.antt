use Rattle.std.proofs.Common.{◌≡◌, ◌<◌, ◌+◌, length, arith, ap, sym, subst}
use Rattle.simplecss_declaration.specs.DeclarationViews.{declaration_of}
use Rattle.simplecss.proofs.DeclarationSums.{count-read}
use Rattle.simplecss.proofs.sheet.statements.RuleReader.keep_rules.Goals as goal

pub returns-in-None-clause-refused : goal.returns-in-None-clause-refused
returns-in-None-clause-refused c = λ _.
    subst (λ n. c.args.most < n)
    (sym (count-read declaration_of c.args.self.now.declarations.items
    c.args.self.now.selectors.items (length c.as_slice-selectors.result.now)
    (length c.as_slice-declarations.result.now) (ap length c.as_slice-selectors.ensures.value)
    (ap length c.as_slice-declarations.ensures.value)))
    (omega (arith, c.in-None.ensures))

pub returns-clause-left : goal.returns-clause-left
returns-clause-left c =
    subst (λ n. c.in-Some.left + n ≡ c.args.most)
    (sym (count-read declaration_of c.args.self.now.declarations.items
    c.args.self.now.selectors.items (length c.as_slice-selectors.result.now)
    (length c.as_slice-declarations.result.now) (ap length c.as_slice-selectors.ensures.value)
    (ap length c.as_slice-declarations.ensures.value)))
    (omega (arith, c.in-Some.ensures.0, c.in-Some.ensures.1))

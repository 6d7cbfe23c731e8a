use Rattle.std.proofs.Common.{◌∙◌, sym, rules}
use Rattle.css_tree.proofs.LanguageLemmas.{in_range-from_test, test-from_in_range, in_range-prefix}
use Rattle.css_tree.proofs.languages.is_in_range.Goals as goal

pub returns-clause-value : goal.returns-clause-value
returns-clause-value c = search rules

pub returns-clause-in_order : goal.returns-clause-in_order
returns-clause-in_order c =
    let value = returns-clause-value c in (
      (λ is. in_range-from_test c.args.range.now c.args.language.now (sym value ∙ is)),
      (λ is. value ∙ test-from_in_range c.args.range.now c.args.language.now is),
    )

pub returns-clause-prefix : goal.returns-clause-prefix
returns-clause-prefix c = λ some is.
    returns-clause-value c ∙ in_range-prefix c.args.range.now c.args.language.now some is

use Rattle.std.proofs.Common.{map, subst}
use Rattle.simplecss.specs.RuleViews.{rules_in}
use Rattle.call_answers.specs.Calls.{IsReadWithin}
use Rattle.port_calls.proofs.port.read_page.Goals as goal

pub returns : goal.returns
returns c =
    let read = subst (λ texts. IsReadWithin c.args.limit (map (λ text. text.now) texts)
    (rules_in c.in_ok-sheet.sheet)) c.deref.ensures.value c.in_ok-sheet.ensures in (
      map (λ text. text.now) c.in_ok-texts.texts.items,
      (c.in_ok-texts.ensures, read.1),
      c.in_ok-tree.ensures.0,
      c.in_ok-tree.ensures.1,
      read.0,
    )

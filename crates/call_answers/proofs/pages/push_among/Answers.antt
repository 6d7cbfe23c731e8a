use Rattle.std.proofs.Common.{◌+◌, ◌++◌, string_bytes, refl, sym, ap, ◌∙◌, subst}
use Rattle.std.specs.Option.{option_map}
use Rattle.std.proofs.lemmas.Result.{on_ok_weaker}
use Rattle.simplecss.specs.DeclarationViews.{declaration_of, declarations_of}
use Rattle.simplecss.specs.ListTrees.{spot}
use Rattle.simplecss.specs.RuleViews.{rules_of}
use Rattle.cssq.specs.StyleRuns.{style_line}
use Rattle.call_answers.specs.AnswerLines.{IsWonLine}
use Rattle.call_answers.specs.PortTexts.{counted_texts}
use Rattle.call_answers.proofs.pages.push_among.Goals as goal

pub returns-in-Named : goal.returns-in-Named
returns-in-Named c = λ tree element is are.
    let winner = option_map declaration_of c.winning_among-winner.result in
    let wins = c.winning_among-winner.ensures (spot tree element) are in
    let line = style_line (element + 1) winner in
    on_ok_weaker c.push_winner.result (λ wrote. (
      line,
      subst (λ content. IsWonLine content (rules_of c.args.rules.now) tree element line)
          (sym c.in-Named.is) (winner, wins, refl),
      wrote ∙ ap (λ n. string_bytes c.args.out.now ++ style_line n winner) is,
    )) c.push_winner.ensures

pub returns-in_ok-winners-in-All : goal.returns-in_ok-winners-in-All
returns-in_ok-winners-in-All c = λ tree element is are.
    let all = declarations_of c.in_ok-winners-in-All.winners.items in
    let order = c.in_ok-winners-in-All.ensures (spot tree element) are in
    on_ok_weaker c.push_counted.result (λ wrote. (
      counted_texts all,
      subst (λ content. IsWonLine content (rules_of c.args.rules.now) tree element (counted_texts all))
          (sym c.in-All.is) (all, order, refl),
      wrote ∙ ap (λ ds. string_bytes c.args.out.now ++ counted_texts (declarations_of ds))
          c.deref.ensures.value,
    )) c.push_counted.ensures

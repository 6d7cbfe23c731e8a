use Rattle.std.proofs.Common.{◌+◌, ◌^◌, ◌<◌, OnOk, string_bytes, map, length, refl, sym, subst, rules, arith}
use Rattle.std.specs.Option.{option_map}
use Rattle.std.proofs.lemmas.Result.{on_ok_weaker}
use Rattle.simplecss.specs.DeclarationViews.{declaration_of}
use Rattle.simplecss.specs.RuleViews.{rule_of, rules_of}
use Rattle.simplecss.specs.Matching.{AreMatches}
use Rattle.cssq_tree.specs.PageNodes.{spot, page_tree}
use Rattle.cssq.specs.MatchRuns.{numbers_line}
use Rattle.cssq.specs.StyleRuns.{style_line}
use Rattle.cssq.specs.internal.PageRuns.{AppendsElementLine}
use Rattle.cssq.proofs.Indexed.{numbers_reported, same_selectors}
use Rattle.cssq.proofs.runs.push_answer.Goals as goal

pub push_numbers-requires : goal.push_numbers-requires
push_numbers-requires c = λ k d within.
    let bound : length c.args.rules.now < 2 ^ 63 = search rules in
    let at = c.requires.within k d within in
    omega (arith, bound, at)

pub returns-in-Rules : goal.returns-in-Rules
returns-in-Rules c rows found =
    let are = subst (λ selectors. AreMatches page_tree (spot rows c.args.element) selectors
    c.args.indices.now) (same_selectors rule_of c.args.rules.now) found in
    subst (λ content. OnOk c.push_numbers.result
    (AppendsElementLine content (rules_of c.args.rules.now) rows c.args.element
    (string_bytes c.args.out.now) (string_bytes c.push_numbers.new.out))) (sym c.in-Rules.is)
    (on_ok_weaker c.push_numbers.result (λ wrote. (
      numbers_line (c.args.element + 1) (map (λ element. element + 1) c.args.indices.now),
      numbers_reported (rules_of c.args.rules.now) (spot rows c.args.element)
          c.args.indices.now are rows c.args.element refl,
      wrote,
    )) c.push_numbers.ensures)

pub returns-in-Winner : goal.returns-in-Winner
returns-in-Winner c rows found =
    let winner = option_map declaration_of c.winning_among.result in
    let wins = c.winning_among.ensures (spot rows c.args.element) found in
    subst (λ content. OnOk c.push_winner.result
    (AppendsElementLine content (rules_of c.args.rules.now) rows c.args.element
    (string_bytes c.args.out.now) (string_bytes c.push_winner.new.out))) (sym c.in-Winner.is)
    (on_ok_weaker c.push_winner.result (λ wrote.
    (style_line (c.args.element + 1) winner, (winner, wins, refl), wrote)) c.push_winner.ensures)

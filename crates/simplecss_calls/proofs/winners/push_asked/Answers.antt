use Rattle.std.proofs.Common.{List, Option, map, ap, sym, option_map, subst}
use Rattle.std.specs.List.{flat_map}
use Rattle.std.proofs.lemmas.Result.{on_ok_weaker}
use Rattle.css_matching.specs.ListTrees.{spot}
use Rattle.css_index.specs.Found.{AreMatches}
use Rattle.css_styles.specs.Contenders.{contenders}
use Rattle.css_styles.specs.StyleViews.{names_of, own_of, winner_of}
use Rattle.css_styles.specs.Winners.{AreWinners}
use Rattle.css_styles.specs.declared.winner.Winner.{Winner}
use Rattle.css_tree.specs.Pages.{page_document}
use Rattle.simplecss_calls.specs.WinnerNumbers.{option_numbers}
use Rattle.simplecss_calls.proofs.winners.push_asked.Goals as goal

pub returns-clause-written : goal.returns-clause-written
returns-clause-written c = λ read is_read.
    let count = c.rule_count-rules.result in
    let best = c.in_ok-winners_named.ensures.winners in
    let found = map (option_map winner_of) c.deref.result.now in
    let node = spot c.args.styles.now.page c.args.element in
    on_ok_weaker c.push_options.result (λ wrote. (
      flat_map (option_numbers count) found,
      (
        best.0,
        subst (λ selectors. AreMatches page_document node selectors best.0) is_read best.1,
        found,
        subst (λ (ws : List (Option Winner)). AreWinners
            (contenders c.args.styles.now.rules best.0 (own_of c.args.own)) (names_of c.args.asked.now)
            (map (option_map winner_of) ws)) (sym c.deref.ensures.value) best.2,
        ap (λ n. flat_map (option_numbers n) found) c.rule_count-rules.ensures.count,
      ),
      wrote,
    )) c.push_options.ensures

use Rattle.std.proofs.Common.{map, ap, subst, ◌∙◌}
use Rattle.std.proofs.lemmas.Result.{on_ok_weaker}
use Rattle.css_matching.specs.ListTrees.{spot}
use Rattle.css_index.specs.Found.{AreMatches}
use Rattle.css_styles.specs.StyleViews.{own_of, winner_of}
use Rattle.css_styles.specs.Winners.{winners}
use Rattle.css_tree.specs.Pages.{page_document}
use Rattle.simplecss_calls.specs.WinnerNumbers.{winners_numbers}
use Rattle.simplecss_calls.proofs.winners.push_all.Goals as goal

pub returns-clause-written : goal.returns-clause-written
returns-clause-written c = λ read is_read.
    let count = c.rule_count-rules.result in
    let found = c.in_ok-winners.ensures.winners in
    let node = spot c.args.styles.now.page c.args.element in
    on_ok_weaker c.push_winners.result (λ wrote. (
      winners_numbers count (map winner_of c.deref.result.now),
      (
        found.0,
        subst (λ selectors. AreMatches page_document node selectors found.0) is_read found.1,
        ap (λ all. winners_numbers count (map winner_of all)) c.deref.ensures.value
            ∙ ap (winners_numbers count) found.2
            ∙ ap (λ n. winners_numbers n (winners c.args.styles.now.rules found.0 (own_of c.args.own)))
            c.rule_count-rules.ensures.count,
      ),
      wrote,
    )) c.push_winners.ensures

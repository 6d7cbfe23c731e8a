use Rattle.std.proofs.Common.{◌<◌, ◌≤◌, ◌∙◌, length, map, sym, ap, subst, arith}
use Rattle.std.specs.Vec.{vec_len}
use Rattle.std.specs.List.{All}
use Rattle.css_styles.specs.StyleViews.{own_of}
use Rattle.css_styles.specs.Winners.{applied, as_winner, winners}
use Rattle.css_styles.proofs.GatherLemmas.{then-ok}
use Rattle.css_styles.proofs.finder.Finder.find.Goals as goal

pub gather-requires : goal.gather-requires
gather-requires c =
    subst (λ rules. All (λ index. index < length rules) c.args.indices.now) (sym c.self.view_is) c.requires

pub find_winners-requires : goal.find_winners-requires
find_winners-requires c =
    let numbered = c.in_ok-count.ensures.numbered in
    let best : c.in_ok-count.count ≤ vec_len c.make_room.new.best = c.in_ok-make_room.ensures.best in
    let standings : c.in_ok-count.count ≤ vec_len c.make_room.new.standings =
    c.in_ok-make_room.ensures.standings in
    let best_len = c.deref_mut.ensures.len in
    let standings_len = c.deref_mut-2.ensures.len in
    let count = numbered.1 in (
      numbered.0,
      omega (arith, best, best_len, count),
      omega (arith, standings, standings_len, count),
      numbered.2,
    )

pub returns-clause-winners : goal.returns-clause-winners
returns-clause-winners c =
    let own = own_of c.args.own in
    then-ok c.find_winners.result
    (λ found. found
    ∙ ap (λ cs. map as_winner (applied cs)) c.in_ok-count.ensures.contenders
    ∙ ap (λ rules. winners rules c.args.indices.now own) c.self.view_is) c.find_winners.ensures.applied

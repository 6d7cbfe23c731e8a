use Rattle.std.proofs.Common.{◌<◌, ◌∙◌, ap, arith, map, refl, subst, sym}
use Rattle.std.specs.List.{All}
use Rattle.std.specs.List.Sorted.{IsPermutation}
use Rattle.css_styles.specs.internal.Floors.{IsFound, Ranks, ranked_alone, weight_of_ranked}
use Rattle.css_styles.specs.internal.Stepping.{contender_of}
use Rattle.css_styles.proofs.ContestLemmas.{at-index}
use Rattle.css_styles.proofs.StandingLemmas.{counted-alone, ranked-all}
use Rattle.css_styles.proofs.decide.take_out.Goals as goal

pub find_standings-requires : goal.find_standings-requires
find_standings-requires c =
    let listed = c.in_ok-ranked.ensures ∙ ap (map ranked_alone) c.deref.ensures.value in
    subst (All (λ r. r.property < 1)) (sym c.deref-2.ensures.value)
    (ranked-all ranked_alone (λ r. r.property < 1) c.args.rivals.now.items c.rank.new.ranked.items
    (subst (λ rs. IsPermutation rs c.rank.new.ranked.items) listed c.in_ok-rank.ensures.permutation)
    (λ k d l. omega arith))

pub returns : goal.returns
returns c =
    let all = c.args.rivals.now.items in
    let ranked = c.rank.new.ranked.items in
    let listed = c.in_ok-ranked.ensures ∙ ap (map ranked_alone) c.deref.ensures.value in
    let len = c.find_standings.ensures.len in
    ap (map contender_of) c.keep.ensures
    ∙ counted-alone all ranked c.find_standings.new.standings _
    (at-index c.find_standings.new.standings 0 _ _ (omega (arith, len)) refl)
    (subst (λ rs. IsPermutation rs ranked) listed c.in_ok-rank.ensures.permutation)
    (subst (λ rs. Ranks weight_of_ranked rs ranked) listed c.in_ok-rank.ensures.ranks)
    (subst (λ rs. All (λ r. IsFound rs c.find_standings.new.standings r.property) rs) c.deref-2.ensures.value
    c.find_standings.ensures.found)

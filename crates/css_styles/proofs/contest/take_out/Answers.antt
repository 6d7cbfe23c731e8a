use Rattle.std.proofs.Common.{◌<◌, ◌∙◌, ap, length, map, refl, subst, sym}
use Rattle.std.specs.List.{All}
use Rattle.std.specs.List.Sorted.{IsPermutation}
use Rattle.std.proofs.lemmas.List.Elements.{All-filter}
use Rattle.css_styles.specs.internal.Floors.{IsFound, Ranks, ranked_of, weight_of_ranked}
use Rattle.css_styles.specs.internal.Numbered.{IsNumbered, numbered_of}
use Rattle.css_styles.proofs.StandingLemmas.{counted-numbered, ranked-all}
use Rattle.css_styles.proofs.StyleLemmas.{numbers-within}
use Rattle.css_styles.proofs.contest.take_out.Goals as goal

pub find_standings-requires : goal.find_standings-requires
find_standings-requires c =
    let all = c.args.contenders.now.items in
    let listed = c.in_ok-ranked.ensures ∙ ap (map ranked_of) c.deref.ensures.value in
    let within =
    numbers-within c.requires.0 all _ (length c.args.standings.now) refl c.requires.1 c.requires.2 in
    subst (All (λ r. r.property < length c.args.standings.now)) (sym c.deref-2.ensures.value)
    (ranked-all ranked_of (λ r. r.property < length c.args.standings.now) all c.rank.new.ranked.items
    (subst (λ rs. IsPermutation rs c.rank.new.ranked.items) listed c.in_ok-rank.ensures.permutation) within)

pub returns-clause-counting : goal.returns-clause-counting
returns-clause-counting c =
    let all = c.args.contenders.now.items in
    let ranked = c.rank.new.ranked.items in
    let listed = c.in_ok-ranked.ensures ∙ ap (map ranked_of) c.deref.ensures.value in
    ap (map numbered_of) c.keep.ensures
    ∙ counted-numbered c.requires.0 all ranked _ c.requires.2
    (subst (λ rs. IsPermutation rs ranked) listed c.in_ok-rank.ensures.permutation)
    (subst (λ rs. Ranks weight_of_ranked rs ranked) listed c.in_ok-rank.ensures.ranks)
    (subst (λ rs. All (λ r. IsFound rs c.find_standings.new.standings r.property) rs) c.deref-2.ensures.value
    c.find_standings.ensures.found)

pub returns-clause-numbered : goal.returns-clause-numbered
returns-clause-numbered c = λ properties numbered.
    subst (All (IsNumbered properties)) (sym c.keep.ensures)
    (All-filter _ (IsNumbered properties) c.args.contenders.now.items numbered)

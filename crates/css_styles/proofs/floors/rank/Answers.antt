use Rattle.std.proofs.Common.{rules, sym, subst}
use Rattle.std.proofs.lemmas.List.Sorted.{IsPermutation-trans}
use Rattle.css_styles.specs.internal.Floors.{Ranks}
use Rattle.css_styles.specs.internal.Floors.{weight_of_ranked}
use Rattle.css_styles.proofs.RankLemmas.{sort-ranks}
use Rattle.css_styles.proofs.floors.rank.Goals as goal

pub returns-clause-permutation : goal.returns-clause-permutation
returns-clause-permutation c =
    IsPermutation-trans _ _ _ c.in_ok-sort_by.ensures.permutation c.reverse.ensures.permutation

pub returns-clause-ranks : goal.returns-clause-ranks
returns-clause-ranks c =
    subst (Ranks weight_of_ranked c.args.ranked.now.items) (sym c.reverse.ensures.items)
    (sort-ranks weight_of_ranked _ _ c.in_ok-sort_by.ensures.sorted c.in_ok-sort_by.ensures.stable
    (λ a r f called. search rules))

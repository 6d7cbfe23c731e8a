use Rattle.std.proofs.Common.{◌+◌, refl, arith}
use Rattle.std.proofs.lemmas.Bool.{false≢true}
use Rattle.simplecss_selector.proofs.Greedy.{tracks_from, not_met}
use Rattle.simplecss_selector.proofs.LongestStretch.{longest_stretch-some}
use Rattle.simplecss_selector.proofs.SearchSteps.{tests_before}
use Rattle.simplecss_selector.proofs.matching.place_stretch.Goals as goal

pub returns-then-not-is_met_at-clause-finds : goal.returns-then-not-is_met_at-clause-finds
returns-then-not-is_met_at-clause-finds g c =
    let cs = c.args.selector.now in
    not_met g.E.Element.tree cs (c.args.stretch.last + 1) c.args.stretch.last _ _ c.requires.within
    (λ m. false≢true (c.if-not-is_met_at.ensures.answer.1 m))
    (tracks_from g.E.Element.tree cs (c.args.stretch.last + 1) (c.args.stretch.last + 1) _ refl)

pub returns-then-not-is_met_at-clause-bounded : goal.returns-then-not-is_met_at-clause-bounded
returns-then-not-is_met_at-clause-bounded g c =
    omega (
      arith,
      c.is_met_at.ensures.counted,
      longest_stretch-some c.args.selector.now (omega (arith, c.requires.within)),
    )

pub climb-requires : goal.climb-requires
climb-requires g c = record { stretch = c.requires; met = c.if-not-is_met_at.ensures.answer.0 refl }

pub returns-clause-placed : goal.returns-clause-placed
returns-clause-placed g c = tests_before c.args.stretch.first c.args.stretch.last _ _ _
    c.climb.result c.is_met_at.ensures.counted c.climb.ensures.placed

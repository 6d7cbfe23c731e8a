use Rattle.std.proofs.Common.{◌+◌, ◌≤◌, length, subst, refl}
use Rattle.std.proofs.lemmas.Bool.{false≢true}
use Rattle.simplecss_selector.proofs.BucketLemmas.{near_reports}
use Rattle.simplecss.specs.Matching.{is_tested, most_tests}
use Rattle.simplecss.proofs.Candidates.{are_matches, indices_within, sum_of_tested, number_tested, ones}
use Rattle.simplecss.proofs.index.rule_index.RuleIndex.matching_recent.Goals as goal

pub drop_others-requires : goal.drop_others-requires
drop_others-requires g c = λ k. (
  (refl, tt),
  (
    c.requires.index,
    (
      c.in_default.ensures.found.2.ascending,
      (
        indices_within _ (length c.args.self.now) c.candidates.new.indices.items
            c.in_default.ensures.found.2,
        λ index there known. absurd (false≢true known),
      ),
    ),
  ),
)

pub returns-clause-matches : goal.returns-clause-matches
returns-clause-matches g c =
    let tree = g.E.Element.tree in
    let found = c.in_default.ensures.found in
    are_matches tree (g.E.Element.node c.args.element.now) found.0 c.args.self.now
    c.candidates.new.indices.items c.drop_others.new.indices.items
    (near_reports tree g.E.Element.node g.E.Keyed.reported g.met.E.Keyed.reported_law
    c.args.element.now found.0 found.1) found.2 c.drop_others.ensures.ascending
    c.drop_others.ensures.exactly

pub returns-clause-tests : goal.returns-clause-tests
returns-clause-tests g c =
    let found = c.in_default.ensures.found in
    let candidates = c.candidates.new.indices.items in
    let most = most_tests g.E.Element.tree (g.E.Element.node c.args.element.now) in (
      found.0,
      found.1,
      subst (λ n. c.args.tests.now + n ≤ c.drop_others.new.tests)
          (number_tested (is_tested found.0) c.args.self.now candidates found.2)
          (subst (λ n. c.args.tests.now + n ≤ c.drop_others.new.tests) (ones candidates)
          c.drop_others.ensures.tested),
      subst (λ n. c.drop_others.new.tests ≤ c.args.tests.now + n)
          (sum_of_tested (is_tested found.0) c.args.self.now candidates most found.2)
          c.drop_others.ensures.counted,
    )

use Rattle.std.proofs.Common.{◌≡◌, ℕ, ◌+◌, ◌≤◌, List, length, sym, ◌∙◌, subst, refl}
use Rattle.std.specs.List.{filter, sum_by}
use Rattle.std.specs.Prelude.{Bool, true, ◌&&◌, not}
use Rattle.simplecss_selector.proofs.BucketLemmas.{near_reports}
use Rattle.simplecss.specs.Matching.{most_tests}
use Rattle.simplecss.proofs.Candidates.{kept_matches, indices_within, sum_of_tested, ones}
use Rattle.simplecss.specs.OnlyKeys.{requires_only_key}
use Rattle.simplecss.specs.internal.OnlyKeys.{unless_needless}
use Rattle.simplecss.specs.SelectorIndices.{selector_at}
use Rattle.simplecss_selector.specs.Buckets.{Near, reports_bucket, bucket_of}
use Rattle.simplecss.specs.OpenPaths.{Path, needed_keys, are_open, AreOpened}
use Rattle.simplecss.proofs.OpenPathLemmas.{index_placed}
use Rattle.simplecss_grammar.specs.Components.{Component}
use Rattle.simplecss.proofs.OnlyKeyLemmas.{known_placed, sum_unless}
use Rattle.simplecss.proofs.index.rule_index.RuleIndex.matching_exact.Goals as goal

pub drop_others-requires : goal.drop_others-requires
drop_others-requires g c = λ k. (
  (refl, tt),
  (
    c.requires.index,
    (
      c.in_default.ensures.2.ascending,
      (
        indices_within _ (length c.args.self.now) c.candidates_open.new.indices.items
            c.in_default.ensures.2,
        λ index there known.
            known_placed g.E.Element.tree g.E.Element.node g.E.Keyed.reported c.args.element.now
            c.in_default.ensures.0 c.in_default.ensures.1
            (g.met.E.Exact.exact_law c.args.element.now)
            (are_open (needed_keys c.args.self.now) c.args.path.now.listed) c.args.self.now
            c.candidates_open.new.indices.items c.in_default.ensures.2 index there known,
      ),
    ),
  ),
)

pub returns-clause-matches : goal.returns-clause-matches
returns-clause-matches g c =
    let tree = g.E.Element.tree in
    let element = g.E.Element.node c.args.element.now in
    let path = c.args.path.now in
    kept_matches tree element c.in_default.ensures.0
    (are_open (needed_keys c.args.self.now) path.listed)
    c.args.self.now c.candidates_open.new.indices.items c.drop_others.new.indices.items
    (λ index placed lt. index_placed tree g.E.Element.node g.E.Keyed.reported
    c.args.self.now g.met.E.Keyed.reported_law g.met.E.Element.sibling_law element path.marks path.listed path.starts
    (subst (λ ss. AreOpened tree g.E.Element.node g.E.Keyed.reported ss (tree.parent element)
    path.marks path.listed path.starts) c.requires.path c.requires.open) index lt placed)
    (near_reports
    tree g.E.Element.node g.E.Keyed.reported g.met.E.Keyed.reported_law c.args.element.now
    c.in_default.ensures.0 c.in_default.ensures.1)
    c.in_default.ensures.2 c.drop_others.ensures.ascending c.drop_others.ensures.exactly

-- whether a selector may match, where the open elements' keys are of these selectors
abbrev is_open_of : Near → Path → List (List Component) → List Component → Bool
is_open_of near path selectors selector =
    reports_bucket near (bucket_of selector) && are_open (needed_keys selectors) path.listed selector

-- those of them that need a test
abbrev tested_of : Near → Path → List (List Component) → List (List Component)
tested_of near path selectors =
    filter (λ selector. not (requires_only_key selector)) (filter (is_open_of near path selectors) selectors)

pub returns-clause-tests : goal.returns-clause-tests
returns-clause-tests g c =
    let tree = g.E.Element.tree in
    let element = g.E.Element.node c.args.element.now in
    let near = c.in_default.ensures.0 in
    let path = c.args.path.now in
    let selectors = c.args.self.now in
    let candidates = c.candidates_open.new.indices.items in
    let new = c.drop_others.new.tests in
    let test = is_open_of near path selectors in
    let total : (cost : List Component → ℕ) → sum_by (λ index. unless_needless true cost
    (selector_at selectors index)) candidates ≡ sum_by cost (tested_of near path selectors) =
    λ cost. sum_of_tested test selectors candidates (unless_needless true cost) c.in_default.ensures.2
    ∙ sum_unless requires_only_key cost (filter test selectors) in (
      near,
      c.in_default.ensures.1,
      subst (λ ss. c.args.tests.now + length (tested_of near path ss) ≤ new) (sym c.requires.path)
          (subst (λ n. c.args.tests.now + n ≤ new)
          (total (λ selector. 1) ∙ ones (tested_of near path selectors)) c.drop_others.ensures.tested),
      subst (λ ss. new ≤ c.args.tests.now + sum_by (most_tests tree element) (tested_of near path ss))
          (sym c.requires.path)
          (subst (λ n. new ≤ c.args.tests.now + n) (total (most_tests tree element))
          c.drop_others.ensures.counted),
    )

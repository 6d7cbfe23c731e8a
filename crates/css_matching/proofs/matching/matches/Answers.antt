use Rattle.std.proofs.Common.{◌+◌, ◌*◌, arith}
use Rattle.css_matching.specs.Bounds.{longest_fixed, longest_free, most_levels, width}
use Rattle.css_matching.proofs.Charging.{charged_all}
use Rattle.css_matching.proofs.matching.matches.Goals as goal

pub search-requires-clause-test : goal.search-requires-clause-test
search-requires-clause-test g c =
    record { asks = c.requires.asks; answers = c.requires.answers; costs = c.requires.costs }

pub returns-clause-bounded : goal.returns-clause-bounded
returns-clause-bounded g c =
    let tree = g.E.Candidate.tree in
    let k = g.P.Parts.combinator_at c.args.parts.now in
    let n = g.E.Candidate.node c.args.element.now in
    charged_all (g.E.Candidate.cost c.args.parts.now n) c.new-own.result c.args.tests.now
    c.search.new.tests c.search.new.total (longest_fixed k c.args.last * (tree.depth n + 1))
    (longest_free k c.args.last * (most_levels k c.args.last * width tree (tree.depth n + 1) n))
    c.new-own.ensures c.search.ensures.inner c.search.ensures.bounded

pub returns-clause-at_least_one : goal.returns-clause-at_least_one
returns-clause-at_least_one g c =
    omega (arith, c.new-own.ensures, c.search.ensures.inner.0, c.search.ensures.at_least_one)

pub returns-clause-all_when_true : goal.returns-clause-all_when_true
returns-clause-all_when_true g c is =
    omega (arith, c.new-own.ensures, c.search.ensures.inner.0, c.search.ensures.all_when_true is)

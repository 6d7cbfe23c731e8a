use Rattle.std.proofs.Common.{arith}
use Rattle.simplecss_selector.proofs.Flat.{length_is}
use Rattle.simplecss_selector.proofs.selector.Selector.len.Goals as goal

pub overflow_add-result : goal.overflow_add-result
overflow_add-result c =
    let s = c.self.inside in
    omega (arith, c.len.ensures, s.front.ok.1, s.front.small)

pub returns : goal.returns
returns c =
    let s = c.self.inside in
    let all = length_is s.front.items _ s.subselectors.items c.args.self.now c.self.view_is in
    omega (arith, c.len.ensures, s.front.ok.0, all)

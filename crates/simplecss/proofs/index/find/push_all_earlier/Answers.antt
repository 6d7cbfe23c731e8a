use Rattle.std.proofs.Common.{◌<◌, length, arith, subst}
use Rattle.std.proofs.lemmas.List.{take_all}
use Rattle.simplecss.specs.SelectorIndices.{Adds}
use Rattle.simplecss.proofs.Following.{After, kept_by, start_read, start_there, start_more}
use Rattle.simplecss.proofs.index.find.push_all_earlier.Goals as goal

pub push_earlier-requires : goal.push_earlier-requires
push_earlier-requires c =
    let starts = c.args.indices.now.items in
    let lt : c.starts.i < length starts =
    omega (arith, c.starts-test.true, c.len-i-end.ensures, c.args.indices.now.ok.0) in
    c.requires c.index.result.now
    (start_there starts c.starts.i c.index.result.now lt (start_read starts c.starts.indices.items
    c.starts.i c.index.result.now c.starts.invariant lt c.index.ensures))

pub starts-preserved : goal.starts-preserved
starts-preserved c =
    let starts = c.args.indices.now.items in
    let lt : c.starts.i < length starts =
    omega (arith, c.starts-test.true, c.len-i-end.ensures, c.args.indices.now.ok.0) in
    start_more c.args.rule_index.now (kept_by c.args.rule_index.now c.args.path) starts c.starts.indices.items c.push_earlier.new.indices.items
    c.starts.i c.index.result.now lt
    (start_read starts c.starts.indices.items c.starts.i c.index.result.now c.starts.invariant lt
    c.index.ensures) c.starts.invariant c.in_ok-push_earlier.ensures

pub returns : goal.returns
returns c =
    let starts = c.args.indices.now.items in
    subst (λ xs. Adds starts c.starts.indices.items (After c.args.rule_index.now
    (kept_by c.args.rule_index.now c.args.path) xs))
    (take_all c.starts.i starts
    (omega (arith, c.starts-test.false, c.len-i-end.ensures, c.args.indices.now.ok.0)))
    c.starts.invariant

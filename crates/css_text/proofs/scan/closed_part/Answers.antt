use Rattle.std.proofs.Common.{◌≡◌, drop, Some}
use Rattle.std.specs.Str.{IsCharBoundary}
use Rattle.css_text.specs.Comments.{blank_part}
use Rattle.css_text.proofs.bytes.GapSteps.{passed-start, passed-step, passed-rest, passed-space}
use Rattle.css_text.proofs.scan.closed_part.Goals as goal

pub loop-part-init : goal.loop-part-init
loop-part-init c = passed-start c.args.text.now c.utf8.text

pub loop-part-preserved : goal.loop-part-preserved
loop-part-preserved c =
    let rest = c.range_from.ensures.value in
    let part : blank_part (drop c.loop-part.len c.args.text.now)
    ≡ Some (c.in-Some.part.spaced, drop c.in-Some.part.len (drop c.loop-part.len c.args.text.now))
    = rw (← rest) c.in-Some.ensures.found in
    let boundary : IsCharBoundary (drop c.loop-part.len c.args.text.now) c.in-Some.part.len =
    rw (← rest) c.in-Some.ensures.boundary in
    passed-step c.args.text.now c.loop-part.len c.in-Some.part.len c.loop-part.spaced
    c.in-Some.part.spaced c.loop-part.invariant part boundary

pub returns-clause-rest : goal.returns-clause-rest
returns-clause-rest c =
    passed-rest c.args.text.now c.loop-part.len c.loop-part.spaced c.loop-part.invariant
    (rw (← c.range_from.ensures.value) c.in_default.ensures.found)

pub returns-clause-spaced : goal.returns-clause-spaced
returns-clause-spaced c =
    passed-space c.args.text.now c.loop-part.len c.loop-part.spaced c.loop-part.invariant
    (rw (← c.range_from.ensures.value) c.in_default.ensures.found)

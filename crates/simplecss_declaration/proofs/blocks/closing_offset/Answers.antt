use Rattle.std.proofs.Common.{◌≡◌, ◌+◌, ◌-◌, length, take, drop, sym, subst, arith, refl}
use Rattle.simplecss_declaration.specs.internal.BlockDepths.{ClosesFirst, ClosesNowhere}
use Rattle.simplecss_declaration.proofs.BlockLemmas.{IsInside, part_len, part_split, inside-passed, inside-closed, inside-open}
use Rattle.simplecss_declaration.proofs.blocks.closing_offset.Goals as goal

pub overflow_add-result : goal.overflow_add-result
overflow_add-result c =
    let first : ClosesFirst c.chunks.depth c.in-Some.chunk.now c.in-Ok.offset = c.in-Ok.ensures in
    let part =
    part_split c.args.bytes.now c.in-Some.chunk.now c.in-Some.field-0-1.now c.chunks.passed 32
    c.chunks.invariant.within c.in-Some.ensures.cases.0 c.in-Some.ensures.cases.2 in
    omega (arith, first.within, part.1, part.2)

pub returns-in-Ok : goal.returns-in-Ok
returns-in-Ok c =
    let first : ClosesFirst c.chunks.depth c.in-Some.chunk.now c.in-Ok.offset = c.in-Ok.ensures in
    let part =
    part_split c.args.bytes.now c.in-Some.chunk.now c.in-Some.field-0-1.now c.chunks.passed 32
    c.chunks.invariant.within c.in-Some.ensures.cases.0 c.in-Some.ensures.cases.2 in
    sym (inside-closed c.args.bytes.now c.in-Some.chunk.now c.chunks.passed c.chunks.depth
    c.in-Ok.offset c.chunks.invariant.inside part.0 first)

pub chunks-preserved : goal.chunks-preserved
chunks-preserved c =
    let nowhere : ClosesNowhere c.chunks.depth c.in-Some.chunk.now c.in-Err.deeper =
    c.in-Err.ensures in
    let part =
    part_split c.args.bytes.now c.in-Some.chunk.now c.in-Some.field-0-1.now c.chunks.passed 32
    c.chunks.invariant.within c.in-Some.ensures.cases.0 c.in-Some.ensures.cases.2 in
    record {
      inside = subst (λ n. IsInside c.args.bytes.now (c.chunks.passed + n) c.in-Err.deeper) part.1
          (inside-passed c.args.bytes.now c.in-Some.chunk.now c.chunks.passed c.chunks.depth
          c.in-Err.deeper c.chunks.invariant.inside part.0 nowhere);
      within = part.2;
    }

pub returns-in-Ok-outer_brace : goal.returns-in-Ok-outer_brace
returns-in-Ok-outer_brace c =
    let part = part_len c.args.bytes.now
    (take (length c.args.bytes.now - c.chunks.passed) (drop c.chunks.passed c.args.bytes.now))
    c.chunks.passed (length c.args.bytes.now - c.chunks.passed) refl (omega arith) in
    sym (inside-closed c.args.bytes.now _ c.chunks.passed c.chunks.depth c.in-Ok-outer_brace.offset
    c.chunks.invariant.inside part.0 c.in-Ok-outer_brace.ensures)

pub returns-in-Err-outer_brace : goal.returns-in-Err-outer_brace
returns-in-Err-outer_brace c =
    let part = part_len c.args.bytes.now
    (take (length c.args.bytes.now - c.chunks.passed) (drop c.chunks.passed c.args.bytes.now))
    c.chunks.passed (length c.args.bytes.now - c.chunks.passed) refl (omega arith) in
    let inside = inside-passed c.args.bytes.now _ c.chunks.passed c.chunks.depth
    c.in-Err-outer_brace.field-0 c.chunks.invariant.inside part.0 c.in-Err-outer_brace.ensures in
    let all : c.chunks.passed + (length c.args.bytes.now - c.chunks.passed)
    ≡ length c.args.bytes.now = omega arith in
    sym (inside-open c.args.bytes.now c.in-Err-outer_brace.field-0 (rw (part.1, all) at inside))

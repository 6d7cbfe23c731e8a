use Rattle.std.proofs.Common.{arith, ℕ, List, ◌≤◌, ap, subst, length, slice_index, true, false}
use borrow.Author.Count.{below_more}
use Rattle.css_text.specs.Cursor.{text_of, offset_of}
use Rattle.css_text.specs.ByteTests.{PassesUpTo}
use Rattle.css_text.proofs.stream.Stream.skip_bytes.Given.{Over}
use Rattle.css_text.proofs.bytes.CutLemmas.{IsCharBoundary-run}
use Rattle.css_text.proofs.stream.Stream.skip_bytes.Goals as goal
use Rattle.css_text.proofs.stream.Stream.skip_bytes.Goals.{Left-loop-end, then-loop-end-test+else-f, else-loop-end-test}

-- the byte at the offset passes too
pub loop-end-preserved : goal.loop-end-preserved
loop-end-preserved g c =
    let here : goal.F-post g c.args.f (slice_index (text_of c.args.self.now) c.loop-end.end) true
    = subst (λ (bytes : List ℕ). goal.F-post g c.args.f (slice_index bytes c.loop-end.end) true)
    c.as_bytes-bytes.ensures.value c.if-f.ensures in
    let lengths = ap (λ (bytes : List ℕ). length bytes) c.as_bytes-bytes.ensures.value in
    record {
      from = omega arith;
      within = omega (arith, lengths, c.loop-end-test.true);
      passed = λ k from under. below_more (λ j. offset_of c.args.self.now ≤ j
          → goal.F-post g c.args.f (slice_index (text_of c.args.self.now) j) true) c.loop-end.end
          (λ j less at. c.loop-end.invariant.passed j at less) (λ at. here) k under from;
    }

-- the byte after the run is the first that fails
run_here : (g : Over) (c : Left-loop-end g) → PassesUpTo (goal.F-post g c.args.f)
    (text_of c.args.self.now) (offset_of c.args.self.now) c.loop-end.end
run_here g c = record {
  from = c.loop-end.invariant.from;
  within = c.loop-end.invariant.within;
  passed = c.loop-end.invariant.passed;
  stopped = λ l. elim c.loop-end-test.branch [
    | then-loop-end-test+else-f w ↦ subst (λ (bytes : List ℕ). goal.F-post g c.args.f
        (slice_index bytes c.loop-end.end) false) c.as_bytes-bytes.ensures.value w.if-f.ensures
    | else-loop-end-test w ↦ absurd (omega arith)
  ];
}

-- so the run ends between two characters
pub invariant_of-self-clause-boundary : goal.invariant_of-self-clause-boundary
invariant_of-self-clause-boundary g c =
    IsCharBoundary-run _ _ (text_of c.args.self.now) (offset_of c.args.self.now) c.loop-end.end
    c.requires
    (run_here g (goal.at.invariant_of-self-clause-boundary g c).Left-loop-end)
    (rw (← c.as_bytes-bytes.ensures.value) c.as_bytes-bytes.ensures.utf8) c.args.self.now.boundary

pub returns-clause-run : goal.returns-clause-run
returns-clause-run g c = run_here g (goal.at.returns-clause-run g c).Left-loop-end

use Rattle.std.proofs.Common.{ℕ, ◌<◌, ◌≤◌, ◌-◌, length, slice_index, true}
use Rattle.css_text.specs.Cursor.{text_of, offset_of}
use Rattle.css_text.proofs.stream.Stream.skip_bytes.Given as goal

abbrev pub invariant-loop-end : goal.invariant-loop-end
invariant-loop-end g l = record {
  from : offset_of l.fn.self ≤ l.end;
  within : l.end ≤ length (text_of l.fn.self);
  passed : (k : ℕ) → offset_of l.fn.self ≤ k → k < l.end
      → goal.F-post g l.f (slice_index (text_of l.fn.self) k) true;
}

abbrev pub decreases-loop-end : goal.decreases-loop-end
decreases-loop-end g l = length (text_of l.fn.self) - l.end

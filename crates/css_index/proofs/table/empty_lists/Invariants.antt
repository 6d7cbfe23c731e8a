use Rattle.std.proofs.Common.{◌≡◌, [], length}
use Rattle.css_index.specs.internal.Filed.{AreFiledAt}
use Rattle.css_index.proofs.table.empty_lists.Given as goal

-- as many as were pushed, and none has an entry
abbrev pub invariant-loop-place : goal.invariant-loop-place
invariant-loop-place l = (length l.buckets.items ≡ l.place) × AreFiledAt l.count [] l.buckets.items

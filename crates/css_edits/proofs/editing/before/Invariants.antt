use Rattle.std.proofs.Common.{◌≡◌, ◌+◌, ◌≤◌, map, length}
use Rattle.css_edits.specs.Changes.{before}
use Rattle.css_edits.specs.internal.Views.{entry_of}
use Rattle.css_edits.proofs.editing.before.Given as goal

-- those so far, and those that are left
abbrev pub invariant-entries : goal.invariant-entries
invariant-entries l = record {
  few : l.count + length l.rest ≤ length l.entries;
  same : l.count + before l.with l.offset (map entry_of l.rest) ≡ before l.with l.offset (map entry_of l.entries);
}

abbrev pub decreases-entries : goal.decreases-entries
decreases-entries l = length l.rest

use Rattle.std.proofs.Common.{◌≡◌, ◌+◌, ◌≤◌, length}
use Rattle.css_edits.specs.Entries.{depth_past}
use Rattle.css_edits.specs.internal.Views.{said_texts}
use Rattle.css_edits.proofs.entries.depth_past.Given as goal

-- what is left decides, from the depth so far
abbrev pub invariant-entries : goal.invariant-entries
invariant-entries l = record {
  few : l.found + length l.rest ≤ l.depth + length l.entries;
  same : depth_past l.depth (said_texts l.entries) ≡ depth_past l.found (said_texts l.rest);
}

abbrev pub decreases-entries : goal.decreases-entries
decreases-entries l = length l.rest

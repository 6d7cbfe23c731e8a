use Rattle.std.proofs.Common.{◌≡◌, ◌+◌, ◌≤◌, length}
use Rattle.css_edits.specs.Entries.{ends_open}
use Rattle.css_edits.specs.internal.Views.{said_texts}
use Rattle.css_edits.proofs.entries.is_whole.Given as goal

-- What is left decides, and no more rules are open than have begun.
abbrev pub invariant-entries : goal.invariant-entries
invariant-entries l = record {
  few : l.depth + length l.rest ≤ length l.entries;
  same : ends_open 0 (said_texts l.entries) ≡ ends_open l.depth (said_texts l.rest);
}

abbrev pub decreases-entries : goal.decreases-entries
decreases-entries l = length l.rest

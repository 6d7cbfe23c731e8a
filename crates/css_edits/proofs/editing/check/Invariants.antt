use Rattle.std.proofs.Common.{◌≡◌, ◌+◌, ◌≤◌, true, map, length}
use Rattle.css_edits.specs.Changes.{edited, may_be_made}
use Rattle.css_edits.specs.internal.Views.{entry_of, said_texts}
use Rattle.css_edits.proofs.editing.check.Given as goal

-- What is left decides, and no more rules are open than have begun.
abbrev pub invariant-edits : goal.invariant-edits
invariant-edits l = record {
  few : l.depth + length l.left ≤ length l.old;
  said : said_texts l.found ≡ edited (map entry_of l.left) l.rest
      → said_texts l.new ≡ edited (map entry_of l.old) l.edits;
  made : may_be_made l.depth (map entry_of l.left) l.rest ≡ true
      → may_be_made 0 (map entry_of l.old) l.edits ≡ true;
}

abbrev pub decreases-edits : goal.decreases-edits
decreases-edits l = length l.rest

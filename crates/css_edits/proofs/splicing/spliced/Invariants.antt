use Rattle.std.proofs.Common.{◌≡◌, ◌≤◌, ◌++◌, true, length}
use Rattle.css_edits.specs.Splicing.{spliced, are_in_order}
use Rattle.css_edits.proofs.splicing.spliced.Given as goal

abbrev pub invariant-edits : goal.invariant-edits
invariant-edits l = record {
  within : l.last ≤ length l.bytes;
  order : are_in_order l.last (length l.bytes) l.rest ≡ true
      → are_in_order 0 (length l.bytes) l.edits ≡ true;
  text : l.out.items ++ spliced l.bytes l.last l.rest ≡ spliced l.bytes 0 l.edits;
}

abbrev pub decreases-edits : goal.decreases-edits
decreases-edits l = length l.rest

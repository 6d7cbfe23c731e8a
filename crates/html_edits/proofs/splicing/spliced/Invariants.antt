use Rattle.std.proofs.Common.{◌≡◌, ◌≤◌, ◌++◌, true, length}
use Rattle.html_edits.specs.Splicing.{spliced, are_in_order}
use Rattle.html_edits.proofs.splicing.spliced.Given as goal

abbrev pub invariant-splices : goal.invariant-splices
invariant-splices l = record {
  within : l.last ≤ length l.page;
  order : are_in_order l.last (length l.page) l.rest ≡ true
      → are_in_order 0 (length l.page) l.splices ≡ true;
  text : l.out.items ++ spliced l.page l.last l.rest ≡ spliced l.page 0 l.splices;
}

abbrev pub decreases-splices : goal.decreases-splices
decreases-splices l = length l.rest

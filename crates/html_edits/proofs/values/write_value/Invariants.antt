use Rattle.std.proofs.Common.{◌≡◌, ◌++◌, length}
use Rattle.html_edits.specs.Values.{escaped_value}
use Rattle.html_edits.proofs.values.write_value.Given as goal

abbrev pub invariant-value : goal.invariant-value
invariant-value l =
    l.out.items ++ escaped_value l.language l.quote l.rest ≡ l.initial.out.items ++ escaped_value l.language l.quote l.value

abbrev pub decreases-value : goal.decreases-value
decreases-value l = length l.rest

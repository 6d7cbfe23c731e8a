use Rattle.std.proofs.Common.{◌≡◌, length, map}
use Rattle.html_encodings.specs.Finding.{encoding_in}
use Rattle.html_encodings.specs.Views.{row_of}
use Rattle.html_encodings.proofs.encoding.encoding_in.Given as goal

abbrev pub invariant-labels : goal.invariant-labels
invariant-labels l =
    encoding_in l.label (map row_of l.left) ≡ encoding_in l.label (map row_of l.table)

abbrev pub decreases-labels : goal.decreases-labels
decreases-labels l = length l.left

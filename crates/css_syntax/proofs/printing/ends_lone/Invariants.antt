use Rattle.std.proofs.Common.{◌≡◌, length}
use Rattle.css_syntax.specs.Printing.{ends_lone}
use Rattle.css_syntax.proofs.printing.ends_lone.Given as goal

abbrev pub invariant-bytes : goal.invariant-bytes
invariant-bytes l = ends_lone l.rest ≡ ends_lone l.bytes

abbrev pub decreases-bytes : goal.decreases-bytes
decreases-bytes l = length l.rest

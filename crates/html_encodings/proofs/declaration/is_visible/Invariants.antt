use Rattle.std.proofs.Common.{◌≡◌, length}
use Rattle.html_encodings.specs.Declaration.{is_visible}
use Rattle.html_encodings.proofs.declaration.is_visible.Given as goal

abbrev pub invariant-visible : goal.invariant-visible
invariant-visible l = is_visible l.rest ≡ is_visible l.label

abbrev pub decreases-visible : goal.decreases-visible
decreases-visible l = length l.rest

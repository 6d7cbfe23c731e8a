-- A write that was refused was not done.
-- Serves Display of selectors and of pseudo-classes (what is written where nothing is refused).
use Rattle.std.proofs.Common.{Result, Ok, Err}
use Rattle.std.specs.Result.{IsOk, IsErr}

pub not_done : {T E : Type 0} (r : Result T E) → IsErr r → IsOk r → ⊥
not_done (Ok x) e o = absurd (cc)
not_done (Err x) e o = absurd (cc)

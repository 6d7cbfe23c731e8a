use Rattle.std.proofs.Common.{◌≡◌, length}
use Rattle.css_syntax.specs.declared.quality.Quality.TheVariants.{Whole}
use Rattle.css_conditions.specs.Words.{values_from}
use Rattle.css_conditions.specs.Choices.{stop_of}
use Rattle.css_conditions.proofs.words.read_values.Given as goal

abbrev pub invariant-values : goal.invariant-values
invariant-values l =
    values_from (stop_of l.stop) l.left l.quality l.rest
    ≡ values_from (stop_of l.stop) (length l.bytes) Whole l.bytes

abbrev pub decreases-values : goal.decreases-values
decreases-values l = l.left

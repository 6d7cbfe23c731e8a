use Rattle.std.proofs.Common.{◌≡◌, ◌+◌, ◌*◌}
use Rattle.css_conditions.specs.Calculations.{before_factor, before_term, factors, terms, more_from, operand}
use Rattle.css_conditions.proofs.calculations.+calculations.Given as goal

abbrev pub decreases-read_operand : goal.decreases-read_operand
decreases-read_operand l = 3 * l.depth

abbrev pub decreases-read_factors : goal.decreases-read_factors
decreases-read_factors l = 3 * l.depth + 1

abbrev pub decreases-read_terms : goal.decreases-read_terms
decreases-read_terms l = 3 * l.depth + 2

abbrev pub invariant-read_factors-factors : goal.invariant-read_factors-factors
invariant-read_factors-factors l =
    more_from before_factor (operand l.view l.depth) l.left l.found.amount l.found.rest.now
    ≡ factors (operand l.view l.depth) l.bytes

abbrev pub decreases-read_factors-factors : goal.decreases-read_factors-factors
decreases-read_factors-factors l = l.left

abbrev pub invariant-read_terms-terms : goal.invariant-read_terms-terms
invariant-read_terms-terms l =
    more_from before_term (factors (operand l.view l.depth)) l.left l.found.amount l.found.rest.now
    ≡ terms (operand l.view l.depth) l.bytes

abbrev pub decreases-read_terms-terms : goal.decreases-read_terms-terms
decreases-read_terms-terms l = l.left

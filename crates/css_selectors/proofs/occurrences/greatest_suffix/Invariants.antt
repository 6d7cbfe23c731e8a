use Rattle.std.proofs.Common.{◌+◌, ◌-◌, ◌*◌, length}
use Rattle.memchr.proofs.lemmas.SuffixLemmas.{IsScan}
use Rattle.css_selectors.specs.internal.Occurrences.{IsBefore, folded_at}
use Rattle.css_selectors.proofs.occurrences.greatest_suffix.Given as goal

abbrev pub invariant-loop-candidate : goal.invariant-loop-candidate
invariant-loop-candidate l =
    IsScan (IsBefore l.reverse) (folded_at l.ignores_case l.text) (length l.text) l.place l.period
    l.candidate l.offset

abbrev pub decreases-loop-candidate : goal.decreases-loop-candidate
decreases-loop-candidate l = 2 * length l.text + 1 - (l.place + l.candidate + l.offset)

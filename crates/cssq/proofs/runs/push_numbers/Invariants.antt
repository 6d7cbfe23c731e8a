use Rattle.std.proofs.Common.{◌≡◌, ◌+◌, ◌++◌, map, take, string_bytes}
use Rattle.cssq.specs.MatchRuns.{numbers_text}
use Rattle.cssq.proofs.runs.push_numbers.Given as goal

-- the numbers of the indices so far were written
abbrev pub invariant-loop-index : goal.invariant-loop-index
invariant-loop-index l = string_bytes l.out ≡ string_bytes l.initial.out
    ++ numbers_text (map (λ index. index + 1) (take l.index-index l.indices))

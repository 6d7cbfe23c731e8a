use Rattle.std.proofs.Common.{◌≡◌, ◌++◌, length, map}
use Rattle.sheet_calls.specs.NumberLines.{texts_numbers}
use Rattle.sheet_calls.proofs.tokens.text_numbers.Given as goal

-- the numbers of the texts so far, and of those that are left
abbrev pub invariant-texts : goal.invariant-texts
invariant-texts l =
    l.out.items ++ texts_numbers (map (λ text. text.now) l.left) l.left_ends
    ≡ texts_numbers (map (λ text. text.now) l.texts) l.ends

abbrev pub decreases-texts : goal.decreases-texts
decreases-texts l = length l.left

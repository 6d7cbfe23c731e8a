use Rattle.std.proofs.Common.{◌≡◌, not, false, take}
use Rattle.std.specs.List.{list_any}
use Rattle.simplecss.proofs.hints.heads.refuses_one.Given as goal

-- no part so far is one
abbrev pub invariant-loop-part : goal.invariant-loop-part
invariant-loop-part l = list_any (λ part. not part.is_kept) (take l.part-index l.parts) ≡ false

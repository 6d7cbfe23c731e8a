use Rattle.std.proofs.Common.{◌≡◌, true, take}
use Rattle.std.specs.List.{All}
use Rattle.css_styles.specs.internal.Numbered.{is_kept}
use Rattle.css_styles.proofs.contest.are_kept.Given as goal

-- those so far are kept
abbrev pub invariant-loop-one : goal.invariant-loop-one
invariant-loop-one l = All (λ n. is_kept l.best n ≡ true) (take l.one-index l.contenders)

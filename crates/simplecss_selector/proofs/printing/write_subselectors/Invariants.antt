use Rattle.std.proofs.Common.{take}
use Rattle.std.specs.List.{flat_map}
use Rattle.std.specs.Fmt.{HasWrittenStyled, IsFlush}
use Rattle.simplecss_grammar.specs.Printing.{subselector_text}
use Rattle.simplecss_selector.specs.internal.SelectorViews.{subselector_of}
use Rattle.simplecss_selector.proofs.printing.write_subselectors.Given as goal

-- what is written is the text of the first ones
abbrev pub invariant-loop-subselector : goal.invariant-loop-subselector
invariant-loop-subselector g l =
    IsFlush l.initial.f → HasWrittenStyled g.W.Write.write_str_gives l.initial.f (flat_map
    (λ s. subselector_text (subselector_of s)) (take l.subselector-index l.subselectors)) l.f

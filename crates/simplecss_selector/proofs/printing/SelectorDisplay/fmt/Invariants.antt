use Rattle.std.proofs.Common.{take}
use Rattle.std.specs.List.{flat_map}
use Rattle.std.specs.Fmt.{HasWrittenStyled, IsFlush}
use Rattle.simplecss_grammar.specs.Printing.{component_text}
use Rattle.simplecss_selector.proofs.printing.SelectorDisplay.fmt.Given as goal

-- what is written is the text of the first components
abbrev pub invariant-loop-index : goal.invariant-loop-index
invariant-loop-index g l =
    IsFlush l.initial.f → HasWrittenStyled g.W.Write.write_str_gives l.initial.f
    (flat_map component_text (take l.index l.self)) l.f

use Rattle.std.proofs.Common.{take}
use Rattle.std.specs.Fmt.{HasWrittenStyled, IsFlush}
use Rattle.std.specs.List.{flat_map}
use Rattle.std.specs.Cow.{cow_str_bytes}
use Rattle.css_selector_text.specs.printing.Printing.{further_text, string_text}
use Rattle.css_selector_text.proofs.printing.write_ranges.Given as goal

-- what is written is the text of the first ones
abbrev pub invariant-loop-range : goal.invariant-loop-range
invariant-loop-range g l =
    IsFlush l.initial.f → HasWrittenStyled g.W.Write.write_str_gives l.initial.f (flat_map
    (λ x. further_text string_text (cow_str_bytes x)) (take l.range-index l.ranges)) l.f

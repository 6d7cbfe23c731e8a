use Rattle.std.proofs.Common.{◌∷◌, take}
use Rattle.std.specs.List.{flat_map}
use Rattle.std.specs.Fmt.{HasWrittenStyled, IsFlush}
use Rattle.css_text.specs.AsciiBytes.{newline}
use Rattle.simplecss_grammar.specs.Printing.{rule_text}
use Rattle.simplecss.specs.RuleViews.{rule_of}
use Rattle.simplecss.proofs.sheet.printing.StyleSheetDisplay.fmt.Given as goal

-- after the first rule, the lines of those that follow are written
abbrev pub invariant-loop-rule : goal.invariant-loop-rule
invariant-loop-rule g l =
    IsFlush l.initial.f → HasWrittenStyled g.W.Write.write_str_gives l.initial.f
    (flat_map (λ r. newline ∷ rule_text (rule_of r)) (take l.rule-index l.rest)) l.f

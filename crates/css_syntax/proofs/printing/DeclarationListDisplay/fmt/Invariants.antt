use Rattle.std.proofs.Common.{◌∷◌, take}
use Rattle.std.specs.List.{flat_map}
use Rattle.std.specs.Fmt.{HasWrittenStyled, IsFlush}
use Rattle.css_text.specs.AsciiBytes.{space}
use Rattle.css_syntax.specs.Printing.{declaration_text}
use Rattle.css_syntax.specs.Views.{declaration_of}
use Rattle.css_syntax.proofs.printing.DeclarationListDisplay.fmt.Given as goal

-- after the first declaration, those that follow are written
abbrev pub invariant-loop-declaration : goal.invariant-loop-declaration
invariant-loop-declaration g l =
    IsFlush l.initial.f → HasWrittenStyled g.W.Write.write_str_gives l.initial.f
    (flat_map (λ d. space ∷ declaration_text (declaration_of d))
    (take l.declaration-index l.rest)) l.f

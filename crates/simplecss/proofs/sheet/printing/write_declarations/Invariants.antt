use Rattle.std.proofs.Common.{take}
use Rattle.std.specs.List.{flat_map}
use Rattle.std.specs.Fmt.{HasWrittenStyled, IsFlush}
use Rattle.simplecss_grammar.specs.Printing.{declaration_text}
use Rattle.simplecss_declaration.specs.DeclarationViews.{declarations_of}
use Rattle.simplecss.proofs.sheet.printing.write_declarations.Given as goal

-- what is written is the text of the first ones
abbrev pub invariant-loop-declaration : goal.invariant-loop-declaration
invariant-loop-declaration g l =
    IsFlush l.initial.f → HasWrittenStyled g.W.Write.write_str_gives l.initial.f
    (flat_map declaration_text (declarations_of (take l.declaration-index l.declarations))) l.f

use Rattle.std.proofs.Common.{◌≡◌, ◌++◌, take, string_bytes}
use Rattle.simplecss.specs.DeclarationViews.{declarations_of}
use Rattle.call_answers.specs.PortTexts.{declaration_texts}
use Rattle.call_answers.proofs.port_texts.push_declarations.Given as goal

-- the declarations so far
abbrev pub invariant-loop-declaration : goal.invariant-loop-declaration
invariant-loop-declaration l =
    string_bytes l.out ≡ string_bytes l.initial.out
    ++ declaration_texts (declarations_of (take l.declaration-index l.declarations))

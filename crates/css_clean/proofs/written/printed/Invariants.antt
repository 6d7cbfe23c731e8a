use Rattle.std.proofs.Common.{◌≡◌, map, take}
use Rattle.css_syntax.specs.Views.{declaration_of}
use Rattle.css_clean.specs.Views.{written_of}
use Rattle.css_clean.proofs.written.printed.Given as goal

-- the declarations so far
abbrev pub invariant-loop-one : goal.invariant-loop-one
invariant-loop-one l =
    map declaration_of l.declarations.items ≡ map written_of (take l.one-index l.all)

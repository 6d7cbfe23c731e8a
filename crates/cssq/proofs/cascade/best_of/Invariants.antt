use Rattle.std.proofs.Common.{ℕ, take}
use Rattle.std.specs.Option.{option_map}
use Rattle.simplecss.specs.DeclarationViews.{declaration_of, declarations_of}
use Rattle.cssq.specs.Winners.{Wins}
use Rattle.cssq.specs.internal.RuleWinners.{InRule}
use Rattle.cssq.proofs.cascade.best_of.Given as goal

-- what wins among the declarations so far
abbrev pub invariant-loop-declaration : goal.invariant-loop-declaration
invariant-loop-declaration l =
    (i : ℕ) → Wins (InRule i (take l.declaration-index (declarations_of l.declarations))) l.name
    (option_map declaration_of l.best)

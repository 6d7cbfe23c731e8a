use Rattle.std.proofs.Common.{◌+◌, take, Some, ap, ◌∙◌, sym, subst}
use Rattle.std.specs.Option.{option_map}
use Rattle.std.specs.Cmp.Lexicographic.{bytes_decides}
use Rattle.std.proofs.lemmas.Bool.{both_ways}
use Rattle.simplecss.specs.DeclarationViews.{declaration_of, declarations_of}
use Rattle.cssq.specs.Winners.{Wins}
use Rattle.cssq.specs.internal.RuleWinners.{InRule}
use Rattle.cssq.proofs.Cascading.{best_named, best_other, best_all}
use Rattle.cssq.proofs.cascade.best_of.Goals.{then-eq, else-eq}
use Rattle.cssq.proofs.cascade.best_of.Goals as goal

pub loop-declaration-preserved : goal.loop-declaration-preserved
loop-declaration-preserved c = λ i.
    let ps = declarations_of c.args.declarations.now in
    let name = c.args.name.now in
    let k = c.loop-declaration.declaration-index in
    let so_far = c.loop-declaration.invariant in
    elim c.if-eq.branch [
      | then-eq w ↦
          let is = ap (option_map declaration_of) w.best-is ∙ ap Some w.better_of.ensures in
          subst (Wins (InRule i (take (k + 1) ps)) name) (sym is)
          (best_named c.args.declarations.now k _ c.loop-declaration-test.true name _ so_far i
          ((bytes_decides _ name).0 (sym c.eq.ensures ∙ w.if-eq.true)))
      | else-eq w ↦
          subst (Wins (InRule i (take (k + 1) ps)) name)
          (ap (option_map declaration_of) (sym w.best-is))
          (best_other c.args.declarations.now k _ c.loop-declaration-test.true name _ so_far i
          (λ named. both_ways _ w.if-eq.false (c.eq.ensures ∙ (bytes_decides _ name).1 named)))
    ]

pub returns : goal.returns
returns c = best_all c.args.declarations.now c.loop-declaration.declaration-index c.args.name.now _
    c.loop-declaration-test.false c.loop-declaration.invariant

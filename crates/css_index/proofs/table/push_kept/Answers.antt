use Rattle.std.proofs.Common.{◌∷◌, [], sym, subst, ◌∙◌}
use Rattle.std.proofs.lemmas.Bool.{false≢true}
use Rattle.css_index.specs.internal.Added.{AreAdded}
use Rattle.css_index.proofs.AddedLemmas.{added_one, added_not}
use Rattle.css_index.proofs.table.push_kept.Goals as goal

pub returns-in_ok-push : goal.returns-in_ok-push
returns-in_ok-push g c =
    let Keeps = g.K.Keeping.Keeps c.args.kept.now in
    let old = c.args.indices.now.items in
    subst (AreAdded Keeps old (c.args.index ∷ [])) (sym c.in_ok-push.ensures.items)
    (added_one Keeps old c.args.index (c.keeps.ensures.0 c.if-keeps.true))

pub returns-else-keeps : goal.returns-else-keeps
returns-else-keeps g c =
    let Keeps = g.K.Keeping.Keeps c.args.kept.now in
    added_not Keeps c.args.indices.now.items c.args.index
    (λ k. false≢true (sym c.if-keeps.false ∙ c.keeps.ensures.1 k))

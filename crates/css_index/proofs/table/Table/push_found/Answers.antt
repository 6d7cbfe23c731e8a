use Rattle.std.proofs.Common.{sym, subst, ◌∙◌}
use Rattle.css_selectors.specs.KeyViews.{key_of}
use Rattle.css_index.specs.internal.Added.{AreAdded}
use Rattle.css_index.specs.internal.Filed.{found_by}
use Rattle.css_index.proofs.SieveLemmas.{added_absent}
use Rattle.css_index.proofs.table.Table.push_found.Goals as goal

pub returns-then-not-may_have : goal.returns-then-not-may_have
returns-then-not-may_have g c =
    let Keeps = g.K.Keeping.Keeps c.args.kept.now in
    let old = c.args.indices.now.items in
    let key = key_of c.args.key.now in
    subst (λ es. AreAdded Keeps old (found_by es key) old) c.self.view_is
    (added_absent Keeps old c.self.inside.sieve.places.items _ key c.self.invariant.1
    (sym c.may_have.ensures ∙ c.if-not-may_have.true))

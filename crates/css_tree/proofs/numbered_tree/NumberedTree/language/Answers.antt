use Rattle.std.proofs.Common.{length, ap, ◌∙◌, subst}
use Rattle.std.proofs.lemmas.Option.{get_or_from_slice_get}
use Rattle.css_tree.specs.Keys.{AreLanguages}
use Rattle.css_tree.proofs.numbered_tree.NumberedTree.language.Goals as goal

pub returns : goal.returns
returns c =
    let are = subst (λ p. AreLanguages p.rows c.self.inside.languages.items (length p.rows))
    c.self.view_is c.self.invariant.2 in
    let known = are.each c.args.index c.requires in
    ap (λ l. l.now) (c.index.ensures
    ∙ get_or_from_slice_get c.self.inside.languages.items c.args.index known.0 _ known.1)
    ∙ known.2

use Rattle.std.proofs.Common.{◌≡◌, ◌++◌, ◌∷◌, [], Some, sym, subst}
use Rattle.cssq_tree.specs.internal.EntryLines.{AreLinked}
use Rattle.cssq_tree.proofs.LineJoins.{link_none, link_lesser, link_equal}
use Rattle.cssq_tree.proofs.tree.link.Goals as goal

pub returns-in-None-clause-linked : goal.returns-in-None-clause-linked
returns-in-None-clause-linked c =
    link_none c.args.lines.now c.args.entry c.requires c.in-None.ensures.value

pub returns-then-near-entry-clause-linked : goal.returns-then-near-entry-clause-linked
returns-then-near-entry-clause-linked c =
    let is = c.index-lines-i.is in
    subst (λ m. AreLinked (c.args.lines.now ++ record {
      entry = c.args.entry;
      parent = m.parent;
      previous = Some c.in-Some.i;
    } ∷ [])) (sym is)
    (link_equal c.args.lines.now c.args.entry c.in-Some.i c.index-lines-i.result c.requires
    c.in-Some.ensures.within c.in-Some.ensures.value
    (subst (λ m. m.entry.depth ≡ c.args.entry.depth) is c.if-near-entry.true))

pub returns-else-near-entry-clause-linked : goal.returns-else-near-entry-clause-linked
returns-else-near-entry-clause-linked c =
    link_lesser c.args.lines.now c.args.entry c.in-Some.i c.index-lines-i.result c.requires
    c.in-Some.ensures.within c.in-Some.ensures.value (subst (λ m. m.entry.depth ≡ c.args.entry.depth
    → ⊥) c.index-lines-i.is c.if-near-entry.false)

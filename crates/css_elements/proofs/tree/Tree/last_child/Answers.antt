use Rattle.std.proofs.Common.{◌<◌, length, get_or, None, Some, subst, sym, ap, ◌∙◌}
use Rattle.std.proofs.lemmas.Bool.{ltb-true}
use Rattle.css_elements.specs.Rows.{last_child}
use Rattle.css_elements.proofs.Growing.{last_child-entries, last_child_of}
use Rattle.css_elements.proofs.tree.Tree.last_child.Goals as goal

pub returns-in-None-clause-ok : goal.returns-in-None-clause-ok
returns-in-None-clause-ok c =
    c.self.invariant.0.root
    ∙ sym (last_child-entries c.self.inside.attributes.items c.self.inside.entries.items None)
    ∙ ap (λ rows. last_child rows None) c.self.view_is
    ∙ ap (last_child c.args.self.now) (sym c.in-None.is)

pub returns-in-Some-get-clause-ok : goal.returns-in-Some-get-clause-ok
returns-in-Some-get-clause-ok c =
    let within : c.in-Some.above < length c.self.inside.entries.items =
    subst (λ es. c.in-Some.above < length es) c.deref.ensures.value
    (ltb-true _ _ (sym c.in-Some-get.ensures.lookup.0)) in
    last_child_of c.self.inside.entries.items c.self.inside.last_root c.self.invariant.0
    c.in-Some.above c.in-Some-get.entry.now within (c.in-Some-get.ensures.lookup.1
    ∙ ap (λ es. get_or es c.in-Some.above c.in-Some-get.entry.now) c.deref.ensures.value)
    ∙ sym (last_child-entries c.self.inside.attributes.items c.self.inside.entries.items
    (Some c.in-Some.above))
    ∙ ap (λ rows. last_child rows (Some c.in-Some.above)) c.self.view_is
    ∙ ap (last_child c.args.self.now) (sym c.in-Some.is)

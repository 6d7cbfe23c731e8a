use Rattle.std.proofs.Common.{sym, ◌∙◌}
use Rattle.std.specs.Map.Iter.{deref_pair}
use Rattle.std.proofs.lemmas.Map.Iter.{iter_end}
use Rattle.simplecss.proofs.ReadIndices.{none_read, read_yes, read_no, all_read}
use Rattle.simplecss.proofs.index.find.push_attributes.Goals as goal

pub loop-name-init : goal.loop-name-init
loop-name-init g c =
    none_read (g.E.Keyed.reported c.args.element.now).has_attribute c.args.indices.now.items

pub loop-name-preserved-in-Continue-1 : goal.loop-name-preserved-in-Continue-1
loop-name-preserved-in-Continue-1 g c =
    read_yes (g.E.Keyed.reported c.args.element.now).has_attribute c.loop-name.yielded
    (c.in-Some.name, c.in-Some.index) c.args.indices.now.items c.loop-name.indices.items
    c.push.new.self.items
    (sym c.has_attribute.ensures ∙ c.if-has_attribute.true) c.loop-name.invariant
    c.in_ok-push.ensures.items

pub loop-name-preserved : goal.loop-name-preserved
loop-name-preserved g c =
    read_no (g.E.Keyed.reported c.args.element.now).has_attribute c.loop-name.yielded
    (c.in-Some.name, c.in-Some.index) c.args.indices.now.items c.loop-name.indices.items
    (sym c.has_attribute.ensures ∙ c.if-has_attribute.false) c.loop-name.invariant

pub returns : goal.returns
returns g c =
    let given = c.into_iter-name-iterator.ensures.into_iter_gives in
    let whole = iter_end deref_pair c.args.lasts.now.attributes.indices.entries c.loop-name.yielded
    _ _ _ _ given.0 c.loop-name.yielded_by c.in-None.is c.next.ensures.steps in
    all_read (g.E.Keyed.reported c.args.element.now).has_attribute
    c.args.lasts.now.attributes.indices c.loop-name.yielded c.args.indices.now.items
    c.loop-name.indices.items whole.0 given.6 c.loop-name.invariant

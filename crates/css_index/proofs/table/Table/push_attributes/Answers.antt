use Rattle.std.proofs.Common.{◌<◌, ◌∷◌, [], ◌++◌, map, take, length, sym, ap, ◌∙◌, subst, arith}
use Rattle.std.proofs.lemmas.List.{map-append, take_more, take_all}
use Rattle.css_selectors.specs.Keys.Key.{by_attribute}
use Rattle.css_index.specs.internal.Added.{AreAdded}
use Rattle.css_index.specs.internal.Filed.{found_by_any}
use Rattle.css_index.proofs.AddedLemmas.{added_none, added_more}
use Rattle.css_index.proofs.table.Table.push_attributes.Goals as goal

pub loop-index-init : goal.loop-index-init
loop-index-init g c = added_none (g.K.Keeping.Keeps c.args.kept.now) c.args.indices.now.items

pub loop-index-preserved : goal.loop-index-preserved
loop-index-preserved g c =
    let Keeps = g.K.Keeping.Keeps c.args.kept.now in
    let es = c.args.self.now in
    let old = c.args.indices.now.items in
    let new = c.push_found.new.indices.items in
    let attributes = (g.E.Keyed.reported c.args.element.now).attributes in
    let i = c.loop-index.index in
    let name = c.attribute_name-name.result.now in
    let lt : i < length attributes = omega (arith, c.loop-index-test.true, c.attribute_count-index-end.ensures) in
    subst (λ keys. AreAdded Keeps old (found_by_any es keys) new)
    (sym (map-append by_attribute (take i attributes) (name ∷ []))
    ∙ ap (λ x. map by_attribute (take i attributes ++ x ∷ [])) c.attribute_name-name.ensures
    ∙ ap (map by_attribute) (sym (take_more attributes i name lt)))
    (added_more Keeps es old c.loop-index.indices.items new (map by_attribute (take i attributes))
    (by_attribute name) c.loop-index.invariant c.in_ok-push_found.ensures)

pub returns : goal.returns
returns g c =
    let Keeps = g.K.Keeping.Keeps c.args.kept.now in
    let attributes = (g.E.Keyed.reported c.args.element.now).attributes in
    let i = c.loop-index.index in
    subst (λ names. AreAdded Keeps c.args.indices.now.items
    (found_by_any c.args.self.now (map by_attribute names)) c.loop-index.indices.items)
    (take_all i attributes (omega (arith, c.loop-index-test.false, c.attribute_count-index-end.ensures)))
    c.loop-index.invariant

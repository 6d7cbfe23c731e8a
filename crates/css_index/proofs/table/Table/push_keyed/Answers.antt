use Rattle.std.proofs.Common.{map, subst}
use Rattle.std.specs.Prelude.{codes}
use Rattle.css_selectors.specs.Keys.Key.{by_class, by_attribute, by_name, by_nothing}
use Rattle.css_index.specs.internal.Added.{AreAdded}
use Rattle.css_index.specs.internal.Filed.{AreClasses, found_by, found_by_any, id_keys}
use Rattle.css_index.proofs.AddedLemmas.{added_in_turn}
use Rattle.css_index.proofs.KeyedLemmas.{all_keys, reported_are, on_ok}
use Rattle.css_index.proofs.table.Table.push_keyed.Goals as goal

pub returns : goal.returns
returns g c =
    let document = g.E.Element.document in
    let n = g.E.Element.node c.args.element.now in
    let reported = g.E.Keyed.reported c.args.element.now in
    let Keeps = g.K.Keeping.Keeps c.args.kept.now in
    let es = c.args.self.now in
    let words = c.in_ok-push_classes.ensures.0 in
    let any = c.push_found.new.indices.items in
    let named = c.push_found-2.new.indices.items in
    let of_id = c.push_id.new.indices.items in
    on_ok c.push_attributes.result (λ last. (
      all_keys reported (document.attribute n (codes "id")) words,
      reported_are document n reported words
          (subst (λ class. AreClasses class words) c.attribute-2.ensures c.in_ok-push_classes.ensures.1),
      added_in_turn Keeps es c.args.indices.now.items any named of_id
          c.push_classes.new.indices.items c.push_attributes.new.indices.items by_nothing
          (by_name reported.name) (id_keys (document.attribute n (codes "id"))) (map by_class words)
          (map by_attribute reported.attributes) c.in_ok-push_found.ensures
          (subst (λ name. AreAdded Keeps any (found_by es (by_name name)) named) c.local_name.ensures
          c.in_ok-push_found-2.ensures)
          (subst (λ id. AreAdded Keeps named (found_by_any es (id_keys id)) of_id) c.attribute.ensures
          c.in_ok-push_id.ensures)
          c.in_ok-push_classes.ensures.2 last,
    )) c.push_attributes.ensures

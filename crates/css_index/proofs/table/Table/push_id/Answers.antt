use Rattle.std.proofs.Common.{sym, subst, append-nil}
use Rattle.std.specs.Option.{option_map}
use Rattle.std.specs.Result.{OnOk}
use Rattle.css_selectors.specs.Keys.Key.{by_id}
use Rattle.css_index.specs.internal.Added.{AreAdded}
use Rattle.css_index.specs.internal.Filed.{found_by, found_by_any, id_keys}
use Rattle.css_index.proofs.AddedLemmas.{added_none}
use Rattle.css_index.proofs.KeyedLemmas.{on_ok}
use Rattle.css_index.proofs.table.Table.push_id.Goals as goal

pub returns-in-Some : goal.returns-in-Some
returns-in-Some g c =
    let Keeps = g.K.Keeping.Keeps c.args.kept.now in
    let old = c.args.indices.now.items in
    let new = c.push_found.new.indices.items in
    subst (λ id. OnOk c.push_found.result (AreAdded Keeps old (found_by_any c.args.self.now
    (id_keys (option_map (λ text. text.now) id))) new)) (sym c.in-Some.is)
    (on_ok c.push_found.result (λ added. subst (λ found. AreAdded Keeps old found new)
    (sym (append-nil (found_by c.args.self.now (by_id c.in-Some.text.now)))) added)
    c.push_found.ensures)

pub returns-in-None : goal.returns-in-None
returns-in-None g c =
    let Keeps = g.K.Keeping.Keeps c.args.kept.now in
    let old = c.args.indices.now.items in
    subst (λ id. AreAdded Keeps old (found_by_any c.args.self.now
    (id_keys (option_map (λ text. text.now) id))) old) (sym c.in-None.is) (added_none Keeps old)

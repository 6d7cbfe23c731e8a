use Rattle.std.proofs.Common.{List, ℕ, map, [], sym, subst}
use Rattle.std.specs.Option.{option_map}
use Rattle.std.specs.Result.{OnOk}
use Rattle.css_selectors.specs.Keys.Key.{by_class}
use Rattle.css_index.specs.internal.Added.{AreAdded}
use Rattle.css_index.specs.internal.Filed.{AreClasses, found_by_any}
use Rattle.css_index.proofs.AddedLemmas.{added_none, no_classes}
use Rattle.css_index.proofs.table.Table.push_classes.Goals as goal

pub returns-in-Some : goal.returns-in-Some
returns-in-Some g c =
    let Keeps = g.K.Keeping.Keeps c.args.kept.now in
    subst (λ class. OnOk c.push_words.result ((words : List (List ℕ))
    × AreClasses (option_map (λ value. value.now) class) words
    × AreAdded Keeps c.args.indices.now.items (found_by_any c.args.self.now (map by_class words))
    c.push_words.new.indices.items)) (sym c.in-Some.is)
    c.push_words.ensures

pub returns-in-None : goal.returns-in-None
returns-in-None g c =
    let Keeps = g.K.Keeping.Keeps c.args.kept.now in
    let old = c.args.indices.now.items in
    subst (λ class. (words : List (List ℕ))
    × AreClasses (option_map (λ value. value.now) class) words
    × AreAdded Keeps old (found_by_any c.args.self.now (map by_class words)) old) (sym c.in-None.is)
    ([], no_classes, added_none Keeps old)

use Rattle.std.proofs.Common.{map, ◌∷◌, [], sym, ap, ◌∙◌, subst, lit<}
use Rattle.std.specs.Str.Iter.{split_text, split_has_more, split_pattern}
use Rattle.std.proofs.lemmas.Iterator.Consumers.{YieldsList-end}
use Rattle.std.proofs.lemmas.Iterator.Splits.{YieldsList-from_str_split}
use Rattle.std.proofs.lemmas.List.{map-append}
use Rattle.css_text.specs.AsciiBytes.{space}
use Rattle.simplecss.specs.SelectorIndices.{Adds}
use Rattle.simplecss.proofs.LastIndices.{OfClasses, no_classes, class_more, all_classes}
use Rattle.simplecss.proofs.index.find.push_words.Goals as goal

pub loop-word-init : goal.loop-word-init
loop-word-init c = no_classes c.args.lasts.now c.args.indices.now.items

pub loop-word-preserved : goal.loop-word-preserved
loop-word-preserved c =
    let lasts = c.args.lasts.now in
    let old = c.args.indices.now.items in
    let new = c.push_last.new.indices.items in
    subst (λ words. Adds old new (OfClasses lasts words))
    (sym (map-append (λ word. word.now) c.loop-word.yielded (c.in-Some.word ∷ [])))
    (class_more lasts (map (λ word. word.now) c.loop-word.yielded) c.in-Some.word.now old
    c.loop-word.indices.items new c.loop-word.invariant c.in_ok-push_last.ensures)

pub returns : goal.returns
returns c =
    let start = c.into_iter-word-iterator.ensures.into_iter_gives in
    let split = c.split-word-items.ensures in
    let yields = YieldsList-from_str_split {s = c.into_iter-word-iterator.result} space
    c.args.value.now (lit< tt) (ap split_text start ∙ split.text)
    (ap split_has_more start ∙ split.has_more) (ap split_pattern start ∙ split.pattern) in
    let whole = YieldsList-end yields c.loop-word.yielded _ c.loop-word.yielded_by _ _ c.in-None.is
    c.next.ensures.steps in
    all_classes c.args.lasts.now (map (λ word. word.now) c.loop-word.yielded) c.args.value.now
    c.args.indices.now.items c.loop-word.indices.items whole.0 c.loop-word.invariant

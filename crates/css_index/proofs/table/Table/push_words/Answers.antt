use Rattle.std.proofs.Common.{ℕ, List, Bor, Some, ◌∷◌, [], ◌++◌, map, take, get_or, sym, ap, ◌∙◌, subst}
use Rattle.std.proofs.lemmas.List.{map-append, map_more, take_all}
use Rattle.std.proofs.lemmas.List.Concat.{flat_map-append}
use Rattle.std.specs.Option.{option_map}
use Rattle.css_selectors.specs.Keys.Key.{by_class}
use Rattle.css_index.specs.internal.Added.{AreAdded}
use Rattle.css_index.specs.internal.Filed.{AreFirstWords, found_by, found_by_any}
use Rattle.css_index.proofs.AddedLemmas.{added_more, added_both}
use Rattle.css_index.proofs.WordLemmas.{words_both}
use Rattle.css_index.proofs.table.Table.push_words.Goals as goal

pub loop-word-preserved : goal.loop-word-preserved
loop-word-preserved g c =
    let Keeps = g.K.Keeping.Keeps c.args.kept.now in
    let es = c.args.self.now in
    let old = c.push_first_words.new.indices.items in
    let new = c.push_found.new.indices.items in
    let items = c.deref-word-items.result.now in
    let none : Bor (List ℕ) = record { ref_ptr = (0, 0); now = [] } in
    let word = (get_or items c.loop-word.word-index none).now in
    let before = map (λ w. w.now) (take c.loop-word.word-index items) in
    subst (λ keys. AreAdded Keeps old (found_by_any es keys) new)
    (sym (map-append by_class before (word ∷ []))
    ∙ ap (map by_class)
    (sym (map_more (λ w. w.now) items c.loop-word.word-index none c.loop-word-test.true)))
    (added_more Keeps es old c.loop-word.indices.items new (map by_class before) (by_class word)
    c.loop-word.invariant c.in_ok-push_found.ensures)

pub returns-in_default : goal.returns-in_default
returns-in_default g c =
    let Keeps = g.K.Keeping.Keeps c.args.kept.now in
    let es = c.args.self.now in
    subst (λ rest. (words : List (List ℕ))
    × AreFirstWords c.args.value.now words (option_map (λ text. text.now) rest)
    × AreAdded Keeps c.args.indices.now.items (found_by_any es (map by_class words))
    c.push_first_words.new.indices.items) c.in_default.is c.in_ok-rest.ensures

pub returns : goal.returns
returns g c =
    let Keeps = g.K.Keeping.Keeps c.args.kept.now in
    let es = c.args.self.now in
    let old = c.args.indices.now.items in
    let middle = c.push_first_words.new.indices.items in
    let new = c.loop-word.indices.items in
    let first : (words : List (List ℕ))
    × AreFirstWords c.args.value.now words (Some c.in-Some.rest.now)
    × AreAdded Keeps old (found_by_any es (map by_class words)) middle =
    subst (λ rest. (words : List (List ℕ))
    × AreFirstWords c.args.value.now words (option_map (λ text. text.now) rest)
    × AreAdded Keeps old (found_by_any es (map by_class words)) middle) c.in-Some.is
    c.in_ok-rest.ensures in
    let words = map (λ w. w.now) c.in_ok-words.words.items in
    let added = subst (λ ws. AreAdded Keeps middle (found_by_any es (map by_class (map (λ w. w.now) ws)))
    new) (take_all c.loop-word.word-index c.deref-word-items.result.now c.loop-word-test.false
    ∙ c.deref-word-items.ensures.value) c.loop-word.invariant in (
      first.0 ++ words,
      words_both c.args.value.now c.in-Some.rest.now first.0 words first.1 c.in_ok-words.ensures.words,
      subst (λ found. AreAdded Keeps old found new)
          (sym (flat_map-append (found_by es) (map by_class first.0) (map by_class words))
          ∙ ap (found_by_any es) (sym (map-append by_class first.0 words)))
          (added_both Keeps old (found_by_any es (map by_class first.0)) middle
          (found_by_any es (map by_class words)) new first.2 added),
    )

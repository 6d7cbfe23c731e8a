use Rattle.std.proofs.Common.{rules, ◌++◌, ◌∷◌, [], map, sym, subst}
use Rattle.std.proofs.lemmas.List.{map-append}
use Rattle.css_selectors.specs.Keys.Key.{by_class}
use Rattle.css_index.specs.internal.Added.{AreAdded}
use Rattle.css_index.specs.internal.Filed.{found_by_any}
use Rattle.css_index.proofs.AddedLemmas.{added_none, added_more}
use Rattle.css_index.proofs.WordLemmas.{no_word_yet, word_more, word_all}
use Rattle.css_index.proofs.table.Table.push_first_words.Goals as goal

pub words-init : goal.words-init
words-init g c = (
  c.utf8.value,
  [],
  no_word_yet c.args.value.now,
  added_none (g.K.Keeping.Keeps c.args.kept.now) c.args.indices.now.items,
)

pub words-preserved : goal.words-preserved
words-preserved g c =
    let Keeps = g.K.Keeping.Keeps c.args.kept.now in
    let es = c.args.self.now in
    let old = c.args.indices.now.items in
    let new = c.push_found.new.indices.items in
    let before = c.words.invariant.1 in
    let word = c.in-Some.word.now in (
      search rules,
      before ++ word ∷ [],
      word_more c.args.value.now before word c.words.rest.now c.in-Some.after.now
          c.words.invariant.2 c.in-Some.ensures.words,
      subst (λ keys. AreAdded Keeps old (found_by_any es keys) new)
          (sym (map-append by_class before (word ∷ [])))
          (added_more Keeps es old c.words.indices.items new (map by_class before) (by_class word)
          c.words.invariant.3 c.in_ok-push_found.ensures),
    )

pub returns-in_default : goal.returns-in_default
returns-in_default g c = (
  c.words.invariant.1,
  word_all c.args.value.now c.words.invariant.1 c.words.rest.now c.words.invariant.2
      c.in_default.ensures.words,
  c.words.invariant.3,
)

pub returns : goal.returns
returns g c = (c.words.invariant.1, c.words.invariant.2, c.words.invariant.3)

use Rattle.std.proofs.Common.{rules, ◌⊎◌, ◌↔◌, ◌∷◌, [], ℕ, false, List, Contains, IsTrue, map, sym, ap, ◌∙◌, subst}
use Rattle.std.proofs.lemmas.List.{map-append}
use Rattle.std.proofs.lemmas.List.Filters.{dedup_is}
use Rattle.css_selector_text.specs.AttributeTests.{is_satisfied}
use Rattle.css_selector_text.specs.Components.Comparison.{has_word}
use Rattle.css_index.proofs.DistinctLemmas.{texts_once, texts_same}
use Rattle.css_index.proofs.WordLemmas.{no_word_yet, word_more, word_all}
use Rattle.css_index.proofs.words.distinct_words.Goals as goal

pub words-init : goal.words-init
words-init c = (
  c.utf8.value,
  subst (λ ws. (text : List ℕ) → IsTrue (is_satisfied has_word false text c.args.value.now)
      ↔ (Contains (map (λ word. word.now) ws) text ⊎ IsTrue (is_satisfied has_word false text c.args.value.now)))
      (sym c.new-words.ensures.items) (no_word_yet c.args.value.now),
)

pub words-preserved : goal.words-preserved
words-preserved c = (
  search rules,
  subst (λ ws. (text : List ℕ) → IsTrue (is_satisfied has_word false text c.args.value.now)
      ↔ (Contains ws text ⊎ IsTrue (is_satisfied has_word false text c.in-Some.after.now)))
      (sym (ap (map (λ word. word.now)) c.in_ok-push.ensures.items
      ∙ map-append (λ word. word.now) c.words.words.items (c.in-Some.word ∷ [])))
      (word_more c.args.value.now (map (λ word. word.now) c.words.words.items) c.in-Some.word.now
      c.words.rest.now c.in-Some.after.now c.words.invariant.1 c.in-Some.ensures.words),
)

pub returns-clause-words : goal.returns-clause-words
returns-clause-words c =
    texts_same (λ word. word.now) c.words.words.items c.sort_unstable.new.self.items
    c.dedup.new.self.items c.sort_unstable.ensures.permutation
    (dedup_is _ _ _ c.dedup.ensures.filtered)
    (λ text. IsTrue (is_satisfied has_word false text c.args.value.now))
    (word_all c.args.value.now (map (λ word. word.now) c.words.words.items) c.words.rest.now
    c.words.invariant.1 c.in_default.ensures.words)

pub returns-clause-once : goal.returns-clause-once
returns-clause-once c =
    texts_once (λ word. word.now) c.sort_unstable.new.self.items c.dedup.new.self.items
    c.sort_unstable.ensures.sorted (dedup_is _ _ _ c.dedup.ensures.filtered)

use Rattle.std.proofs.Common.{rules, ◌<◌, length, true, ap, subst, ◌∙◌, sym}
use Rattle.css_selector_text.specs.AttributeTests.{is_word_of}
use Rattle.css_selectors.proofs.WordStartLemmas.{word_further, after_space-less}
use Rattle.css_selectors.proofs.attributes.is_word.Goals as goal

pub words-smaller : goal.words-smaller
words-smaller c =
    let some : 0 < length c.words.rest.now = search rules in
    subst (λ rest. length rest < length c.words.rest.now) (sym c.after_space-rest.ensures)
    (after_space-less c.words.rest.now some)

pub words-preserved : goal.words-preserved
words-preserved c =
    ap (is_word_of true c.args.ignores_case c.args.text.now) c.after_space-rest.ensures
    ∙ sym (word_further c.args.ignores_case c.args.text.now c.words.rest.now
    (sym c.begins_word.ensures ∙ c.if-begins_word.false))
    ∙ c.words.invariant

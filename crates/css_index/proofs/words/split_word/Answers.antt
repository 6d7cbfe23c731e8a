use Rattle.std.proofs.Common.{◌≡◌, ◌-◌, ◌∙◌, ap, arith, drop, take}
use Rattle.css_text.specs.Bytes.{past}
use Rattle.css_text.specs.Characters.{is_space}
use Rattle.css_selector_text.proofs.TextLemmas.{run_boundary}
use Rattle.css_index.proofs.WordLemmas.{is_unspaced, word_len, space_low, no_words, first_word}
use Rattle.css_index.proofs.words.split_word.Goals as goal

pub returns-then-len-eq0-clause-words : goal.returns-then-len-eq0-clause-words
returns-then-len-eq0-clause-words c =
    no_words c.args.value.now c.slice_tail-text.result.now c.word_len-len.result
    (c.slice_tail-text.ensures ∙ c.skip_spaces.ensures.rest ∙ ap (past is_space)
    (ap (λ n. drop n c.new-rest.result.text.now) c.new-rest.ensures.offset ∙ c.new-rest.ensures.text))
    (c.word_len-len.ensures.count ∙ ap word_len c.as_bytes.ensures.value) c.if-len-eq0.true

pub range-requires-clause-end_boundary : goal.range-requires-clause-end_boundary
range-requires-clause-end_boundary c =
    run_boundary is_unspaced space_low c.slice_tail-text.result.now c.as_bytes.result.now
    c.word_len-len.result c.as_bytes.ensures.value c.word_len-len.ensures.count

pub range_from-requires : goal.range_from-requires
range_from-requires c = λ some.
    run_boundary is_unspaced space_low c.slice_tail-text.result.now c.as_bytes.result.now
    c.word_len-len.result c.as_bytes.ensures.value c.word_len-len.ensures.count

pub returns-clause-words : goal.returns-clause-words
returns-clause-words c =
    let whole : c.word_len-len.result - 0 ≡ c.word_len-len.result = omega arith in
    first_word c.args.value.now c.slice_tail-text.result.now c.range.result.now
    c.range_from.result.now c.word_len-len.result
    (c.slice_tail-text.ensures ∙ c.skip_spaces.ensures.rest ∙ ap (past is_space)
    (ap (λ n. drop n c.new-rest.result.text.now) c.new-rest.ensures.offset ∙ c.new-rest.ensures.text))
    (c.word_len-len.ensures.count ∙ ap word_len c.as_bytes.ensures.value) c.if-len-eq0.false
    (c.range.ensures.value ∙ ap (λ n. take n c.slice_tail-text.result.now) whole)
    c.range_from.ensures.value

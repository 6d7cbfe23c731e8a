use Rattle.std.proofs.Common.{◌≡◌, ◌<◌, ◌-◌, ◌&&◌, Bool, true, false, List, ℕ, length, take, drop, length-drop, refl, sym, ap, ◌∙◌, arith}
use Rattle.std.proofs.lemmas.List.{take_all}
use Rattle.css_text.specs.Characters.{is_space}
use Rattle.css_selector_text.specs.AttributeTests.{begins, ends_by}
use Rattle.css_selector_text.proofs.AttributeLemmas.{begins_within}
use Rattle.css_selectors.proofs.attributes.begins_word.Goals as goal

-- a text that is longer than the value
begins_longer : (ignores : Bool) (text value : List ℕ) → length value < length text
    → begins ignores text value ≡ false
begins_longer ignores text value more = by (begins ignores text value) refl
  where
    by : (b : Bool) → begins ignores text value ≡ b → begins ignores text value ≡ false
    by false is = is
    by true is = let most = begins_within ignores text value is in absurd (omega (arith, more, most))

-- all that is after so many bytes
rest_is : (n : ℕ) (value : List ℕ) → take (length value - n) (drop n value) ≡ drop n value
rest_is n value = take_all (length value - n) (drop n value) (simp length-drop (omega arith))

never : (b : Bool) → false ≡ (b && false)
never true = refl
never false = refl

always : (b : Bool) → b ≡ (b && true)
always true = refl
always false = refl

pub returns-then-value-text : goal.returns-then-value-text
returns-then-value-text c =
    ap (λ b. b && ends_by is_space (drop (length c.args.text.now) c.args.value.now))
    (sym (begins_longer c.args.ignores_case c.args.text.now c.args.value.now c.if-value-text.true))

pub returns-else-ends_word : goal.returns-else-ends_word
returns-else-ends_word c =
    let text = c.args.text.now in
    let value = c.args.value.now in
    c.if-ends_word.false ∙ never (begins c.args.ignores_case text value)
    ∙ ap (λ b. begins c.args.ignores_case text value && b) (sym c.if-ends_word.false
    ∙ c.ends_word.ensures ∙ ap (ends_by is_space) (rest_is (length text) value))

pub returns-then-ends_word : goal.returns-then-ends_word
returns-then-ends_word c =
    let text = c.args.text.now in
    let value = c.args.value.now in
    c.begins.ensures.answer ∙ always (begins c.args.ignores_case text value)
    ∙ ap (λ b. begins c.args.ignores_case text value && b) (sym c.if-ends_word.true
    ∙ c.ends_word.ensures ∙ ap (ends_by is_space) (rest_is (length text) value))

use Rattle.std.proofs.Common.{arith, ◌≡◌, ◌∙◌, ℕ, List, [], true, sym, ap, refl}
use Rattle.std.proofs.lemmas.Grind.{common_steps}
use Rattle.std.specs.Cmp.Lexicographic.{same_text}
use Rattle.css_syntax.specs.declared.quality.Quality.{Quality}
use Rattle.css_syntax.specs.declared.quality.Quality.TheVariants.{Whole, Open, BadString, BadUrl, StrayBracket, TooDeep}
use Rattle.css_syntax.specs.Qualities.{is_whole}
use Rattle.css_syntax.specs.Tokens.{past_gap}
use Rattle.css_syntax.specs.Parts.{Stated}
use Rattle.css_syntax.specs.DeclarationLists.{value}
use Rattle.css_syntax.specs.Printing.{IsWholeValue}
use Rattle.css_syntax.proofs.closing.is_whole_value.Goals as goal

abbrev stated : List ℕ → Quality → Stated
stated text quality = record { text = text; quality = quality }

whole-only : (q : Quality) → is_whole q ≡ true → q ≡ Whole
whole-only Whole e = refl
whole-only Open e = absurd (cc)
whole-only BadString e = absurd (cc)
whole-only BadUrl e = absurd (cc)
whole-only StrayBracket e = absurd (cc)
whole-only TooDeep e = absurd (cc)

-- what was read is all of the text
whole-value : (text v rest gap : List ℕ) (q : Quality) → value true text ≡ (stated v q, rest)
    → is_whole q ≡ true → rest ≡ [] → v ≡ text → gap ≡ past_gap text → gap ≡ text
    → IsWholeValue true text
whole-value text v rest gap q read whole left same blank start = record {
  no_blank = sym blank ∙ start;
  whole = read ∙ ap (λ (x : List ℕ). (stated x q, rest)) same
      ∙ ap (λ (x : Quality). (stated text x, rest)) (whole-only q whole)
      ∙ ap (λ (x : List ℕ). (stated text Whole, x)) left;
}

pub returns-then-eq-clause-whole : goal.returns-then-eq-clause-whole
returns-then-eq-clause-whole c = λ e.
    let parts = c.read_value-parts.result in
    let good : is_whole parts.quality ≡ true = sym c.is_whole.ensures ∙ c.if-not-is_whole.false in
    let left : parts.rest.now ≡ [] = grind (arith, common_steps) in
    whole-value c.args.text.now parts.text.now parts.rest.now c.past_gap.result.now parts.quality
    c.read_value-parts.ensures good left
    (same_text _ _ (sym c.if-eq.true ∙ c.eq.ensures))
    c.past_gap.ensures
    (same_text _ _ (sym e ∙ c.eq-then-eq.ensures))

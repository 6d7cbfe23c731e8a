use Rattle.std.proofs.Common.{◌≡◌, ◌∙◌, ◌||◌, true, false, sym, ap, rules}
use Rattle.css_text.proofs.reading.EachLemmas.{took}
use Rattle.css_syntax.specs.Tokens.{spells}
use Rattle.css_values.specs.Names.{part_before}
use Rattle.css_values.specs.Refused.{is_listed, unmarked}
use Rattle.css_values.proofs.NameLemmas.{part_before-takes}
use Rattle.css_values.proofs.RefusedLemmas.{listed-none, listed-some}
use Rattle.css_values.proofs.refused.is_listed.Goals as goal

pub words-smaller : goal.words-smaller
words-smaller c =
    took (part_before 32) (part_before-takes 32) c.words.rest.now c.in-Some.part.rest.now
    c.in-Some.part.front.now c.in-Some.ensures

pub returns : goal.returns
returns c = sym (c.words.invariant.1 ∙ listed-none c.words.rest.now c.args.word.now c.in_default.ensures)

pub returns-then-spells : goal.returns-then-spells
returns-then-spells c =
    let same : spells (unmarked c.in-Some.part.front.now) c.args.word.now ≡ true =
    ap (λ one. spells one c.args.word.now) (sym c.unmarked.ensures) ∙ sym c.spells.ensures ∙ c.if-spells.true in
    sym (c.words.invariant.1
    ∙ listed-some c.words.rest.now c.in-Some.part.front.now c.in-Some.part.rest.now c.args.word.now c.in-Some.ensures
    ∙ ap (λ t. t || is_listed c.in-Some.part.rest.now c.args.word.now) same)

pub words-preserved : goal.words-preserved
words-preserved c =
    let other : spells (unmarked c.in-Some.part.front.now) c.args.word.now ≡ false =
    ap (λ one. spells one c.args.word.now) (sym c.unmarked.ensures) ∙ sym c.spells.ensures ∙ c.if-spells.false in (
      search rules,
      c.words.invariant.1
          ∙ listed-some c.words.rest.now c.in-Some.part.front.now c.in-Some.part.rest.now c.args.word.now c.in-Some.ensures
          ∙ ap (λ t. t || is_listed c.in-Some.part.rest.now c.args.word.now) other,
    )

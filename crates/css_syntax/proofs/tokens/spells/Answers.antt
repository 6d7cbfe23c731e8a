use Rattle.std.proofs.Common.{◌∙◌, sym, ap, ℕ, List}
use Rattle.css_syntax.specs.Tokens.{spells}
use Rattle.css_syntax.proofs.RunSteps.{spells-some, spells-none, spells-end}
use Rattle.css_syntax.proofs.tokens.spells.Goals as goal

pub letters-preserved : goal.letters-preserved
letters-preserved c =
    sym (ap (λ (k : List ℕ). spells k c.letters.rest.now) c.in-Some.ensures
    ∙ spells-some c.in-Some.letter c.to_ascii_uppercase.result c.in-Some.others.now
    c.letters.rest.now c.in-Some-take_letter.after.now c.to_ascii_uppercase.ensures.value
    c.in-Some-take_letter.ensures)
    ∙ c.letters.invariant

pub returns-in-None : goal.returns-in-None
returns-in-None c =
    sym (ap (λ (k : List ℕ). spells k c.letters.rest.now) c.in-Some.ensures
    ∙ spells-none c.in-Some.letter c.to_ascii_uppercase.result c.in-Some.others.now
    c.letters.rest.now c.to_ascii_uppercase.ensures.value c.in-None.ensures)
    ∙ c.letters.invariant

pub returns : goal.returns
returns c =
    c.is_empty.ensures ∙ sym (spells-end c.letters.rest.now)
    ∙ ap (λ (k : List ℕ). spells k c.letters.rest.now) (sym c.in_default.ensures)
    ∙ c.letters.invariant

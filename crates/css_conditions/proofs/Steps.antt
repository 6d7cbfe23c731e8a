-- One step of each loop.
use Rattle.std.proofs.Common.{◌≡◌, ℕ, zero, suc, Bool, true, false, ◌||◌, not, List, [], ◌∷◌, Option, Some, None, refl}
use Rattle.std.specs.Char.{to_ascii_uppercase}
use Rattle.css_syntax.specs.declared.quality.Quality.{Quality}
use Rattle.css_syntax.specs.Qualities.{first_flaw}
use Rattle.css_text.specs.AsciiBytes.{open_parenthesis, comma}
use Rattle.css_text.specs.Bytes.{starts, past_one}
use Rattle.css_text.specs.Bytes.{starts_by}
use Rattle.css_text.specs.Characters.{is_space}
use Rattle.css_syntax.specs.Tokens.{gap_part, past_gap, past_letter}
use Rattle.css_syntax.specs.ComponentValues.{deepest, component_value}
use Rattle.css_conditions.specs.declared.truth.Truth.{Truth}
use Rattle.css_conditions.specs.declared.truth.Outcome.{Outcome}
use Rattle.css_conditions.specs.Truths.{joined, is_true}
use Rattle.css_conditions.specs.Words.{ends_by, values_from, past_keyword, past_letters, begins_function}
use Rattle.css_conditions.specs.Conditions.{Reads, more_from, in_parens, closed, inside_by, function_at}
use Rattle.css_conditions.specs.declared.truth.Outcome.TheVariants.{Unfit, Broken}
use Rattle.css_conditions.specs.Media.{Asks, some_query, or_query, whole_query}
use Rattle.css_conditions.specs.declared.amounts.Amount.{Amount}
use Rattle.css_conditions.specs.declared.amounts.Step.{Step}
use Rattle.css_conditions.specs.declared.quantities.View.{View}
use Rattle.css_conditions.specs.Amounts.{by_step}
use Rattle.css_conditions.specs.Quantities.{dimension}
use Rattle.css_conditions.specs.Calculations.{Amounts, parted_from, then_parted, more_from as amounts_from, operand, opened, enclosed, terms}

pub values_stop : (stop : ℕ → Bool) (n : ℕ) (quality : Quality) (text : List ℕ)
    → ends_by stop text ≡ true → values_from stop n quality text ≡ (quality, text)
values_stop stop zero quality text e = refl
values_stop stop (suc n) quality text e = rw e refl

pub values_step : (stop : ℕ → Bool) (n m : ℕ) (quality : Quality) (text : List ℕ)
    → n ≡ suc m → ends_by stop text ≡ false
    → values_from stop n quality text
    ≡ values_from stop m (first_flaw quality (component_value deepest text).0)
    (component_value deepest text).1
values_step stop n m quality text k e = rw (k, e) refl

pub more_stop : (join : Truth → Truth → Truth) (word : List ℕ) (read : Reads) (n : ℕ)
    (outcome : Outcome) (text : List ℕ)
    → past_keyword word (past_gap text) ≡ None
    → more_from join word read n outcome text ≡ (outcome, text)
more_stop join word read zero outcome text e = refl
more_stop join word read (suc n) outcome text e = rw e refl

pub more_step : (join : Truth → Truth → Truth) (word : List ℕ) (read : Reads) (n m : ℕ)
    (outcome : Outcome) (text after : List ℕ)
    → n ≡ suc m → past_keyword word (past_gap text) ≡ Some after
    → more_from join word read n outcome text
    ≡ more_from join word read m (joined join outcome (read (past_gap after)).0)
    (read (past_gap after)).1
more_step join word read n m outcome text after k e = rw (k, e) refl

letters_none : (word : List ℕ) → past_letters word None ≡ None
letters_none [] = refl
letters_none (letter ∷ word) = letters_none word

pub letters_stop : (letter : ℕ) (word text : List ℕ) → past_letter letter (to_ascii_uppercase letter) text ≡ None
    → past_letters (letter ∷ word) (Some text) ≡ None
letters_stop letter word text e = rw e (letters_none word)

pub parens_open : (enclosed : Truth) (function : List ℕ → List ℕ → Truth) (leaf : Reads) (n m : ℕ)
    (text : List ℕ) → n ≡ suc m → starts open_parenthesis text ≡ true
    → in_parens enclosed function leaf n text
    ≡ closed enclosed (inside_by (in_parens enclosed function leaf m) leaf (past_gap (past_one text)))
unfolding in_parens
parens_open enclosed function leaf n m text k e = rw (k, e) refl

pub parens_function : (enclosed : Truth) (function : List ℕ → List ℕ → Truth) (leaf : Reads) (n m : ℕ)
    (text : List ℕ) → n ≡ suc m → starts open_parenthesis text ≡ false
    → begins_function text ≡ true
    → in_parens enclosed function leaf n text ≡ function_at function text
unfolding in_parens
parens_function enclosed function leaf n m text k e b = rw (k, e, b) refl

pub parens_deep : (enclosed : Truth) (function : List ℕ → List ℕ → Truth) (leaf : Reads) (n : ℕ)
    (text : List ℕ) → n ≡ 0
    → in_parens enclosed function leaf n text ≡ (Broken, (component_value deepest text).1)
unfolding in_parens
parens_deep enclosed function leaf n text k = rw k refl

pub parens_unfit : (enclosed : Truth) (function : List ℕ → List ℕ → Truth) (leaf : Reads) (n m : ℕ)
    (text : List ℕ) → n ≡ suc m → starts open_parenthesis text ≡ false
    → begins_function text ≡ false
    → in_parens enclosed function leaf n text ≡ (Unfit, text)
unfolding in_parens
parens_unfit enclosed function leaf n m text k e b = rw (k, e, b) refl

pub queries_step : (is_type : List ℕ → Bool) (ask : Asks) (n m : ℕ) (truth : Truth) (text : List ℕ)
    → n ≡ suc m → is_true truth ≡ false → starts comma text ≡ true
    → some_query is_type ask n (truth, text)
    ≡ some_query is_type ask m (or_query truth (whole_query is_type ask (past_one text)))
queries_step is_type ask n m truth text k t e = rw (k, t, e) refl

pub queries_stop : (is_type : List ℕ → Bool) (ask : Asks) (n : ℕ) (truth : Truth) (text : List ℕ)
    → (is_true truth || not (starts comma text)) ≡ true
    → some_query is_type ask n (truth, text) ≡ truth
queries_stop is_type ask zero truth text e = refl
queries_stop is_type ask (suc n) truth text e = rw e refl

pub parted_here : (n m : ℕ) (text : List ℕ) → n ≡ suc m → starts_by is_space text ≡ true
    → parted_from n text ≡ true
parted_here n m text k e = rw (k, e) refl

pub parted_step : (n m : ℕ) (text : List ℕ) → n ≡ suc m → starts_by is_space text ≡ false
    → parted_from n text ≡ then_parted (parted_from m) (gap_part text)
parted_step n m text k e = rw (k, e) refl

pub amounts_stop : (sign : List ℕ → Option (Step × List ℕ)) (read : Amounts) (n : ℕ) (it : Amount)
    (text : List ℕ) → sign text ≡ None → amounts_from sign read n it text ≡ Some (it, text)
amounts_stop sign read zero it text e = refl
amounts_stop sign read (suc n) it text e = rw e refl

pub amounts_unread : (sign : List ℕ → Option (Step × List ℕ)) (read : Amounts) (n m : ℕ) (it : Amount)
    (text : List ℕ) (step : Step) (after : List ℕ)
    → n ≡ suc m → sign text ≡ Some (step, after) → read (past_gap after) ≡ None
    → amounts_from sign read n it text ≡ None
amounts_unread sign read n m it text step after k e r = rw (k, e, r) refl

pub amounts_lost : (sign : List ℕ → Option (Step × List ℕ)) (read : Amounts) (n m : ℕ) (it other : Amount)
    (text : List ℕ) (step : Step) (after rest : List ℕ)
    → n ≡ suc m → sign text ≡ Some (step, after) → read (past_gap after) ≡ Some (other, rest)
    → by_step step it other ≡ None
    → amounts_from sign read n it text ≡ None
amounts_lost sign read n m it other text step after rest k e r s = rw (k, e, r, s) refl

pub amounts_step : (sign : List ℕ → Option (Step × List ℕ)) (read : Amounts) (n m : ℕ)
    (it other next : Amount) (text : List ℕ) (step : Step) (after rest : List ℕ)
    → n ≡ suc m → sign text ≡ Some (step, after) → read (past_gap after) ≡ Some (other, rest)
    → by_step step it other ≡ Some next
    → amounts_from sign read n it text ≡ amounts_from sign read m next rest
amounts_step sign read n m it other next text step after rest k e r s = rw (k, e, r, s) refl

pub operand_deep : (view : View) (n : ℕ) (text : List ℕ) → n ≡ 0 → operand view n text ≡ None
unfolding operand
operand_deep view n text k = rw k refl

pub operand_bare : (view : View) (n m : ℕ) (text : List ℕ) → n ≡ suc m → opened text ≡ None
    → operand view n text ≡ dimension view text
unfolding operand
operand_bare view n m text k e = rw (k, e) refl

pub operand_open : (view : View) (n m : ℕ) (text inside : List ℕ) → n ≡ suc m → opened text ≡ Some inside
    → operand view n text ≡ enclosed (terms (operand view m) (past_gap inside))
unfolding operand
operand_open view n m text inside k e = rw (k, e) refl

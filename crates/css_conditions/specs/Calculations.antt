-- Calculations of constants (CSS Values and Units 4, section 10): `calc()` with numbers, lengths and
-- resolutions, as it can be where there are no elements.
use Rattle.std.specs.Prelude.{ℕ, zero, suc, Bool, false, not, ◌||◌, ◌&&◌, ◌==◌, if◌then◌else◌, List, [], ◌∷◌, length, Option, Some, None, codes}
use Rattle.css_text.specs.AsciiBytes.{open_parenthesis, hyphen, plus_sign}
use Rattle.css_text.specs.Reading.{before}
use Rattle.css_text.specs.Bytes.{past_one, starts, starts_by}
use Rattle.css_text.specs.Characters.{is_space}
use Rattle.css_syntax.specs.Tokens.{gap_part, past_gap, past_word, spells}
use Rattle.css_conditions.specs.declared.amounts.Amount.{Amount}
use Rattle.css_conditions.specs.declared.amounts.Step.{Step}
use Rattle.css_conditions.specs.declared.amounts.Step.TheVariants.{Add, Subtract, Multiply, Divide}
use Rattle.css_conditions.specs.declared.quantities.View.{View}
use Rattle.css_conditions.specs.Amounts.{by_step}
use Rattle.css_conditions.specs.Quantities.{dimension}
use Rattle.css_conditions.specs.Words.{begins_function, ends_parens}

-- reading an amount: it, and the rest
abbrev pub Amounts : Type 0
Amounts = List ℕ → Option (Amount × List ℕ)

-- ---- signs

-- the rest after a blank or a comment has a space
abbrev pub then_parted : (List ℕ → Bool) → Option (Unit {0} × List ℕ) → Bool
then_parted next None = false
then_parted next (Some r) = next r.1

-- a space is next, after at most `n` comments
abbrev pub parted_from : ℕ → List ℕ → Bool
parted_from zero text = false
parted_from (suc n) text = starts_by is_space text || then_parted (parted_from n) (gap_part text)

-- a space is next, after any comments
unfoldable pub is_parted : List ℕ → Bool
is_parted text = parted_from (length text) text

-- `*` or `/`
abbrev pub factor_sign : List ℕ → Option (Step × List ℕ)
factor_sign [] = None
factor_sign (b ∷ text) =
    if b == 42 then Some (Multiply, text) else (if b == 47 then Some (Divide, text) else None)

-- `+` or `-`
abbrev pub term_sign : List ℕ → Option (Step × List ℕ)
term_sign [] = None
term_sign (b ∷ text) =
    if not (is_parted text) then None
    else (if b == plus_sign then Some (Add, text)
    else (if b == hyphen then Some (Subtract, text) else None))

-- a sign between factors, after blanks
abbrev pub before_factor : List ℕ → Option (Step × List ℕ)
before_factor text = factor_sign (past_gap text)

-- a sign between terms, which has spaces on both sides
abbrev pub before_term : List ℕ → Option (Step × List ℕ)
before_term text = if is_parted text then term_sign (past_gap text) else None

-- ---- sums and products

-- what follows after a step, if there is what it gives
abbrev pub then_next : (Amount → Amounts) → Option Amount → Amounts
then_next next None text = None
then_next next (Some it) text = next it text

-- a step with what was read
abbrev pub stepped : (Amount → Amounts) → Amount → Step → Option (Amount × List ℕ) → Option (Amount × List ℕ)
stepped next it step None = None
stepped next it step (Some r) = then_next next (by_step step it r.0) r.1

-- one more amount, if a sign is next
abbrev pub one_more :
    Amounts → (Amount → Amounts) → Amount → List ℕ → Option (Step × List ℕ) → Option (Amount × List ℕ)
one_more read next it text None = Some (it, text)
one_more read next it text (Some r) = stepped next it r.0 (read (past_gap r.1))

-- at most `n` more
abbrev pub more_from : (List ℕ → Option (Step × List ℕ)) → Amounts → ℕ → Amount → Amounts
more_from sign read zero it text = Some (it, text)
more_from sign read (suc n) it text = one_more read (more_from sign read n) it text (sign text)

-- as many as there are, after the first
unfoldable pub more : (List ℕ → Option (Step × List ℕ)) → Amounts → Option (Amount × List ℕ) → Option (Amount × List ℕ)
more sign read None = None
more sign read (Some r) = more_from sign read (length r.1) r.0 r.1

-- a product
unfoldable pub factors : Amounts → Amounts
factors read text = more before_factor read (read text)

-- a sum of products
unfoldable pub terms : Amounts → Amounts
terms read text = more before_term (factors read) (factors read text)

-- ---- what is in parentheses

-- the names with which a calculation begins
abbrev pub begins_calculation : List ℕ → Bool
begins_calculation text =
    begins_function text && (spells (codes "calc") (before text (past_word text))
    || spells (codes "-webkit-calc") (before text (past_word text)))

-- the rest after the parenthesis with which a calculation begins
abbrev pub opened : List ℕ → Option (List ℕ)
opened text =
    if starts open_parenthesis text then Some (past_one text)
    else (if begins_calculation text then Some (past_one (past_word text)) else None)

-- what was read, if the parentheses end after it
abbrev pub enclosed : Option (Amount × List ℕ) → Option (Amount × List ℕ)
enclosed None = None
enclosed (Some r) =
    if ends_parens (past_gap r.1) then Some (r.0, past_one (past_gap r.1)) else None

-- what is in parentheses, or an amount without any
abbrev pub by_opening : View → Amounts → List ℕ → Option (List ℕ) → Option (Amount × List ℕ)
by_opening view read text None = dimension view text
by_opening view read text (Some inside) = enclosed (terms read (past_gap inside))

-- what is in parentheses, nested at most `n` deep, or an amount without any
unfoldable pub operand : View → ℕ → Amounts
operand view zero text = None
operand view (suc n) text = by_opening view (operand view n) text (opened text)

-- The values of features that are compared (Media Queries 4, sections 2.4 and 4 to 6), and how a device
-- compares with them.
use Rattle.std.specs.Prelude.{ℕ, Bool, true, ◌||◌, ◌&&◌, ◌==◌, ◌-◌, nat_lt, nat_le, if◌then◌else◌, List, Option, Some, None}
use Rattle.css_text.specs.AsciiBytes.{open_parenthesis, hyphen}
use Rattle.css_text.specs.Bytes.{past_one, starts}
use Rattle.css_syntax.specs.Tokens.{past_gap}
use Rattle.css_syntax.specs.ComponentValues.{deepest}
use Rattle.css_conditions.specs.declared.truth.Truth.{Truth}
use Rattle.css_conditions.specs.declared.truth.Truth.TheVariants.{Unknown}
use Rattle.css_conditions.specs.declared.truth.Comparison.{Comparison}
use Rattle.css_conditions.specs.declared.truth.Comparison.TheVariants.{Present, Is, Equal, Less, AtMost, More, AtLeast}
use Rattle.css_conditions.specs.declared.amounts.Amount.{Amount}
use Rattle.css_conditions.specs.declared.amounts.Kind.TheVariants as kinds
use Rattle.css_conditions.specs.declared.quantities.View.{View}
use Rattle.css_conditions.specs.declared.values.Quantity.{Quantity}
use Rattle.css_conditions.specs.declared.values.Quantity.TheVariants.{Length, Resolution, Factor, Whole, Ratio}
use Rattle.css_conditions.specs.declared.values.Measured.{Measured}
use Rattle.css_conditions.specs.Truths.{truth_of}
use Rattle.css_conditions.specs.Words.{begins_function, is_end}
use Rattle.css_conditions.specs.Amounts.{is_number, is_length, is_resolution, cross, fitted, rounded}
use Rattle.css_conditions.specs.Quantities.{number, past_sign, in_unit, signed}
use Rattle.css_conditions.specs.Calculations.{operand}

-- how a number compares with another
abbrev pub compares : Comparison → ℕ → ℕ → Bool
compares Present mine other = true
compares Is mine other = mine == other
compares Equal mine other = mine == other
compares Less mine other = nat_lt mine other
compares AtMost mine other = nat_le mine other
compares More mine other = nat_lt other mine
compares AtLeast mine other = nat_le other mine

-- ---- values

-- an amount, which begins with no parenthesis
abbrev pub amount_at : View → List ℕ → Option (Amount × List ℕ)
amount_at view text = if starts open_parenthesis text then None else operand view deepest text

-- an amount after which nothing is left
abbrev pub ended : Option (Amount × List ℕ) → Option Amount
ended None = None
ended (Some r) = if is_end (past_gap r.1) then Some r.0 else None

-- a value that is one amount
abbrev pub lone : View → List ℕ → Option Amount
lone view text = ended (amount_at view text)

-- a length; zero needs no unit
abbrev pub as_length : Option Amount → Option Amount
as_length None = None
as_length (Some it) =
    if is_length it.kind || is_number it.kind && it.plus == it.minus then Some it else None

-- a resolution, which is below zero only where it is computed
abbrev pub as_resolution : Bool → Option Amount → Option Amount
as_resolution computed None = None
as_resolution computed (Some it) =
    if is_resolution it.kind && (computed || nat_le it.minus it.plus) then Some it else None

-- a number
abbrev pub as_number : Option Amount → Option Amount
as_number None = None
as_number (Some it) = if is_number it.kind then Some it else None

-- digits without a point or an exponent
abbrev pub whole_number : Bool → Option ((ℕ × ℕ) × List ℕ) → Option Amount
whole_number negative None = None
whole_number negative (Some r) =
    if r.0.1 == 1 && is_end (past_gap r.1)
    then signed negative (in_unit r.0 kinds.Number (1, 1)) else None

-- the nearest whole number
abbrev pub as_whole : Option Amount → Option Amount
as_whole None = None
as_whole (Some it) = rounded it

-- an integer: digits, or what is computed, rounded
abbrev pub integer : View → List ℕ → Option Amount
integer view text =
    if begins_function text then as_whole (as_number (lone view text))
    else whole_number (starts hyphen text) (number (past_sign text))

-- one of the numbers of a ratio: it is not below zero
abbrev pub as_part : Option (Amount × List ℕ) → Option (Amount × List ℕ)
as_part None = None
as_part (Some r) = if is_number r.0.kind && nat_le r.0.minus r.0.plus then Some r else None

-- A number over another. What is over zero is infinite, so that zero over zero is one over zero.
abbrev pub quotient : ℕ → ℕ → Amount → Amount → Option Amount
quotient top bottom one other =
    if top == 0 && bottom == 0
    then Some (record { kind = kinds.Number; plus = 1; minus = 0; over = 0 })
    else fitted kinds.Number (cross top other.over 0 0) (Some 0) (cross bottom one.over 0 0)

-- the second number of a ratio, which ends the value
abbrev pub with_second : Amount → Option (Amount × List ℕ) → Option Amount
with_second one None = None
with_second one (Some r) =
    if is_end (past_gap r.1)
    then quotient (one.plus - one.minus) (r.0.plus - r.0.minus) one r.0 else None

-- what follows the first number of a ratio: nothing, or a slash and the second
abbrev pub after_first : View → Amount → List ℕ → Option Amount
after_first view one text =
    if is_end text then Some one
    else (if starts 47 text then with_second one (as_part (amount_at view (past_gap (past_one text))))
    else None)

abbrev pub ratio_from : View → Option (Amount × List ℕ) → Option Amount
ratio_from view None = None
ratio_from view (Some r) = after_first view r.0 (past_gap r.1)

-- what a value says of a quantity
abbrev pub value_of : View → Quantity → List ℕ → Option Amount
value_of view Length text = as_length (lone view text)
value_of view Resolution text = as_resolution (begins_function text) (lone view text)
value_of view Factor text = as_number (lone view text)
value_of view Whole text = integer view text
value_of view Ratio text = ratio_from view (as_part (amount_at view text))

-- ---- comparisons

-- numbers that fit are compared
abbrev pub compared_by : Comparison → Option ℕ → Option ℕ → Truth
compared_by how None other = Unknown
compared_by how (Some one) None = Unknown
compared_by how (Some one) (Some other) = truth_of (compares how one other)

-- what is measured, compared with an amount
abbrev pub compared_with : Measured → Comparison → Option Amount → Truth
compared_with it how None = Unknown
compared_with it how (Some amount) =
    compared_by how (cross it.number amount.over it.over amount.minus)
    (cross it.over amount.plus 0 0)

-- what is measured, compared with a value
unfoldable pub quantity_says : View → Measured → Comparison → List ℕ → Truth
quantity_says view it how value = compared_with it how (value_of view it.quantity value)

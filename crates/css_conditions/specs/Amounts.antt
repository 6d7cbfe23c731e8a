-- Amounts: numbers, lengths in pixels, and resolutions in thousandths of a dot for each pixel. An amount is
-- exact: the difference of two numbers, over a third. One of which a number would pass 2^128 is not known.
use Rattle.std.specs.Prelude.{ℕ, Bool, true, false, ◌==◌, ◌+◌, ◌*◌, ◌-◌, ◌/◌, ◌^◌, nat_lt, nat_le, if◌then◌else◌, Option, Some, None}
use Rattle.css_conditions.specs.declared.amounts.Kind.{Kind}
use Rattle.css_conditions.specs.declared.amounts.Kind.TheVariants.{Number, Length, Resolution}
use Rattle.css_conditions.specs.declared.amounts.Amount.{Amount}
use Rattle.css_conditions.specs.declared.amounts.Step.{Step}
use Rattle.css_conditions.specs.declared.amounts.Step.TheVariants.{Add, Subtract, Multiply, Divide}

-- ---- kinds

abbrev pub is_number : Kind → Bool
is_number Number = true
is_number Length = false
is_number Resolution = false

abbrev pub is_length : Kind → Bool
is_length Number = false
is_length Length = true
is_length Resolution = false

abbrev pub is_resolution : Kind → Bool
is_resolution Number = false
is_resolution Length = false
is_resolution Resolution = true

-- both are of one kind
abbrev pub is_same : Kind → Kind → Bool
is_same Number other = is_number other
is_same Length other = is_length other
is_same Resolution other = is_resolution other

-- ---- numbers that fit

-- the number, if it is below 2^128
abbrev pub fit : ℕ → Option ℕ
fit n = if nat_lt n (2 ^ 128) then Some n else None

-- the sum of two products
abbrev pub cross : ℕ → ℕ → ℕ → ℕ → Option ℕ
cross a b c d = fit (a * b + c * d)

-- the amount, if its numbers fit
abbrev pub fitted : Kind → Option ℕ → Option ℕ → Option ℕ → Option Amount
fitted kind None minus over = None
fitted kind (Some plus) None over = None
fitted kind (Some plus) (Some minus) None = None
fitted kind (Some plus) (Some minus) (Some over) = Some (record {
  kind = kind;
  plus = plus;
  minus = minus;
  over = over;
})

-- ---- sums and products

-- below zero where the amount is above it, and above where it is below
abbrev pub negated : Amount → Amount
negated it = record { kind = it.kind; plus = it.minus; minus = it.plus; over = it.over }

-- both together, if they are of one kind
abbrev pub sum_of : Amount → Amount → Option Amount
sum_of one other =
    if is_same one.kind other.kind
    then fitted one.kind (cross one.plus other.over other.plus one.over)
    (cross one.minus other.over other.minus one.over) (cross one.over other.over 0 0)
    else None

-- one as often as the other says, as an amount of this kind
abbrev pub product_in : Kind → Amount → Amount → Option Amount
product_in kind one other =
    fitted kind (cross one.plus other.plus one.minus other.minus)
    (cross one.plus other.minus one.minus other.plus) (cross one.over other.over 0 0)

-- the product, if one of them is a number
abbrev pub product_of : Amount → Amount → Option Amount
product_of one other =
    if is_number one.kind then product_in other.kind one other
    else (if is_number other.kind then product_in one.kind one other else None)

-- one over the amount, which is not zero
abbrev pub inverse : Amount → Option Amount
inverse it =
    if nat_lt it.minus it.plus
    then Some (record { kind = it.kind; plus = it.over; minus = 0; over = it.plus - it.minus })
    else (if nat_lt it.plus it.minus
    then Some (record { kind = it.kind; plus = 0; minus = it.over; over = it.minus - it.plus })
    else None)

-- the quotient, as an amount of this kind
abbrev pub quotient_in : Kind → Amount → Option Amount → Option Amount
quotient_in kind one None = None
quotient_in kind one (Some inverted) = product_in kind one inverted

-- the quotient by a number, or by an amount of the same kind, which gives a number
abbrev pub quotient_of : Amount → Amount → Option Amount
quotient_of one other =
    if is_number other.kind then quotient_in one.kind one (inverse other)
    else (if is_same one.kind other.kind then quotient_in Number one (inverse other) else None)

abbrev pub by_step : Step → Amount → Amount → Option Amount
by_step Add one other = sum_of one other
by_step Subtract one other = sum_of one (negated other)
by_step Multiply one other = product_of one other
by_step Divide one other = quotient_of one other

-- ---- whole numbers

-- a whole number
abbrev pub whole : ℕ → Amount
whole number = record { kind = Number; plus = number; minus = 0; over = 1 }

-- a number below zero; each compares alike with what is not
abbrev pub below_zero : Amount
below_zero = record { kind = Number; plus = 0; minus = 1; over = 1 }

-- the difference of two numbers over a third, without its fraction
abbrev pub floor_of : Option ℕ → Option ℕ → Option ℕ → Option Amount
floor_of None minus over = None
floor_of (Some plus) None over = None
floor_of (Some plus) (Some minus) None = None
floor_of (Some plus) (Some minus) (Some over) =
    if over == 0 then None
    else (if nat_le minus plus then Some (whole ((plus - minus) / over)) else Some below_zero)

-- the nearest whole number, the greater one of two: what is left of one half more without its fraction
abbrev pub rounded : Amount → Option Amount
rounded it = floor_of (cross 2 it.plus 1 it.over) (cross 2 it.minus 0 0) (cross 2 it.over 0 0)

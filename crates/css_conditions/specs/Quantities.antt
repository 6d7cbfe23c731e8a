-- Numbers and units (CSS Values and Units 4, sections 5 and 6), each an exact amount.
use Rattle.std.specs.Prelude.{ℕ, Bool, not, ◌||◌, ◌&&◌, ◌+◌, ◌*◌, ◌-◌, ◌^◌, nat_lt, nat_le, if◌then◌else◌, List, [], ◌∷◌, Option, Some, None, codes}
use Rattle.css_text.specs.AsciiBytes.{hyphen, plus_sign, full_stop}
use Rattle.css_text.specs.Reading.{before}
use Rattle.css_text.specs.Bytes.{is_digit, past_one, starts, starts_by}
use Rattle.css_syntax.specs.Tokens.{past_word, spells}
use Rattle.css_conditions.specs.declared.amounts.Kind.{Kind}
use Rattle.css_conditions.specs.declared.amounts.Kind.TheVariants.{Number, Length, Resolution}
use Rattle.css_conditions.specs.declared.amounts.Amount.{Amount}
use Rattle.css_conditions.specs.declared.quantities.View.{View}
use Rattle.css_conditions.specs.Amounts.{cross, fitted, negated}
use Rattle.css_conditions.specs.Words.{is_end}

-- ---- numbers

-- the greatest number to which a digit is added
abbrev pub most : ℕ
most = 99999999999999999

-- Digits after a number so far, which is over `scale`: the number, what it is over, and the rest. None if
-- there are more than 18.
abbrev pub digits_from : ℕ → ℕ → List ℕ → Option ((ℕ × ℕ) × List ℕ)
digits_from so_far scale [] = Some ((so_far, scale), [])
digits_from so_far scale (b ∷ text) =
    if not (is_digit b) then Some ((so_far, scale), b ∷ text)
    else (if nat_lt most so_far || nat_lt most scale then None
    else digits_from (10 * so_far + (b - 48)) (10 * scale) text)

-- a point and a digit
abbrev pub begins_fraction : List ℕ → Bool
begins_fraction text = starts full_stop text && starts_by is_digit (past_one text)

-- the digits after a point, if they follow
abbrev pub with_fraction : Option ((ℕ × ℕ) × List ℕ) → Option ((ℕ × ℕ) × List ℕ)
with_fraction None = None
with_fraction (Some r) =
    if begins_fraction r.1 then digits_from r.0.0 1 (past_one r.1) else Some ((r.0.0, 1), r.1)

-- a number without a sign or an exponent: it is `r.0.0` over `r.0.1`
abbrev pub number : List ℕ → Option ((ℕ × ℕ) × List ℕ)
number text =
    if starts_by is_digit text || begins_fraction text then with_fraction (digits_from 0 1 text)
    else None

-- the rest after a sign, if one is next
abbrev pub past_sign : List ℕ → List ℕ
past_sign text = if starts hyphen text || starts plus_sign text then past_one text else text

-- an `e`, and digits after it, with or without a sign
abbrev pub begins_exponent : List ℕ → Bool
begins_exponent text =
    (starts 101 text || starts 69 text) && starts_by is_digit (past_sign (past_one text))

-- a number over another, and so many zeros more or less; none if there are more than 18
abbrev pub raised : ℕ × ℕ → Bool → Option ((ℕ × ℕ) × List ℕ) → Option ((ℕ × ℕ) × List ℕ)
raised of negative None = None
raised of negative (Some r) =
    if nat_lt 18 r.0.0 then None
    else (if negative then Some ((of.0, of.1 * 10 ^ r.0.0), r.1)
    else Some ((of.0 * 10 ^ r.0.0, of.1), r.1))

-- the exponent of a number, if one follows
abbrev pub with_exponent : Option ((ℕ × ℕ) × List ℕ) → Option ((ℕ × ℕ) × List ℕ)
with_exponent None = None
with_exponent (Some r) =
    if begins_exponent r.1
    then raised r.0 (starts hyphen (past_one r.1)) (digits_from 0 1 (past_sign (past_one r.1)))
    else Some r

-- ---- units

-- How many pixels a unit of length is: the first number over the second. In a media query an em is 16
-- pixels, since no style sheet makes the letters of the initial font larger. How large they are in that font
-- is not known, so that an `ex` and a `ch` are half an em, and an `ic` is an em.
abbrev pub length_unit : List ℕ → Option (ℕ × ℕ)
length_unit name =
    if spells (codes "px") name then Some (1, 1)
    else (if spells (codes "em") name || spells (codes "rem") name || spells (codes "pc") name
    || spells (codes "ic") name
    then Some (16, 1)
    else (if spells (codes "ex") name || spells (codes "ch") name then Some (8, 1)
    else (if spells (codes "in") name then Some (96, 1)
    else (if spells (codes "cm") name then Some (4800, 127)
    else (if spells (codes "mm") name then Some (480, 127)
    else (if spells (codes "q") name then Some (120, 127)
    else (if spells (codes "pt") name then Some (4, 3) else None)))))))

-- the lesser one, and the greater one
abbrev pub lesser : ℕ → ℕ → ℕ
lesser one other = if nat_le one other then one else other

abbrev pub greater : ℕ → ℕ → ℕ
greater one other = if nat_le one other then other else one

-- how many pixels a unit of the viewport is: a hundredth of its width, its height, or one of them
abbrev pub view_unit : View → List ℕ → Option (ℕ × ℕ)
view_unit view name =
    if spells (codes "vw") name || spells (codes "vi") name then Some (view.width, 100)
    else (if spells (codes "vh") name || spells (codes "vb") name then Some (view.height, 100)
    else (if spells (codes "vmin") name then Some (lesser view.width view.height, 100)
    else (if spells (codes "vmax") name then Some (greater view.width view.height, 100)
    else None)))

-- how many thousandths of a dot for each pixel a unit of resolution is
abbrev pub resolution_unit : List ℕ → Option (ℕ × ℕ)
resolution_unit name =
    if spells (codes "dppx") name || spells (codes "x") name then Some (1000, 1)
    else (if spells (codes "dpi") name then Some (125, 12)
    else (if spells (codes "dpcm") name then Some (635, 24) else None))

-- a number over a scale in a unit of this kind
abbrev pub in_unit : ℕ × ℕ → Kind → ℕ × ℕ → Option Amount
in_unit n kind unit =
    fitted kind (cross n.0 unit.0 0 0) (Some 0) (cross n.1 unit.1 0 0)

-- the same, in the first of the units that is there
abbrev pub by_resolution : ℕ × ℕ → Option (ℕ × ℕ) → Option Amount
by_resolution n None = None
by_resolution n (Some unit) = in_unit n Resolution unit

abbrev pub by_view : ℕ × ℕ → List ℕ → Option (ℕ × ℕ) → Option Amount
by_view n name None = by_resolution n (resolution_unit name)
by_view n name (Some unit) = in_unit n Length unit

abbrev pub by_length : View → ℕ × ℕ → List ℕ → Option (ℕ × ℕ) → Option Amount
by_length view n name None = by_view n name (view_unit view name)
by_length view n name (Some unit) = in_unit n Length unit

-- a number over a scale with what stands after it: nothing, or a unit
abbrev pub with_unit : View → ℕ × ℕ → List ℕ → Option Amount
with_unit view n name =
    if is_end name then in_unit n Number (1, 1) else by_length view n name (length_unit name)

-- an amount, and the rest
abbrev pub found_at : List ℕ → Option Amount → Option (Amount × List ℕ)
found_at text None = None
found_at text (Some it) = Some (it, text)

-- below zero, if that is said
abbrev pub signed : Bool → Option Amount → Option Amount
signed negative None = None
signed negative (Some it) = Some (if negative then negated it else it)

-- a number with a unit after it
abbrev pub unit_after : View → Bool → Option ((ℕ × ℕ) × List ℕ) → Option (Amount × List ℕ)
unit_after view negative None = None
unit_after view negative (Some r) =
    found_at (past_word r.1) (signed negative (with_unit view r.0 (before r.1 (past_word r.1))))

-- a number, a length or a resolution: a sign, digits and a unit
abbrev pub dimension : View → List ℕ → Option (Amount × List ℕ)
dimension view text =
    unit_after view (starts hyphen text) (with_exponent (number (past_sign text)))

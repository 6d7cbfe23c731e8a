-- A value that is read up to a property that is not known: what was put together of it, and what is
-- left to read.
use Rattle.std.specs.Prelude.{◌≡◌, ℕ, ◌<◌, ◌+◌, ◌-◌, suc, Bool, true, false, if◌then◌else◌, List, [], ◌∷◌, ◌++◌, length, map, Option, Some, None}
use Rattle.css_values.specs.Pieces.{Piece, plain, reference, broken, pieces}
use Rattle.css_values.specs.Substitution.{Value, Outcome, invalid, is, waits, Target, bad, absent, unknown, found, nothing, written, in_place, outcome_in_place, then_value, piece_value, put_together, substituted}
use Rattle.css_values.specs.Resolution.{Property, Known, not_yet, computed, known_at, named}
use Rattle.css_values.specs.declared.readings.Step.{Step as StepTaken}
use Rattle.css_values.specs.declared.readings.Step.TheVariants as steps
use Rattle.css_values.specs.declared.readings.Turn.{Turn}
use Rattle.css_values.specs.declared.readings.Turn.TheVariants as turns
use Rattle.css_values.specs.declared.readings.Outer.{Outer}
use Rattle.css_values.specs.declared.readings.Reading.{Reading as StoredReading}
use Rattle.css_values.specs.Views.{draft_of}

-- what reading a piece leads to
pub data Step : Type 0 where
  moves : Outcome → Step
  stops : ℕ → Step
  enters : List ℕ → Step

abbrev pub fallback_step : Bool → Option (List ℕ) → Step
fallback_step nests None = moves invalid
fallback_step nests (Some inner) = if nests then enters inner else moves invalid

abbrev pub reference_step : ℕ → Bool → Outcome → Target → Option (List ℕ) → Step
reference_step limit nests so_far bad fallback = moves invalid
reference_step limit nests so_far absent fallback = fallback_step nests fallback
reference_step limit nests so_far (unknown n) fallback = stops n
reference_step limit nests so_far (found value) fallback =
    moves (then_value limit so_far (is (in_place value)))

-- a piece after what was put together; fallbacks are read if they may nest deeper
abbrev pub piece_step : ℕ → Bool → (List ℕ → Target) → Outcome → Piece → Step
piece_step limit nests names so_far (plain text) =
    moves (then_value limit so_far (is (written text)))
piece_step limit nests names so_far (reference name fallback) =
    reference_step limit nests so_far (names name) fallback
piece_step limit nests names so_far broken = moves invalid

abbrev pub step_of : StepTaken → Outcome → Step
step_of steps.Moves after = moves after
step_of (steps.Waits n) after = stops n
step_of (steps.Enters inner) after = enters inner.now

-- what was put together, the rest, and the same of what is outside of the fallback that is read,
-- from the outermost
pub record Reading : Type 0 where
  pub so_far : Outcome
  pub rest : List ℕ
  pub outer : List (Outcome × List ℕ)

abbrev pub outer_of : Outer → Outcome × List ℕ
outer_of o = (draft_of o.draft, o.rest.now)

abbrev pub reading_of : StoredReading → Reading
reading_of r = record {
  so_far = draft_of r.draft;
  rest = r.rest.now;
  outer = map outer_of r.outer.items;
}

-- what the rest makes of what was put together, with fallbacks nested at most `n` deep
abbrev pub to_come : ℕ → ℕ → (List ℕ → Target) → Outcome → List ℕ → Outcome
to_come n limit names so_far rest =
    put_together (piece_value (substituted n limit names) names) limit so_far (pieces rest)

-- what is outside makes of what the fallback comes to
abbrev pub finish : ℕ → ℕ → (List ℕ → Target) → List (Outcome × List ℕ) → Outcome → Outcome
finish n limit names [] inner = inner
finish n limit names (o ∷ more) inner =
    to_come n limit names
    (then_value limit o.0 (outcome_in_place (finish (n - 1) limit names more inner))) o.1

-- what the value comes to
abbrev pub run : ℕ → (List ℕ → Target) → Reading → Outcome
run limit names r =
    finish 65 limit names r.outer
    (to_come (65 - length r.outer) limit names r.so_far r.rest)

-- what is known stays
abbrev pub Extends : List Known → List Known → Type 0
Extends s t = (n : ℕ) (value : Option Value) → known_at s n ≡ computed value → known_at t n ≡ computed value

-- both come to the same, however much becomes known
abbrev pub Same : ℕ → List Property → List Known → Reading → Reading → Type 0
Same limit properties s old new =
    (t : List Known) → Extends s t
    → run limit (named properties t) new ≡ run limit (named properties t) old

-- as long as the property of this number is not known, the value waits for it
abbrev pub Stops : ℕ → List Property → List Known → ℕ → Reading → Type 0
Stops limit properties s n r =
    (t : List Known) → Extends s t → known_at t n ≡ not_yet
    → run limit (named properties t) r ≡ waits n

-- the value comes to what was put together
abbrev pub Ends : ℕ → List Property → List Known → Reading → Type 0
Ends limit properties s r =
    (t : List Known) → Extends s t → run limit (named properties t) r ≡ r.so_far

-- the property of this number is one that is not known
abbrev pub IsUnknown : List Property → List Known → ℕ → Type 0
IsUnknown properties s n = (known_at s n ≡ not_yet) × (n < length properties)

-- how much is left to read
abbrev pub outer_size : List (Outcome × List ℕ) → ℕ
outer_size [] = 0
outer_size (o ∷ more) = suc (length o.1) + outer_size more

abbrev pub size : Reading → ℕ
size r = length r.rest + outer_size r.outer

-- the fallback ends, if one is read
abbrev pub Leaves : ℕ → Reading → Bool → Reading → Type 0
Leaves limit old false new = (old.outer ≡ []) × (new ≡ old)
Leaves limit old true new =
    (before : Outcome) × (old.outer ≡ new.outer ++ (before, new.rest) ∷ [])
    × (new.so_far ≡ then_value limit before (outcome_in_place old.so_far))

-- a step is taken, where the piece has this rest after it
abbrev pub Takes : Step → List ℕ → Reading → Turn → Reading → Type 0
Takes (moves after) left old turn new =
    (turn ≡ turns.GoesOn) × (new ≡ record { so_far = after; rest = left; outer = old.outer })
Takes (stops n) left old turn new = (turn ≡ turns.Waits n) × (new ≡ old)
Takes (enters inner) left old turn new =
    (turn ≡ turns.GoesOn) × (new ≡ record {
      so_far = is nothing;
      rest = inner;
      outer = old.outer ++ (old.so_far, left) ∷ [];
    })

-- what a turn leads to
abbrev pub TurnsTo : ℕ → List Property → List Known → Reading → Turn → Reading → Type 0
TurnsTo limit properties s old turns.GoesOn new = Same limit properties s old new × (size new < size old)
TurnsTo limit properties s old turns.Ends new = (new ≡ old) × Ends limit properties s old
TurnsTo limit properties s old (turns.Waits n) new =
    (new ≡ old) × IsUnknown properties s n × Stops limit properties s n old

-- what reading on leads to
abbrev pub ReadsTo : ℕ → List Property → List Known → Reading → Option ℕ → Reading → Type 0
ReadsTo limit properties s old None new =
    Same limit properties s old new × Ends limit properties s new
ReadsTo limit properties s old (Some n) new =
    Same limit properties s old new × IsUnknown properties s n × Stops limit properties s n new

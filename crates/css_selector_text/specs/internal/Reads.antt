-- What a call that reads returned, as the definitions say.
use Rattle.std.specs.Prelude.{◌≡◌, ◌≢◌, ℕ, List, Option, Some, None, Result, Ok, Err}
use Rattle.std.specs.Borrow.{Bor}
use Rattle.css_selector_text.specs.declared.refusal.Refusal.{Refusal}
use Rattle.css_selector_text.specs.declared.refusal.Why.TheVariants.{Memory}
use Rattle.css_selector_text.specs.reading.Readings.{Reading, got, refused, Step, item, none, stop}

-- what a call that allocates nothing returned; `view` shows a value as the definitions see it
abbrev pub reading_of : {T A : Type 0} → (T → A) → Result (T × Bor (List ℕ)) Refusal → Reading A
reading_of view (Ok x) = got (view x.0) x.1.now
reading_of view (Err e) = refused e.why e.rest.now

-- The same of a call that allocates: if memory was wanting, the reading is not known.
abbrev pub Reads : {T A : Type 0} → (T → A) → Result (T × Bor (List ℕ)) Refusal → Reading A → Type 0
Reads view (Ok x) reading = got (view x.0) x.1.now ≡ reading
Reads view (Err e) reading = e.why ≢ Memory → refused e.why e.rest.now ≡ reading

abbrev pub Finds : {T A : Type 0} → (T → A) → Result (Option (T × Bor (List ℕ))) Refusal → Step A
    → Type 0
Finds view (Ok None) step = none ≡ step
Finds view (Ok (Some x)) step = item (view x.0) x.1.now ≡ step
Finds view (Err e) step = e.why ≢ Memory → stop e.why e.rest.now ≡ step

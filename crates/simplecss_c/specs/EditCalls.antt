-- What the call that edits a style sheet leaves in its caller's memory.
use Rattle.std.specs.Prelude.{◌≡◌, ℕ, List}
use Rattle.call_answers.specs.Answers.{IsHandedOver}
use Rattle.css_edit_calls.specs.EditCalls.{IsEditedBy}

-- At status 0 the sheet with edits is handed over. At any other the buffer is unchanged.
abbrev pub IsSheetEditCall : (sheet numbers strings ends : List ℕ) → (status : ℕ) → (old new : List ℕ)
    → (len : ℕ) → Type 0
IsSheetEditCall sheet numbers strings ends status old new len =
    (status ≡ 0 → (text : List ℕ) × IsEditedBy sheet numbers strings ends text
    × IsHandedOver text status old new len)
    × (¬ (status ≡ 0) → new ≡ old)

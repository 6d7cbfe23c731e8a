-- What a call leaves in its caller's memory.
use Rattle.std.specs.Prelude.{◌≡◌, ℕ, ◌<◌, ◌≤◌, List, ◌++◌, length, drop, Result, Ok, Err}
use Rattle.call_answers.specs.declared.elements.ElementFault.{ElementFault}
use Rattle.call_answers.specs.Elements.{fault_number, fault_element}
use Rattle.call_answers.specs.declared.answer.CallError.{CallError}
use Rattle.css_text.specs.declared.SheetError.{SheetError}
use Rattle.css_text.specs.declared.SheetError.TheVariants as sheet
use Rattle.call_answers.specs.declared.answer.CallError.TheVariants.{Refused, Tree, Memory, TooManyDeclarations, NotUtf8, AnswerTooLong, TooManyLayers}
use Rattle.call_answers.specs.declared.answer.TreeFault.{TreeFault}

-- the status of a failure
abbrev pub status_of : CallError → ℕ
status_of Refused = 1
status_of (Tree fault) = 2
status_of Memory = 3
status_of TooManyDeclarations = 4
status_of NotUtf8 = 5
status_of AnswerTooLong = 4
status_of TooManyLayers = 7

-- the failure of a call whose sheet is not read
abbrev pub failure_of : SheetError → CallError
failure_of sheet.TooManyDeclarations = TooManyDeclarations
failure_of sheet.Memory = Memory

-- The whole text is at the start of the buffer, and the rest of the buffer is unchanged; or the
-- buffer is too small for it, and is unchanged. The length is that of the whole text.
pub data IsHandedOver {A : Type 0} (bytes : List A) (status : ℕ) (old new : List A) (len : ℕ) :
    Type 0 where
  written : length bytes ≤ length old → status ≡ 0 → new ≡ bytes ++ drop (length bytes) old
      → len ≡ length bytes → IsHandedOver bytes status old new len
  too_small : length old < length bytes → status ≡ 6 → new ≡ old → len ≡ length bytes
      → IsHandedOver bytes status old new len

-- The text is handed over; or the status is that of the failure, the buffer is unchanged, and the
-- length is 0.
abbrev pub Answers : Result (List ℕ) CallError → ℕ → List ℕ → List ℕ → ℕ → Type 0
Answers (Ok bytes) status old new len = IsHandedOver bytes status old new len
Answers (Err failure) status old new len = (status ≡ status_of failure) × (new ≡ old) × (len ≡ 0)

-- the number of a fault's kind and of its element
abbrev pub tree_fault_of : ElementFault → TreeFault
tree_fault_of fault = record { fault = fault_number fault; element = fault_element fault }

-- if the failure is a fault of the tree this is its number and the element's; else it is unchanged
abbrev pub IsFaultSet : Result (List ℕ) CallError → TreeFault → TreeFault → Type 0
IsFaultSet (Ok bytes) old new = new ≡ old
IsFaultSet (Err Refused) old new = new ≡ old
IsFaultSet (Err (Tree fault)) old new = new ≡ tree_fault_of fault
IsFaultSet (Err Memory) old new = new ≡ old
IsFaultSet (Err TooManyDeclarations) old new = new ≡ old
IsFaultSet (Err NotUtf8) old new = new ≡ old
IsFaultSet (Err AnswerTooLong) old new = new ≡ old
IsFaultSet (Err TooManyLayers) old new = new ≡ old

-- One of the outcomes that a call may have is handed over.
abbrev pub IsAnswered : (Result (List ℕ) CallError → Type 0) → ℕ → List ℕ → List ℕ → ℕ → Type 0
IsAnswered IsOutcome status old new len =
    (outcome : Result (List ℕ) CallError) × IsOutcome outcome × Answers outcome status old new len

-- the same of a call over a tree, which sets its fault
abbrev pub IsAnsweredOfTree : (Result (List ℕ) CallError → Type 0) → ℕ → List ℕ → List ℕ → ℕ
    → TreeFault → TreeFault → Type 0
IsAnsweredOfTree IsOutcome status old new len fault_before fault =
    (outcome : Result (List ℕ) CallError) × IsOutcome outcome × Answers outcome status old new len
    × IsFaultSet outcome fault_before fault

-- Why a sheet was not read within a limit.
-- Serves `calls::read_sheet` and the calls that use it (their failures).
use Rattle.std.proofs.Common.{◌≡◌, refl, sym, subst}
use Rattle.std.specs.Prelude.{Result, Ok, Err, MatchResult}
use Rattle.std.specs.Result.{IsErrAnd}
use Rattle.css_text.specs.declared.SheetError.{SheetError}
use Rattle.css_text.specs.declared.SheetError.TheVariants as sheet
use Rattle.call_answers.specs.declared.answer.CallError.{CallError}
use Rattle.call_answers.specs.declared.answer.CallError.TheVariants.{Refused, Tree, Memory, TooManyDeclarations, NotUtf8, AnswerTooLong, TooManyLayers}
use Rattle.call_answers.specs.declared.elements.ElementFault.{ElementFault}
use Rattle.call_answers.specs.Answers.{failure_of}
use Rattle.call_answers.specs.Calls.{FailsFor, FailsWithin, FailsLonger}

-- an error of the sheet that is handed on
pub beyond : {V : Type 0} (P : V → Type 0) (r : Result V CallError) (error : SheetError)
    (IsOver : Type 0) → IsErrAnd r (λ failure. failure ≡ failure_of error)
    → (error ≡ sheet.TooManyDeclarations → IsOver)
    → MatchResult r P (FailsWithin ⊥ (λ fault. ⊥) ⊥ IsOver ⊥)
beyond P (Ok x) error IsOver is over = absurd is
beyond P (Err failure) sheet.TooManyDeclarations IsOver is over =
    subst (FailsWithin ⊥ (λ fault. ⊥) ⊥ IsOver ⊥) (sym is) (over refl)
beyond P (Err failure) sheet.Memory IsOver is over =
    subst (FailsWithin ⊥ (λ fault. ⊥) ⊥ IsOver ⊥) (sym is) tt

-- a failure of a call without limits
pub fails_within : (IsRefused : Type 0) (IsFaulty : ElementFault → Type 0)
    (IsBroken IsOver IsLonger : Type 0) (failure : CallError)
    → FailsFor IsRefused IsFaulty IsBroken failure
    → FailsWithin IsRefused IsFaulty IsBroken IsOver IsLonger failure
fails_within R F B O L Refused h = h
fails_within R F B O L (Tree fault) h = h
fails_within R F B O L Memory h = h
fails_within R F B O L TooManyDeclarations h = absurd h
fails_within R F B O L NotUtf8 h = h
fails_within R F B O L AnswerTooLong h = absurd h
fails_within R F B O L TooManyLayers h = absurd h

-- what fails for a reason fails for any wider one
pub within_wider : {R R' B B' O O' L L' : Type 0} {F F' : ElementFault → Type 0} → (R → R')
    → ((fault : ElementFault) → F fault → F' fault) → (B → B') → (O → O') → (L → L')
    → (failure : CallError) → FailsWithin R F B O L failure → FailsWithin R' F' B' O' L' failure
within_wider r f b o l Refused h = r h
within_wider r f b o l (Tree fault) h = f fault h
within_wider r f b o l Memory h = tt
within_wider r f b o l TooManyDeclarations h = o h
within_wider r f b o l NotUtf8 h = b h
within_wider r f b o l AnswerTooLong h = l h
within_wider r f b o l TooManyLayers h = absurd h

-- the same of a call that fails for nothing but a limit on the answer
pub longer_wider : {L L' : Type 0} (R : Type 0) (F : ElementFault → Type 0) (B O : Type 0)
    → (L → L') → (failure : CallError) → FailsLonger L failure → FailsWithin R F B O L' failure
longer_wider R F B O l failure h =
    within_wider (λ is. absurd is) (λ fault is. absurd is) (λ is. absurd is) (λ is. absurd is) l failure h

-- Why texts are no modern selectors.
-- Serves `modern::lists`.
use Rattle.std.proofs.Common.{◌≡◌, ◌≢◌, ℕ, true, false, List, Option, None, ap, sym, subst, ◌∙◌}
use Rattle.std.specs.Prelude.{Result, Ok, Err, MatchResult}
use Rattle.std.specs.Result.{IsErrAnd}
use Rattle.css_selector_text.specs.reading.Readings.{Reading, refused}
use Rattle.css_selector_text.specs.declared.refusal.Why.{Why}
use Rattle.css_selector_text.specs.declared.refusal.Why.TheVariants.{Memory as NoMemory}
use Rattle.call_answers.specs.declared.answer.CallError.{CallError}
use Rattle.call_answers.specs.Calls.{FailsFor}
use Rattle.page_calls.specs.Readings.{is_memory}
use Rattle.call_answers.specs.Failures.{error_of}

pub not-memory : (why : Why) → is_memory why ≡ false → why ≢ NoMemory
not-memory why other = λ is.
    (let both : true ≡ false = ap is_memory (sym is) ∙ other in absurd (cc))

-- why a text is none that is read
due : {A S : Type 0} (get : Reading A → Option S)
    → ((why : Why) (rest : List ℕ) → get (refused why rest) ≡ None)
    → (reading : Reading A) (why : Why) (rest : List ℕ)
    → (why ≢ NoMemory → refused why rest ≡ reading)
    → FailsFor (get reading ≡ None) (λ fault. ⊥) ⊥ (error_of why)
due get none reading NoMemory rest is = tt
due get none reading why rest is =
    ap get (sym (is (λ e. absurd (cc)))) ∙ none why rest

pub refused-due : {A S : Type 0} (get : Reading A → Option S)
    → ((why : Why) (rest : List ℕ) → get (refused why rest) ≡ None)
    → (reading : Reading A) (why : Why) (rest : List ℕ)
    → (why ≢ NoMemory → refused why rest ≡ reading)
    → (error : CallError) → error ≡ error_of why
    → FailsFor (get reading ≡ None) (λ fault. ⊥) ⊥ error
refused-due get none reading why rest is error same =
    subst (FailsFor (get reading ≡ None) (λ fault. ⊥) ⊥) (sym same)
    (due get none reading why rest is)

-- the refusal that is handed on
pub parse-refused : {V A S : Type 0} (Is : V → Type 0) (get : Reading A → Option S)
    → ((why : Why) (rest : List ℕ) → get (refused why rest) ≡ None)
    → (reading : Reading A) (why : Why) (rest : List ℕ)
    → (why ≢ NoMemory → refused why rest ≡ reading)
    → (r : Result V CallError) → IsErrAnd r (λ error. error ≡ error_of why)
    → MatchResult r Is (FailsFor (get reading ≡ None) (λ fault. ⊥) ⊥)
parse-refused Is get none reading why rest is (Ok x) same = absurd same
parse-refused Is get none reading why rest is (Err error) same =
    refused-due get none reading why rest is error same

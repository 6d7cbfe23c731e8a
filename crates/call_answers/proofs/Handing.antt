-- Failures that a call hands on.
-- Serves all calls.
use Rattle.std.proofs.Common.{◌≡◌, ℕ, List, sym, subst}
use Rattle.std.specs.Prelude.{Result, Ok, Err, MatchResult}
use Rattle.std.specs.Result.{IsErrAnd}
use Rattle.std.specs.declared.string.String.{String}
use Rattle.call_answers.specs.declared.answer.CallError.{CallError}
use Rattle.call_answers.specs.Outcomes.{outcome_of}

-- a failure that is handed on
pub handed-on : {Z : Type 0} (Is : Result (List ℕ) CallError → Type 0) (r : Result (String Z) CallError)
    (error : CallError) → IsErrAnd r (λ reported. reported ≡ error) → Is (Err error)
    → Is (outcome_of r)
handed-on Is (Ok text) error is due = absurd is
handed-on Is (Err reported) error is due = subst (λ e. Is (Err e)) (sym is) due

-- the same of a call whose contract has a case for each outcome
pub handed-match : {V : Type 0} (Is : V → Type 0) (Fails : CallError → Type 0)
    (r : Result V CallError) (error : CallError) → IsErrAnd r (λ reported. reported ≡ error)
    → Fails error → MatchResult r Is Fails
handed-match Is Fails (Ok x) error is due = absurd is
handed-match Is Fails (Err reported) error is due = subst Fails (sym is) due

-- What each call must write that reads selectors by a grammar, and when it fails. Without a grammar it
-- is refused.
use Rattle.std.specs.Prelude.{◌≡◌, ℕ, List, Option, None, Some, Result, Err}
use Rattle.call_answers.specs.declared.answer.CallError.{CallError}
use Rattle.call_answers.specs.declared.answer.CallError.TheVariants.{Refused}
use Rattle.simplecss_calls.specs.declared.grammar.Grammar.{Grammar}
use Rattle.simplecss_calls.specs.declared.grammar.Grammar.TheVariants.{Modern, Port}
use Rattle.call_answers.specs.Calls.{Passed, IsPortRefusalCall, IsPortMatchSelectorsCall}
use Rattle.page_calls.specs.ModernCalls.{IsModernRefusalCall, IsModernMatchCall}

-- where the text is no list of selectors, and why, or nothing where it is one, where a tree declares names for
-- modern selectors
abbrev pub IsRefusalCall : Option Grammar → List ℕ → Passed → Result (List ℕ) CallError → Type 0
IsRefusalCall None text passed outcome = outcome ≡ Err Refused
IsRefusalCall (Some (Modern reading)) text passed outcome = IsModernRefusalCall text passed outcome
IsRefusalCall (Some Port) text passed outcome = IsPortRefusalCall text outcome

-- which of the selectors of texts match each element, in at most this number of bytes
abbrev pub IsMatchSelectorsCall : Option Grammar → (most : ℕ) → List ℕ → List ℕ → Passed
    → Result (List ℕ) CallError → Type 0
IsMatchSelectorsCall None most buffer ends passed outcome = outcome ≡ Err Refused
IsMatchSelectorsCall (Some (Modern reading)) most buffer ends passed outcome =
    IsModernMatchCall most buffer ends reading passed outcome
IsMatchSelectorsCall (Some Port) most buffer ends passed outcome =
    IsPortMatchSelectorsCall most buffer ends passed outcome

-- What contracts see of an outcome.
use Rattle.std.specs.Prelude.{ℕ, List, Vec, Result, Ok, Err, codes, string_bytes}
use Rattle.std.specs.declared.string.String.{String}
use Rattle.css_conditions.specs.declared.truth.Truth.{Truth}
use Rattle.css_conditions.specs.declared.truth.Truth.TheVariants.{True, False, Unknown}
use Rattle.call_answers.specs.declared.answer.CallError.{CallError}

-- the bytes of the text, or the failure
abbrev pub outcome_of : {Z : Type 0} → Result (String Z) CallError → Result (List ℕ) CallError
outcome_of (Ok text) = Ok (string_bytes text)
outcome_of (Err failure) = Err failure

-- the numbers, or the failure
abbrev pub numbers_outcome : {Z : Type 0} → Result (Vec ℕ Z) CallError → Result (List ℕ) CallError
numbers_outcome (Ok numbers) = Ok numbers.items
numbers_outcome (Err failure) = Err failure

-- the word for whether a condition holds
abbrev pub truth_text : Truth → List ℕ
truth_text True = codes "true"
truth_text False = codes "false"
truth_text Unknown = codes "unknown"

-- the word, or the failure
abbrev pub truth_outcome : Result Truth CallError → Result (List ℕ) CallError
truth_outcome (Ok truth) = Ok (truth_text truth)
truth_outcome (Err failure) = Err failure

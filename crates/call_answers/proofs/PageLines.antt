-- What the lines of all elements are once they are written, and why they are not written before.
-- Serves `pages::{lines, won_lines}`, `modern::pages::lines_by` and `sheets::sheet_numbers`.
use Rattle.std.proofs.Common.{◌≡◌, ℕ, ◌≤◌, ◌<◌, List, [], ◌++◌, length, None, Some, sym, ap, ◌∙◌, subst, arith}
use Rattle.std.specs.Prelude.{Result, Ok, Err, MatchResult}
use Rattle.std.specs.Result.{IsErrAnd}
use Rattle.std.specs.List.{AllZip, range_with_len}
use Rattle.std.proofs.lemmas.List.{length-append}
use Rattle.cssq.proofs.MatchLines.{LinesSoFar}
use Rattle.call_answers.specs.declared.answer.CallError.{CallError}
use Rattle.call_answers.specs.declared.answer.CallError.TheVariants.{Memory, AnswerTooLong}
use Rattle.call_answers.specs.AnswerLines.{AreLinesWithin}
use Rattle.call_answers.specs.Calls.{FailsLonger}

-- the lines of the first indices, which have at most this number of bytes
pub record LinesWithin (most : ℕ) (IsLine : ℕ → List ℕ → Type 0) (index : ℕ) (text : List ℕ)
    : Type 0 where
  pub so_far : LinesSoFar IsLine index text
  pub short : length text ≤ most

-- before the first index nothing is written
pub lines_none : (most : ℕ) (IsLine : ℕ → List ℕ → Type 0) (text : List ℕ) → text ≡ []
    → LinesWithin most IsLine 0 text
lines_none most IsLine text is = record {
  so_far = record { lines = []; are = tt; whole = is };
  short = (let none : length text ≡ 0 = ap length is in omega (arith, none));
}

-- the lines of all indices
pub lines_done : (most : ℕ) (IsLine : ℕ → List ℕ → Type 0) (index count : ℕ) (text : List ℕ)
    → LinesWithin most IsLine index text → index ≡ count
    → AreLinesWithin most IsLine count (Some text)
lines_done most IsLine index count text within all = (
  (
    within.so_far.lines,
    subst (λ n. AllZip IsLine (range_with_len 0 n) within.so_far.lines) all within.so_far.are,
    within.so_far.whole,
  ),
  within.short,
)

-- the lines of the first indices are too long
pub longer_due : {V : Type 0} (P : V → Type 0) (most : ℕ) (IsLine : ℕ → List ℕ → Type 0)
    (first count : ℕ) (text : List ℕ) → LinesSoFar IsLine first text → first ≤ count
    → (r : Result V CallError) (failure : CallError) → IsErrAnd r (λ reported. reported ≡ failure)
    → (failure ≡ AnswerTooLong) × (most < length text)
    → MatchResult r P (FailsLonger (AreLinesWithin most IsLine count None))
longer_due P most IsLine first count text so_far within (Ok x) failure is longer = absurd is
longer_due P most IsLine first count text so_far within (Err reported) failure is longer =
    subst (FailsLonger (AreLinesWithin most IsLine count None)) (sym (is ∙ longer.0))
    (first, text, within, (so_far.lines, so_far.are, so_far.whole), longer.1)

-- a text that begins with one that is too long
pub front_longer : {V : Type 0} (P : V → Type 0) (most : ℕ) (front rest whole : List ℕ)
    → front ++ rest ≡ whole
    → (r : Result V CallError) (failure : CallError) → IsErrAnd r (λ reported. reported ≡ failure)
    → (failure ≡ AnswerTooLong) × (most < length front)
    → MatchResult r P (FailsLonger (most < length whole))
front_longer P most front rest whole same (Ok x) failure is longer = absurd is
front_longer P most front rest whole same (Err reported) failure is longer =
    let all = ap length (sym same) ∙ length-append front rest in
    let more : most < length whole = omega (arith, all, longer.1) in
    subst (FailsLonger (most < length whole)) (sym (is ∙ longer.0)) more

-- a refused allocation
pub memory_due : {V : Type 0} (P : V → Type 0) (IsLonger : Type 0) (r : Result V CallError)
    → IsErrAnd r (λ failure. failure ≡ Memory) → MatchResult r P (FailsLonger IsLonger)
memory_due P IsLonger (Ok x) is = absurd is
memory_due P IsLonger (Err failure) is = subst (FailsLonger IsLonger) (sym is) tt

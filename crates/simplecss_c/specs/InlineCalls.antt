-- What the call leaves in its caller's memory that writes sheets into the attributes of a page.
use Rattle.std.specs.Prelude.{◌≡◌, ℕ, List}
use Rattle.call_answers.specs.Answers.{IsHandedOver}
use Rattle.inline_calls.specs.InlineCalls.{IsInlined}

-- At status 0 the page is handed over. At any other the buffer is unchanged.
abbrev pub IsInlineCall : (page : List ℕ) → (status : ℕ) → (old new : List ℕ) → (len : ℕ) → Type 0
IsInlineCall page status old new len =
    (status ≡ 0 → (text : List ℕ) × IsInlined page text × IsHandedOver text status old new len)
    × (¬ (status ≡ 0) → new ≡ old)

-- Calls that return the values of properties.
use Rattle.std.proofs.Common.{◌≡◌, inl, inr, List, ℕ, None}
use Rattle.css_values.specs.Lines.{properties_in}
use Rattle.call_answers.specs.declared.answer.CallError.{CallError}
use Rattle.call_answers.specs.declared.answer.CallError.TheVariants.{Refused, Tree, Memory, TooManyDeclarations, NotUtf8, AnswerTooLong, TooManyLayers}
use Rattle.call_answers.specs.Calls.{FailsFor, HasTexts, HasBadEnds, IsBrokenUtf8}
use Rattle.sheet_calls.specs.Values.{FailsPairs}

-- the texts have a fault
pub texts-fail : (buffer ends : List ℕ) (IsLonger : Type 0) (failure : CallError)
    → FailsFor (HasBadEnds buffer ends) (λ fault. ⊥) (IsBrokenUtf8 buffer ends) failure
    → FailsPairs buffer ends IsLonger failure
texts-fail buffer ends IsLonger Refused h = inl h
texts-fail buffer ends IsLonger (Tree fault) h = h
texts-fail buffer ends IsLonger Memory h = tt
texts-fail buffer ends IsLonger TooManyDeclarations h = h
texts-fail buffer ends IsLonger NotUtf8 h = h
texts-fail buffer ends IsLonger AnswerTooLong h = absurd h
texts-fail buffer ends IsLonger TooManyLayers h = elim h [ ]

-- they are no pairs
pub pairs-fail : (buffer ends : List ℕ) (IsLonger : Type 0) (texts : List (List ℕ))
    (failure : CallError) → HasTexts buffer ends texts
    → FailsFor (properties_in texts ≡ None) (λ fault. ⊥) ⊥ failure
    → FailsPairs buffer ends IsLonger failure
pairs-fail buffer ends IsLonger texts Refused has h = inr (texts, (has, h))
pairs-fail buffer ends IsLonger texts (Tree fault) has h = h
pairs-fail buffer ends IsLonger texts Memory has h = tt
pairs-fail buffer ends IsLonger texts TooManyDeclarations has h = h
pairs-fail buffer ends IsLonger texts NotUtf8 has h = absurd h
pairs-fail buffer ends IsLonger texts AnswerTooLong has h = absurd h
pairs-fail buffer ends IsLonger texts TooManyLayers has h = elim h [ ]

-- with or without a limit on the answer
pub fails-longer : (buffer ends : List ℕ) (IsLonger : Type 0) (failure : CallError)
    → FailsPairs buffer ends ⊥ failure → FailsPairs buffer ends IsLonger failure
fails-longer buffer ends IsLonger Refused h = h
fails-longer buffer ends IsLonger (Tree fault) h = h
fails-longer buffer ends IsLonger Memory h = tt
fails-longer buffer ends IsLonger TooManyDeclarations h = h
fails-longer buffer ends IsLonger NotUtf8 h = h
fails-longer buffer ends IsLonger AnswerTooLong h = absurd h
fails-longer buffer ends IsLonger TooManyLayers h = elim h [ ]

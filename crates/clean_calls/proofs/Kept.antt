-- What is kept of a text, by its form, and why nothing is. Serves `cleaned` and the calls.
use Rattle.std.proofs.Common.{◌≡◌, ◌⊎◌, Bor, IfOk, ℕ, List, map, true, false, string_bytes, sym, subst}
use Rattle.std.specs.Prelude.{Result, Ok, Err}
use Rattle.css_syntax.specs.DeclarationLists.{items}
use Rattle.css_syntax.specs.Printing.{printed_part}
use Rattle.css_clean.specs.declared.style.Cleaned.{Cleaned}
use Rattle.css_clean.specs.Policies.{are_safe}
use Rattle.css_clean.specs.Cleaning.{cleaned, kept, read_of, dropped_of as dropped_of_text}
use Rattle.css_clean.specs.Selectors.{SheetPolicyText}
use Rattle.css_clean.specs.Sheets.{is_clean}
use Rattle.css_clean.specs.KeptSheets.{cleaned_sheet}
use Rattle.css_clean.specs.DroppedSheets.{dropped_of_sheet}
use Rattle.css_clean.specs.Views.{dropped_of}
use Rattle.call_answers.specs.declared.answer.CallError.{CallError}
use Rattle.call_answers.specs.declared.answer.CallError.TheVariants.{Refused, Tree, Memory, TooManyDeclarations, NotUtf8, AnswerTooLong, TooManyLayers}
use Rattle.std.specs.Str.{IsUtf8}
use Rattle.call_answers.specs.Calls.{FailsFor, HasTexts, IsBrokenUtf8}
use Rattle.clean_calls.specs.Passed.{Passed, IsNoPolicy}
use Rattle.clean_calls.specs.declared.asked.Form.{Form}
use Rattle.clean_calls.specs.declared.asked.Form.TheVariants.{Sheet, Style}
use Rattle.clean_calls.specs.CleanCalls.{IsKept, AreDropped, FailsToClean}

-- both of what is kept and what is dropped
abbrev pub IsBoth : Form → SheetPolicyText → List ℕ → Cleaned → Type 0
IsBoth form p text out =
    IsKept form p text (string_bytes out.text) × AreDropped form p text (map dropped_of out.dropped.items)

pub kept-sheet : {E : Type 0} (form : Form) (p : SheetPolicyText) (text : List ℕ) (r : Result Cleaned E) → form ≡ Sheet
    → IfOk r (λ out. string_bytes out.text ≡ cleaned_sheet p text)
    → IfOk r (λ out. is_clean p (string_bytes out.text) ≡ true)
    → IfOk r (λ out. map dropped_of out.dropped.items ≡ dropped_of_sheet p text) → IfOk r (IsBoth form p text)
kept-sheet form p text (Ok out) e t h d = subst (λ f. IsBoth f p text out) (sym e) ((t, h), d)
kept-sheet form p text (Err failure) e t h d = tt

pub kept-style : {E : Type 0} (form : Form) (p : SheetPolicyText) (text : List ℕ) (r : Result Cleaned E) → form ≡ Style
    → IfOk r (λ out. string_bytes out.text ≡ cleaned p.declarations (read_of p.declarations text))
    → IfOk r (λ out. items false (string_bytes out.text) ≡ map printed_part
    (kept p.declarations (items false (read_of p.declarations text))))
    → IfOk r (λ out. are_safe (string_bytes out.text) ≡ true)
    → IfOk r (λ out. map dropped_of out.dropped.items ≡ dropped_of_text p.declarations text)
    → IfOk r (IsBoth form p text)
kept-style form p text (Ok out) e t r b d =
    subst (λ f. IsBoth f p text out) (sym e) ((t, r, b), d)
kept-style form p text (Err failure) e t r b d = tt

-- ---- policies

-- the texts of a slice, if it has those of a list
pub texts-same : (passed : Passed) (xs ys : List (Bor (List ℕ))) → xs ≡ ys
    → HasTexts passed.texts passed.ends (map (λ t. t.now) ys)
    → HasTexts passed.texts passed.ends (map (λ t. t.now) xs)
texts-same passed xs ys e h = subst (λ all. HasTexts passed.texts passed.ends (map (λ t. t.now) all)) (sym e) h

-- a failure that has the same reason where texts may be broken, too
fails-more : (R B : Type 0) (failure : CallError) → FailsFor R (λ fault. ⊥) ⊥ failure
    → FailsFor R (λ fault. ⊥) B failure
fails-more R B Refused h = h
fails-more R B (Tree fault) h = h
fails-more R B Memory h = h
fails-more R B TooManyDeclarations h = h
fails-more R B NotUtf8 h = absurd h
fails-more R B AnswerTooLong h = h
fails-more R B TooManyLayers h = h

-- what is passed is no policy, so nothing is made of a text
pub fails-policy : (form : Form) (text : List ℕ) (passed : Passed) (failure : CallError)
    → FailsFor (IsNoPolicy form passed) (λ fault. ⊥) ⊥ failure → FailsToClean form text passed failure
fails-policy form text passed failure h =
    fails-more (IsNoPolicy form passed) (¬ (IsUtf8 text) ⊎ IsBrokenUtf8 passed.texts passed.ends) failure h

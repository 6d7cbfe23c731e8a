-- What the calls that clean texts must write.
use Rattle.std.specs.Prelude.{◌≡◌, ◌⊎◌, ◌==◌, ℕ, Bool, true, false, if◌then◌else◌, List, [], ◌∷◌, map, codes, Option, Some, None, Result, Ok, Err}
use Rattle.std.specs.List.{flat_map}
use Rattle.std.specs.Str.{IsUtf8}
use Rattle.css_syntax.specs.DeclarationLists.{items}
use Rattle.css_syntax.specs.Printing.{printed_part}
use Rattle.clean_values.specs.Urls.{urls_of, urls_text}
use Rattle.css_clean.specs.Policies.{are_safe}
use Rattle.css_clean.specs.Cleaning.{DroppedText, cleaned, kept, read_of, dropped_of}
use Rattle.css_clean.specs.Selectors.{SheetPolicyText}
use Rattle.css_clean.specs.Sheets.{is_clean, is_style_clean}
use Rattle.css_clean.specs.KeptSheets.{cleaned_sheet}
use Rattle.css_clean.specs.DroppedSheets.{dropped_of_sheet}
use Rattle.css_clean.specs.declared.dropped.Reason.{Reason}
use Rattle.css_clean.specs.declared.dropped.Reason.TheVariants as reasons
use Rattle.call_answers.specs.declared.answer.CallError.{CallError}
use Rattle.call_answers.specs.declared.answer.CallError.TheVariants.{Refused}
use Rattle.call_answers.specs.Calls.{FailsFor, IsBrokenUtf8}
use Rattle.clean_calls.specs.Passed.{Passed, HasPolicy, IsNoPolicy}
use Rattle.clean_calls.specs.declared.asked.Form.{Form}
use Rattle.clean_calls.specs.declared.asked.Form.TheVariants.{Sheet, Style}
use Rattle.clean_calls.specs.declared.asked.Asked.{Asked}
use Rattle.clean_calls.specs.declared.asked.Asked.TheVariants.{Clean, IsClean, Mail, Comment, Urls}

-- ---- what is asked

-- what a number stands for: 0 is a sheet, 1 a style attribute
abbrev pub form_of : ℕ → Option Form
form_of number =
    if number == 0 then Some Sheet
    else (if number == 1 then Some Style
    else None)

-- what a number asks for: to clean a text of this form, whether one is clean, the lists of a policy, or the urls of a text
abbrev pub asked_of : ℕ → Option Asked
asked_of number =
    if number == 0 then Some (Clean Sheet)
    else (if number == 1 then Some (Clean Style)
    else (if number == 2 then Some (IsClean Sheet)
    else (if number == 3 then Some (IsClean Style)
    else (if number == 4 then Some Mail
    else (if number == 5 then Some Comment
    else (if number == 6 then Some Urls
    else None))))))

-- ---- failures

-- why a text of this form has no answer
abbrev pub FailsToClean : Form → (text : List ℕ) → Passed → CallError → Type 0
FailsToClean form text passed =
    FailsFor (IsNoPolicy form passed) (λ fault. ⊥)
    (¬ (IsUtf8 text) ⊎ IsBrokenUtf8 passed.texts passed.ends)

-- ---- what is kept

-- What is kept of a text. Of a style attribute it is the declarations that the policy allows, in their order; read
-- again it is these and nothing else, and it has no byte but those that may be written. Of a sheet it is the text of
-- its rules that the policy allows, in their order, or nothing, if that text is not clean; it is clean either way.
abbrev pub IsKept : Form → SheetPolicyText → (text bytes : List ℕ) → Type 0
IsKept Sheet policy text bytes =
    (bytes ≡ cleaned_sheet policy text) × (is_clean policy bytes ≡ true)
IsKept Style policy text bytes =
    (bytes ≡ cleaned policy.declarations (read_of policy.declarations text))
    × (items false bytes ≡ map printed_part
    (kept policy.declarations (items false (read_of policy.declarations text))))
    × (are_safe bytes ≡ true)

-- whether a text of this form is one that the policy allows, as it is
abbrev pub is_clean_text : Form → SheetPolicyText → List ℕ → Bool
is_clean_text Sheet policy text = is_clean policy text
is_clean_text Style policy text = is_style_clean policy.declarations text

-- the word for it
abbrev pub says : Bool → List ℕ
says holds = if holds then codes "true" else codes "false"

-- what is kept of a text of this form, or why nothing is
abbrev pub IsKeptCall : Form → (text : List ℕ) → Passed → Result (List ℕ) CallError → Type 0
IsKeptCall form text passed (Ok bytes) =
    (policy : SheetPolicyText) × IsUtf8 text × HasPolicy passed policy
    × IsKept form policy text bytes
IsKeptCall form text passed (Err failure) = FailsToClean form text passed failure

-- whether a text of this form is clean, as a word
abbrev pub IsToldCall : Form → (text : List ℕ) → Passed → Result (List ℕ) CallError → Type 0
IsToldCall form text passed (Ok bytes) =
    (policy : SheetPolicyText) × IsUtf8 text × HasPolicy passed policy
    × (bytes ≡ says (is_clean_text form policy text))
IsToldCall form text passed (Err failure) = FailsToClean form text passed failure

-- any lines, or a failure of memory
abbrev pub AreLines : Result (List ℕ) CallError → Type 0
AreLines (Ok lines) = Unit {0}
AreLines (Err failure) = FailsFor ⊥ (λ fault. ⊥) ⊥ failure

-- the urls of a text, in order, with a byte 0 after each; a text that is none has no answer
abbrev pub AreUrls : (text : List ℕ) → Result (List ℕ) CallError → Type 0
AreUrls text (Ok bytes) = IsUtf8 text × (bytes ≡ urls_text (urls_of text))
AreUrls text (Err failure) = FailsFor ⊥ (λ fault. ⊥) (¬ (IsUtf8 text)) failure

-- What is answered to what is asked. Which names the lists have is not said.
abbrev pub IsCleanCall : Option Asked → (text : List ℕ) → Passed → Result (List ℕ) CallError → Type 0
IsCleanCall None text passed outcome = outcome ≡ Err Refused
IsCleanCall (Some (Clean form)) text passed outcome = IsKeptCall form text passed outcome
IsCleanCall (Some (IsClean form)) text passed outcome = IsToldCall form text passed outcome
IsCleanCall (Some Mail) text passed outcome = AreLines outcome
IsCleanCall (Some Comment) text passed outcome = AreLines outcome
IsCleanCall (Some Urls) text passed outcome = AreUrls text outcome

-- ---- what is dropped

-- the numbers of reasons
abbrev pub reason_number : Reason → ℕ
reason_number reasons.Property = 0
reason_number reasons.Function = 1
reason_number reasons.Url = 2
reason_number reasons.String = 3
reason_number reasons.Token = 4
reason_number reasons.Byte = 5
reason_number reasons.Important = 6
reason_number reasons.Open = 7
reason_number reasons.Selector = 8
reason_number reasons.AtRule = 9
reason_number reasons.Broken = 10
reason_number reasons.Empty = 11
reason_number reasons.Limit = 12
reason_number reasons.Unclean = 13
reason_number reasons.Beyond = 14

-- the numbers of a piece that is dropped: where it begins and ends, and why it is
abbrev pub dropped_row : DroppedText → List ℕ
dropped_row one = one.start ∷ one.after ∷ reason_number one.reason ∷ []

-- What is dropped: of a style attribute all items that the policy does not allow, in order; of a sheet all of its
-- pieces that are not kept, in order, or the whole sheet.
abbrev pub AreDropped : Form → SheetPolicyText → (text : List ℕ) → List DroppedText → Type 0
AreDropped Sheet policy text all = all ≡ dropped_of_sheet policy text
AreDropped Style policy text all = all ≡ dropped_of policy.declarations text

-- what a text of this form is cleaned to, both what is kept of it and what is dropped, or why it is not
abbrev pub IsCleaned : Form → (text : List ℕ) → Passed → (bytes : List ℕ) → List DroppedText → Type 0
IsCleaned form text passed bytes all =
    (policy : SheetPolicyText) × IsUtf8 text × HasPolicy passed policy
    × IsKept form policy text bytes × AreDropped form policy text all

abbrev pub IsDroppedOf : Form → (text : List ℕ) → Passed → Result (List ℕ) CallError → Type 0
IsDroppedOf form text passed (Ok numbers) =
    (policy : SheetPolicyText) × (all : List DroppedText) × IsUtf8 text × HasPolicy passed policy
    × AreDropped form policy text all × (numbers ≡ flat_map dropped_row all)
IsDroppedOf form text passed (Err failure) = FailsToClean form text passed failure

-- what is dropped of a text of the form of a number, or why there is no answer
abbrev pub IsDroppedCall : Option Form → (text : List ℕ) → Passed → Result (List ℕ) CallError
    → Type 0
IsDroppedCall None text passed outcome = outcome ≡ Err Refused
IsDroppedCall (Some form) text passed outcome = IsDroppedOf form text passed outcome

-- What the calls that read a page leave in their caller's memory.
use Rattle.std.specs.Prelude.{◌≡◌, ℕ, ◌/◌, ◌%◌, ◌==◌, Bool, true, false, if◌then◌else◌, List, length, Result, Ok, Err}
use Rattle.call_answers.specs.Answers.{IsHandedOver}
use Rattle.call_answers.specs.declared.answer.CallError.{CallError}
use Rattle.call_answers.specs.declared.answer.CallError.TheVariants.{Memory}
use Rattle.html_encodings.specs.Page.{line_of}
use Rattle.html_encodings.specs.declared.page.Found.{Found}
use Rattle.html_calls.specs.Encodings.{IsFound}
use Rattle.html_calls.specs.Pages.{ArePageNumbers, AreXmlNumbers, past_mark}
use Rattle.edit_calls.specs.EditCalls.{IsPageEdited}
use Rattle.html_edits.specs.declared.edits.Language.{Language}
use Rattle.html_edits.specs.declared.edits.Language.TheVariants.{Html, Xml}

-- the flags say that a text is XML
abbrev pub is_of_xml : (flags : ℕ) → Bool
is_of_xml flags = flags / 4 % 2 == 1

-- the language that the flags say
abbrev pub language_of : (flags : ℕ) → Language
language_of flags = if is_of_xml flags then Xml else Html

-- the numbers of an XML document in this many bytes, or of a page
abbrev pub AreNumbersOf : (is_xml : Bool) → (size : ℕ) → (page numbers : List ℕ) → Type 0
AreNumbersOf true size page numbers = AreXmlNumbers size page numbers
AreNumbersOf false size page numbers = ArePageNumbers size page numbers

abbrev pub AreNumbers : (flags : ℕ) → (text numbers : List ℕ) → Type 0
AreNumbers flags text numbers = AreNumbersOf (is_of_xml flags) (length text) (past_mark text) numbers

-- At status 0 the numbers of the page or the document are handed over. At any other the buffer is unchanged.
abbrev pub IsHtmlCall : (flags : ℕ) → (text : List ℕ) → (status : ℕ) → (old new : List ℕ) → (len : ℕ) → Type 0
IsHtmlCall flags text status old new len =
    (status ≡ 0 → (numbers : List ℕ) × AreNumbers flags text numbers
    × IsHandedOver numbers status old new len)
    × (¬ (status ≡ 0) → new ≡ old)

-- At status 0 the page with edits is handed over. At any other the buffer is unchanged.
abbrev pub IsEditCall : (flags : ℕ) → (page : List ℕ) → (status : ℕ) → (old new : List ℕ) → (len : ℕ) → Type 0
IsEditCall flags page status old new len =
    (status ≡ 0 → (text : List ℕ) × IsPageEdited (language_of flags) page text
    × IsHandedOver text status old new len)
    × (¬ (status ≡ 0) → new ≡ old)

-- The answer says which encoding a page with this label is in, and what says it. It fails only for want of memory.
abbrev pub IsEncodingCall : (label page : List ℕ) → Result (List ℕ) CallError → Type 0
IsEncodingCall label page (Ok bytes) = (found : Found) × IsFound label page found × (bytes ≡ line_of found)
IsEncodingCall label page (Err failure) = failure ≡ Memory

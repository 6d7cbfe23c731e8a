-- What the calls on lists that are kept must write, and when they fail.
use Rattle.std.specs.Prelude.{◌≡◌, ℕ, List, length, map, Option, None, Some, option_map, Result, Ok, Err}
use Rattle.std.specs.Str.{IsUtf8}
use Rattle.css_selector_text.specs.reading.ReadViews.{placed_of}
use Rattle.call_answers.specs.declared.answer.CallError.{CallError}
use Rattle.call_answers.specs.declared.answer.CallError.TheVariants as failure
use Rattle.call_answers.specs.Answers.{IsAnswered, status_of}
use Rattle.call_answers.specs.Calls.{FailsFor}
use Rattle.call_answers.specs.SelectorNumbers.{listed_numbers, printed_texts, port_numbers, port_texts}
use Rattle.kept_lists.specs.declared.read_list.ListError.{ListError}
use Rattle.kept_lists.specs.declared.read_list.ListError.TheVariants.{Refused, Memory}
use Rattle.kept_lists.specs.declared.read_list.ListGrammar.{ListGrammar}
use Rattle.kept_lists.specs.declared.read_list.ReadList.{ReadList}
use Rattle.kept_lists.specs.declared.read_list.ReadList.TheVariants as read
use Rattle.kept_lists.specs.Lists.{ListSource, ListText, made_of, list_made_of, listed_in}
use Rattle.kept_lists.specs.Lists.ListText.{modern_list, port_list}

-- ---- making a list

abbrev pub failure_of : ListError → CallError
failure_of Refused = failure.Refused
failure_of Memory = failure.Memory

-- why no list is made: the text is none by the grammar, an allocation failed, or the text is not UTF-8
abbrev pub IsNotMade : ListSource → CallError → Type 0
IsNotMade source =
    FailsFor (IsUtf8 source.text × (list_made_of source ≡ None)) (λ fault. ⊥) (¬ (IsUtf8 source.text))

-- the list is there, or the status says why there is none
abbrev pub IsMadeOf : ListSource → (status : ℕ) → Option ListSource → Type 0
IsMadeOf source status None =
    (error : CallError) × IsNotMade source error × (status ≡ status_of error)
IsMadeOf source status (Some kept) = (status ≡ 0) × (kept ≡ source)

-- the same of a list by a grammar, if there is one: else the text is refused
abbrev pub IsMade : Option ListGrammar → List ℕ → (status : ℕ) → Option ListSource → Type 0
IsMade None text status kept = (status ≡ 1) × (kept ≡ None)
IsMade (Some grammar) text status kept = IsMadeOf (made_of grammar text) status kept

-- ---- what is written of the selectors of a list

-- the numbers of each, by the offset at which the text ends
abbrev pub numbers_of : (end : ℕ) → ListText → List ℕ
numbers_of end (modern_list all) = listed_numbers end all
numbers_of end (port_list all) = port_numbers all

-- their printed texts, one after another
abbrev pub texts_of : ListText → List ℕ
texts_of (modern_list all) = printed_texts all
texts_of (port_list all) = port_texts all

-- what is written of the list that is made of a text; only an allocation may fail
abbrev pub IsWritten : (ListText → List ℕ) → ListSource → Result (List ℕ) CallError → Type 0
IsWritten written source (Ok answer) = option_map written (list_made_of source) ≡ Some answer
IsWritten written source (Err error) = error ≡ failure.Memory

abbrev pub AreListNumbers : ListSource → Result (List ℕ) CallError → Type 0
AreListNumbers source = IsWritten (numbers_of (length source.text)) source

abbrev pub AreListTexts : ListSource → Result (List ℕ) CallError → Type 0
AreListTexts = IsWritten texts_of

-- The list is answered of; or there is none: the status is 8, the buffer is unchanged, and the length is 0.
abbrev pub AnswersOfList : (ListSource → Result (List ℕ) CallError → Type 0) → Option ListSource → (status : ℕ)
    → (old new : List ℕ) → (len : ℕ) → Type 0
AnswersOfList IsOutcome None status old new len = (status ≡ 8) × (new ≡ old) × (len ≡ 0)
AnswersOfList IsOutcome (Some source) status old new len = IsAnswered (IsOutcome source) status old new len

-- ---- what is written of selectors that were read

-- the modern ones are read again, with where they are
abbrev pub AreModernNumbers : List ℕ → Result (List ℕ) CallError → Type 0
AreModernNumbers text (Ok numbers) = option_map (listed_numbers (length text)) (listed_in text) ≡ Some numbers
AreModernNumbers text (Err error) = FailsFor (listed_in text ≡ None) (λ fault. ⊥) ⊥ error

-- what is written, if no allocation fails
abbrev pub IsWhole : List ℕ → Result (List ℕ) CallError → Type 0
IsWhole written (Ok answer) = answer ≡ written
IsWhole written (Err error) = error ≡ failure.Memory

abbrev pub AreNumbersOf : List ℕ → ReadList → Result (List ℕ) CallError → Type 0
AreNumbersOf text (read.Modern all) outcome = AreModernNumbers text outcome
AreNumbersOf text (read.Port all) outcome = IsWhole (port_numbers all.items) outcome

abbrev pub AreTextsOf : ReadList → Result (List ℕ) CallError → Type 0
AreTextsOf (read.Modern all) outcome = IsWhole (printed_texts (map placed_of all.items)) outcome
AreTextsOf (read.Port all) outcome = IsWhole (port_texts all.items) outcome

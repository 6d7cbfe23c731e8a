-- Why a call has no answer whose sheets or texts are not read.
use Rattle.call_answers.specs.declared.answer.CallError.{CallError}
use Rattle.call_answers.specs.declared.answer.CallError.TheVariants.{Refused, Memory, TooManyDeclarations, TooManyLayers}
use Rattle.css_sheet.specs.declared.sheet_error.SheetError.{SheetError}
use Rattle.css_selector_text.specs.declared.refusal.Why.{Why}
use Rattle.css_selector_text.specs.declared.refusal.Why.TheVariants.{Memory as NoMemory}
use Rattle.css_sheet.specs.declared.sheet_error.SheetError.TheVariants as sheet

-- the failure of a call whose sheets are not read
abbrev pub unread : SheetError → CallError
unread sheet.TooManyDeclarations = TooManyDeclarations
unread sheet.TooManyLayers = TooManyLayers
unread sheet.Memory = Memory

-- how a call fails whose text is refused
abbrev pub error_of : Why → CallError
error_of NoMemory = Memory
error_of why = Refused

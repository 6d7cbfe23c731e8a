-- How a document reads the names of selectors, and which modern selectors texts are.
use Rattle.std.specs.Prelude.{ℕ, Bool, true, false, List, Option, None, Some}
use Rattle.css_selector_text.specs.Names.{Names}
use Rattle.css_selector_text.specs.Components.{Selector}
use Rattle.css_selector_text.specs.reading.Supported.{supported_list}
use Rattle.css_selector_text.specs.reading.Readings.{Reading as Reads, got, refused}
use Rattle.css_selector_text.specs.declared.refusal.Why.{Why}
use Rattle.css_selector_text.specs.declared.refusal.Why.TheVariants.{Memory as NoMemory}
use Rattle.css_tree.specs.Html.{html_selector}
use Rattle.page_calls.specs.declared.modern.document_kind.DocumentKind.{DocumentKind}
use Rattle.page_calls.specs.declared.modern.document_kind.DocumentKind.TheVariants.{AsWritten, Html}

-- a selector as a document reads it
abbrev pub selector_as : DocumentKind → Selector → Selector
selector_as AsWritten s = s
selector_as (Html mode) s = html_selector mode s

-- what was read, unless the text is refused
abbrev pub if_read : {A : Type 0} → Reads A → Option A
if_read (got x rest) = Some x
if_read (refused why rest) = None

-- the selectors that the text is a list of where these names are declared, if it is one
abbrev pub selectors_of : Names → List ℕ → Option (List Selector)
selectors_of names text = if_read (supported_list names text)

-- an allocation failed
abbrev pub is_memory : Why → Bool
is_memory NoMemory = true
is_memory why = false

-- The selectors of a style rule, each as it is read, where it is supported.
use Rattle.std.specs.Prelude.{ℕ, ◌-◌, Bool, true, false, ◌&&◌, ◌||◌, nat_le, nat_lt, if◌then◌else◌, List, [], length, map, slice_index, Option, Some, None, Result, Ok, Err}
use Rattle.css_text.specs.AsciiBytes.{colon}
use Rattle.css_text.specs.Bytes.{past_byte}
use Rattle.css_text.specs.Reading.{before}
use Rattle.css_syntax.specs.declared.quality.Fault.{Fault}
use Rattle.css_syntax.specs.declared.quality.Fault.TheVariants.{InvalidSelector}
use Rattle.css_syntax.specs.Parts.{Stated}
use Rattle.css_syntax.specs.Qualities.{is_good, fault_of}
use Rattle.css_syntax.specs.Tokens.{past_gap}
use Rattle.css_selector_text.specs.declared.components.Nesting.{Nesting}
use Rattle.css_selector_text.specs.Components.{Placed, PseudoElement, Selector}
use Rattle.css_selector_text.specs.reading.Grammar.{placed_list}
use Rattle.css_selector_text.specs.Names.{Names, no_names}
use Rattle.css_selector_text.specs.reading.Nested.{nested_list}
use Rattle.css_selector_text.specs.Originating.{originating}
use Rattle.css_selector_text.specs.reading.Readings.{Reading, got, refused, Reader}
use Rattle.css_selector_text.specs.reading.Supported.{is_last_condition, is_supported_selector, supported_selector}

-- A selector of a rule: its text; the selector without its pseudo-element, if it is supported; and the
-- name of the pseudo-element at its end, if it has one.
pub record SelectorRead : Type 0 where
  pub text : List ℕ
  pub selector : Option Selector
  pub pseudo_element : Option (List ℕ)

-- ---- texts

-- whether a character of a text begins at the offset, or the text ends there
abbrev pub is_boundary : List ℕ → ℕ → Bool
is_boundary text i =
    nat_le i (length text) && (nat_lt (slice_index text i) 128 || nat_le 192 (slice_index text i))

-- The text from one place to another, by what is left of one text at each. Both are where a character
-- begins, or else it would be no text.
abbrev pub text_between : (from to : List ℕ) → List ℕ
text_between from to =
    if is_boundary from (length from - length to) then before from to else []

-- what is left after the colons of a pseudo-element, and after comments that follow them
abbrev pub past_colons : List ℕ → List ℕ
past_colons text = past_gap (past_byte colon (past_gap (past_byte colon text)))

-- ---- selectors

-- the selector, if it has a meaning
abbrev pub if_supported : Selector → Option Selector
if_supported s = if is_supported_selector s then Some s else None

-- a selector with a pseudo-element at its end
abbrev pub element_read : Placed → SelectorRead
element_read p = record {
  text = text_between p.from p.to;
  selector = if_supported (originating p.selector);
  pseudo_element = Some (text_between (past_colons p.element) p.to);
}

-- A selector with a pseudo-element that something follows is unsupported, and has none at its end.
abbrev pub read_with : Placed → Option PseudoElement → SelectorRead
read_with p None = record {
  text = text_between p.from p.to;
  selector = if_supported p.selector;
  pseudo_element = None;
}
read_with p (Some e) =
    if is_last_condition e.after then element_read p
    else record { text = text_between p.from p.to; selector = None; pseudo_element = None }

-- what a selector of a list is in a rule
abbrev pub selector_read : Placed → SelectorRead
selector_read p = read_with p p.selector.pseudo_element

-- ---- lists

-- What the list of a rule is read with: what `&` stands for there, if the rule is in another one, and the names
-- that its sheet declares.
pub record ListContext : Type 0 where
  pub list : Option Nesting
  pub names : Names

abbrev pub context : Option Nesting → Names → ListContext
context list names = record { list = list; names = names }

abbrev pub list_by : Names → Option Nesting → Reader (List Placed)
list_by names None = placed_list names
list_by names (Some list) = nested_list names list

-- the list that a text is
abbrev pub list_under : ListContext → Reader (List Placed)
list_under under = list_by under.names under.list

-- a list with one that is no selector is invalid as a whole
abbrev pub listed_or : Reading (List Placed) → Result (List Placed) Fault
listed_or (got all rest) = Ok all
listed_or (refused why rest) = Err InvalidSelector

-- the list of selectors of a rule with this prelude, or why the rule is dropped
abbrev pub listed_under : ListContext → Stated → Result (List Placed) Fault
listed_under under prelude =
    if is_good prelude.quality then listed_or (list_under under prelude.text)
    else Err (fault_of prelude.quality)

-- the selectors of a rule are valid
abbrev pub is_listed : Result (List Placed) Fault → Bool
is_listed (Ok all) = true
is_listed (Err fault) = false

abbrev pub all_read : Result (List Placed) Fault → Result (List SelectorRead) Fault
all_read (Ok all) = Ok (map selector_read all)
all_read (Err fault) = Err fault

-- the selectors of a rule with this prelude, in order, or why the rule is dropped
abbrev pub selectors_under : ListContext → Stated → Result (List SelectorRead) Fault
selectors_under under prelude = all_read (listed_under under prelude)

-- ---- one selector

-- what was read, unless the text is refused
abbrev pub if_read : Reading Selector → Option Selector
if_read (got s rest) = Some s
if_read (refused reason rest) = None

-- the selector that the text is by the grammar of modern selectors, if it is one that is supported
abbrev pub selector_of : List ℕ → Option Selector
selector_of text = if_read (supported_selector no_names text)

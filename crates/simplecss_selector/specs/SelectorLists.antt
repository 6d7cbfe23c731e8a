-- Lists of selectors, with commas between them.
use Rattle.std.specs.Prelude.{ℕ, ◌-◌, length, take, eqb, if◌then◌else◌, List, [], ◌∷◌, ◌++◌, Option, None, Some, Result, Ok, Err}
use Rattle.std.specs.List.{ends_with}
use Rattle.std.specs.Option.{option_map}
use Rattle.css_text.specs.declared.text_pos.TextPos.{TextPos}
use Rattle.css_text.specs.AsciiBytes.{comma, colon}
use Rattle.css_text.specs.Bytes.{past_one, starts}
use Rattle.css_text.specs.Characters.{Edition}
use Rattle.simplecss_grammar.specs.Components.{Component}
use Rattle.css_text.specs.Errors.{error_position}
use Rattle.css_text.specs.Positions.{in_whole, position}
use Rattle.css_text.specs.Reading.{each, before}
use Rattle.simplecss_grammar.specs.Selectors.{reads}
use Rattle.simplecss_grammar.specs.Skipped.{Skip, Why, leading_comma, refused_selector, after_selector, missing_block, broken_declaration, open_value, extra_brace, open_comment, at_rule, faulty, unknown_class, selector_skips, add_each}

-- a selector that was read before a comma, and the rest after the comma
abbrev pub before_comma : Option (List Component) → List ℕ → Option (List Component × List ℕ)
before_comma None rest = None
before_comma (Some selector) rest =
    if starts comma rest then Some (selector, past_one rest) else None

abbrev pub item_and_comma : Edition → List ℕ → Option (List Component × List ℕ)
item_and_comma edition text = before_comma (reads edition text).0 (reads edition text).1

-- the rest of a text after its items that a comma follows: the last item
abbrev pub last_item : Edition → List ℕ → List ℕ
last_item edition text = (each (item_and_comma edition) text).1

-- a selector that was read up to the end of the text
abbrev pub at_end : Option (List Component) → List ℕ → Option (List Component)
at_end None rest = None
at_end (Some selector) [] = Some selector
at_end (Some selector) (b ∷ rest) = None

-- The selectors of a text that is a list of selectors.
unfoldable pub list_of : Edition → List ℕ → Option (List (List Component))
list_of edition text =
    option_map (λ last. (each (item_and_comma edition) text).0 ++ last ∷ [])
    (at_end (reads edition (last_item edition text)).0 (reads edition (last_item edition text)).1)

-- what follows a selector, where neither a comma nor the end does
abbrev pub left_over : Option (List Component) → List ℕ → List Skip
left_over None rest = []
left_over (Some selector) [] = []
left_over (Some selector) (b ∷ rest) =
    record { from = b ∷ rest; after = []; why = after_selector } ∷ []

-- What of a text is no list of selectors, if it is none: its first item that is refused, or what
-- follows a selector.
unfoldable pub list_skips : Edition → List ℕ → List Skip
list_skips edition text =
    selector_skips edition (last_item edition text)
    ++ left_over (reads edition (last_item edition text)).0
    (reads edition (last_item edition text)).1

-- ---- why a text is no list, and where

-- the position of the end of a text
abbrev pub end_of : List ℕ → TextPos
end_of text = position text (length text)

-- a text without these bytes at its end, if it ends so
abbrev pub without_suffix : (suffix text : List ℕ) → List ℕ
without_suffix suffix text =
    if ends_with eqb text suffix then take (length text - length suffix) text else text

-- a text without a pseudo-class of this name at its end
abbrev pub before_class : (text name : List ℕ) → List ℕ
before_class text name = without_suffix (colon ∷ []) (without_suffix name text)

-- the position in an error, which counts from the end of `ahead`, or else the end of `read`
abbrev pub error_pos : (ahead read : List ℕ) → Option TextPos → TextPos
error_pos ahead read (Some pos) = in_whole (end_of ahead) pos
error_pos ahead read None = end_of read

-- The position of what a selector is refused for, by the text `ahead` of the selector and the text
-- up to where reading it stopped: that in the error, if it has one, the start of a pseudo-class
-- whose name is not known, and else where reading stopped.
abbrev pub refused_pos : (ahead read : List ℕ) → Why → TextPos
refused_pos ahead read (refused_selector (faulty within error)) =
    error_pos ahead read (error_position error)
refused_pos ahead read (refused_selector (unknown_class name)) = end_of (before_class read name)
refused_pos ahead read leading_comma = end_of read
refused_pos ahead read after_selector = end_of read
refused_pos ahead read missing_block = end_of read
refused_pos ahead read broken_declaration = end_of read
refused_pos ahead read open_value = end_of read
refused_pos ahead read extra_brace = end_of read
refused_pos ahead read open_comment = end_of read
refused_pos ahead read (at_rule name) = end_of read

-- why a text is no list of selectors
abbrev pub list_why : Edition → List ℕ → Why
list_why edition text =
    add_each (λ why skip. skip.why) after_selector (list_skips edition text)

-- Why a text is no list of selectors, and where.
pub record ListFault : Type 0 where
  pub pos : TextPos
  pub why : Why

-- the same of a text, from its last item and the rest where reading that stops
abbrev pub list_fault : Edition → (text item rest : List ℕ) → ListFault
list_fault edition text item rest = record {
  pos = refused_pos (before text item) (before text rest) (list_why edition text);
  why = list_why edition text;
}

-- the selectors, or why there are none
abbrev pub list_or : ListFault → Option (List (List Component))
    → Result (List (List Component)) ListFault
list_or fault (Some selectors) = Ok selectors
list_or fault None = Err fault

-- a text as a list of selectors
abbrev pub list_read : Edition → List ℕ → Result (List (List Component)) ListFault
list_read edition text = list_or
    (list_fault edition text (last_item edition text) (reads edition (last_item edition text)).1)
    (list_of edition text)

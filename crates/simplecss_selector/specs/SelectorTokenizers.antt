-- What a tokenizer is still to yield.
use Rattle.std.specs.Prelude.{◌≡◌, ◌≤◌, ◌+◌, ℕ, List, map, length, Option, Some, None, Result}
use Rattle.std.specs.Iterator.{YieldsFirstBy}
use Rattle.std.specs.Iterator.Runs.{EveryRun, ItemsMapTo}
use Rattle.css_text.specs.declared.error.Error.{Error}
use Rattle.css_text.specs.Reading.{Fault, no_selector}
use Rattle.css_text.specs.ThisEdition.{this_edition}
use Rattle.css_text.specs.Cursor.{text_of, offset_of, rest_of}
use Rattle.css_text.specs.Slices.{OccurBetween}
use Rattle.simplecss_grammar.specs.Tokens.{Token}
use Rattle.simplecss_grammar.specs.Neighbours.Side.{open_side, closed_side}
use Rattle.simplecss_grammar.specs.TokenSequences.{TokenSequence, sequence_from, sequence_of, tokens_of, fault_sequence, items, reported_in}
use Rattle.simplecss_grammar.specs.TokenSequences.TokenSequence.{item, sequence_end}
use Rattle.simplecss_selector.specs.declared.token.SelectorToken.{SelectorToken}
use Rattle.simplecss_selector.specs.declared.tokenizer.Stage.{Stage}
use Rattle.simplecss_selector.specs.declared.tokenizer.Stage.TheVariants.{Open, Closed, Missing, Ended}
use Rattle.simplecss_selector.specs.declared.tokenizer.SelectorTokenizer.{SelectorTokenizer}
use Rattle.simplecss_selector.specs.TokenViews.{item_view, given_texts}

-- the whole text
abbrev pub whole_text : SelectorTokenizer → List ℕ
whole_text t = text_of t.stream

-- how many bytes of it have been read
abbrev pub offset_in : SelectorTokenizer → ℕ
offset_in t = offset_of t.stream

-- what is left to read
abbrev pub left_of : SelectorTokenizer → List ℕ
left_of t = rest_of t.stream

-- what a tokenizer in a state yields on the rest
abbrev pub sequence_in : Stage → List ℕ → TokenSequence
sequence_in Open text = sequence_from this_edition open_side text
sequence_in Closed text = sequence_from this_edition closed_side text
sequence_in Missing text = fault_sequence no_selector text
sequence_in Ended text = sequence_end text

abbrev pub still_to_come : SelectorTokenizer → TokenSequence
still_to_come t = sequence_in t.stage (left_of t)

-- A call on a text returned the first item of a sequence, left `left` to read, and the sequence
-- `after` to come; or nothing was to come.
abbrev pub GivesFirst : List ℕ → TokenSequence → Option (Result SelectorToken Error)
    → (left : List ℕ)
    → (after : TokenSequence)
    → Type 0
GivesFirst text before None left after = (before ≡ sequence_end left) × (after ≡ sequence_end left)
GivesFirst text before (Some x) left after =
    (reported : Result Token Fault) × (item_view x ≡ reported_in text reported)
    × (before ≡ item reported left after)

-- the items that are still to come
unfoldable pub items_left : SelectorTokenizer → List (Result Token Error)
items_left t = map (reported_in (whole_text t)) (items (still_to_come t))

-- A call of `next` on the tokenizer `before` returned `result` and left the tokenizer `after`.
pub record GivesItem (before : SelectorTokenizer) (result : Option (Result SelectorToken Error))
    (after : SelectorTokenizer) : Type 0 where
  -- the first of the tokens and errors that were to come, and the others still are; or none was to
  -- come, and none is
  pub items : YieldsFirstBy item_view items_left before result after
  -- the text is unchanged
  pub text : whole_text after ≡ whole_text before
  -- it is the first of the sequence, which says what is left to read after it
  pub first :
      GivesFirst (whole_text before) (still_to_come before) result (left_of after)
      (still_to_come after)
  -- its names and values occur in order in what was consumed
  pub slices : OccurBetween (left_of before) (left_of after) (given_texts result)
  -- the offset does not fall
  pub forward : offset_in before ≤ offset_in after

-- What calls of `next` return, from any tokenizer on, is a prefix of the tokens and errors that are
-- still to come there, and all of them if the calls continued to `None`.
abbrev pub GivesInTurn : Type 0
GivesInTurn = EveryRun GivesItem (λ calls. ItemsMapTo calls item_view (items_left calls.from))

-- a tokenizer at the start of a text
pub record Begins (text : List ℕ) (t : SelectorTokenizer) : Type 0 where
  pub whole_text_is : whole_text t ≡ text
  pub at_start : offset_in t ≡ 0
  pub left : left_of t ≡ text
  -- the sequence of the text is still to come: at most as many tokens and errors as it has bytes,
  -- and two more
  pub sequence : still_to_come t ≡ sequence_of this_edition text
  pub to_come : items_left t ≡ tokens_of this_edition text
  pub few : length (items_left t) ≤ length text + 2
  pub in_turn : GivesInTurn

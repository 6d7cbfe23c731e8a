-- What a tokenizer yields on a text: the tokens of its pieces, with what comes between them, up to
-- the end or a fault.
use Rattle.std.specs.Prelude.{ℕ, ◌+◌, true, false, List, [], ◌∷◌, map, Result, Ok, Err}
use Rattle.css_text.specs.declared.error.Error.{Error}
use Rattle.css_text.specs.Reading.{Fault, no_selector}
use Rattle.css_text.specs.Errors.{error_of}
use Rattle.css_text.specs.Bytes.{past_one}
use Rattle.simplecss_grammar.specs.declared.next_kind.NextKind.TheVariants.{Stop, Slash}
use Rattle.css_text.specs.Characters.{Edition}
use Rattle.simplecss_grammar.specs.Tokens.{Token, token_texts}
use Rattle.simplecss_grammar.specs.Tokens.Token.{descendant_combinator}
use Rattle.simplecss_grammar.specs.Pieces.{Piece, pieces, Ending, ending}
use Rattle.simplecss_grammar.specs.Pieces.Ending.{at_stop, at_slash, without_head, within_piece, within_gap}
use Rattle.simplecss_grammar.specs.Neighbours.{Side, Answer, between, side_after}
use Rattle.simplecss_grammar.specs.Neighbours.Side.{open_side, closed_side}
use Rattle.simplecss_grammar.specs.Neighbours.Answer.{nothing, descends, refuses}

-- Each token or fault with the rest after it, and at the end the rest there.
pub data TokenSequence : Type 0 where
  item : Result Token Fault → (after : List ℕ) → TokenSequence → TokenSequence
  sequence_end : (left : List ℕ) → TokenSequence

-- a token, and then the rest of the sequence
abbrev pub token_then : Token → List ℕ → TokenSequence → TokenSequence
token_then token after rest = item (Ok token) after rest

-- a fault, and then the end
abbrev pub fault_sequence : Fault → List ℕ → TokenSequence
fault_sequence fault after = item (Err fault) after (sequence_end after)

-- a fault, then the fault that a selector is missing, and then the end
abbrev pub two_faults_sequence : Fault → List ℕ → TokenSequence
two_faults_sequence fault after = item (Err fault) after (fault_sequence no_selector after)

-- What is put between two neighbours, at `start`: nothing or a descendant combinator, and then
-- `next`, which is what follows; or a fault, and then nothing more.
abbrev pub answered : Answer → (start : List ℕ) → TokenSequence → TokenSequence
answered nothing start next = next
answered descends start next = token_then descendant_combinator start next
answered (refuses fault after) start next = fault_sequence fault after

-- The sequence of an ending, after a left side. At a stop and at a `/` that is the answer of the
-- table of neighbours, and the end. A fault in place of a simple piece has before it what a simple
-- piece would have: after a closed left side and a space byte a descendant combinator, else
-- nothing. After an open left side, or a descendant combinator, a second fault follows a missing
-- head or an open comment: that a selector is missing.
abbrev pub ending_sequence : Side → Ending → TokenSequence
ending_sequence side (at_stop spaced start) =
    answered (between side spaced Stop start start) start (sequence_end start)
ending_sequence side (at_slash spaced start) =
    answered (between side spaced Slash start (past_one start)) start (sequence_end start)
ending_sequence open_side (without_head spaced start fault after) = two_faults_sequence fault after
ending_sequence open_side (within_piece spaced start fault after) = fault_sequence fault after
ending_sequence open_side (within_gap fault after) = two_faults_sequence fault after
ending_sequence closed_side (without_head false start fault after) = fault_sequence fault after
ending_sequence closed_side (without_head true start fault after) =
    token_then descendant_combinator start (two_faults_sequence fault after)
ending_sequence closed_side (within_piece false start fault after) = fault_sequence fault after
ending_sequence closed_side (within_piece true start fault after) =
    token_then descendant_combinator start (fault_sequence fault after)
ending_sequence closed_side (within_gap fault after) = fault_sequence fault after

-- The sequence of pieces and what ends them, after a left side.
abbrev pub sequence : Side → List Piece → Ending → TokenSequence
sequence side [] end = ending_sequence side end
sequence side (p ∷ ps) end =
    answered (between side p.spaced p.kind p.start p.after) p.start
    (token_then p.token p.after (sequence (side_after p.kind) ps end))

-- the sequence of the rest, after a left side
unfoldable pub sequence_from : Edition → Side → List ℕ → TokenSequence
sequence_from edition side text =
    sequence side (pieces edition text).0 (ending edition (pieces edition text).1)

-- the whole sequence of a text
abbrev pub sequence_of : Edition → List ℕ → TokenSequence
sequence_of edition text = sequence_from edition open_side text

-- the items of a sequence
abbrev pub items : TokenSequence → List (Result Token Fault)
items (item x after rest) = x ∷ items rest
items (sequence_end left) = []

-- a token, or the error that reports a fault in a text
abbrev pub reported_in : List ℕ → Result Token Fault → Result Token Error
reported_in text (Ok token) = Ok token
reported_in text (Err fault) = Err (error_of text fault)

-- what a tokenizer yields on a whole text
abbrev pub tokens_of : Edition → List ℕ → List (Result Token Error)
tokens_of edition text = map (reported_in text) (items (sequence_of edition text))

-- the number of faults in a sequence
abbrev pub fault_count : TokenSequence → ℕ
fault_count (item (Ok token) after rest) = fault_count rest
fault_count (item (Err fault) after rest) = 1 + fault_count rest
fault_count (sequence_end left) = 0

-- the names and values in an item of a sequence
abbrev pub item_texts : Result Token Fault → List (List ℕ)
item_texts (Ok token) = token_texts token
item_texts (Err fault) = []

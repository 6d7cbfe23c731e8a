-- The sequence of a text, piece by piece.
-- Serves `SelectorTokenizer`, `Selector::parse_front` and `laws::at_most_two_errors` (the sequence
-- of a text).
use Rattle.std.proofs.Common.{◌≡◌, ℕ, ◌≤◌, List, [], ◌∷◌, true, false, None, Some, arith, refl, ap}
use Rattle.css_text.specs.Reading.{Fault, got, fails, found, followed_by, each}
use Rattle.css_text.specs.Bytes.{past_one}
use Rattle.simplecss_grammar.specs.declared.next_kind.NextKind.TheVariants.{Stop, Slash}
use Rattle.css_text.specs.Characters.{Edition}
use Rattle.simplecss_grammar.specs.Pieces.{Piece, piece, next_piece, pieces, Ending, ending}
use Rattle.simplecss_grammar.specs.Pieces.Ending.{at_stop, at_slash, without_head, within_piece, within_gap}
use Rattle.simplecss_grammar.specs.Neighbours.{Side, Answer, between, side_after}
use Rattle.simplecss_grammar.specs.Neighbours.Side.{open_side, closed_side}
use Rattle.simplecss_grammar.specs.Neighbours.Answer.{nothing, descends, refuses}
use Rattle.simplecss_grammar.specs.TokenSequences.{TokenSequence, sequence, sequence_from, sequence_of, answered, token_then, ending_sequence, fault_count}
use Rattle.simplecss_grammar.specs.TokenSequences.TokenSequence.{sequence_end}
use Rattle.simplecss_grammar.proofs.reading.PiecesLawful.{next_piece-takes}
use Rattle.css_text.proofs.reading.EachLemmas.{each-none, each-some}

-- a piece is read: what is between it and the left side, its token, and the sequence after it
pub sequence_from-piece : (edition : Edition) (side : Side) (text after : List ℕ) (p : Piece)
    → piece edition text ≡ got p after → sequence_from edition side text
    ≡ answered (between side p.spaced p.kind p.start p.after) p.start
    (token_then p.token p.after (sequence_from edition (side_after p.kind) after))
unfolding sequence_from
sequence_from-piece edition side text after p e =
    let next : next_piece edition text ≡ Some (p, after) = ap found e in
    let listed : each (next_piece edition) text
    ≡ followed_by p (each (next_piece edition) after) = each-some (next_piece edition)
    (next_piece-takes edition) text after p next in
    rw listed refl

-- no piece is read: what the pieces end by
pub sequence_from-ending : (edition : Edition) (side : Side) (text rest : List ℕ) (fault : Fault)
    → piece edition text ≡ fails fault rest
    → sequence_from edition side text ≡ ending_sequence side (ending edition text)
unfolding sequence_from
sequence_from-ending edition side text rest fault e =
    let next : next_piece edition text ≡ None = ap found e in
    let listed : each (next_piece edition) text
    ≡ ([], text) = each-none (next_piece edition) text next in
    rw listed refl

answered-two : (answer : Answer) (start : List ℕ) (next : TokenSequence) → fault_count next ≤ 2
    → fault_count (answered answer start next) ≤ 2
answered-two nothing start next h = h
answered-two descends start next h = h
answered-two (refuses fault after) start next h = omega arith

ending-two : (side : Side) (end : Ending) → fault_count (ending_sequence side end) ≤ 2
ending-two side (at_stop spaced start) = answered-two (between side spaced Stop start start) start
    (sequence_end start) (omega arith)
ending-two side (at_slash spaced start) = answered-two
    (between side spaced Slash start (past_one start)) start (sequence_end start) (omega arith)
ending-two open_side (without_head spaced start fault after) = omega arith
ending-two open_side (within_piece spaced start fault after) = omega arith
ending-two open_side (within_gap fault after) = omega arith
ending-two closed_side (without_head true start fault after) = omega arith
ending-two closed_side (without_head false start fault after) = omega arith
ending-two closed_side (within_piece true start fault after) = omega arith
ending-two closed_side (within_piece false start fault after) = omega arith
ending-two closed_side (within_gap fault after) = omega arith

-- a sequence has at most two faults
sequence-two : (side : Side) (ps : List Piece) (end : Ending)
    → fault_count (sequence side ps end) ≤ 2
sequence-two side [] end = ending-two side end
sequence-two side (p ∷ ps) end = answered-two (between side p.spaced p.kind p.start p.after) p.start
    (token_then p.token p.after (sequence (side_after p.kind) ps end))
    (sequence-two (side_after p.kind) ps end)

-- what a tokenizer yields on a text has at most two errors
pub sequence_of-two : (edition : Edition) (text : List ℕ)
    → fault_count (sequence_of edition text) ≤ 2
unfolding sequence_from
sequence_of-two edition text = sequence-two open_side (pieces edition text).0
    (ending edition (pieces edition text).1)

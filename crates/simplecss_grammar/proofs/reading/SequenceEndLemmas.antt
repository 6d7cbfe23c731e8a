-- What a sequence yields is in its text, each item after the one before, and what reading
-- leaves is an end of the text.
-- Serves `next` of `SelectorTokenizer` (slices in order), `consume_parts`, `laws::cutting_law` and
-- `laws::edition_law`.
use Rattle.std.proofs.Common.{ℕ, zero, suc, List, [], ◌∷◌, Bool, true, false, length, Ok, Err, Option, Some, None, IsUtf8}
use Rattle.css_text.specs.Reading.{Reading, got, fails, follow, found, and_then, up_to, each, Ends}
use Rattle.css_text.specs.Bytes.{past_one}
use Rattle.simplecss_grammar.specs.declared.next_kind.NextKind.{NextKind}
use Rattle.simplecss_grammar.specs.declared.next_kind.NextKind.TheVariants.{Stop, Slash}
use Rattle.css_text.specs.Slices.{OccurBetween}
use Rattle.css_text.specs.Characters.{Edition}
use Rattle.css_text.specs.Comments.{gap}
use Rattle.simplecss_grammar.specs.Tokens.{Token, token_texts}
use Rattle.simplecss_grammar.specs.Tokens.Token.{descendant_combinator}
use Rattle.simplecss_grammar.specs.Pieces.{Piece, piece, next_piece, pieces, Ending, ending, gap_ending, solid_ending, next_kind, solid}
use Rattle.simplecss_grammar.specs.Pieces.Ending.{at_stop, at_slash, without_head, within_piece, within_gap}
use Rattle.simplecss_grammar.specs.Neighbours.{Side, Answer, between, side_after}
use Rattle.simplecss_grammar.specs.Neighbours.Side.{open_side, closed_side}
use Rattle.simplecss_grammar.specs.Neighbours.Answer.{nothing, descends, refuses}
use Rattle.simplecss_grammar.specs.TokenSequences.{TokenSequence, sequence, sequence_from, sequence_of, answered, token_then, ending_sequence, item_texts}
use Rattle.simplecss_grammar.specs.TokenSequences.TokenSequence.{item, sequence_end}
use Rattle.simplecss_grammar.specs.Selectors.{Role, role_of, Outcome, with_role, after_role, outcome, selector_of, reads}
use Rattle.simplecss_grammar.specs.Selectors.Outcome.{refused, accepted}
use Rattle.simplecss_grammar.proofs.reading.KindLemmas.{between-case, fault_ending-case}
use Rattle.css_text.proofs.reading.EndsLemmas.{ends-same, ends-ends, ends-past_one, occur-from, occur-ends, Occurs, no_texts}
use Rattle.simplecss_grammar.proofs.reading.OccurrenceLemmas.{gap-occurs, Sees, sees_nothing, sees_texts, solid-occurs}

-- The texts of a sequence's tokens are in order in the text, each after the rest that the item
-- before left.
abbrev pub SequenceOccurs : (Token → List (List ℕ)) → List ℕ → TokenSequence → Type 0
SequenceOccurs texts text (item (Ok token) after rest) = OccurBetween text after (texts token)
    × SequenceOccurs texts after rest
SequenceOccurs texts text (item (Err fault) after rest) = Ends text after
    × SequenceOccurs texts after rest
SequenceOccurs texts text (sequence_end left) = Ends text left

sequence-occurs-from : (texts : Token → List (List ℕ)) (from text : List ℕ) (r : TokenSequence)
    → Ends from text → SequenceOccurs texts text r → SequenceOccurs texts from r
sequence-occurs-from texts from text (item (Ok token) after rest) e h =
    (occur-from from text after (texts token) e h.0, h.1)
sequence-occurs-from texts from text (item (Err fault) after rest) e h =
    (ends-ends from text after e h.0, h.1)
sequence-occurs-from texts from text (sequence_end left) e h = ends-ends from text left e h

-- ---- the answers between neighbours

abbrev AnswerEnds : List ℕ → Answer → Type 0
AnswerEnds text nothing = Unit {0}
AnswerEnds text descends = Unit {0}
AnswerEnds text (refuses fault after) = Ends text after

between-ends : (text : List ℕ) (side : Side) (spaced : Bool) (kind : NextKind)
    (start after : List ℕ) → Ends text start → Ends text after
    → AnswerEnds text (between side spaced kind start after)
between-ends text side spaced kind start after s a = between-case (AnswerEnds text) side spaced kind
    start after tt (λ e. tt) (λ f k. s) (λ f. a)

answered-occurs : {Good : List ℕ → Type 0} {texts : Token → List (List ℕ)} → Sees Good texts
    → (text : List ℕ) (answer : Answer) (start : List ℕ) (next : TokenSequence)
    → AnswerEnds text answer → Ends text start → SequenceOccurs texts start next
    → SequenceOccurs texts text (answered answer start next)
answered-occurs {texts = texts} sees text nothing start next a s h = sequence-occurs-from texts text
    start next s h
answered-occurs {texts = texts} sees text descends start next a s h =
    ((sees.seen text (got descendant_combinator start) (record { at = s })).at, h)
answered-occurs sees text (refuses fault after) start next a s h = (a, ends-same after)

-- ---- endings

abbrev EndingEnds : List ℕ → Ending → Type 0
EndingEnds text (at_stop spaced start) = Ends text start
EndingEnds text (at_slash spaced start) = Ends text start
EndingEnds text (without_head spaced start fault after) = Ends text start × Ends start after
EndingEnds text (within_piece spaced start fault after) = Ends text start × Ends start after
EndingEnds text (within_gap fault after) = Ends text after

ending_sequence-occurs : {Good : List ℕ → Type 0} {texts : Token → List (List ℕ)} → Sees Good texts
    → (text : List ℕ) (side : Side) (end : Ending) → EndingEnds text end
    → SequenceOccurs texts text (ending_sequence side end)
ending_sequence-occurs {texts = texts} sees text side end = by side end
  where
    descends_at : (start : List ℕ) → Ends text start
        → OccurBetween text start (texts descendant_combinator)
    descends_at start h = (sees.seen text (got descendant_combinator start) (record { at = h })).at

    by : (side : Side) (end : Ending) → EndingEnds text end
        → SequenceOccurs texts text (ending_sequence side end)
    by side (at_stop spaced start) h = answered-occurs sees text
        (between side spaced Stop start start) start (sequence_end start)
        (between-ends text side spaced Stop start start h h) h (ends-same start)
    by side (at_slash spaced start) h = answered-occurs sees text
        (between side spaced Slash start (past_one start)) start (sequence_end start)
        (between-ends text side spaced Slash start (past_one start) h
        (ends-ends text start (past_one start) h (ends-past_one start))) h (ends-same start)
    by open_side (without_head spaced start fault after) h =
        (ends-ends text start after h.0 h.1, (ends-same after, ends-same after))
    by open_side (within_piece spaced start fault after) h =
        (ends-ends text start after h.0 h.1, ends-same after)
    by open_side (within_gap fault after) h = (h, (ends-same after, ends-same after))
    by closed_side (without_head false start fault after) h =
        (ends-ends text start after h.0 h.1, ends-same after)
    by closed_side (without_head true start fault after) h =
        (descends_at start h.0, (h.1, (ends-same after, ends-same after)))
    by closed_side (within_piece false start fault after) h =
        (ends-ends text start after h.0 h.1, ends-same after)
    by closed_side (within_piece true start fault after) h =
        (descends_at start h.0, (h.1, ends-same after))
    by closed_side (within_gap fault after) h = (h, ends-same after)

solid_ending-ends : (text : List ℕ) (spaced : Bool) (start : List ℕ) (r : Reading Token)
    → Ends text start → Occurs start no_texts r → EndingEnds text (solid_ending spaced start r)
solid_ending-ends text spaced start (got token after) s h = s
solid_ending-ends text spaced start (fails fault after) s h = fault_ending-case (EndingEnds text)
    (next_kind start) spaced start fault after (λ k. s) (λ k. s) (s, h.at) (s, h.at)

gap_ending-ends : (edition : Edition) (text : List ℕ) (r : Reading Bool) → Occurs text no_texts r
    → EndingEnds text (gap_ending edition r)
gap_ending-ends edition text (fails fault after) h = h.at
gap_ending-ends edition text (got spaced start) h =
    solid_ending-ends text spaced start (solid edition start) h.at
    (solid-occurs sees_nothing edition start start tt (ends-same start))

-- the rests that an ending names are ends of the text
ending-ends : (edition : Edition) (text : List ℕ) → EndingEnds text (ending edition text)
unfolding ending
ending-ends edition text = gap_ending-ends edition text (gap text) (gap-occurs text)

-- ---- pieces

-- the piece with this gap, start and token, and what follows it
abbrev pub piece_with : Bool → List ℕ → Token → List ℕ → Reading Piece
piece_with spaced start token after = got (record {
  spaced = spaced;
  start = start;
  kind = next_kind start;
  token = token;
  after = after;
}) after

-- A piece that is read: its start is an end of the text, and its token's texts are from there to
-- what it leaves.
abbrev pub PieceOccurs : (Token → List (List ℕ)) → List ℕ → Reading Piece → Type 0
PieceOccurs texts text (got p rest) = Ends text p.start
    × OccurBetween p.start p.after (texts p.token) × Ends p.after rest
PieceOccurs texts text (fails fault rest) = Ends text rest

pub piece-occurs : {Good : List ℕ → Type 0} {texts : Token → List (List ℕ)} → Sees Good texts
    → (edition : Edition) (whole text : List ℕ) → Good whole → Ends whole text
    → PieceOccurs texts text (piece edition text)
unfolding piece
piece-occurs {texts = texts} sees edition whole text good e = by (gap text) (gap-occurs text)
  where
    inner : (spaced : Bool) (start : List ℕ) (r : Reading Token) → Ends text start
        → Occurs start texts r → PieceOccurs texts text
        (follow r (piece_with spaced start))
    inner spaced start (got token after) s h = (s, h.at, ends-same after)
    inner spaced start (fails fault after) s h = ends-ends text start after s h.at

    by : (r : Reading Bool) → Occurs text no_texts r
        → PieceOccurs texts text (follow r (λ spaced start. follow (solid edition start)
        (piece_with spaced start)))
    by (got spaced start) h = inner spaced start (solid edition start) h.at
        (solid-occurs sees edition whole start good (ends-ends whole text start e h.at))
    by (fails fault rest) h = h.at

-- pieces, each after the one before, and what is left after the last
abbrev PiecesOccur : (Token → List (List ℕ)) → List ℕ → List Piece × List ℕ → Type 0
PiecesOccur texts text ([], left) = Ends text left
PiecesOccur texts text (p ∷ ps, left) = Ends text p.start
    × OccurBetween p.start p.after (texts p.token) × PiecesOccur texts p.after (ps, left)

pieces-occur-from : (texts : Token → List (List ℕ)) (from text : List ℕ) (ps : List Piece)
    (left : List ℕ) → Ends from text → PiecesOccur texts text (ps, left)
    → PiecesOccur texts from (ps, left)
pieces-occur-from texts from text [] left e h = ends-ends from text left e h
pieces-occur-from texts from text (p ∷ ps) left e h = (ends-ends from text p.start e h.0, h.1, h.2)

up_to-occur : {Good : List ℕ → Type 0} {texts : Token → List (List ℕ)} → Sees Good texts
    → (edition : Edition) (whole : List ℕ) → Good whole → (k : ℕ) (text : List ℕ) → Ends whole text
    → PiecesOccur texts text (up_to k (next_piece edition) text)
up_to-occur sees edition whole good zero text e = ends-same text
up_to-occur {texts = texts} sees edition whole good (suc k) text e = by
    (λ t. up_to-occur sees edition whole good k t) (piece edition text)
    (piece-occurs sees edition whole text good e)
  where
    by : ((t : List ℕ) → Ends whole t → PiecesOccur texts t (up_to k (next_piece edition) t))
        → (r : Reading Piece) → PieceOccurs texts text r
        → PiecesOccur texts text (and_then text (found r) (up_to k (next_piece edition)))
    by more (got p rest) h =
        let on : Ends whole rest = ends-ends whole text rest e
        (ends-ends text p.start rest h.0 (ends-ends p.start p.after rest
        (occur-ends p.start p.after (texts p.token) h.1) h.2)) in
        let following = up_to k (next_piece edition) rest in
        (h.0, h.1, pieces-occur-from texts p.after rest following.0 following.1 h.2 (more rest on))
    by more (fails fault rest) h = ends-same text

pieces-occur : {Good : List ℕ → Type 0} {texts : Token → List (List ℕ)} → Sees Good texts
    → (edition : Edition) (whole text : List ℕ) → Good whole → Ends whole text
    → PiecesOccur texts text (pieces edition text)
unfolding each
pieces-occur sees edition whole text good e = up_to-occur sees edition whole good (length text) text
    e

-- ---- the sequence

sequence-occurs : {Good : List ℕ → Type 0} {texts : Token → List (List ℕ)} → Sees Good texts
    → (text : List ℕ) (side : Side) (ps : List Piece) (rest : List ℕ) (end : Ending)
    → PiecesOccur texts text (ps, rest) → EndingEnds rest end
    → SequenceOccurs texts text (sequence side ps end)
sequence-occurs {texts = texts} sees text side [] rest end p e =
    sequence-occurs-from texts text rest (sequence side [] end) p
    (ending_sequence-occurs sees rest side end e)
sequence-occurs {texts = texts} sees text side (p ∷ ps) rest end h e =
    let after : Ends text p.after = ends-ends text p.start p.after h.0
    (occur-ends p.start p.after (texts p.token) h.1) in
    answered-occurs sees text (between side p.spaced p.kind p.start p.after) p.start
    (token_then p.token p.after (sequence (side_after p.kind) ps end))
    (between-ends text side p.spaced p.kind p.start p.after h.0 after) h.0
    (h.1, sequence-occurs sees p.after (side_after p.kind) ps rest end h.2 e)

pub sequence_from-occurs : {Good : List ℕ → Type 0} {texts : Token → List (List ℕ)}
    → Sees Good texts → (edition : Edition) (side : Side) (text : List ℕ) → Good text
    → SequenceOccurs texts text (sequence_from edition side text)
unfolding sequence_from
sequence_from-occurs sees edition side text good =
    let rest = (pieces edition text).1 in
    sequence-occurs sees text side (pieces edition text).0 rest (ending edition rest)
    (pieces-occur sees edition text text good (ends-same text)) (ending-ends edition rest)

-- the texts of what a sequence yields first are before what is left then
abbrev pub FirstOccurs : List ℕ → TokenSequence → Type 0
FirstOccurs text (item x after rest) = OccurBetween text after (item_texts x)
FirstOccurs text (sequence_end left) = Ends text left

first-occurs : (text : List ℕ) (r : TokenSequence) → SequenceOccurs token_texts text r
    → FirstOccurs text r
first-occurs text (item (Ok token) after rest) h = h.0
first-occurs text (item (Err fault) after rest) h = h.0
first-occurs text (sequence_end left) h = h

pub sequence_from-first : (edition : Edition) (side : Side) (text : List ℕ) → IsUtf8 text
    → FirstOccurs text (sequence_from edition side text)
sequence_from-first edition side text u = first-occurs text (sequence_from edition side text)
    (sequence_from-occurs sees_texts edition side text u)

-- ---- selectors

abbrev OutcomeEnds : List ℕ → Outcome → Type 0
OutcomeEnds text (refused left) = Ends text left
OutcomeEnds text (accepted roles left) = Ends text left

with_role-ends : (text : List ℕ) (role : Role) (o : Outcome) → OutcomeEnds text o
    → OutcomeEnds text (with_role role o)
with_role-ends text role (refused left) h = h
with_role-ends text role (accepted roles left) h = h

outcome-ends-from : (from text : List ℕ) (o : Outcome) → Ends from text → OutcomeEnds text o
    → OutcomeEnds from o
outcome-ends-from from text (refused left) e h = ends-ends from text left e h
outcome-ends-from from text (accepted roles left) e h = ends-ends from text left e h

after_role-ends : (text : List ℕ) (role : Option Role) (after : List ℕ) (o : Outcome)
    → Ends text after → OutcomeEnds text o → OutcomeEnds text (after_role role after o)
after_role-ends text (Some role) after o a h = with_role-ends text role o h
after_role-ends text None after o a h = a

outcome-ends : (text : List ℕ) (r : TokenSequence) → SequenceOccurs no_texts text r
    → OutcomeEnds text (outcome r)
outcome-ends text (sequence_end left) h = h
outcome-ends text (item (Err fault) after rest) h = h.0
outcome-ends text (item (Ok token) after rest) h = after_role-ends text (role_of token) after
    (outcome rest) h.0 (outcome-ends-from text after (outcome rest) h.0
    (outcome-ends after rest h.1))

selector_of-ends : (text : List ℕ) (o : Outcome) → OutcomeEnds text o → Ends text (selector_of o).1
selector_of-ends text (refused left) h = h
selector_of-ends text (accepted roles left) h = h

-- what is left after a selector is an end of the text
pub reads-ends : (edition : Edition) (text : List ℕ) → Ends text (reads edition text).1
unfolding reads
reads-ends edition text = selector_of-ends text (outcome (sequence_of edition text))
    (outcome-ends text (sequence_of edition text)
    (sequence_from-occurs sees_nothing edition open_side text tt))

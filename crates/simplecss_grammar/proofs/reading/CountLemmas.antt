-- How many declarations and tokens a text has at most.
-- Serves `SelectorTokenizer::from` and `DeclarationTokenizer::from` (how many items are to come at
-- most).
use Rattle.std.proofs.Common.{◌≡◌, ◌≤◌, ◌<◌, ◌+◌, List, ℕ, [], ◌∷◌, Bool, true, false, suc, zero, length, Option, Some, None, refl, sym, subst, arith}
use Rattle.std.specs.List.{list_any}
use Rattle.css_text.specs.Reading.{Fault, Reading, got, fails, up_to, each, and_then}
use Rattle.css_text.specs.Bytes.{past_one}
use Rattle.simplecss_grammar.specs.declared.next_kind.NextKind.{NextKind}
use Rattle.simplecss_grammar.specs.declared.next_kind.NextKind.TheVariants.{Stop, Slash}
use Rattle.css_text.specs.Characters.{Edition}
use Rattle.css_text.specs.Comments.{opens_comment, blank_part, past_blank, has_space, gap}
use Rattle.simplecss_grammar.specs.Tokens.{Token}
use Rattle.simplecss_grammar.specs.Pieces.{next_kind, solid, fault_ending}
use Rattle.simplecss_grammar.specs.Pieces.Ending.{without_head, within_piece, within_gap}
use Rattle.simplecss_grammar.specs.Neighbours.{Side, between, side_after}
use Rattle.simplecss_grammar.specs.Neighbours.Side.{open_side, closed_side}
use Rattle.simplecss_grammar.specs.TokenSequences.{TokenSequence, sequence_from, items, answered, token_then, ending_sequence}
use Rattle.simplecss_grammar.specs.TokenSequences.TokenSequence.{sequence_end}
use Rattle.simplecss_grammar.specs.Declarations.{next_declaration, declarations}
use Rattle.simplecss_grammar.proofs.reading.PiecesLawful.{solid-cuts}
use Rattle.simplecss_grammar.proofs.reading.KindLemmas.{between-case, fault_ending-case}
use Rattle.css_text.proofs.reading.EachLemmas.{Shrinks, Takes}
use Rattle.css_text.proofs.reading.LengthLemmas.{length-each}
use Rattle.css_text.proofs.reading.TakesLemmas.{Cuts, blank_part-takes}
use Rattle.css_text.proofs.bytes.GapLemmas.{gap_is_closed, gap_is_open}
use Rattle.simplecss_grammar.proofs.reading.SequenceSteps.{solid_sequence, gap_sequence, sequence_from-by}

-- a text has at most as many declarations as bytes
pub length-declarations : (edition : Edition) (text : List ℕ)
    → length (declarations edition text) ≤ length text
unfolding declarations
length-declarations edition text = length-each (next_declaration edition) text

-- ---- each value consumes a byte or more

length-up_to_both : {A : Type 0} (read : List ℕ → Option (A × List ℕ)) → Takes read
    → (n : ℕ) (text : List ℕ) → length (up_to n read text).0 + length (up_to n read text).1 ≤ length
    text
length-up_to_both read takes zero text = omega arith
length-up_to_both {A = A} read takes (suc n) text = by (λ rest. length-up_to_both read takes n rest)
    (read text) (takes text)
  where
    by : ((rest : List ℕ) → length (up_to n read rest).0 + length (up_to n read rest).1 ≤ length
        rest) → (o : Option (A × List ℕ)) → Shrinks text o
        → length (and_then text o (up_to n read)).0 + length (and_then text o (up_to n read)).1 ≤
        length text
    by more None h = omega arith
    by more (Some x) h = omega (arith, more x.1)

length-each_both : {A : Type 0} (read : List ℕ → Option (A × List ℕ)) → Takes read → (text : List ℕ)
    → length (each read text).0 + length (each read text).1 ≤ length text
unfolding each
length-each_both read takes text = length-up_to_both read takes (length text) text

-- the byte of a gap that has a space byte
abbrev space_of : Bool → ℕ
space_of true = 1
space_of false = 0

any-space : (parts : List Bool) → space_of (list_any (λ is_space_byte. is_space_byte) parts) ≤
    length parts
any-space [] = omega arith
any-space (true ∷ parts) = omega arith
any-space (false ∷ parts) = omega (arith, any-space parts)

-- a gap with a space byte consumes a byte
gap-takes : (text start : List ℕ) (spaced : Bool) → gap text ≡ got spaced start
    → space_of spaced + length start ≤ length text
gap-takes text start spaced e = by (opens_comment (past_blank text)) refl
  where
    by : (t : Bool) → opens_comment (past_blank text) ≡ t
        → space_of spaced + length start ≤ length text
    by true is = let failed = gap_is_open text is in absurd (cc)
    by false is =
        let closed = gap_is_closed text is in
        let reported : has_space text ≡ spaced = cc in
        let left : past_blank text ≡ start = cc in
        rw (← reported, ← left) (omega (
          arith,
          any-space (each blank_part text).0,
          length-each_both
              blank_part blank_part-takes text,
        ))

-- ---- the items of a sequence

-- an answer adds an item only where a gap has a space byte, or is the only one
length-between : (side : Side) (spaced : Bool) (kind : NextKind) (start after : List ℕ)
    (next : TokenSequence) (n : ℕ) → 1 ≤ n → length (items next) ≤ n
    → length (items (answered (between side spaced kind start after) start next)) ≤ space_of spaced
    + n
length-between side spaced kind start after next n one h =
    between-case (λ answer. length (items (answered answer start next)) ≤ space_of spaced + n) side
    spaced kind start after
    (omega arith) (λ e. rw e (omega arith)) (λ f k. omega arith) (λ f. omega arith)

length-ending_sequence : (side : Side) (spaced : Bool) (start : List ℕ) (kind : NextKind)
    (fault : Fault) (after : List ℕ) → length
    (items (ending_sequence side (fault_ending kind spaced start fault after))) ≤ space_of spaced +
    2
length-ending_sequence side spaced start kind fault after =
    fault_ending-case (λ end. length (items (ending_sequence side end)) ≤ space_of spaced + 2) kind
    spaced start fault after
    (λ k. length-between side spaced Stop start start (sequence_end start) 2 (omega arith)
    (omega arith))
    (λ k. length-between side spaced Slash start (past_one start) (sequence_end start) 2
    (omega arith) (omega arith))
    (headless side spaced) (broken side spaced)
  where
    headless : (side : Side) (spaced : Bool)
        → length (items (ending_sequence side (without_head spaced start fault after))) ≤ space_of
        spaced + 2
    headless open_side spaced = omega arith
    headless closed_side true = omega arith
    headless closed_side false = omega arith

    broken : (side : Side) (spaced : Bool)
        → length (items (ending_sequence side (within_piece spaced start fault after))) ≤ space_of
        spaced + 2
    broken open_side spaced = omega arith
    broken closed_side true = omega arith
    broken closed_side false = omega arith

length-within_gap : (side : Side) (fault : Fault) (after : List ℕ)
    → length (items (ending_sequence side (within_gap fault after))) ≤ 2
length-within_gap open_side fault after = omega arith
length-within_gap closed_side fault after = omega arith

-- The bound, for texts shorter than n.
abbrev Bounded : Edition → ℕ → Type 0
Bounded edition n = (side : Side) (text : List ℕ) → length text < n
    → length (items (sequence_from edition side text)) ≤ length text + 2

length-solid_sequence : (edition : Edition) (n : ℕ) → Bounded edition n
    → (side : Side) (spaced : Bool) (kind : NextKind) (start : List ℕ) (r : Reading Token)
    → length start ≤ n → Cuts start r → length
    (items (solid_sequence edition side spaced kind start r)) ≤ space_of spaced + length start + 2
length-solid_sequence edition n more side spaced kind start (got token after) l cuts =
    let following = more (side_after kind) after (omega arith) in
    let all = length-between side spaced kind start after
    (token_then token after (sequence_from edition (side_after kind) after))
    (1 + length (items (sequence_from edition (side_after kind) after))) (omega arith)
    (omega arith) in
    omega (arith, following, all)
length-solid_sequence edition n more side spaced kind start (fails fault after) l cuts = omega
    (arith, length-ending_sequence side spaced start kind fault after)

length-sequence_below : (edition : Edition) (n : ℕ) → Bounded edition n
length-sequence_below edition zero left text l = absurd (omega arith)
length-sequence_below edition (suc n) left text l =
    subst (λ (r : TokenSequence). length (items r) ≤ length text + 2)
    (sym (sequence_from-by edition left text))
    (by (length-sequence_below edition n) (gap text) refl)
  where
    by : Bounded edition n → (r : Reading Bool) → gap text ≡ r
        → length (items (gap_sequence edition left r)) ≤ length text + 2
    by more (got spaced start) e =
        let takes = gap-takes text start spaced e in
        omega (
          arith,
          takes,
          length-solid_sequence edition n more left spaced (next_kind start)
              start (solid edition start) (omega (arith, takes)) (solid-cuts edition start),
        )
    by more (fails fault after) e = omega (arith, length-within_gap left fault after)

-- a sequence has at most as many items as its text has bytes, and two more
pub length-sequence_from : (edition : Edition) (side : Side) (text : List ℕ)
    → length (items (sequence_from edition side text)) ≤ length text + 2
length-sequence_from edition side text = length-sequence_below edition (suc (length text)) side text
    (omega arith)

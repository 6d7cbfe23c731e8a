-- What is at the front of a text decides its sequence: a gap, the kind of what follows
-- it, and what is read there.
-- Serves `SelectorTokenizer` (what is to come), `Selector::parse_front` and `laws::cutting_law`.
use Rattle.std.proofs.Common.{Bool, List, true, false, refl, sym, ap, ℕ, ◌∙◌, ◌≡◌}
use Rattle.css_text.specs.Reading.{Fault, Reading, fails, got}
use Rattle.css_text.specs.Characters.{Edition}
use Rattle.css_text.specs.Comments.{gap}
use Rattle.simplecss_grammar.specs.declared.next_kind.NextKind.{NextKind}
use Rattle.simplecss_grammar.specs.declared.next_kind.NextKind.TheVariants.{Stop, Slash, Child, Adjacent, Universal, Id, Class, Attribute, Colon, Other}
use Rattle.simplecss_grammar.specs.Tokens.{Token}
use Rattle.simplecss_grammar.specs.Tokens.Token.{descendant_combinator}
use Rattle.simplecss_grammar.specs.Pieces.{IsSimplePiece, next_kind, solid_as, solid, piece, ending, fault_ending}
use Rattle.simplecss_grammar.specs.Pieces.Ending.{within_gap}
use Rattle.simplecss_grammar.specs.Neighbours.{Side, between, side_after}
use Rattle.simplecss_grammar.specs.Neighbours.Side.{open_side, closed_side}
use Rattle.simplecss_grammar.specs.TokenSequences.{TokenSequence, answered, ending_sequence, sequence_from, token_then}
use Rattle.simplecss_grammar.proofs.reading.SequenceLemmas.{sequence_from-ending, sequence_from-piece}
use Rattle.simplecss_grammar.proofs.reading.KindLemmas.{solid-kind_known}
use Rattle.css_text.proofs.bytes.GapLemmas.{gap-again}

-- the sequence after a gap, by the kind of what is there and what is read as a solid piece
abbrev pub solid_sequence : Edition → Side → Bool → NextKind → List ℕ → Reading Token
    → TokenSequence
solid_sequence edition side spaced kind start (got token after) = answered
    (between side spaced kind start after) start
    (token_then token after (sequence_from edition (side_after kind) after))
solid_sequence edition side spaced kind start (fails fault after) = ending_sequence side
    (fault_ending kind spaced start fault after)

-- the sequence, from what is read as its gap
abbrev pub gap_sequence : Edition → Side → Reading Bool → TokenSequence
gap_sequence edition side (got spaced start) = solid_sequence edition side spaced (next_kind start)
    start (solid edition start)
gap_sequence edition side (fails fault after) = ending_sequence side (within_gap fault after)

module _ (edition : Edition) where
  -- a comment in the gap is open
  pub sequence_from-open_gap : (side : Side) (text after : List ℕ) (fault : Fault)
      → gap text ≡ fails fault after → sequence_from edition side text
      ≡ ending_sequence side (within_gap fault after)
  unfolding piece ending
  sequence_from-open_gap side text after fault g =
      let failed : piece edition text ≡ fails fault after = rw g refl in
      sequence_from-ending edition side text after fault failed ∙ rw g refl

  -- a solid piece is there, or its fault
  pub sequence_from-solid : (side : Side) (text start : List ℕ) (spaced : Bool) (r : Reading Token)
      → gap text ≡ got spaced start → solid edition start ≡ r
      → sequence_from edition side text ≡ solid_sequence edition side spaced (next_kind start) start
      r
  unfolding piece ending
  sequence_from-solid side text start spaced (got token after) g s =
      let read : piece edition text ≡ got (record {
        spaced = spaced;
        start = start;
        kind = next_kind
            start;
        token = token;
        after = after;
      }) after = rw (g, s) refl in
      sequence_from-piece edition side text after (record {
        spaced = spaced;
        start = start;
        kind =
            next_kind start;
        token = token;
        after = after;
      }) read
  sequence_from-solid side text start spaced (fails fault after) g s =
      let failed : piece edition text ≡ fails fault after = rw (g, s) refl in
      sequence_from-ending edition side text after fault failed ∙ rw (g, s) refl

  -- the same, where the kind is known
  pub sequence_from-kind : (side : Side) (text start : List ℕ) (spaced : Bool) (kind : NextKind)
      (r : Reading Token) → gap text ≡ got spaced start → next_kind start ≡ kind
      → solid_as edition kind start ≡ r → sequence_from edition side text
      ≡ solid_sequence edition side spaced kind start r
  sequence_from-kind side text start spaced kind r g k s =
      sequence_from-solid side text start spaced r g (solid-kind_known edition kind start k ∙ s)
      ∙ ap (λ k. solid_sequence edition side spaced k start r) k

  pub sequence_from-by : (side : Side) (text : List ℕ)
      → sequence_from edition side text ≡ gap_sequence edition side (gap text)
  sequence_from-by side text = by (gap text) refl
    where
      by : (r : Reading Bool) → gap text ≡ r → sequence_from edition side text
          ≡ gap_sequence edition side r
      by (fails fault after) g = sequence_from-open_gap side text after fault g
      by (got spaced start) g = sequence_from-solid side text start spaced
          (solid edition start) g refl

  -- after a simple piece and a space byte: a descendant combinator, and then the sequence is as at
  -- the start of a text
  descends : (kind : NextKind) (start : List ℕ) (r : Reading Token) → IsSimplePiece kind
      → solid_sequence edition closed_side true kind start r
      ≡ token_then descendant_combinator start (solid_sequence edition open_side false kind start r)
  descends Stop start r simple = absurd simple
  descends Slash start r simple = absurd simple
  descends Child start r simple = absurd simple
  descends Adjacent start r simple = absurd simple
  descends Universal start (got token after) simple = refl
  descends Universal start (fails fault after) simple = refl
  descends Id start (got token after) simple = refl
  descends Id start (fails fault after) simple = refl
  descends Class start (got token after) simple = refl
  descends Class start (fails fault after) simple = refl
  descends Attribute start (got token after) simple = refl
  descends Attribute start (fails fault after) simple = refl
  descends Colon start (got token after) simple = refl
  descends Colon start (fails fault after) simple = refl
  descends Other start (got token after) simple = refl
  descends Other start (fails fault after) simple = refl

  pub sequence_from-descends : (text start : List ℕ) (kind : NextKind) → gap text ≡ got true start
      → next_kind start ≡ kind → IsSimplePiece kind
      → sequence_from edition closed_side text
      ≡ token_then descendant_combinator start (sequence_from edition open_side start)
  sequence_from-descends text start kind g k simple =
      let r = solid_as edition kind start in
      sequence_from-kind closed_side text start true kind r g k refl
      ∙ descends kind start r simple
      ∙ ap (token_then descendant_combinator start) (sym (sequence_from-kind open_side start start
      false kind r (gap-again text start true g) k refl))

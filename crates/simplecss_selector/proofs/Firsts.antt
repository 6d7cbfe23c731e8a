-- A call of a tokenizer returns the first item of its sequence.
-- Serves `next` of `SelectorTokenizer` (what is returned, and what is still to come).
use Rattle.std.proofs.Common.{◌≡◌, ℕ, List, ◌∷◌, Bool, true, false, Option, Some, None, Result, Ok, Err, ◌⊎◌, inl, inr, refl, sym, ap, ◌∙◌, subst, map, IsUtf8, length, arith}
use Rattle.std.specs.Prelude.{⊤}
use Rattle.std.specs.Iterator.{YieldsFirstBy, MakesProgress, item_count}
use Rattle.std.proofs.lemmas.Str.{IsUtf8-drop, IsUtf8-had}
use Rattle.css_text.specs.Reading.{Fault, no_comment, no_selector, unexpected_selector, unexpected_combinator, got, fails}
use Rattle.css_text.specs.Bytes.{past_one}
use Rattle.css_text.specs.Comments.{gap}
use Rattle.css_text.specs.Errors.{error_of, position_of, FailsBy}
use Rattle.css_text.specs.ThisEdition.{this_edition}
use Rattle.css_text.specs.Slices.{OccurBetween}
use Rattle.simplecss_grammar.specs.declared.next_kind.NextKind.{NextKind}
use Rattle.simplecss_grammar.specs.declared.next_kind.NextKind.TheVariants.{Stop, Slash, Child, Adjacent, Universal, Id, Class, Attribute, Colon, Other}
use Rattle.simplecss_grammar.specs.Tokens.{Token, token_texts}
use Rattle.simplecss_grammar.specs.Pieces.{IsSimplePiece, next_kind, solid_as}
use Rattle.simplecss_grammar.specs.Neighbours.Side.{open_side, closed_side}
use Rattle.simplecss_grammar.specs.TokenSequences.{TokenSequence, fault_sequence, items, reported_in}
use Rattle.simplecss_grammar.specs.TokenSequences.TokenSequence.{item}
use Rattle.css_text.specs.declared.error.Error.{Error}
use Rattle.css_text.specs.declared.error.Error.TheVariants.{InvalidComment, SelectorMissing, UnexpectedSelector, UnexpectedCombinator}
use Rattle.css_text.proofs.reading.EndsLemmas.{ends-same, occur-ends}
use Rattle.simplecss_grammar.proofs.reading.OffsetLemmas.{offset-ends}
use Rattle.simplecss_grammar.proofs.reading.SequenceEndLemmas.{FirstOccurs, sequence_from-first}
use Rattle.simplecss_grammar.proofs.reading.SequenceSteps.{solid_sequence, sequence_from-kind, sequence_from-open_gap, sequence_from-descends}
use Rattle.simplecss_grammar.proofs.reading.GivesLemmas.{fails_by-fault}
use Rattle.simplecss_selector.specs.declared.token.SelectorToken.{SelectorToken}
use Rattle.simplecss_selector.specs.declared.token.SelectorToken.TheVariants.{DescendantCombinator}
use Rattle.simplecss_selector.specs.declared.tokenizer.Stage.{Stage}
use Rattle.simplecss_selector.specs.declared.tokenizer.Stage.TheVariants as stages
use Rattle.simplecss_selector.specs.declared.tokenizer.SelectorTokenizer.{SelectorTokenizer}
use Rattle.simplecss_selector.specs.internal.NextKinds.{stage_after_fault}
use Rattle.simplecss_selector.specs.TokenViews.{token_of, item_view, given_texts}
use Rattle.simplecss_selector.specs.SelectorTokenizers.{whole_text, left_of, sequence_in, still_to_come, items_left, GivesFirst, GivesItem}

pub simple_unless : (f : NextKind) → (f ≡ Stop → ⊥) → (f ≡ Slash → ⊥) → (f ≡ Child → ⊥)
    → (f ≡ Adjacent → ⊥) → IsSimplePiece f
simple_unless Stop a b c d = a refl
simple_unless Slash a b c d = b refl
simple_unless Child a b c d = c refl
simple_unless Adjacent a b c d = d refl
simple_unless Universal a b c d = tt
simple_unless Id a b c d = tt
simple_unless Class a b c d = tt
simple_unless Attribute a b c d = tt
simple_unless Colon a b c d = tt
simple_unless Other a b c d = tt

first-token : (text left : List ℕ) (before after : TokenSequence) (token : SelectorToken)
    → before ≡ item (Ok (token_of token)) left after
    → GivesFirst text before (Some (Ok token)) left after
first-token text left before after token is = (Ok (token_of token), refl, is)

first-fault : (text left : List ℕ) (before after : TokenSequence) (fault : Fault) (e : Error)
    → e ≡ error_of text fault → before ≡ item (Err fault) left after
    → GivesFirst text before (Some (Err e)) left after
first-fault text left before after fault e reported is = (Err fault, ap Err reported, is)

-- nothing follows the end
pub ended-first : (text left : List ℕ)
    → GivesFirst text (sequence_in stages.Ended left) None left (sequence_in stages.Ended left)
ended-first text left = (refl, refl)

-- the error that a selector is missing, if it is still to come
pub missing-first : (text left : List ℕ)
    → GivesFirst text (sequence_in stages.Missing left) (Some (Err SelectorMissing)) left
    (sequence_in stages.Ended left)
missing-first text left = first-fault text left _ _ no_selector SelectorMissing refl refl

-- ---- after an open left side

pub open_gap-first : (text rest left : List ℕ) (e : Error) → FailsBy text (gap rest) e left
    → GivesFirst text (sequence_in stages.Open rest) (Some (Err e)) left
    (sequence_in stages.Missing left)
open_gap-first text rest left e h =
    let reported = fails_by-fault text (gap rest) e left h in
    first-fault text left _ _ reported.0 e reported.2
    (sequence_from-open_gap this_edition open_side rest left reported.0 reported.1)

pub open_none-first : (text rest start : List ℕ) (spaced : Bool) (f : NextKind)
    → gap rest ≡ got spaced start → f ≡ next_kind start → (f ≡ Stop) ⊎ (f ≡ Slash)
    → GivesFirst text (sequence_in stages.Open rest) (Some (Err SelectorMissing)) start
    (sequence_in stages.Ended start)
open_none-first text rest start spaced f g k (inl is) =
    first-fault text start _ _ no_selector SelectorMissing refl
    (sequence_from-kind this_edition open_side rest start spaced Stop _ g (sym k ∙ is) refl)
open_none-first text rest start spaced f g k (inr is) =
    first-fault text start _ _ no_selector SelectorMissing refl
    (sequence_from-kind this_edition open_side rest start spaced Slash _ g (sym k ∙ is) refl)

pub open_joint-first : (text rest start : List ℕ) (spaced : Bool) (f : NextKind)
    → gap rest ≡ got spaced start → f ≡ next_kind start → (f ≡ Child) ⊎ (f ≡ Adjacent)
    → GivesFirst text (sequence_in stages.Open rest) (Some (Err UnexpectedCombinator)) start
    (sequence_in stages.Ended start)
open_joint-first text rest start spaced f g k (inl is) =
    first-fault text start _ _ unexpected_combinator UnexpectedCombinator refl
    (sequence_from-kind this_edition open_side rest start spaced Child _ g (sym k ∙ is) refl)
open_joint-first text rest start spaced f g k (inr is) =
    first-fault text start _ _ unexpected_combinator UnexpectedCombinator refl
    (sequence_from-kind this_edition open_side rest start spaced Adjacent _ g (sym k ∙ is) refl)

open-token : (f : NextKind) (spaced : Bool) (start after : List ℕ) (token : Token) → IsSimplePiece f
    → solid_sequence this_edition open_side spaced f start (got token after)
    ≡ item (Ok token) after (sequence_in stages.Closed after)
open-token Stop spaced start after token s = absurd s
open-token Slash spaced start after token s = absurd s
open-token Child spaced start after token s = absurd s
open-token Adjacent spaced start after token s = absurd s
open-token Universal spaced start after token s = refl
open-token Id spaced start after token s = refl
open-token Class spaced start after token s = refl
open-token Attribute spaced start after token s = refl
open-token Colon spaced start after token s = refl
open-token Other spaced start after token s = refl

pub open_token-first : (text rest start after : List ℕ) (spaced : Bool) (f : NextKind)
    (token : SelectorToken) → gap rest ≡ got spaced start → f ≡ next_kind start → IsSimplePiece f
    → solid_as this_edition f start ≡ got (token_of token) after
    → GivesFirst text (sequence_in stages.Open rest) (Some (Ok token)) after
    (sequence_in stages.Closed after)
open_token-first text rest start after spaced f token g k s read =
    first-token text after _ _ token (sequence_from-kind this_edition open_side rest start spaced f
    _ g (sym k) read ∙ open-token f spaced start after (token_of token) s)

open-fault : (f : NextKind) (spaced : Bool) (start after : List ℕ) (fault : Fault) → IsSimplePiece f
    → solid_sequence this_edition open_side spaced f start (fails fault after)
    ≡ item (Err fault) after (sequence_in (stage_after_fault f) after)
open-fault Stop spaced start after fault s = absurd s
open-fault Slash spaced start after fault s = absurd s
open-fault Child spaced start after fault s = absurd s
open-fault Adjacent spaced start after fault s = absurd s
open-fault Universal spaced start after fault s = refl
open-fault Id spaced start after fault s = refl
open-fault Class spaced start after fault s = refl
open-fault Attribute spaced start after fault s = refl
open-fault Colon spaced start after fault s = refl
open-fault Other spaced start after fault s = refl

pub open_fault-first : (text rest start after : List ℕ) (spaced : Bool) (f : NextKind) (e : Error)
    → gap rest ≡ got spaced start → f ≡ next_kind start → IsSimplePiece f
    → FailsBy text (solid_as this_edition f start) e after
    → GivesFirst text (sequence_in stages.Open rest) (Some (Err e)) after
    (sequence_in (stage_after_fault f) after)
open_fault-first text rest start after spaced f e g k s h =
    let reported = fails_by-fault text (solid_as this_edition f start) e after h in
    first-fault text after _ _ reported.0 e reported.2 (sequence_from-kind this_edition open_side
    rest start spaced f _ g (sym k) reported.1 ∙ open-fault f spaced start after reported.0 s)

-- ---- after a closed left side

pub closed_gap-first : (text rest left : List ℕ) (e : Error) → FailsBy text (gap rest) e left
    → GivesFirst text (sequence_in stages.Closed rest) (Some (Err e)) left
    (sequence_in stages.Ended left)
closed_gap-first text rest left e h =
    let reported = fails_by-fault text (gap rest) e left h in
    first-fault text left _ _ reported.0 e reported.2
    (sequence_from-open_gap this_edition closed_side rest left reported.0 reported.1)

pub closed_stop-first : (text rest start : List ℕ) (spaced : Bool) (f : NextKind)
    → gap rest ≡ got spaced start → f ≡ next_kind start → f ≡ Stop
    → GivesFirst text (sequence_in stages.Closed rest) None start (sequence_in stages.Ended start)
closed_stop-first text rest start spaced f g k is =
    (sequence_from-kind this_edition closed_side rest start spaced Stop _ g (sym k ∙ is) refl, refl)

pub closed_slash-first : (text rest start after : List ℕ) (spaced : Bool) (f : NextKind) (e : Error)
    → gap rest ≡ got spaced start → spaced ≡ true → f ≡ next_kind start → f ≡ Slash
    → after ≡ past_one start → e ≡ InvalidComment (position_of text start)
    → GivesFirst text (sequence_in stages.Closed rest) (Some (Err e)) after
    (sequence_in stages.Ended after)
closed_slash-first text rest start after true f e g with_space k is left reported =
    first-fault text after _ _ (no_comment start) e reported
    (sequence_from-kind this_edition closed_side rest start true Slash _ g (sym k ∙ is) refl
    ∙ ap (fault_sequence (no_comment start)) (sym left))
closed_slash-first text rest start after false f e g with_space k is left reported = absurd (cc)

pub closed_end-first : (text rest start : List ℕ) (spaced : Bool) (f : NextKind)
    → gap rest ≡ got spaced start → spaced ≡ false → f ≡ next_kind start → f ≡ Slash
    → GivesFirst text (sequence_in stages.Closed rest) None start (sequence_in stages.Ended start)
closed_end-first text rest start true f g without k is = absurd (cc)
closed_end-first text rest start false f g without k is =
    (sequence_from-kind this_edition closed_side rest start false Slash _ g (sym k ∙ is) refl, refl)

closed-joined_by : (f : NextKind) (spaced : Bool) (start after : List ℕ) (token : Token)
    → (f ≡ Child) ⊎ (f ≡ Adjacent)
    → solid_sequence this_edition closed_side spaced f start (got token after)
    ≡ item (Ok token) after (sequence_in stages.Open after)
closed-joined_by f spaced start after token (inl is) = rw is refl
closed-joined_by f spaced start after token (inr is) = rw is refl

-- a combinator that is announced
pub closed_joint-first : (text rest start after : List ℕ) (spaced : Bool) (f : NextKind)
    (token : SelectorToken) → gap rest ≡ got spaced start → f ≡ next_kind start
    → (f ≡ Child) ⊎ (f ≡ Adjacent) → solid_as this_edition f start ≡ got (token_of token) after
    → GivesFirst text (sequence_in stages.Closed rest) (Some (Ok token)) after
    (sequence_in stages.Open after)
closed_joint-first text rest start after spaced f token g k is read =
    first-token text after _ _ token (sequence_from-kind this_edition closed_side rest start spaced
    f _ g (sym k) read ∙ closed-joined_by f spaced start after (token_of token) is)

pub closed_spaced-first : (text rest start : List ℕ) (spaced : Bool) (f : NextKind)
    → gap rest ≡ got spaced start → spaced ≡ true → f ≡ next_kind start → IsSimplePiece f
    → GivesFirst text (sequence_in stages.Closed rest) (Some (Ok DescendantCombinator)) start
    (sequence_in stages.Open start)
closed_spaced-first text rest start true f g with_space k s = first-token text start _ _
    DescendantCombinator (sequence_from-descends this_edition rest start f g (sym k) s)
closed_spaced-first text rest start false f g with_space k s = absurd (cc)

-- ---- directly after a simple piece

pub joined_universal-first : (text rest start : List ℕ) (f : NextKind) → gap rest ≡ got false start
    → next_kind start ≡ f → f ≡ Universal
    → GivesFirst text (sequence_in stages.Closed rest) (Some (Err UnexpectedSelector)) start
    (sequence_in stages.Ended start)
joined_universal-first text rest start f g k is =
    first-fault text start _ _ unexpected_selector UnexpectedSelector refl
    (sequence_from-kind this_edition closed_side rest start false Universal _ g (k ∙ is) refl)

pub joined_type-first : (text rest start after : List ℕ) (f : NextKind) (token : SelectorToken)
    → gap rest ≡ got false start → next_kind start ≡ f → f ≡ Other
    → solid_as this_edition f start ≡ got (token_of token) after
    → GivesFirst text (sequence_in stages.Closed rest) (Some (Err UnexpectedSelector)) after
    (sequence_in stages.Ended after)
joined_type-first text rest start after f token g k is read =
    first-fault text after _ _ unexpected_selector UnexpectedSelector refl
    (sequence_from-kind this_edition closed_side rest start false f _ g k read ∙ ap
    (λ f. solid_sequence this_edition closed_side false f start (got (token_of token) after)) is)

joined-sub : (f : NextKind) (start after : List ℕ) (token : Token) → IsSimplePiece f
    → (f ≡ Universal → ⊥) → (f ≡ Other → ⊥)
    → solid_sequence this_edition closed_side false f start (got token after)
    ≡ item (Ok token) after (sequence_in stages.Closed after)
joined-sub Stop start after token s u o = absurd s
joined-sub Slash start after token s u o = absurd s
joined-sub Child start after token s u o = absurd s
joined-sub Adjacent start after token s u o = absurd s
joined-sub Universal start after token s u o = absurd (u refl)
joined-sub Id start after token s u o = refl
joined-sub Class start after token s u o = refl
joined-sub Attribute start after token s u o = refl
joined-sub Colon start after token s u o = refl
joined-sub Other start after token s u o = absurd (o refl)

pub joined_sub-first : (text rest start after : List ℕ) (f : NextKind) (token : SelectorToken)
    → gap rest ≡ got false start → next_kind start ≡ f → IsSimplePiece f → (f ≡ Universal → ⊥)
    → (f ≡ Other → ⊥) → solid_as this_edition f start ≡ got (token_of token) after
    → GivesFirst text (sequence_in stages.Closed rest) (Some (Ok token)) after
    (sequence_in stages.Closed after)
joined_sub-first text rest start after f token g k s u o read = first-token text after _ _ token
    (sequence_from-kind this_edition closed_side rest start false f _ g k read
    ∙ joined-sub f start after (token_of token) s u o)

joined-fault : (f : NextKind) (start after : List ℕ) (fault : Fault) → IsSimplePiece f
    → solid_sequence this_edition closed_side false f start (fails fault after)
    ≡ fault_sequence fault after
joined-fault Stop start after fault s = absurd s
joined-fault Slash start after fault s = absurd s
joined-fault Child start after fault s = absurd s
joined-fault Adjacent start after fault s = absurd s
joined-fault Universal start after fault s = refl
joined-fault Id start after fault s = refl
joined-fault Class start after fault s = refl
joined-fault Attribute start after fault s = refl
joined-fault Colon start after fault s = refl
joined-fault Other start after fault s = refl

pub joined_fault-first : (text rest start after : List ℕ) (f : NextKind) (error : Error)
    → gap rest ≡ got false start → next_kind start ≡ f → IsSimplePiece f
    → FailsBy text (solid_as this_edition f start) error after
    → GivesFirst text (sequence_in stages.Closed rest) (Some (Err error)) after
    (sequence_in stages.Ended after)
joined_fault-first text rest start after f error g k s h =
    let reported = fails_by-fault text (solid_as this_edition f start) error after h in
    first-fault text after _ _ reported.0 error reported.2 (sequence_from-kind this_edition
    closed_side rest start false f _ g k reported.1 ∙ joined-fault f start after reported.0 s)

-- ---- the whole call

-- what was returned first is no longer to come
pub gives_steps : (old new : SelectorTokenizer) (r : Option (Result SelectorToken Error))
    (left : List ℕ) → whole_text new ≡ whole_text old
    → GivesFirst (whole_text old) (still_to_come old) r left (still_to_come new)
    → YieldsFirstBy item_view items_left old r new
unfolding items_left
gives_steps old new None left s h = (
  ap (λ sequence. map (reported_in (whole_text old)) (items sequence)) h.0,
  ap (λ sequence. map (reported_in (whole_text new)) (items sequence)) h.1,
)
gives_steps old new (Some x) left s (reported, seen, before) =
    ap (λ sequence. map (reported_in (whole_text old)) (items sequence)) before
    ∙ ap (λ item. item ∷ map (reported_in (whole_text old)) (items (still_to_come new))) (sym seen)
    ∙ ap (λ text. item_view x ∷ map (reported_in text) (items (still_to_come new))) (sym s)

-- what is returned first is between what was left before and what is left then
given-first : (old : SelectorTokenizer) (r : Option (Result SelectorToken Error)) (left : List ℕ)
    (after : TokenSequence) → FirstOccurs (left_of old) (still_to_come old)
    → GivesFirst (whole_text old) (still_to_come old) r left after
    → OccurBetween (left_of old) left (given_texts r)
given-first old None left after between first = subst (FirstOccurs (left_of old)) first.0 between
given-first old (Some (Ok token)) left after between (Ok reported, seen, before) =
    let same : reported ≡ token_of token = cc in
    let h : OccurBetween (left_of old) left (token_texts reported) =
    subst (FirstOccurs (left_of old)) before between in
    subst (λ (t : Token). OccurBetween (left_of old) left (token_texts t)) same h
given-first old (Some (Ok token)) left after between (Err fault, seen, before) = absurd (cc)
given-first old (Some (Err error)) left after between (Ok reported, seen, before) = absurd (cc)
given-first old (Some (Err error)) left after between (Err fault, seen, before) =
    subst (FirstOccurs (left_of old)) before between

stage-slices : (text : List ℕ) → IsUtf8 text → (s : Stage) → FirstOccurs text (sequence_in s text)
stage-slices text u stages.Open = sequence_from-first this_edition open_side text u
stage-slices text u stages.Closed = sequence_from-first this_edition closed_side text u
stage-slices text u stages.Missing = ends-same text
stage-slices text u stages.Ended = ends-same text

-- what is left to read is the UTF-8 of some characters
left-utf8 : (t : SelectorTokenizer) → IsUtf8 (left_of t)
left-utf8 t = IsUtf8-drop t.stream.text.now t.stream.pos
    (IsUtf8-had t.stream.text.now t.stream.utf8) t.stream.boundary

pub given-slices : (old : SelectorTokenizer) (r : Option (Result SelectorToken Error))
    (left : List ℕ) (after : TokenSequence)
    → GivesFirst (whole_text old) (still_to_come old) r left after
    → OccurBetween (left_of old) left (given_texts r)
given-slices old r left after first =
    given-first old r left after (stage-slices (left_of old) (left-utf8 old) old.stage) first

-- what comes in a stage is what is still to come
pub first-in : (old : SelectorTokenizer) (s : Stage) (r : Option (Result SelectorToken Error))
    (left : List ℕ) (after : TokenSequence) → old.stage ≡ s
    → GivesFirst (whole_text old) (sequence_in s (left_of old)) r left after
    → GivesFirst (whole_text old) (still_to_come old) r left after
first-in old s r left after e h =
    subst (λ (s : Stage). GivesFirst (whole_text old) (sequence_in s (left_of old)) r left after)
    (sym e) h

-- All that a call of `next` returns, from the first item of what comes in its state.
pub gives-item : (old new : SelectorTokenizer) (s : Stage) (r : Option (Result SelectorToken Error))
    → old.stage ≡ s → whole_text new ≡ whole_text old
    → GivesFirst (whole_text old) (sequence_in s (left_of old)) r (left_of new) (still_to_come new)
    → GivesItem old r new
gives-item old new s r is same h =
    let first = first-in old s r (left_of new) (still_to_come new) is h in
    let between = given-slices old r (left_of new) (still_to_come new) first in
    record {
      items = gives_steps old new r (left_of new) same first;
      text = same;
      first = first;
      slices = between;
      forward = offset-ends old.stream new.stream same
          (occur-ends (left_of old) (left_of new) (given_texts r) between);
    }

-- an item that was returned is no longer to come
pub given-fewer : (old new : SelectorTokenizer) (r : Option (Result SelectorToken Error))
    → GivesItem old r new
    → MakesProgress {A = Result SelectorToken Error} (λ t. ⊤) (item_count items_left) old r new
given-fewer old new None h = record { on = λ f. tt; keeps = tt; rests = λ f. tt }
given-fewer old new (Some x) h = record {
  on = λ f. (tt, tt, omega (arith, ap (λ (l : List (Result Token Error)). length l) h.items));
  keeps = tt;
  rests = λ f. tt;
}

-- What a sequence comes to is guarded by a closing brace.
-- Serves `StyleSheet::parse_more` and `laws::cutting_law` (a text read in pieces).
use Rattle.std.proofs.Common.{Bool, List, false, inl, inr, length, refl, subst, true, ℕ, ◌∷◌, ◌≡◌, ◌≤◌, ◌⊎◌, Err, Ok, Option, Some, None, arith}
use Rattle.css_text.specs.Reading.{Fault}
use Rattle.css_text.specs.Bytes.{past_one}
use Rattle.simplecss_grammar.specs.declared.next_kind.NextKind.{NextKind}
use Rattle.simplecss_grammar.specs.declared.next_kind.NextKind.TheVariants.{Stop, Slash}
use Rattle.css_text.specs.Characters.{Edition}
use Rattle.simplecss_grammar.specs.Components.Combinator.{descendant}
use Rattle.simplecss_grammar.specs.Pieces.{fault_ending}
use Rattle.simplecss_grammar.specs.Pieces.Ending.{within_gap, within_piece, without_head}
use Rattle.simplecss_grammar.specs.Neighbours.{Side, between}
use Rattle.simplecss_grammar.specs.Neighbours.Side.{closed_side, open_side}
use Rattle.simplecss_grammar.specs.TokenSequences.{TokenSequence, answered, ending_sequence, sequence_from}
use Rattle.simplecss_grammar.specs.TokenSequences.TokenSequence.{item, sequence_end}
use Rattle.simplecss_grammar.specs.Selectors.{Outcome, Role, after_role, outcome, with_role, role_of}
use Rattle.simplecss_grammar.specs.Selectors.Outcome.{accepted, refused}
use Rattle.simplecss_grammar.specs.Selectors.Role.{joined_by}
use Rattle.css_text.proofs.reading.EndsLemmas.{length-ends, no_texts}
use Rattle.simplecss_grammar.proofs.reading.OccurrenceLemmas.{sees_nothing}
use Rattle.simplecss_grammar.proofs.reading.SequenceEndLemmas.{SequenceOccurs, sequence_from-occurs}
use Rattle.simplecss_grammar.proofs.reading.LocalLemmas.{Diverge, To}
use Rattle.css_text.proofs.reading.TakesLemmas.{length-past_one}
use Rattle.simplecss_grammar.proofs.reading.KindLemmas.{NamesStart, between-both, between-case, fault_ending-case}

-- what an outcome leaves to read
abbrev pub left_of : Outcome → List ℕ
left_of (refused left) = left
left_of (accepted roles left) = left

-- the same has come out, and the byte g was not passed
pub data OutcomesAlike (g : ℕ) (t u : List ℕ) : Outcome → Outcome → Type 0 where
  both_refused : (a b : List ℕ) → Diverge (g ∷ t) (g ∷ u) a b
      → OutcomesAlike g t u (refused a) (refused b)
  both_accepted : (roles : List Role) (a b : List ℕ) → Diverge (g ∷ t) (g ∷ u) a b
      → OutcomesAlike g t u (accepted roles a) (accepted roles b)

-- of two outcomes, the first has passed the byte g, or both are alike
abbrev pub OutcomeGuard : ℕ → List ℕ → List ℕ → Outcome → Outcome → Type 0
OutcomeGuard g t u a b = (length (left_of a) ≤ length t) ⊎ OutcomesAlike g t u a b

pub refused-guard : (g : ℕ) (t u a b : List ℕ) → To true (g ∷ t) (g ∷ u) a b
    → OutcomeGuard g t u (refused a) (refused b)
refused-guard g t u a b (inl l) = inl l
refused-guard g t u a b (inr k) = inr (both_refused a b k)

left_of-with_role : (role : Role) (o : Outcome) → left_of (with_role role o) ≡ left_of o
left_of-with_role role (refused left) = refl
left_of-with_role role (accepted roles left) = refl

with_role-guard : (g : ℕ) (t u : List ℕ) (role : Role) (a b : Outcome) → OutcomeGuard g t u a b
    → OutcomeGuard g t u (with_role role a) (with_role role b)
with_role-guard g t u role a b (inl l) = inl (rw (left_of-with_role role a) l)
with_role-guard g t u role a b (inr (both_refused x y k)) = inr (both_refused x y k)
with_role-guard g t u role a b (inr (both_accepted roles x y k)) =
    inr (both_accepted (role ∷ roles) x y k)

pub after_role-guard : (g : ℕ) (t u : List ℕ) (role : Option Role) (x y : List ℕ) (a b : Outcome)
    → Diverge (g ∷ t) (g ∷ u) x y → OutcomeGuard g t u a b
    → OutcomeGuard g t u (after_role role x a) (after_role role y b)
after_role-guard g t u (Some role) x y a b k h = with_role-guard g t u role a b h
after_role-guard g t u None x y a b k h = inr (both_refused x y k)

-- a gap's combinator, and then what comes
pub answered-guard : (g : ℕ) (t u : List ℕ) (side : Side) (spaced : Bool) (kind : NextKind)
    (a x b y : List ℕ) (p q : TokenSequence) → Diverge (g ∷ t) (g ∷ u) a b
    → To true (g ∷ t) (g ∷ u) x y → OutcomeGuard g t u (outcome p) (outcome q)
    → OutcomeGuard g t u (outcome (answered (between side spaced kind a x) a p))
    (outcome (answered (between side spaced kind b y) b q))
answered-guard g t u side spaced kind a x b y p q h k c =
    between-both
    (λ one other. OutcomeGuard g t u (outcome (answered one a p))
    (outcome (answered other b q))) side spaced kind a x b y
    c (λ e. with_role-guard g t u (joined_by descendant) (outcome p) (outcome q) c)
    (λ f e n. inr (both_refused a b h)) (λ f e. refused-guard g t u x y k)

with_role-passed : (n : ℕ) (role : Role) (o : Outcome) → length (left_of o) ≤ n
    → length (left_of (with_role role o)) ≤ n
with_role-passed n role o l = rw (left_of-with_role role o) l

-- where the offsets that the table names leave no more than n bytes
pub answered-passed : (n : ℕ) (side : Side) (spaced : Bool) (kind : NextKind) (start after : List ℕ)
    (next : TokenSequence) → (NamesStart kind → length start ≤ n) → length after ≤ n
    → length (left_of (outcome next)) ≤ n
    → length (left_of (outcome (answered (between side spaced kind start after) start next))) ≤ n
answered-passed n side spaced kind start after next s a l =
    between-case (λ answer. length (left_of (outcome (answered answer start next))) ≤ n) side spaced
    kind start after
    l (λ e. with_role-passed n (joined_by descendant) (outcome next) l) (λ f k. s k) (λ f. a)

pub after_role-passed : (n : ℕ) (role : Option Role) (after : List ℕ) (o : Outcome)
    → length after ≤ n → length (left_of o) ≤ n → length (left_of (after_role role after o)) ≤ n
after_role-passed n (Some role) after o a l = with_role-passed n role o l
after_role-passed n None after o a l = a

-- what a sequence leaves is no more than its text
length-left_of : (n : ℕ) (text : List ℕ) (r : TokenSequence) → length text ≤ n
    → SequenceOccurs no_texts text r → length (left_of (outcome r)) ≤ n
length-left_of n text (sequence_end left) l h = omega (arith, l, length-ends text left h)
length-left_of n text (item (Err fault) after rest) l h =
    omega (arith, l, length-ends text after h.0)
length-left_of n text (item (Ok token) after rest) l h =
    let less : length after ≤ n = omega (arith, l, length-ends text after h.0) in
    after_role-passed n (role_of token) after (outcome rest) less
    (length-left_of n after rest less h.1)

pub left_of-sequence : (edition : Edition) (side : Side) (n : ℕ) (text : List ℕ) → length text ≤ n
    → length (left_of (outcome (sequence_from edition side text))) ≤ n
left_of-sequence edition side n text l =
    length-left_of n text (sequence_from edition side text) l
    (sequence_from-occurs sees_nothing edition side text tt)

-- ---- endings

headless-outcome : (side : Side) (spaced : Bool) (start : List ℕ) (fault : Fault) (after : List ℕ)
    → outcome (ending_sequence side (without_head spaced start fault after)) ≡ refused after
headless-outcome open_side spaced start fault after = refl
headless-outcome closed_side true start fault after = refl
headless-outcome closed_side false start fault after = refl

broken-outcome : (side : Side) (spaced : Bool) (start : List ℕ) (fault : Fault) (after : List ℕ)
    → outcome (ending_sequence side (within_piece spaced start fault after)) ≡ refused after
broken-outcome open_side spaced start fault after = refl
broken-outcome closed_side true start fault after = refl
broken-outcome closed_side false start fault after = refl

pub open_gap-outcome : (side : Side) (fault : Fault) (after : List ℕ)
    → outcome (ending_sequence side (within_gap fault after)) ≡ refused after
open_gap-outcome open_side fault after = refl
open_gap-outcome closed_side fault after = refl

-- neither a stop nor a slash
abbrev pub IsSolid : NextKind → Type 0
IsSolid Stop = ⊥
IsSolid Slash = ⊥
IsSolid kind = Unit {0}

-- the outcome at a fault of a solid piece
pub fault_ending-outcome : (side : Side) (kind : NextKind) (spaced : Bool) (start : List ℕ)
    (fault : Fault) (after : List ℕ) → IsSolid kind
    → outcome (ending_sequence side (fault_ending kind spaced start fault after)) ≡ refused after
fault_ending-outcome side kind spaced start fault after w =
    fault_ending-case (λ end. outcome (ending_sequence side end) ≡ refused after) kind spaced start
    fault after
    (λ k. absurd (subst IsSolid k w)) (λ k. absurd (subst IsSolid k w))
    (headless-outcome side spaced start fault after) (broken-outcome side spaced start fault after)

pub fault_ending-within : (n : ℕ) (side : Side) (kind : NextKind) (spaced : Bool) (start : List ℕ)
    (fault : Fault) (after : List ℕ) → length start ≤ n → length after ≤ n
    → length (left_of (outcome (ending_sequence side (fault_ending kind spaced start fault after))))
    ≤ n
fault_ending-within n side kind spaced start fault after s a =
    fault_ending-case (λ end. length (left_of (outcome (ending_sequence side end))) ≤ n) kind spaced
    start fault after
    (λ k. answered-passed n side spaced Stop start start (sequence_end start) (λ m. s) s s)
    (λ k. answered-passed n side spaced Slash start (past_one start) (sequence_end start) (λ m. s)
    (omega (arith, s, length-past_one start)) s)
    (rw (headless-outcome side spaced start fault after) a)
    (rw (broken-outcome side spaced start fault after) a)

-- A selector is refused for the same reason where the text is cut after a closing brace or later.
-- Serves `laws::skips_are_cut` (what is skipped of a text in pieces).
use Rattle.std.proofs.Common.{◌≡◌, ◌≤◌, ◌⊎◌, ◌-◌, if◌then◌else◌, ℕ, zero, suc, Bool, true, false, List, [], ◌∷◌, ◌++◌, ap, arith, inl, inr, length, refl, subst, sym, ◌∙◌, IsUtf8, Option, Some, None, Err, take, length-append}
use Rattle.std.proofs.lemmas.List.{take-append-le}
use Rattle.std.specs.Option.{option_map}
use Rattle.css_text.specs.declared.error.Error.{Error}
use Rattle.css_text.specs.declared.error.Error.TheVariants.{InvalidIdent, InvalidComment, InvalidByte}
use Rattle.simplecss_grammar.specs.declared.next_kind.NextKind.{NextKind}
use Rattle.simplecss_grammar.specs.declared.next_kind.NextKind.TheVariants.{Stop, Slash, Child, Adjacent, Universal, Id, Class, Attribute, Colon, Other}
use Rattle.css_text.specs.AsciiBytes.{close_brace}
use Rattle.css_text.specs.Reading.{Fault, no_comment, no_selector, unexpected_selector, unexpected_combinator, Reading, got, fails, follow, left_after}
use Rattle.css_text.specs.Bytes.{past_one}
use Rattle.css_text.specs.Positions.{position}
use Rattle.css_text.specs.Errors.{position_of, error_of}
use Rattle.css_text.specs.Characters.{Edition}
use Rattle.css_text.specs.Comments.{gap, blank, has_space, opens_comment, past_blank}
use Rattle.simplecss_grammar.specs.Tokens.{Token}
use Rattle.simplecss_grammar.specs.Tokens.Token.{descendant_combinator}
use Rattle.simplecss_grammar.specs.Pieces.{next_kind, solid_as, solid, fault_ending}
use Rattle.simplecss_grammar.specs.Pieces.Ending.{without_head, within_piece}
use Rattle.simplecss_grammar.specs.Neighbours.{Side, Answer, between, side_after}
use Rattle.simplecss_grammar.specs.Neighbours.Side.{open_side, closed_side}
use Rattle.simplecss_grammar.specs.Neighbours.Answer.{nothing, descends, refuses}
use Rattle.simplecss_grammar.specs.TokenSequences.{TokenSequence, answered, ending_sequence, sequence_from, sequence_of, token_then}
use Rattle.simplecss_grammar.specs.TokenSequences.TokenSequence.{item, sequence_end}
use Rattle.simplecss_grammar.specs.Selectors.{Outcome, Role, after_role, outcome, with_role, role_of, reads, selector_of}
use Rattle.simplecss_grammar.specs.Selectors.Outcome.{accepted, refused}
use Rattle.simplecss_grammar.specs.Skipped.{faulty, unless_unknown, refusal_in, refusal}
use Rattle.simplecss_grammar.specs.SkippedLaws.{refusal_before}
use Rattle.css_text.proofs.reading.TakesLemmas.{Cuts}
use Rattle.css_text.proofs.reading.EndsLemmas.{length-ends}
use Rattle.simplecss_grammar.proofs.reading.KindLemmas.{fault_ending-case, solid-kind_known}
use Rattle.simplecss_grammar.proofs.reading.LocalLemmas.{Diverge, at, on, Guard, Equal, longer-diverge, diverge-append}
use Rattle.simplecss_grammar.proofs.reading.PiecesLawful.{next_kind-diverge, solid-cuts, solid-lawful, gap-guarded}
use Rattle.simplecss_grammar.proofs.reading.Lawful.{lawful-guarded, lawful-text}
use Rattle.css_text.proofs.reading.WellLemmas.{well-gap}
use Rattle.simplecss_grammar.proofs.reading.SequenceSteps.{solid_sequence, gap_sequence, sequence_from-by}
use Rattle.simplecss_grammar.proofs.cutting.OutcomeGuards.{IsSolid, after_role-passed, answered-passed, fault_ending-outcome, left_of, left_of-sequence}
use Rattle.simplecss_grammar.proofs.cutting.SelectorGuards.{Passed, solid_as-passed, gap_sequence-within}
use Rattle.simplecss_grammar.proofs.skipped.FaultGuards.{FaultsAlike, no_position, byte_position, name_position, comment_position, FaultGuard, solid_as-reported}

-- ---- errors

-- an offset of a text, where more follows the text
offset-alike : (text v b : List ℕ) → position_of (text ++ v) (b ++ v) ≡ position_of text b
unfolding position
offset-alike text v b =
    let offset : length (text ++ v) - length (b ++ v) ≡ length text - length b =
    omega (arith, length-append text v, length-append b v) in
    let within : length text - length b ≤ length text = omega arith in
    let front : take (length text - length b) (text ++ v) ≡ take (length text - length b) text =
    take-append-le (length text - length b) text v within in
    rw (offset, front) refl

-- the error that reports a fault, where more follows the text
error-alike : (u v text : List ℕ) (f e : Fault) → FaultsAlike (u ++ v) u f e
    → error_of (text ++ v) f ≡ error_of text e
error-alike u v text f e (no_position _ h) = h (text ++ v) text
error-alike u v text f e (name_position r s h) =
    ap (λ (x : List ℕ). InvalidIdent (position_of (text ++ v) x))
    (diverge-append close_brace u v r s h)
    ∙ ap InvalidIdent (offset-alike text v s)
error-alike u v text f e (comment_position r s h) =
    ap (λ (x : List ℕ). InvalidComment (position_of (text ++ v) x))
    (diverge-append close_brace u v r s h)
    ∙ ap InvalidComment (offset-alike text v s)
error-alike u v text f e (byte_position c r s at) =
    ap (InvalidByte c close_brace) (offset-alike text v (close_brace ∷ u))
error-alike u v text f e (byte_position c r s (on b r1 s1 h)) =
    ap (λ (x : List ℕ). InvalidByte c b (position_of (text ++ v) (b ∷ x)))
    (diverge-append close_brace u v r1 s1 h)
    ∙ ap (InvalidByte c b) (offset-alike text v (b ∷ s1))

-- ---- sequences

-- the second is refused for the reason for which the first is
abbrev RefusedAlike : (text v : List ℕ) → TokenSequence → TokenSequence → Type 0
RefusedAlike text v p q =
    refusal_in (text ++ v) p ≡ option_map (refusal_before v) (refusal_in text q)

-- of two sequences, the first has passed the brace, or both are refused alike
abbrev RefusalGuard : (text u v : List ℕ) → TokenSequence → TokenSequence → Type 0
RefusalGuard text u v p q =
    (length (left_of (outcome p)) ≤ length (u ++ v)) ⊎ RefusedAlike text v p q

fault-refused : (text u v : List ℕ) (f e : Fault) (a b : List ℕ) (p q : TokenSequence)
    → FaultsAlike (u ++ v) u f e → RefusedAlike text v (item (Err f) a p) (item (Err e) b q)
fault-refused text u v f e a b p q h =
    ap (λ (error : Error). Some (faulty (text ++ v) error)) (error-alike u v text f e h)

left_of-role : (role : Role) (o : Outcome) → left_of (with_role role o) ≡ left_of o
left_of-role role (refused left) = refl
left_of-role role (accepted roles left) = refl

token-refused : (text u v : List ℕ) (token : Token) (a b : List ℕ) (p q : TokenSequence)
    → RefusalGuard text u v p q
    → RefusalGuard text u v (token_then token a p) (token_then token b q)
token-refused text u v token a b p q h = by (role_of token) h
  where
    by : (role : Option Role) → RefusalGuard text u v p q
        → (length (left_of (after_role role a (outcome p))) ≤ length (u ++ v))
        ⊎ (unless_unknown role token (refusal_in (text ++ v) p)
        ≡ option_map (refusal_before v) (unless_unknown role token (refusal_in text q)))
    by (Some role) (inl l) = inl (rw (left_of-role role (outcome p)) l)
    by (Some role) (inr e) = inr e
    by None h = inr refl

-- what the table answers in two texts
between-alike : (P : Answer → Answer → Type 0) (side : Side) (spaced : Bool) (kind : NextKind)
    (a x b y : List ℕ) → P nothing nothing → P descends descends
    → ((f : Fault) (i j : List ℕ)
    → ((text other : List ℕ) → error_of text f ≡ error_of other f)
    → P (refuses f i) (refuses f j)) → P (refuses (no_comment a) x) (refuses (no_comment b) y)
    → P (between side spaced kind a x) (between side spaced kind b y)
between-alike P open_side spaced Stop a x b y n d s c = s no_selector a b (λ t o. refl)
between-alike P open_side spaced Slash a x b y n d s c = s no_selector a b (λ t o. refl)
between-alike P open_side spaced Child a x b y n d s c = s unexpected_combinator a b (λ t o. refl)
between-alike P open_side spaced Adjacent a x b y n d s c =
    s unexpected_combinator a b (λ t o. refl)
between-alike P open_side spaced Universal a x b y n d s c = n
between-alike P open_side spaced Id a x b y n d s c = n
between-alike P open_side spaced Class a x b y n d s c = n
between-alike P open_side spaced Attribute a x b y n d s c = n
between-alike P open_side spaced Colon a x b y n d s c = n
between-alike P open_side spaced Other a x b y n d s c = n
between-alike P closed_side spaced Stop a x b y n d s c = n
between-alike P closed_side spaced Child a x b y n d s c = n
between-alike P closed_side spaced Adjacent a x b y n d s c = n
between-alike P closed_side false Slash a x b y n d s c = n
between-alike P closed_side false Universal a x b y n d s c =
    s unexpected_selector a b (λ t o. refl)
between-alike P closed_side false Id a x b y n d s c = n
between-alike P closed_side false Class a x b y n d s c = n
between-alike P closed_side false Attribute a x b y n d s c = n
between-alike P closed_side false Colon a x b y n d s c = n
between-alike P closed_side false Other a x b y n d s c = s unexpected_selector x y (λ t o. refl)
between-alike P closed_side true Slash a x b y n d s c = c
between-alike P closed_side true Universal a x b y n d s c = d
between-alike P closed_side true Id a x b y n d s c = d
between-alike P closed_side true Class a x b y n d s c = d
between-alike P closed_side true Attribute a x b y n d s c = d
between-alike P closed_side true Colon a x b y n d s c = d
between-alike P closed_side true Other a x b y n d s c = d

answered-refused : (text u v : List ℕ) (side : Side) (spaced : Bool) (kind : NextKind)
    (a x b y : List ℕ) (p q : TokenSequence)
    → Diverge (close_brace ∷ (u ++ v)) (close_brace ∷ u) a b
    → RefusalGuard text u v p q
    → RefusalGuard text u v (answered (between side spaced kind a x) a p)
    (answered (between side spaced kind b y) b q)
answered-refused text u v side spaced kind a x b y p q h k =
    between-alike (λ one other. RefusalGuard text u v (answered one a p) (answered other b q)) side
    spaced kind a x b y k
    (token-refused text u v descendant_combinator a b p q k)
    (λ f i j e. inr (fault-refused text u v f f i j (sequence_end i) (sequence_end j)
    (no_position f e)))
    (inr (fault-refused text u v (no_comment a) (no_comment b) x y (sequence_end x)
    (sequence_end y) (comment_position a b h)))

-- the refusal at a fault of a solid piece
fault_ending-refused : (whole : List ℕ) (side : Side) (kind : NextKind) (spaced : Bool)
    (start : List ℕ) (fault : Fault) (after : List ℕ) → IsSolid kind
    → refusal_in whole (ending_sequence side (fault_ending kind spaced start fault after))
    ≡ Some (faulty whole (error_of whole fault))
fault_ending-refused whole side kind spaced start fault after w =
    fault_ending-case
    (λ end. refusal_in whole (ending_sequence side end)
    ≡ Some (faulty whole (error_of whole fault)))
    kind spaced start fault after
    (λ k. absurd (subst IsSolid k w)) (λ k. absurd (subst IsSolid k w)) (headless side spaced)
    (broken side spaced)
  where
    headless : (side : Side) (spaced : Bool)
        → refusal_in whole (ending_sequence side (without_head spaced start fault after))
        ≡ Some (faulty whole (error_of whole fault))
    headless open_side spaced = refl
    headless closed_side true = refl
    headless closed_side false = refl

    broken : (side : Side) (spaced : Bool)
        → refusal_in whole (ending_sequence side (within_piece spaced start fault after))
        ≡ Some (faulty whole (error_of whole fault))
    broken open_side spaced = refl
    broken closed_side true = refl
    broken closed_side false = refl

-- the sequence after every shorter text is refused alike
abbrev SequencesRefused : Edition → (text : List ℕ) → ℕ → (u v : List ℕ) → Type 0
SequencesRefused edition text n u v =
    (side : Side) (r s : List ℕ) → length r ≤ n → IsUtf8 r
    → Diverge (close_brace ∷ (u ++ v)) (close_brace ∷ u) r s
    → RefusalGuard text u v (sequence_from edition side r) (sequence_from edition side s)

-- where a solid piece is read, or its fault
piece-refused : (edition : Edition) (text : List ℕ) (n : ℕ) (u v : List ℕ)
    → SequencesRefused edition text n u v → (side : Side) (spaced : Bool) (kind : NextKind)
    (r s : List ℕ) (x y : Reading Token)
    → IsSolid kind → length r ≤ suc n → Diverge (close_brace ∷ (u ++ v)) (close_brace ∷ u) r s
    → Cuts r x
    → IsUtf8 (left_after x) → Passed (length (u ++ v)) kind r x
    → Guard Equal true (close_brace ∷ (u ++ v)) (close_brace ∷ u) x y → FaultGuard (u ++ v) u x y
    → RefusalGuard text u v (solid_sequence edition side spaced kind r x)
    (solid_sequence edition side spaced kind s y)
piece-refused edition text n u v runs side spaced kind r s (fails f p) y w l h c z k g (inl less) =
    inl (rw (fault_ending-outcome side kind spaced r f p w) less)
piece-refused edition text n u v runs side spaced kind r s (fails f p) (got y q) w l h c z k
    (inl less) (inr reported) =
    inl (rw (fault_ending-outcome side kind spaced r f p w) less)
piece-refused edition text n u v runs side spaced kind r s (fails f p) (got y q) w l h c z k
    (inr diverge) (inr reported) =
    absurd diverge
piece-refused edition text n u v runs side spaced kind r s (fails f p) (fails e q) w l h c z k g
    (inr reported) =
    inr (fault_ending-refused (text ++ v) side kind spaced r f p w
    ∙ fault-refused text u v f e p q (sequence_end p) (sequence_end q) reported
    ∙ ap (option_map (refusal_before v))
    (sym (fault_ending-refused text side kind spaced s e q w)))
piece-refused edition text n u v runs side spaced kind r s (got x p) y w l h c z k
    (inl less) reported =
    inl (answered-passed (length (u ++ v)) side spaced kind r p
    (token_then x p (sequence_from edition (side_after kind) p)) (λ m. k m less) less
    (after_role-passed (length (u ++ v)) (role_of x) p
    (outcome (sequence_from edition (side_after kind) p)) less
    (left_of-sequence edition (side_after kind) (length (u ++ v)) p less)))
piece-refused edition text n u v runs side spaced kind r s (got x p) (fails e q) w l h c z k
    (inr diverge) reported =
    absurd diverge
piece-refused edition text n u v runs side spaced kind r s (got x p) (got y q) w l h c z k
    (inr g) reported =
    subst (λ (z : Token). RefusalGuard text u v
    (solid_sequence edition side spaced kind r (got x p))
    (solid_sequence edition side spaced kind s (got z q))) g.0
    (answered-refused text u v side spaced kind r p s q
    (token_then x p (sequence_from edition (side_after kind) p))
    (token_then x q (sequence_from edition (side_after kind) q)) h
    (token-refused text u v x p q (sequence_from edition (side_after kind) p)
    (sequence_from edition (side_after kind) q)
    (runs (side_after kind) p q (omega arith) z g.1)))

solid_sequence-refused : (edition : Edition) (text : List ℕ) (n : ℕ) (u v : List ℕ)
    → SequencesRefused edition text n u v → (side : Side) (spaced : Bool) (r s : List ℕ)
    → length r ≤ suc n → IsUtf8 r → Diverge (close_brace ∷ (u ++ v)) (close_brace ∷ u) r s
    → RefusalGuard text u v (solid_sequence edition side spaced (next_kind r) r (solid edition r))
    (solid_sequence edition side spaced (next_kind s) s (solid edition s))
solid_sequence-refused edition text n u v runs side spaced r s l z h =
    rw (sym same) (by (next_kind r) refl)
  where
    same : next_kind r ≡ next_kind s
    same = next_kind-diverge close_brace (u ++ v) u r s h

    -- both texts, where this kind is next
    Both : NextKind → Type 0
    Both kind =
        RefusalGuard text u v (solid_sequence edition side spaced kind r (solid edition r))
        (solid_sequence edition side spaced kind s (solid edition s))

    as_read : (kind : NextKind) → next_kind r ≡ kind
        → RefusalGuard text u v
        (solid_sequence edition side spaced kind r (solid_as edition kind r))
        (solid_sequence edition side spaced kind s (solid_as edition kind s)) → Both kind
    as_read kind k =
        rw (solid-kind_known edition kind r k, solid-kind_known edition kind s (sym same ∙ k))
        (λ c. c)

    piece : (kind : NextKind) → IsSolid kind → next_kind r ≡ kind → Both kind
    piece kind w k =
        piece-refused edition text n u v runs side spaced kind r s (solid edition r)
        (solid edition s) w l h (solid-cuts edition r)
        (lawful-text solid solid solid-lawful edition r z)
        (rw (solid-kind_known edition kind r k)
        (solid_as-passed edition (u ++ v) u r s h kind k))
        (lawful-guarded solid solid solid-lawful edition u v r s z h)
        (rw (solid-kind_known edition kind r k, solid-kind_known edition kind s (sym same ∙ k))
        (solid_as-reported edition u v r s z h kind k))

    by : (kind : NextKind) → next_kind r ≡ kind → Both kind
    by Stop k =
        as_read Stop k
        (answered-refused text u v side spaced Stop r r s s (sequence_end r) (sequence_end s) h
        (inr refl))
    by Slash k =
        as_read Slash k
        (answered-refused text u v side spaced Slash r (past_one r) s (past_one s) (sequence_end r)
        (sequence_end s) h (inr refl))
    by Child k = piece Child tt k
    by Adjacent k = piece Adjacent tt k
    by Universal k = piece Universal tt k
    by Id k = piece Id tt k
    by Class k = piece Class tt k
    by Attribute k = piece Attribute tt k
    by Colon k = piece Colon tt k
    by Other k = piece Other tt k

-- after a gap that fails nothing is left
gap-fails : (text : List ℕ) (f : Fault) (left : List ℕ) → gap text ≡ fails f left → left ≡ []
unfolding gap blank
gap-fails text f left e = by (opens_comment (past_blank text)) e
  where
    by : (k : Bool)
        → follow
        (if k then fails (no_comment (past_blank text)) [] else got (tt {0}) (past_blank text))
        (λ u. got (has_space text)) ≡ fails f left → left ≡ []
    by true h = cc
    by false h = absurd (cc)

gap_sequence-refused : (edition : Edition) (text : List ℕ) (n : ℕ) (u v : List ℕ)
    → SequencesRefused edition text n u v → (side : Side) (x y : Reading Bool)
    → length (left_after x) ≤ suc n → IsUtf8 (left_after x)
    → ((f : Fault) (left : List ℕ) → x ≡ fails f left → left ≡ [])
    → Guard Equal true (close_brace ∷ (u ++ v)) (close_brace ∷ u) x y
    → RefusalGuard text u v (gap_sequence edition side x) (gap_sequence edition side y)
gap_sequence-refused edition text n u v runs side x y l z none (inl less) =
    inl (gap_sequence-within edition (length (u ++ v)) side x less)
gap_sequence-refused edition text n u v runs side (fails f p) y l z none (inr diverge) =
    inl (gap_sequence-within edition (length (u ++ v)) side (fails f p)
    (omega (arith, ap length (none f p refl))))
gap_sequence-refused edition text n u v runs side (got x p) (fails f q) l z none (inr diverge) =
    absurd diverge
gap_sequence-refused edition text n u v runs side (got x p) (got y q) l z none (inr g) =
    subst (λ (z : Bool). RefusalGuard text u v
    (solid_sequence edition side x (next_kind p) p (solid edition p))
    (solid_sequence edition side z (next_kind q) q (solid edition q))) g.0
    (solid_sequence-refused edition text n u v runs side x p q l z g.1)

sequence_from-refused : (edition : Edition) (text u v : List ℕ) (n : ℕ)
    → SequencesRefused edition text n u v
sequence_from-refused edition text u v zero left r s l z h =
    absurd (omega (arith, l, longer-diverge (close_brace ∷ (u ++ v)) (close_brace ∷ u) r s h))
sequence_from-refused edition text u v (suc n) left r s l z h =
    rw (sequence_from-by edition left r, sequence_from-by edition left s)
    (gap_sequence-refused edition text n u v (sequence_from-refused edition text u v n) left (gap r)
    (gap s)
    (omega (arith, l, length-ends r (left_after (gap r)) (well-gap r).0)) ((well-gap r).1 z)
    (λ f left e. gap-fails r f left e) (gap-guarded u v r s h))

-- a selector passes the brace, or is refused for the same reason
pub refusal-alike : (edition : Edition) (u v r s : List ℕ) → IsUtf8 r
    → Diverge (close_brace ∷ (u ++ v)) (close_brace ∷ u) r s
    → (length (reads edition r).1 ≤ length (u ++ v))
    ⊎ (refusal edition r ≡ option_map (refusal_before v) (refusal edition s))
unfolding reads refusal
refusal-alike edition u v r s z h =
    by (sequence_from-refused edition s u v (length r) open_side r s (omega arith) z h)
  where
    left : (o : Outcome) → (selector_of o).1 ≡ left_of o
    left (refused x) = refl
    left (accepted roles x) = refl

    by : RefusalGuard s u v (sequence_from edition open_side r) (sequence_from edition open_side s)
        → (length (selector_of (outcome (sequence_of edition r))).1 ≤ length (u ++ v))
        ⊎ (refusal_in r (sequence_of edition r)
        ≡ option_map (refusal_before v) (refusal_in s (sequence_of edition s)))
    by (inl l) = inl (rw (left (outcome (sequence_of edition r))) l)
    by (inr e) =
        inr (ap (λ (whole : List ℕ). refusal_in whole (sequence_of edition r))
        (diverge-append close_brace u v r s h)
        ∙ e)

-- Selectors are guarded by a closing brace.
-- Serves `StyleSheet::parse_more` and `laws::cutting_law` (a text read in pieces).
use Rattle.std.proofs.Common.{Bool, List, [], arith, inl, inr, length, refl, subst, sym, suc, ◌∙◌, ℕ, ◌++◌, ◌≡◌, ◌≤◌, zero, IsUtf8, ◌∷◌, true}
use Rattle.css_text.specs.AsciiBytes.{close_brace}
use Rattle.css_text.specs.Reading.{Reading, fails, got, left_after}
use Rattle.css_text.specs.Bytes.{past_one}
use Rattle.css_text.specs.Characters.{Edition}
use Rattle.css_text.specs.Comments.{gap}
use Rattle.simplecss_grammar.specs.declared.next_kind.NextKind.{NextKind}
use Rattle.simplecss_grammar.specs.declared.next_kind.NextKind.TheVariants.{Stop, Slash, Child, Adjacent, Universal, Id, Class, Attribute, Colon, Other}
use Rattle.simplecss_grammar.specs.Tokens.{Token}
use Rattle.simplecss_grammar.specs.Pieces.{next_kind, solid_as, solid}
use Rattle.simplecss_grammar.specs.Neighbours.{Side, side_after}
use Rattle.simplecss_grammar.specs.Neighbours.Side.{open_side}
use Rattle.simplecss_grammar.specs.TokenSequences.{sequence_from, token_then}
use Rattle.simplecss_grammar.specs.Selectors.{outcome, role_of, Outcome, reads, selector_of}
use Rattle.simplecss_grammar.specs.Selectors.Outcome.{refused, accepted}
use Rattle.css_text.proofs.reading.TakesLemmas.{Cuts}
use Rattle.css_text.proofs.reading.EndsLemmas.{length-ends}
use Rattle.simplecss_grammar.proofs.reading.KindLemmas.{NamesStart, solid-kind_known}
use Rattle.simplecss_grammar.proofs.reading.PiecesLawful.{next_kind-diverge, solid-cuts, solid-lawful, gap-guarded}
use Rattle.simplecss_grammar.proofs.reading.Lawful.{lawful-guarded, lawful-text}
use Rattle.css_text.proofs.reading.WellLemmas.{well-gap}
use Rattle.simplecss_grammar.proofs.reading.SequenceSteps.{solid_sequence, gap_sequence, sequence_from-by}
use Rattle.simplecss_grammar.proofs.reading.LocalLemmas.{Diverge, Equal, Guard, at, longer-diverge, on, past_one-diverge, Same}
use Rattle.simplecss_grammar.proofs.cutting.OutcomeGuards.{OutcomeGuard, IsSolid, both_accepted, both_refused, after_role-guard, after_role-passed, answered-guard, answered-passed, fault_ending-outcome, fault_ending-within, left_of, left_of-sequence, open_gap-outcome}

-- where a solid piece leaves no more than n bytes, so does the offset where it begins, if the table
-- of neighbours may name that
abbrev pub Passed : ℕ → NextKind → List ℕ → Reading Token → Type 0
Passed n kind start (got token after) = NamesStart kind → length after ≤ n → length start ≤ n
Passed n kind start (fails fault after) = Unit {0}

passed-unnamed : (n : ℕ) (kind : NextKind) (start : List ℕ) (r : Reading Token)
    → (NamesStart kind → ⊥) → Passed n kind start r
passed-unnamed n kind start (got token after) unnamed = λ k l. absurd (unnamed k)
passed-unnamed n kind start (fails fault after) unnamed = tt

-- a piece of one byte does not begin with the brace
one_byte : (t u r s : List ℕ) → Diverge (close_brace ∷ t) (close_brace ∷ u) r s
    → (next_kind r ≡ Other → ⊥)
    → length (past_one r) ≤ length t → length r ≤ length t
unfolding next_kind
one_byte t u r s at other l = absurd (other refl)
one_byte t u r s (on b r1 s1 h) other l =
    absurd (omega (arith, l, longer-diverge (close_brace ∷ t) (close_brace ∷ u) r1 s1 h))

-- the sequence after every shorter text is guarded
abbrev SequencesGuarded : Edition → ℕ → List ℕ → List ℕ → Type 0
SequencesGuarded edition n t u =
    (side : Side) (r s : List ℕ) → length r ≤ n → IsUtf8 r
    → Diverge (close_brace ∷ t) (close_brace ∷ u) r s
    → OutcomeGuard close_brace t u (outcome (sequence_from edition side r))
    (outcome (sequence_from edition side s))

selector_of-same : (t u : List ℕ) (a b : Outcome) → OutcomeGuard close_brace t u a b
    → Same t u (selector_of a) (selector_of b)
selector_of-same t u a b (inr (both_refused x y k)) = inr (refl, k)
selector_of-same t u a b (inr (both_accepted roles x y k)) = inr (refl, k)
selector_of-same t u (refused x) b (inl l) = inl l
selector_of-same t u (accepted roles x) b (inl l) = inl l

module _ (edition : Edition) where
  pub solid_as-passed : (t u r s : List ℕ) → Diverge (close_brace ∷ t) (close_brace ∷ u) r s
      → (kind : NextKind)
      → next_kind r ≡ kind → Passed (length t) kind r (solid_as edition kind r)
  solid_as-passed t u r s h Stop k = tt
  solid_as-passed t u r s h Slash k = tt
  solid_as-passed t u r s h Child k = λ n l. one_byte t u r s h (λ e. absurd (cc)) l
  solid_as-passed t u r s h Adjacent k = λ n l. one_byte t u r s h (λ e. absurd (cc)) l
  solid_as-passed t u r s h Universal k = λ n l. one_byte t u r s h (λ e. absurd (cc)) l
  solid_as-passed t u r s h Id k = passed-unnamed (length t) Id r _ (λ n. n)
  solid_as-passed t u r s h Class k = passed-unnamed (length t) Class r _ (λ n. n)
  solid_as-passed t u r s h Attribute k = passed-unnamed (length t) Attribute r _ (λ n. n)
  solid_as-passed t u r s h Colon k = passed-unnamed (length t) Colon r _ (λ n. n)
  solid_as-passed t u r s h Other k = passed-unnamed (length t) Other r _ (λ n. n)

  -- where a solid piece is read, or its fault
  piece-guard : (n : ℕ) (t u : List ℕ) → SequencesGuarded edition n t u
      → (side : Side) (spaced : Bool) (kind : NextKind) (r s : List ℕ) (x y : Reading Token)
      → IsSolid kind → length r ≤ suc n → Diverge (close_brace ∷ t) (close_brace ∷ u) r s → Cuts r x
      → IsUtf8 (left_after x) → Passed (length t) kind r x
      → Guard Equal true (close_brace ∷ t) (close_brace ∷ u) x y
      → OutcomeGuard close_brace t u (outcome (solid_sequence edition side spaced kind r x))
      (outcome (solid_sequence edition side spaced kind s y))
  piece-guard n t u runs side spaced kind r s (fails f p) y w l h c z k (inl less) =
      inl (rw (fault_ending-outcome side kind spaced r f p w) less)
  piece-guard n t u runs side spaced kind r s (fails f p) (fails e q) w l h c z k
      (inr diverge) =
      rw (
        fault_ending-outcome side kind spaced r f p w,
        fault_ending-outcome side kind spaced s e q
            w,
      ) (inr (both_refused p q diverge))
  piece-guard n t u runs side spaced kind r s (fails f p) (got y q) w l h c z k (inr diverge) =
      absurd diverge
  piece-guard n t u runs side spaced kind r s (got x p) (fails e q) w l h c z k (inr diverge) =
      absurd diverge
  piece-guard n t u runs side spaced kind r s (got x p) y w l h c z k (inl less) =
      inl (answered-passed (length t) side spaced kind r p
      (token_then x p (sequence_from edition (side_after kind) p)) (λ m. k m less) less
      (after_role-passed (length t) (role_of x) p
      (outcome (sequence_from edition (side_after kind) p)) less
      (left_of-sequence edition (side_after kind) (length t) p less)))
  piece-guard n t u runs side spaced kind r s (got x p) (got y q) w l h c z k
      (inr (e, diverge)) =
      subst (λ (z : Token). OutcomeGuard close_brace t u
      (outcome (solid_sequence edition side spaced kind r (got x p)))
      (outcome (solid_sequence edition side spaced kind s (got z q)))) e
      (answered-guard close_brace t u side spaced kind r p s q
      (token_then x p (sequence_from edition (side_after kind) p))
      (token_then x q (sequence_from edition (side_after kind) q)) h (inr diverge)
      (after_role-guard close_brace t u (role_of x) p q (outcome (sequence_from edition
      (side_after kind) p))
      (outcome (sequence_from edition (side_after kind) q)) diverge
      (runs (side_after kind) p q (omega arith) z diverge)))

  solid_sequence-guard : (n : ℕ) (u v : List ℕ) → SequencesGuarded edition n (u ++ v) u
      → (side : Side) (spaced : Bool) (r s : List ℕ) → length r ≤ suc n → IsUtf8 r
      → Diverge (close_brace ∷ (u ++ v)) (close_brace ∷ u) r s
      → OutcomeGuard close_brace (u ++ v) u (outcome
      (solid_sequence edition side spaced (next_kind r) r (solid edition r)))
      (outcome (solid_sequence edition side spaced (next_kind s) s (solid edition s)))
  solid_sequence-guard n u v runs side spaced r s l z h =
      rw (sym same) (by (next_kind r) refl)
    where
      same : next_kind r ≡ next_kind s
      same = next_kind-diverge close_brace (u ++ v) u r s h

      ended : OutcomeGuard close_brace (u ++ v) u (accepted [] r) (accepted [] s)
      ended = inr (both_accepted [] r s h)

      -- both texts, where this kind is next
      Both : NextKind → Type 0
      Both kind =
          OutcomeGuard close_brace (u ++ v) u
          (outcome (solid_sequence edition side spaced kind r (solid edition r)))
          (outcome (solid_sequence edition side spaced kind s (solid edition s)))

      as_read : (kind : NextKind) → next_kind r ≡ kind
          → OutcomeGuard close_brace (u ++ v) u
          (outcome (solid_sequence edition side spaced kind r (solid_as edition kind r)))
          (outcome (solid_sequence edition side spaced kind s (solid_as edition kind s)))
          → Both kind
      as_read kind k =
          rw (solid-kind_known edition kind r k, solid-kind_known edition kind s (sym same ∙ k))
          (λ c. c)

      piece : (kind : NextKind) → IsSolid kind → next_kind r ≡ kind → Both kind
      piece kind w k =
          piece-guard n (u ++ v) u runs side spaced kind r s (solid edition r)
          (solid edition s) w l h (solid-cuts edition r)
          (lawful-text solid solid solid-lawful edition r z)
          (rw (solid-kind_known edition kind r k) (solid_as-passed (u ++ v) u r s h kind k))
          (lawful-guarded solid solid solid-lawful edition u v r s z h)

      by : (kind : NextKind) → next_kind r ≡ kind → Both kind
      by Stop k =
          as_read Stop k (answered-guard close_brace (u ++ v) u side spaced Stop r r s s _ _ h
          (inr h) ended)
      by Slash k =
          as_read Slash k
          (answered-guard close_brace (u ++ v) u side spaced Slash r (past_one r) s
          (past_one s) _ _ h
          (past_one-diverge close_brace (u ++ v) u r s h) ended)
      by Child k = piece Child tt k
      by Adjacent k = piece Adjacent tt k
      by Universal k = piece Universal tt k
      by Id k = piece Id tt k
      by Class k = piece Class tt k
      by Attribute k = piece Attribute tt k
      by Colon k = piece Colon tt k
      by Other k = piece Other tt k

  solid_sequence-within : (n : ℕ) (side : Side) (spaced : Bool) (kind : NextKind) (start : List ℕ)
      (x : Reading Token) → length start ≤ n → Cuts start x
      → length (left_of (outcome (solid_sequence edition side spaced kind start x))) ≤ n
  solid_sequence-within n side spaced kind start (got x p) l c =
      let less : length p ≤ n = omega (arith, c, l) in
      answered-passed n side spaced kind start p
      (token_then x p (sequence_from edition (side_after kind) p)) (λ k. l) less
      (after_role-passed n (role_of x) p (outcome (sequence_from edition (side_after kind) p)) less
      (left_of-sequence edition (side_after kind) n p less))
  solid_sequence-within n side spaced kind start (fails f p) l c =
      fault_ending-within n side kind spaced start f p l (omega (arith, c, l))

  pub gap_sequence-within : (n : ℕ) (side : Side) (r : Reading Bool) → length (left_after r) ≤ n
      → length (left_of (outcome (gap_sequence edition side r))) ≤ n
  gap_sequence-within n side (fails fault after) l = rw (open_gap-outcome side fault after) l
  gap_sequence-within n side (got spaced start) l =
      solid_sequence-within n side spaced (next_kind start) start (solid edition start) l
      (solid-cuts edition start)

  gap_sequence-guard : (n : ℕ) (u v : List ℕ) → SequencesGuarded edition n (u ++ v) u
      → (side : Side) (x y : Reading Bool) → length (left_after x) ≤ suc n → IsUtf8 (left_after x)
      → Guard Equal true (close_brace ∷ (u ++ v)) (close_brace ∷ u) x y
      → OutcomeGuard close_brace (u ++ v) u (outcome (gap_sequence edition side x))
      (outcome (gap_sequence edition side y))
  gap_sequence-guard n u v runs side x y l z (inl less) =
      inl (gap_sequence-within (length (u ++ v)) side x less)
  gap_sequence-guard n u v runs side (fails f p) (fails e q) l z (inr diverge) =
      rw (open_gap-outcome side f p, open_gap-outcome side e q) (inr (both_refused p q diverge))
  gap_sequence-guard n u v runs side (fails f p) (got y q) l z (inr diverge) = absurd diverge
  gap_sequence-guard n u v runs side (got x p) (fails f q) l z (inr diverge) = absurd diverge
  gap_sequence-guard n u v runs side (got x p) (got y q) l z (inr (e, diverge)) =
      subst (λ (z : Bool). OutcomeGuard close_brace (u ++ v) u
      (outcome (solid_sequence edition side x (next_kind p) p (solid edition p)))
      (outcome (solid_sequence edition side z (next_kind q) q (solid edition q)))) e
      (solid_sequence-guard n u v runs side x p q l z diverge)

  sequence_from-guard : (u v : List ℕ) (n : ℕ) → SequencesGuarded edition n (u ++ v) u
  sequence_from-guard u v zero left r s l z h =
      absurd (omega (arith, l, longer-diverge (close_brace ∷ (u ++ v)) (close_brace ∷ u) r s h))
  sequence_from-guard u v (suc n) left r s l z h =
      rw (sequence_from-by edition left r, sequence_from-by edition left s)
      (gap_sequence-guard n u v (sequence_from-guard u v n) left (gap r) (gap s)
      (omega (arith, l, length-ends r (left_after (gap r)) (well-gap r).0)) ((well-gap r).1 z)
      (gap-guarded u v r s h))

  pub selectors-guarded : (u v r s : List ℕ) → IsUtf8 r
      → Diverge (close_brace ∷ (u ++ v)) (close_brace ∷ u) r s
      → Same (u ++ v) u (reads edition r) (reads edition s)
  unfolding reads
  selectors-guarded u v r s z h =
      selector_of-same (u ++ v) u (outcome (sequence_from edition open_side r))
      (outcome (sequence_from edition open_side s))
      (sequence_from-guard u v (length r) open_side r s (omega arith) z h)

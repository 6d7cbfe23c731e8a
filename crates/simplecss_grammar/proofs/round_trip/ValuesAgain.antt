-- A value that was read is read again before another tail.
-- Serves `prints_back` of `StyleSheet::{parse, parse_more, read}` (a sheet printed and read
-- again).
use Rattle.std.proofs.Common.{◌≡◌, ℕ, zero, suc, ◌<◌, ◌≤◌, ◌⊎◌, inl, inr, List, [], ◌∷◌, ◌++◌, Bool, true, false, length, arith, refl, sym, ap, ◌∙◌, subst, append_assoc, IsUtf8}
use Rattle.std.proofs.lemmas.Bool.{or_parts}
use Rattle.std.specs.Str.{chars, trim}
use Rattle.std.specs.List.{list_any}
use Rattle.std.proofs.lemmas.Str.{IsUtf8-append, chars-append}
use Rattle.css_text.specs.AsciiBytes.{asterisk, slash}
use Rattle.css_text.specs.Reading.{Fault, Reading, got, fails, left_after, before, followed_by, Ends, last_or}
use Rattle.css_text.specs.Bytes.{past_one, starts}
use Rattle.css_text.specs.Characters.{Edition, first_edition, second_edition}
use Rattle.css_text.specs.Comments.{opens_comment, past_blank}
use Rattle.simplecss_grammar.specs.Terms.{term}
use Rattle.simplecss_grammar.specs.Declarations.{after_term, term_in_value, terms, value}
use Rattle.simplecss_grammar.specs.PrintingLaws.{is_wide_space, IsNarrow}
use Rattle.std.proofs.lemmas.List.Folds.{list_any-append}
use Rattle.css_text.proofs.reading.EachLemmas.{each-none, each-some}
use Rattle.css_text.proofs.reading.TakesLemmas.{Cuts, length-past_blank}
use Rattle.css_text.proofs.reading.EndsLemmas.{before-append, ends-ends, ends-got}
use Rattle.simplecss_grammar.proofs.reading.OccurrenceLemmas.{ends-past_blank}
use Rattle.simplecss_grammar.proofs.reading.DeclarationsLawful.{slash_word, term-cuts, term-lawful, term-occurs, term_in_value-takes}
use Rattle.css_text.proofs.reading.GotLemmas.{got-holds, opens_comment-two}
use Rattle.css_text.proofs.reading.WellLemmas.{well-past_blank}
use Rattle.simplecss_grammar.proofs.reading.Lawful.{lawful-text}
use Rattle.css_text.proofs.bytes.Utf8Lemmas.{utf8-first}
use Rattle.simplecss_grammar.proofs.reading.LocalLemmas.{Diverge, Equal, Guard, ContinuesNothing, diverge-end, diverge-front}
use Rattle.simplecss_grammar.proofs.reading.LocalLemmas.Seam.{at_quiet}
use Rattle.simplecss_grammar.proofs.round_trip.BlankTails.{past_blank-alike}
use Rattle.simplecss_grammar.proofs.round_trip.TermEnds.{is_bare, FirstBare, term-ends_bare, term-begins_bare}
use Rattle.simplecss_grammar.proofs.round_trip.TrimBare.{last-append, trim-bare}

-- The text begins with terms, blanks between them, and after the last of them is r.
pub data Valued (edition : Edition) (r : List ℕ) : List ℕ → Type 0 where
  last : (text : List ℕ) (x : Unit {0}) → term edition text ≡ got x r → Valued edition r text
  more : (text rest : List ℕ) (x : Unit {0}) → term edition text ≡ got x rest
      → Valued edition r (past_blank rest) → Valued edition r text

comment_term : (edition : Edition) (text rest : List ℕ) (x : Unit {0})
    → term edition (slash ∷ asterisk ∷ text) ≡ got x rest → ⊥
unfolding term
comment_term first_edition text rest x e =
    absurd (let none_there = sym (slash_word first_edition (asterisk ∷ text)) ∙ e in cc)
comment_term second_edition text rest x e =
    absurd (let none_there = sym (slash_word second_edition (asterisk ∷ text)) ∙ e in cc)

-- the terms that were read end somewhere
abbrev pub TermsEnd : Edition → List ℕ → Type 0
TermsEnd edition text =
    ((terms edition text).0 ≡ [])
    ⊎ ((r : List ℕ) × Valued edition r text
    × ((other : List ℕ) → last_or other (terms edition text).0 ≡ r))

-- A value as it is in the text, before the text r. It is trimmed.
pub record IsValueText (edition : Edition) (v : List ℕ) : Type 0 where
  pub r : List ℕ
  pub r_is : IsUtf8 r
  pub value_is : IsUtf8 v
  pub valued : Valued edition r (v ++ r)
  pub first : FirstBare v
  pub trimmed : trim v ≡ v

-- both parts of such a text
pub narrow-parts : (a b : List ℕ) → IsNarrow (a ++ b) → IsUtf8 b → IsNarrow a × IsNarrow b
narrow-parts a b n v =
    let u = utf8-first a b n.0 v in
    let parts =
    or_parts _ _ (sym (list_any-append is_wide_space (chars a) (chars b))
    ∙ ap (list_any is_wide_space) (sym (chars-append a b u)) ∙ n.1) in
    ((u, parts.0), (v, parts.1))

first-front : (passed : List ℕ) (b : ℕ) (r : List ℕ) → is_bare b ≡ true
    → FirstBare ((passed ++ (b ∷ [])) ++ r) → FirstBare (passed ++ (b ∷ []))
first-front [] b r e h = e
first-front (c ∷ passed) b r e h = h

module _ (edition : Edition) where
  term-less : (text rest : List ℕ) (x : Unit {0}) → term edition text ≡ got x rest
      → length rest < length text
  term-less text rest x e =
      subst (λ (y : Reading (Unit {0})). Cuts text y) e (term-cuts edition text)

  term-left : (text rest : List ℕ) (x : Unit {0}) → IsUtf8 text → term edition text ≡ got x rest
      → IsUtf8 rest
  term-left text rest x u e =
      subst (λ (y : Reading (Unit {0})). IsUtf8 (left_after y)) e
      (lawful-text term term (term-lawful true) edition text u)

  valued-less : (r text : List ℕ) → Valued edition r text → length r < length text
  valued-less r text (last _ x e) = term-less text r x e
  valued-less r text (more _ rest x e w) =
      omega (
        arith,
        valued-less r (past_blank rest) w,
        length-past_blank rest,
        term-less text rest x e,
      )

  -- no term begins with a comment
  term-closed : (text rest : List ℕ) (x : Unit {0}) → term edition text ≡ got x rest
      → opens_comment text ≡ false
  term-closed [] rest x e = refl
  term-closed (b ∷ text) rest x e = by (opens_comment (b ∷ text)) refl
    where
      by : (t : Bool) → opens_comment (b ∷ text) ≡ t → t ≡ false
      by false h = refl
      by true h =
          let two = opens_comment-two b text h in
          let whole : b ∷ text ≡ slash ∷ asterisk ∷ past_one text =
          ap (λ k. k ∷ text) two.0 ∙ ap (λ l. slash ∷ l) two.1 in
          absurd (comment_term edition (past_one text) rest x (ap (term edition) (sym whole) ∙ e))

  -- no comment opens where terms begin
  pub valued-closed : (r text : List ℕ) → Valued edition r text → opens_comment text ≡ false
  valued-closed r text (last _ x e) = term-closed text r x e
  valued-closed r text (more _ rest x e w) = term-closed text rest x e

  -- before another tail

  term-again : (r : List ℕ) (q : ℕ) (tail text other rest : List ℕ) (x : Unit {0})
      → ContinuesNothing edition q
      → IsUtf8 r → IsUtf8 text → Diverge r (q ∷ tail) text other → term edition text ≡ got x rest
      → length r ≤ length rest → (left : List ℕ) × (term edition other ≡ got x left)
      × Diverge r (q ∷ tail) rest left
  term-again r q tail text other rest x quiet v u h e l =
      by (term edition text) (term edition other) e refl
      ((term-lawful false text other).guard edition r (q ∷ tail) (at_quiet r q tail quiet v) u h)
    where
      by : (a b : Reading (Unit {0})) → a ≡ got x rest → term edition other ≡ b
          → Guard Equal false r (q ∷ tail) a b
          → (left : List ℕ) × (term edition other ≡ got x left) × Diverge r (q ∷ tail) rest left
      by (got y p) b f g (inl k) = absurd (let same : p ≡ rest = cc in omega
          (arith, ap length same))
      by (got y p) (got z o) f g (inr k) =
          let same : p ≡ rest = cc in
          (o, cc (k.0), subst (λ (t : List ℕ). Diverge r (q ∷ tail) t o) same k.1)
      by (got y p) (fails i o) f g (inr k) = absurd k
      by (fails i p) b f g k = absurd (cc)

  -- before another tail the terms end at that tail
  pub valued-again : (r : List ℕ) (q : ℕ) (tail text other : List ℕ) → ContinuesNothing edition q
      → IsUtf8 r
      → IsUtf8 text → Valued edition r text → Diverge r (q ∷ tail) text other
      → Valued edition (q ∷ tail) other
  valued-again r q tail text other quiet v u (last _ x e) h =
      let found = term-again r q tail text other r x quiet v u h e (omega arith) in
      last other x (found.1 ∙ ap (got x) (diverge-end r (q ∷ tail) found.0 found.2))
  valued-again r q tail text other quiet v u (more _ rest x e w) h =
      let less = valued-less r (past_blank rest) w in
      let found =
      term-again r q tail text other rest x quiet v u h e
      (omega (arith, less, length-past_blank rest)) in
      let star : starts asterisk (q ∷ tail) ≡ false = quiet.no_star in
      let following =
      past_blank-alike r (q ∷ tail) star rest found.0 found.2 less
      (valued-closed r (past_blank rest) w) in
      let left = term-left text rest x u e in
      more other found.0 x found.1
      (valued-again r q tail (past_blank rest) (past_blank found.0) quiet v
      ((well-past_blank rest).1 left) w following)

  -- what is read of such a text

  one-term : (text rest : List ℕ) (x : Unit {0}) → term edition text ≡ got x rest
      → terms edition text ≡ followed_by rest (terms edition (past_blank rest))
  one-term text rest x e =
      each-some (term_in_value edition) (term_in_value-takes edition) text (past_blank rest) rest
      (ap after_term e)

  no-term : (text rest : List ℕ) (fault : Fault) → term edition text ≡ fails fault rest
      → terms edition text ≡ ([], text)
  no-term text rest fault e = each-none (term_in_value edition) text (ap after_term e)

  -- where no further term follows it
  valued-terms : (r text left : List ℕ) (fault : Fault) → Valued edition r text
      → term edition (past_blank r) ≡ fails fault left
      → ((terms edition text).1 ≡ past_blank r)
      × ((other : List ℕ) → last_or other (terms edition text).0 ≡ r)
  valued-terms r text left fault (last _ x e) f =
      let listed : terms edition text ≡ (r ∷ [], past_blank r) =
      one-term text r x e
      ∙ ap (followed_by r) (no-term (past_blank r) left fault f) in
      (ap (λ l. l.1) listed, λ other. ap (λ (l : List (List ℕ) × List ℕ). last_or other l.0) listed)
  valued-terms r text left fault (more _ rest x e w) f =
      let inner = valued-terms r (past_blank rest) left fault w f in
      let listed = one-term text rest x e in (
        ap (λ l. l.1) listed ∙ inner.0,
        λ other. ap (λ (l : List (List ℕ) × List ℕ). last_or other l.0)
            listed ∙ inner.1 rest,
      )

  terms-within : (n : ℕ) (text : List ℕ) → length text < n → TermsEnd edition text
  terms-within zero text less = absurd (omega arith)
  terms-within (suc n) text less =
      by (term edition text) refl (λ t k. terms-within n t k)
    where
      joined : (rest : List ℕ) (x : Unit {0}) → term edition text ≡ got x rest
          → TermsEnd edition (past_blank rest) → TermsEnd edition text
      joined rest x e (inl none_more) =
          let listed = one-term text rest x e in
          inr (
            rest,
            last text x e,
            λ other. ap (λ (l : List (List ℕ) × List ℕ). last_or other l.0)
                listed ∙ ap (last_or rest) none_more,
          )
      joined rest x e (inr w) =
          let listed = one-term text rest x e in
          inr (
            w.0,
            more text rest x e w.1,
            λ other. ap
                (λ (l : List (List ℕ) × List ℕ). last_or other l.0) listed ∙ w.2 rest,
          )

      by : (y : Reading (Unit {0})) → term edition text ≡ y
          → ((t : List ℕ) → length t < n → TermsEnd edition t) → TermsEnd edition text
      by (got x rest) e again =
          joined rest x e (again (past_blank rest)
          (omega (arith, length-past_blank rest, term-less text rest x e)))
      by (fails fault rest) e again = inl (ap (λ l. l.0) (no-term text rest fault e))

  -- where the terms of a text end
  pub terms-end : (text : List ℕ) → TermsEnd edition text
  terms-end text = terms-within (suc (length text)) text (omega arith)

  -- where the terms end, a text is left, and the byte before it is no white space of ASCII

  valued-left : (r text : List ℕ) → IsUtf8 text → Valued edition r text → IsUtf8 r
  valued-left r text u (last _ x e) = term-left text r x u e
  valued-left r text u (more _ rest x e w) =
      let left = term-left text rest x u e in
      valued-left r (past_blank rest) ((well-past_blank rest).1 left) w

  valued-final : (r text : List ℕ) → IsUtf8 text → Valued edition r text
      → (passed : List ℕ) × (b : ℕ) × (text ≡ passed ++ (b ∷ r)) × (is_bare b ≡ true)
  valued-final r text u (last _ x e) = term-ends_bare edition text r x u e
  valued-final r text u (more _ rest x e w) =
      let left = term-left text rest x u e in
      let next = past_blank rest in
      let end : Ends text next =
      ends-ends text rest next
      (ends-got _ _ _ _ _ (term-occurs edition text) e)
      (ends-past_blank rest) in
      let inner = valued-final r next ((well-past_blank rest).1 left) w in (
        before text next ++ inner.0,
        inner.1,
        sym end ∙ ap (λ l. before text next ++ l) inner.2
            ∙ sym (append_assoc (before text next) inner.0 (inner.1 ∷ r)),
        inner.3,
      )

  valued-first : (r text : List ℕ) → IsUtf8 text → Valued edition r text → FirstBare text
  valued-first r text u (last _ x e) =
      got-holds (λ x rest. FirstBare text) _ _ _
      (term-begins_bare edition text u) e
  valued-first r text u (more _ rest x e w) =
      got-holds (λ x rest. FirstBare text) _ _ _
      (term-begins_bare edition text u) e

  -- the value that was read is in the text
  pub value_text-is : (r text : List ℕ) → IsNarrow text → Valued edition r text
      → IsValueText edition (trim (before text r))
  value_text-is r text n w =
      let final = valued-final r text n.0 w in
      let v = final.0 ++ (final.1 ∷ []) in
      let left = valued-left r text n.0 w in
      let is : text ≡ v ++ r = final.2 ∙ sym (append_assoc final.0 (final.1 ∷ []) r) in
      let parts = narrow-parts v r (subst IsNarrow is n) left in
      let first =
      first-front final.0 final.1 r final.3 (subst FirstBare is (valued-first r text n.0 w)) in
      let trimmed : trim v ≡ v =
      trim-bare v parts.0.0 parts.0.1 first (ap is_bare (last-append 0 final.0 final.1 [])
      ∙ final.3) in
      let same : v ≡ trim (before text r) =
      sym (ap trim (ap (λ t. before t r) is ∙ before-append v r) ∙ trimmed) in
      subst (λ (t : List ℕ). IsValueText edition t) same
      (record {
        r = r;
        r_is = left;
        value_is = parts.0.0;
        valued = subst
            (λ (t : List ℕ). Valued edition r t) is w;
        first = first;
        trimmed = trimmed;
      })

  -- A value is read again before a byte that continues nothing, where no further term follows.
  pub value-reads : (v : List ℕ) (q : ℕ) (tail left : List ℕ) (fault : Fault)
      → IsValueText edition v → ContinuesNothing edition q
      → term edition (past_blank (q ∷ tail)) ≡ fails fault left
      → value edition (v ++ (q ∷ tail)) ≡ (v, left)
  unfolding value
  value-reads v q tail left fault w quiet e =
      let s = q ∷ tail in
      let text = v ++ (q ∷ tail) in
      let again =
      valued-again w.r q tail (v ++ w.r) text quiet w.r_is
      (IsUtf8-append v w.r w.value_is w.r_is) w.valued (diverge-front w.r s v) in
      let read = valued-terms s text left fault again e in
      let stated : trim (before text (last_or text (terms edition text).0)) ≡ v =
      ap (λ r. trim (before text r)) (read.1 text) ∙ ap trim (before-append v s) ∙ w.trimmed in
      let following : left_after (term edition (terms edition text).1) ≡ left =
      ap (λ t. left_after (term edition t)) read.0 ∙ ap left_after e in
      rw (stated, following) refl

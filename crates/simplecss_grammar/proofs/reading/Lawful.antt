-- What every reader owes, as one record, and what keeps it: choosing, consuming a byte, reading one
-- thing after another.
-- Serves the tokenizers, `read_value`, `StyleSheet::{parse, parse_more, read}` and
-- `laws::{cutting_law, edition_law}`.
use Rattle.std.proofs.Common.{◌≡◌, ℕ, ◌<◌, ◌⊎◌, List, [], ◌∷◌, ◌++◌, Bool, true, false, if◌then◌else◌, ◌==◌, length, arith, refl, ap, subst, sym, ◌∙◌, inl, inr, IsUtf8}
use Rattle.css_text.specs.AsciiBytes.{close_brace, hyphen}
use Rattle.css_text.specs.Reading.{Ends, Fault, Reader, Reading, fails, follow, got, left_after}
use Rattle.css_text.specs.Bytes.{byte, optional, past, past_byte, past_one, starts}
use Rattle.css_text.specs.Characters.{Edition, first_edition, second_edition}
use Rattle.css_text.specs.Comments.{blank}
use Rattle.css_text.specs.Names.{name}
use Rattle.css_text.specs.Strings.{is_quote, string_after}
use Rattle.css_text.proofs.reading.EndsLemmas.{Occurs, length-ends, no_texts, occurs-none}
use Rattle.css_text.proofs.reading.TakesLemmas.{Cuts, Keeps, keeps-cuts}
use Rattle.css_text.proofs.reading.WellLemmas.{EndsWell, well-blank, well-byte, well-past, well-past_byte, well-same, well-sign, well-tail, well-then}
use Rattle.simplecss_grammar.proofs.reading.WellNames.{well-string, well-name}
use Rattle.simplecss_grammar.proofs.reading.LocalLemmas.{Diverge, Equal, Guard, Passed, ContinuesNothing, Seam, To, at, at-brace, beyond-less, beyond-within, byte-guarded, guard-follow, guard-got, on, passed-beyond, past-seam, past_byte-to, past_one-to, starts-seam}
use Rattle.simplecss_grammar.proofs.reading.LocalLemmas.Seam.{at_brace, at_quiet}
use Rattle.simplecss_grammar.proofs.reading.NameLocal.{name-seam, past_name-seam}
use Rattle.simplecss_grammar.proofs.reading.SearchLemmas.{blank-guarded, string-diverge}
use Rattle.simplecss_grammar.proofs.reading.ReadValues.{quote_low}
use Rattle.simplecss_grammar.proofs.reading.EditionLaws.{Shared, name-editions, shared-ends}

-- What a reading of the text r owes, in either edition. `left`: what it leaves is an end of r, and
-- UTF-8 if r is. `same`: where r has only ASCII bytes and no slash, both editions come to the
-- same. `guard`, the law of locality: where another text s is alike up to where both part, and b
-- reads s, the first reading passed that offset or both come to the same. With `true` this is owed
-- where the second text is cut after a closing brace; with `false` where the first continues with
-- any text and the second with a byte that continues nothing, and then not of faults.
pub record Owes {A : Type 0} (c : Bool) (r s : List ℕ) (a b : Edition → Reading A) : Type 0 where
  pub left : (edition : Edition) → EndsWell r (left_after (a edition))
  pub same : Shared r → a first_edition ≡ a second_edition
  pub guard : (edition : Edition) (t u : List ℕ) → Seam edition c t u → IsUtf8 r → Diverge t u r s
      → Guard Equal c t u (a edition) (b edition)

-- A reader owes it in every text. In the other text n reads, which is m, unless m knows an offset
-- of its text: then n knows an offset of the other.
abbrev pub Lawful : {A : Type 0} → Bool → (Edition → Reader A) → (Edition → Reader A) → Type 0
Lawful c m n = (r s : List ℕ) → Owes c r s (λ edition. m edition r) (λ edition. n edition s)

-- ---- what keeps it

pub owes-give : {A : Type 0} {c : Bool} (x : A) (r s : List ℕ)
    → Owes c r s (λ edition. got x r) (λ edition. got x s)
owes-give x r s =
    record {
      left = λ edition. well-same r;
      same = λ h. refl;
      guard = λ edition t u m v h. inr
          (refl, h);
    }

pub owes-fails : {A : Type 0} {c : Bool} (f e : Fault) (r s : List ℕ)
    → Owes {A = A} c r s (λ edition. fails f r) (λ edition. fails e s)
owes-fails f e r s =
    record { left = λ edition. well-same r; same = λ h. refl; guard = λ edition t u m v h. inr h }

-- A choice by a test, and what is known where it holds. In the other text the test comes out the
-- same, or the first reading passed the offset.
pub owes-choice : {A : Type 0} {k : Bool} (r s : List ℕ) (c d : Edition → Bool) (a b x y : Edition
    → Reading A) → (Shared r → c first_edition ≡ c second_edition)
    → ((edition : Edition) (t u : List ℕ) → Seam edition k t u → Diverge t u r s
    → (c edition ≡ d edition) ⊎ Passed k t (if c edition then a edition else x edition))
    → ((edition : Edition) → c edition ≡ true → Owes k r s a b) → Owes k r s x y
    → Owes k r s (λ edition. if c edition then a edition else x edition)
    (λ edition. if d edition then b edition else y edition)
owes-choice {k = k} r s c d a b x y both alike p q = record {
  left = λ edition. by edition (c edition) refl;
  same = λ h. one h (c first_edition) (c second_edition) refl (both h);
  guard =
      λ edition t u m v h. go edition t u m v h (c edition) refl (d edition)
      (alike edition t u m h);
}
  where
    by : (edition : Edition) (j : Bool) → c edition ≡ j
        → EndsWell r (left_after (if j then a edition else x edition))
    by edition true e = (p edition e).left edition
    by edition false e = q.left edition

    one : Shared r → (j i : Bool) → c first_edition ≡ j → j ≡ i
        → (if j then a first_edition else x first_edition)
        ≡ (if i then a second_edition else x second_edition)
    one h true true e f = (p first_edition e).same h
    one h false false e f = q.same h
    one h true false e f = absurd (cc)
    one h false true e f = absurd (cc)

    go : (edition : Edition) (t u : List ℕ) → Seam edition k t u → IsUtf8 r → Diverge t u r s
        → (j : Bool) → c edition ≡ j → (i : Bool)
        → (j ≡ i) ⊎ Passed k t (if j then a edition else x edition)
        → Guard Equal k t u (if j then a edition else x edition)
        (if i then b edition else y edition)
    go edition t u m v h j e i (inr passed) = inl passed
    go edition t u m v h true e true (inl f) = (p edition e).guard edition t u m v h
    go edition t u m v h false e false (inl f) = q.guard edition t u m v h
    go edition t u m v h true e false (inl f) = absurd (cc)
    go edition t u m v h false e true (inl f) = absurd (cc)

-- a choice by one test, and what is known where it holds and where it does not
pub owes-so : {A : Type 0} {c : Bool} {r s : List ℕ} (k : Bool) (a b : Edition → Reading A)
    {x y : Edition → Reading A} → (k ≡ true → Owes c r s a b) → (k ≡ false → Owes c r s x y)
    → Owes c r s (λ edition. if k then a edition else x edition)
    (λ edition. if k then b edition else y edition)
owes-so true a b p q = p refl
owes-so false a b p q = q refl

pub owes-if : {A : Type 0} {c : Bool} {r s : List ℕ} {a b x y : Edition → Reading A} (k : Bool)
    → Owes c r s a b → Owes c r s x y
    → Owes c r s (λ edition. if k then a edition else x edition)
    (λ edition. if k then b edition else y edition)
owes-if k p q = owes-so k _ _ (λ e. p) (λ e. q)

-- where both texts are read in other ways, which come to the same
owes-same : {A : Type 0} {c : Bool} {r s : List ℕ} {a b d e : Edition → Reading A}
    → ((edition : Edition) → a edition ≡ d edition) → ((edition : Edition) → b edition ≡ e edition)
    → Owes c r s a b → Owes c r s d e
owes-same {c = c} {r = r} {b = b} {d = d} one two p = record {
  left = λ edition. subst (λ o. EndsWell r (left_after o)) (one edition) (p.left edition);
  same = λ h. sym (one first_edition) ∙ p.same h ∙ one second_edition;
  guard =
      λ edition t u m v h. subst (Guard Equal c t u (d edition)) (two edition)
      (subst (λ o. Guard Equal c t u o (b edition)) (one edition) (p.guard edition t u m v h));
}

-- where the other text is read in another way, which comes to the same
pub owes-alike : {A : Type 0} {c : Bool} {r s : List ℕ} {a b d : Edition → Reading A}
    → ((edition : Edition) (t u : List ℕ) → Seam edition c t u → Diverge t u r s
    → b edition ≡ d edition) → Owes c r s a b → Owes c r s a d
owes-alike {c = c} {a = a} alike p = record {
  left = p.left;
  same = p.same;
  guard =
      λ edition t u m v h. subst (Guard Equal c t u (a edition)) (alike edition t u m h)
      (p.guard edition t u m v h);
}

-- A choice by the byte that is next, and what is known where it is that byte: then a byte is
-- taken. None of the bytes that continue nothing is that byte.
pub owes-starts : {A : Type 0} {k : Bool} {r s : List ℕ} {a b x y : Edition → Reading A} (n : ℕ)
    → ((edition : Edition) (q : ℕ) → k ≡ false → ContinuesNothing edition q → (q == n) ≡ false)
    → (starts n r ≡ true → (edition : Edition) → length (left_after (a edition)) < length r)
    → (starts n r ≡ true → Owes k r s a b) → Owes k r s x y
    → Owes k r s (λ edition. if starts n r then a edition else x edition)
    (λ edition. if starts n s then b edition else y edition)
owes-starts {k = k} {r = r} {s = s} {a = a} {b = b} {x = x} {y = y} n other cut p q =
    owes-choice r s (λ edition. starts n r) (λ edition. starts n s) a b x y (λ h. refl)
    (λ edition t u m h. by edition t (starts-seam k t u n (other edition) m r s h))
    (λ edition e. p e) q
  where
    by : (edition : Edition) (t : List ℕ)
        → (starts n r ≡ starts n s) ⊎ ((k ≡ false) × (r ≡ t) × (starts n r ≡ true))
        → (starts n r ≡ starts n s) ⊎ Passed k t (if starts n r then a edition else x edition)
    by edition t (inl e) = inl e
    by edition t (inr h) =
        inr (rw h.2
        (passed-beyond k t (a edition)
        (beyond-less k t (left_after (a edition)) (omega (arith, cut h.2 edition, ap length h.1)))))

-- what follows the first byte, which is ASCII
pub owes-past_one : {A : Type 0} {c : Bool} {a b : Edition → Reading A} (r s : List ℕ)
    → 0 < length r → EndsWell r (past_one r) → Owes c (past_one r) (past_one s) a b → Owes c r s a b
owes-past_one {c = c} {a = a} {b = b} r s some well p = record {
  left = λ edition. well-then r (past_one r) (left_after (a edition)) well (p.left edition);
  same = λ h. p.same (shared-ends r (past_one r) well.0 h);
  guard = λ edition t u m v h. by edition t u m (well.1 v) (past_one-to c t u r s some h);
}
  where
    by : (edition : Edition) (t u : List ℕ) → Seam edition c t u → IsUtf8 (past_one r)
        → To c t u (past_one r) (past_one s) → Guard Equal c t u (a edition) (b edition)
    by edition t u m v (inl l) =
        inl (passed-beyond c t (a edition)
        (beyond-within c t (past_one r) (left_after (a edition))
        (length-ends (past_one r) (left_after (a edition)) (p.left edition).0) l))
    by edition t u m v (inr h) = p.guard edition t u m v h

pub owes-past : {A : Type 0} {c : Bool} {r s : List ℕ} {a b : Edition → Reading A} (k : ℕ) → k < 128
    → Owes c r s a b → Owes c (k ∷ r) (k ∷ s) a b
owes-past {r = r} {s = s} k low p =
    owes-past_one (k ∷ r) (k ∷ s) (omega arith) (well-tail k r low) p

-- a choice by the ASCII byte that is next, which is consumed
pub owes-sign : {A : Type 0} {k : Bool} {r s : List ℕ} {a b x y : Edition → Reading A} (n : ℕ)
    → n < 128
    → ((edition : Edition) (q : ℕ) → k ≡ false → ContinuesNothing edition q → (q == n) ≡ false)
    → Owes k (past_one r) (past_one s) a b → Owes k r s x y
    → Owes k r s (λ edition. if starts n r then a edition else x edition)
    (λ edition. if starts n s then b edition else y edition)
owes-sign {r = r} {s = s} {a = a} n low other p q =
    owes-starts n other
    (λ e edition. omega
    (arith, some r e, length-ends (past_one r) (left_after (a edition)) (p.left edition).0))
    (λ e. owes-past_one r s (omega (arith, some r e)) (well-sign n r low e) p) q
  where
    some : (text : List ℕ) → starts n text ≡ true → length (past_one text) < length text
    some [] e = absurd (cc)
    some (b ∷ text) e = omega arith

-- one thing after another
pub owes-follow : {A B : Type 0} {c : Bool} {r s : List ℕ} {a b : Edition → Reading A}
    (m n : A → Edition → Reader B) → Owes c r s a b → ((x : A) → Lawful c (m x) (n x))
    → Owes c r s (λ edition. follow (a edition) (λ x. m x edition))
    (λ edition. follow (b edition) (λ x. n x edition))
owes-follow {A = A} {B = B} {c = c} {r = r} {s = s} {a = a} {b = b} m n p q = record {
  left = λ edition. ended edition (a edition) (p.left edition);
  same = λ h. one h (a first_edition) (a second_edition) (p.left first_edition).0 (p.same h);
  guard = λ edition t u k v h.
      guard-follow Equal Equal c t u (a edition) (b edition) (λ x. m x edition) (λ x. n x edition)
      (λ x rest. length-ends rest (left_after (m x edition rest))
      ((q x rest rest).left edition).0)
      ((p.left edition).1 v) (p.guard edition t u k v h)
      (λ x y e i j w l. rw (← e) ((q x i j).guard edition t u k w l));
}
  where
    ended : (edition : Edition) (o : Reading A) → EndsWell r (left_after o)
        → EndsWell r (left_after (follow o (λ x. m x edition)))
    ended edition (got x rest) h =
        well-then r rest (left_after (m x edition rest)) h ((q x rest rest).left edition)
    ended edition (fails f rest) h = h

    one : Shared r → (o i : Reading A) → Ends r (left_after o) → o ≡ i
        → follow o (λ x. m x first_edition) ≡ follow i (λ x. m x second_edition)
    one h (got x rest) i k e =
        (q x rest rest).same (shared-ends r rest k h)
        ∙ ap (λ o. follow o (λ x. m x second_edition)) e
    one h (fails f rest) i k e = ap (λ o. follow o (λ x. m x second_edition)) e

pub takes-passed : {A : Type 0} (t : List ℕ) (a : Reading A) → Cuts t a → Passed false t a
takes-passed t (got x rest) h = h
takes-passed t (fails f rest) h = tt

cases-guard : {A : Type 0} (c : Bool) (m n : Edition → Reader A)
    → (c ≡ false → (edition : Edition) (text : List ℕ) → Cuts text (m edition text))
    → ((b : ℕ) (r s : List ℕ)
    → Owes c (b ∷ r) (b ∷ s) (λ edition. m edition (b ∷ r)) (λ edition. n edition (b ∷ s)))
    → (edition : Edition) (t u : List ℕ) → Seam edition c t u → (r s : List ℕ) → IsUtf8 r
    → Diverge t u r s → Guard Equal c t u (m edition r) (n edition s)
cases-guard c m n takes some edition t u seam r s v (on b r1 s1 h) =
    (some b r1 s1).guard edition t u seam v (on b r1 s1 h)
cases-guard c m n takes some edition t u (at_brace x y) r s v at =
    (some close_brace (x ++ y) x).guard edition t u (at_brace x y) v at
cases-guard c m n takes some edition t u (at_quiet _ q more w z) r s v at =
    inl (takes-passed t (m edition t) (takes refl edition t))

-- By the first byte, and where there is none. Where faults are not alike a byte or more is
-- consumed.
pub lawful-cases : {A : Type 0} {c : Bool} (m n : Edition → Reader A)
    → (c ≡ false → (edition : Edition) (text : List ℕ) → Cuts text (m edition text))
    → Owes c [] [] (λ edition. m edition []) (λ edition. n edition [])
    → ((b : ℕ) (r s : List ℕ)
    → Owes c (b ∷ r) (b ∷ s) (λ edition. m edition (b ∷ r)) (λ edition. n edition (b ∷ s)))
    → Lawful c m n
lawful-cases {c = c} m n takes none some r s =
    record {
      left = λ edition. ended edition r;
      same = one r;
      guard = λ edition t u seam v
          h. cases-guard c m n takes some edition t u seam r s v h;
    }
  where
    ended : (edition : Edition) (text : List ℕ) → EndsWell text (left_after (m edition text))
    ended edition [] = none.left edition
    ended edition (b ∷ text) = (some b text text).left edition

    one : (text : List ℕ) → Shared text → m first_edition text ≡ m second_edition text
    one [] h = none.same h
    one (b ∷ text) h = (some b text text).same h

-- ---- what comes of it

-- what is left is no more than the text
pub lawful-keeps : {A : Type 0} {c : Bool} (m n : Edition → Reader A) → Lawful c m n
    → (edition : Edition) (text : List ℕ) → Keeps text (m edition text)
lawful-keeps m n p edition text =
    length-ends text (left_after (m edition text)) ((p text text).left edition).0

-- and after a byte that was consumed it is less
pub owes-cuts : {A : Type 0} {c : Bool} {r s : List ℕ} {a b : Edition → Reading A} (k : ℕ)
    → Owes c r s a b → (edition : Edition) → Cuts (k ∷ r) (a edition)
owes-cuts {r = r} {a = a} k p edition =
    keeps-cuts r (k ∷ r) (a edition) (omega arith)
    (length-ends r (left_after (a edition)) (p.left edition).0)

-- it is an end of the text
pub lawful-occurs : {A : Type 0} {c : Bool} (m n : Edition → Reader A) → Lawful c m n
    → (edition : Edition) (text : List ℕ) → Occurs text no_texts (m edition text)
lawful-occurs m n p edition text = occurs-none text (m edition text) ((p text text).left edition).0

-- it is UTF-8 if the text is
pub lawful-text : {A : Type 0} {c : Bool} (m n : Edition → Reader A) → Lawful c m n
    → (edition : Edition) (text : List ℕ) → IsUtf8 text → IsUtf8 (left_after (m edition text))
lawful-text m n p edition text = ((p text text).left edition).1

-- in texts that part at a closing brace
pub lawful-guarded : {A : Type 0} (m n : Edition → Reader A) → Lawful true m n
    → (edition : Edition) (u v r s : List ℕ) → IsUtf8 r
    → Diverge (close_brace ∷ (u ++ v)) (close_brace ∷ u) r s
    → Guard Equal true (close_brace ∷ (u ++ v)) (close_brace ∷ u) (m edition r) (n edition s)
lawful-guarded m n p edition u v r s w h =
    (p r s).guard edition (close_brace ∷ (u ++ v)) (close_brace ∷ u) (at_brace u v) w h

-- what is left, by the ASCII byte that is next, which is consumed
pub passes-sign : {k : Bool} {r s : List ℕ} (n : ℕ) → n < 128
    → ((edition : Edition) (q : ℕ) → k ≡ false → ContinuesNothing edition q → (q == n) ≡ false)
    → (a b x y : Edition → List ℕ)
    → Owes k (past_one r) (past_one s) (λ edition. got (tt {0}) (a edition))
    (λ edition. got tt (b edition))
    → Owes k r s (λ edition. got (tt {0}) (x edition)) (λ edition. got tt (y edition))
    → Owes k r s (λ edition. got (tt {0}) (if starts n r then a edition else x edition))
    (λ edition. got tt (if starts n s then b edition else y edition))
passes-sign {r = r} {s = s} n low other a b x y p q =
    owes-same (λ edition. one (starts n r) (a edition) (x edition))
    (λ edition. one (starts n s) (b edition) (y edition)) (owes-sign n low other p q)
  where
    one : (j : Bool) (t w : List ℕ)
        → (if j then got (tt {0}) t else got tt w) ≡ got tt (if j then t else w)
    one true t w = refl
    one false t w = refl

-- ---- bytes

-- a run of ASCII bytes, of which none continues nothing
pub past-lawful : (c : Bool) (test : ℕ → Bool) → ((b : ℕ) → test b ≡ true → b < 128)
    → ((edition : Edition) (q : ℕ) → ContinuesNothing edition q → test q ≡ false)
    → Lawful c (λ edition text. got (tt {0}) (past test text))
    (λ edition text. got tt (past test text))
past-lawful c test low ends r s =
    record {
      left = λ edition. well-past test low r;
      same = λ h. refl;
      guard = λ edition t u m v
          h. guard-got Equal c t u tt tt _ _ refl (past-seam c t u test (ends edition) m r s h);
    }

optional-guarded : (u v : List ℕ) (c : ℕ) → (close_brace == c) ≡ false → (r s : List ℕ)
    → Diverge (close_brace ∷ (u ++ v)) (close_brace ∷ u) r s
    → Guard Equal true (close_brace ∷ (u ++ v)) (close_brace ∷ u) (optional c r) (optional c s)
optional-guarded u v c e r s h =
    by (past_byte-to (close_brace ∷ (u ++ v)) (close_brace ∷ u) c (rw e refl) r s h)
  where
    by : (length (past_byte c r) < length (close_brace ∷ (u ++ v)))
        ⊎ Diverge (close_brace ∷ (u ++ v)) (close_brace ∷ u)
        (past_byte c r) (past_byte c s)
        → Guard Equal true (close_brace ∷ (u ++ v)) (close_brace ∷ u) (optional c r) (optional c s)
    by (inl l) = inl (omega arith)
    by (inr k) = inr (refl, k)

pub optional-lawful : (c : ℕ) → c < 128 → (close_brace == c) ≡ false
    → Lawful true (λ edition. optional c) (λ edition. optional c)
optional-lawful c low e r s =
    record {
      left = λ edition. well-past_byte c r low;
      same = λ h. refl;
      guard = λ edition t u m v
          h. at-brace (λ t u. Diverge t u r s → Guard Equal true t u (optional c r) (optional c s))
          (λ u v. optional-guarded u v c e r s) t u m h;
    }

pub byte-lawful : (c : ℕ) → c < 128 → Lawful true (λ edition. byte c) (λ edition. byte c)
byte-lawful c low r s =
    record {
      left = λ edition. well-byte c r low;
      same = λ h. refl;
      guard = λ edition t u m v
          h. at-brace (λ t u. Diverge t u r s → Guard Equal true t u (byte c r) (byte c s))
          (λ u v. byte-guarded close_brace (u ++ v) u c r s) t u m h;
    }

-- ---- blanks, names, strings

pub blank-lawful : Lawful true (λ edition. blank) (λ edition. blank)
blank-lawful r s =
    record {
      left = λ edition. well-blank r;
      same = λ h. refl;
      guard = λ edition t u m v h. at-brace
          (λ t u. Diverge t u r s → Guard Equal true t u (blank r) (blank s))
          (λ u v. blank-guarded u v r s)
          t u m h;
    }

-- A lone hyphen that ends the text is a name, and none before another byte.
pub name-owes : (c : Bool) (r s : List ℕ) → (c ≡ false → r ≡ hyphen ∷ [] → ⊥)
    → Owes c r s (λ edition. name edition r) (λ edition. name edition s)
name-owes c r s some =
    record {
      left = λ edition. well-name edition r;
      same = name-editions r;
      guard = λ edition t u m
          v h. name-seam c t u m r s (lone c t u m some) v h;
    }
  where
    lone : {edition : Edition} (c : Bool) (t u : List ℕ) → Seam edition c t u
        → (c ≡ false → r ≡ hyphen ∷ [] → ⊥) → t ≡ [] → r ≡ hyphen ∷ [] → ⊥
    lone c t u (at_brace x y) some none = absurd (cc)
    lone c t u (at_quiet _ q more w z) some none = some refl

pub name-lawful : Lawful true name name
name-lawful r s = name-owes true r s (λ e. absurd (cc))

-- what is left after a name, or after the hyphen that a missing one consumes
pub past_name-lawful : (c : Bool)
    → Lawful c (λ edition text. got (tt {0}) (left_after (name edition text)))
    (λ edition text. got tt (left_after (name edition text)))
past_name-lawful c r s = record {
  left = λ edition. well-name edition r;
  same = λ h. ap (λ o. got tt (left_after o)) (name-editions r h);
  guard =
      λ edition t u m v h. guard-got Equal c t u tt tt _ _ refl (past_name-seam c t u m r s v h);
}

pub string_after-lawful : (c : Bool) (quote : ℕ) → is_quote quote ≡ true
    → Lawful c (λ edition. string_after quote) (λ edition. string_after quote)
string_after-lawful c quote e r s =
    record {
      left = λ edition. well-string quote r (quote_low quote e);
      same = λ h. refl;
      guard = λ edition t u m v h. string-diverge c t u r s h quote quote r s h;
    }

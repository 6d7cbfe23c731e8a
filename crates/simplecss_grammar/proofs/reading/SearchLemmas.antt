-- Searches, strings and blanks are read alike in texts that part after them.
-- Serves `Lawful` (what every reader owes): `StyleSheet::{parse, parse_more, read}` and
-- `laws::cutting_law`.
use Rattle.std.proofs.Common.{◌≡◌, ℕ, ◌≤◌, List, [], ◌∷◌, ◌++◌, Bool, true, false, if◌then◌else◌, ◌==◌, ◌&&◌, not, length, length-append, Option, Some, None, arith, refl, sym, ap, ◌∙◌, ◌<◌, ◌⊎◌, inl, inr}
use Rattle.std.proofs.lemmas.Bool.{and_parts}
use Rattle.std.specs.Option.{option_map}
use Rattle.css_text.specs.AsciiBytes.{asterisk, backslash, close_brace, slash as slash_byte}
use Rattle.css_text.specs.Reading.{Fault, no_comment, got, fails, each, left_after, before}
use Rattle.css_text.specs.Bytes.{past_one, starts, starts_two, after_byte, closed_or}
use Rattle.css_text.specs.Characters.{is_space}
use Rattle.css_text.specs.Comments.{opens_comment, after_close, after_comment, blank_part, past_blank, blank}
use Rattle.css_text.specs.Strings.{from_quote, string_up_to}
use Rattle.css_text.proofs.reading.TakesLemmas.{blank_part-takes}
use Rattle.simplecss_grammar.proofs.reading.LocalLemmas.{Diverge, diverge-append, at, on, To, Passed, Guard, Equal, Step, Never, Repeats, before-diverge, beyond-less, each-repeats, guard-if, passed-beyond, starts-diverge}
use Rattle.css_text.proofs.reading.GotLemmas.{IfAfter, after_byte-after, after_close-after, starts-cons}
use Rattle.simplecss_grammar.proofs.reading.ReadStrings.{IfCloses, from_quote-closes}

-- what two searches find: the first finds nothing before the texts part, or both find alike
abbrev pub FindsAlike : List ℕ → List ℕ → Option (List ℕ) → Option (List ℕ) → Type 0
FindsAlike t u None p = Unit {0}
FindsAlike t u (Some a) p = (length a < length t) ⊎ ((b : List ℕ) × (p ≡ Some b) × Diverge t u a b)

finds-within : (t u : List ℕ) (o p : Option (List ℕ)) → IfAfter slash_byte t o → FindsAlike t u o p
finds-within t u None p h = tt
finds-within t u (Some a) p h =
    inl (omega (arith, ap length h.1, length-append h.0 (slash_byte ∷ a)))

-- the end of a comment
pub close-diverge : (t u r s : List ℕ) → Diverge t u r s
    → FindsAlike t u (after_close r) (after_close s)
close-diverge t u r s at = finds-within t u (after_close t) (after_close u) (after_close-after t)
close-diverge t u r s (on b r1 s1 at) = by (starts_two asterisk slash_byte (b ∷ t)) refl
  where
    by : (k : Bool) → starts_two asterisk slash_byte (b ∷ t) ≡ k
        → FindsAlike t u (if k then Some (past_one t) else after_close t) (after_close (b ∷ u))
    by true e =
        inl (let there =
        starts-cons slash_byte t (and_parts (b == asterisk) (starts slash_byte t) e).1 in omega
        (arith, ap length there))
    by false e = finds-within t u (after_close t) (after_close (b ∷ u)) (after_close-after t)
close-diverge t u r s (on b r1 s1 (on c r2 s2 h)) =
    by (b == asterisk && c == slash_byte) (close-diverge t u (c ∷ r2) (c ∷ s2) (on c r2 s2 h))
  where
    by : (k : Bool) → FindsAlike t u (after_close (c ∷ r2)) (after_close (c ∷ s2))
        → FindsAlike t u (if k then Some r2 else after_close (c ∷ r2))
        (if k then Some s2 else after_close (c ∷ s2))
    by true more = inr (s2, refl, h)
    by false more = more

starts_front : (c : ℕ) (u v : List ℕ) → starts c (u ++ v) ≡ false → starts c u ≡ false
starts_front c [] v e = refl
starts_front c (b ∷ u) v e = e

and_front : (a b c : Bool) → (b ≡ false → c ≡ false) → (a && b) ≡ false → (a && c) ≡ false
and_front true b c h e = h e
and_front false b c h e = refl

-- what is not closed in a text is not closed in its front
close_front : (u v : List ℕ) → after_close (u ++ v) ≡ None → after_close u ≡ None
close_front [] v e = refl
close_front (b ∷ u) v e =
    by (starts_two asterisk slash_byte (b ∷ (u ++ v))) (close_front u v) refl e
  where
    by : (k : Bool) → (after_close (u ++ v) ≡ None → after_close u ≡ None)
        → starts_two asterisk slash_byte (b ∷ (u ++ v)) ≡ k
        → (if k then Some (past_one (u ++ v)) else after_close (u ++ v)) ≡ None
        → after_close (b ∷ u) ≡ None
    by true ih f h = absurd (cc)
    by false ih f h =
        let here : starts_two asterisk slash_byte (b ∷ u) ≡ false =
        and_front (b == asterisk) (starts slash_byte (u ++ v)) (starts slash_byte u)
        (starts_front slash_byte u v) f in
        rw here (ih h)

-- a byte that is no part of a blank
pub record Plain (g : ℕ) : Type 0 where
  pub space : is_space g ≡ false
  pub slash : (g == slash_byte) ≡ false
  pub star : (g == asterisk) ≡ false

pub brace_plain : Plain close_brace
brace_plain = record { space = refl; slash = refl; star = refl }

blank_part-step : (g : ℕ) (u v : List ℕ) → Plain g → (r s : List ℕ)
    → Diverge (g ∷ (u ++ v)) (g ∷ u) r s
    → Step Equal Never g (u ++ v) u r (blank_part r) (blank_part s)
blank_part-step g u v p r s at =
    let e : is_space g ≡ false = p.space in
    let f : (g == slash_byte) ≡ false = p.slash in
    rw (e, f) tt
blank_part-step g u v p r s (on b r1 s1 h) = by (is_space b)
  where
    closes : (o p : Option (List ℕ)) → (o ≡ None → p ≡ None) → FindsAlike (g ∷ (u ++ v)) (g ∷ u) o p
        → Step Equal Never g (u ++ v) u (b ∷ r1) (option_map (λ (rest : List ℕ). (false, rest)) o)
        (option_map (λ (rest : List ℕ). (false, rest)) p)
    closes None None n k = tt
    closes None (Some y) n k = absurd (let e : Some y ≡ None = n refl in cc)
    closes (Some x) None n (inl k) = omega arith
    closes (Some x) (Some y) n (inl k) = inl (omega arith)
    closes (Some x) p n (inr k) = rw k.1 (inr (refl, k.2))

    opens : (r2 s2 : List ℕ) → Diverge (g ∷ (u ++ v)) (g ∷ u) r2 s2
        → Step Equal Never g (u ++ v) u (b ∷ r1)
        (if opens_comment (b ∷ r2) then option_map (λ (rest : List ℕ). (false, rest))
        (after_comment (b ∷ r2)) else None)
        (if opens_comment (b ∷ s2) then option_map (λ (rest : List ℕ). (false, rest))
        (after_comment (b ∷ s2)) else None)
    opens r2 s2 at = let e : (g == asterisk) ≡ false = p.star in rw e (neither (b == slash_byte))
      where
        neither : (k : Bool)
            → Step Equal Never g (u ++ v) u (b ∷ r1)
            (if k && false then option_map (λ (rest : List ℕ). (false, rest))
            (after_comment (b ∷ r2)) else None)
            (if k && false then option_map (λ (rest : List ℕ). (false, rest))
            (after_comment (b ∷ s2)) else None)
        neither true = tt
        neither false = tt
    opens r2 s2 (on c r3 s3 k) = both (b == slash_byte && c == asterisk)
      where
        both : (j : Bool)
            → Step Equal Never g (u ++ v) u (b ∷ r1)
            (if j then option_map (λ (rest : List ℕ). (false, rest)) (after_close r3) else None)
            (if j then option_map (λ (rest : List ℕ). (false, rest)) (after_close s3) else None)
        both true =
            closes (after_close r3) (after_close s3)
            (λ n. close_front s3 v (ap after_close (sym (diverge-append g u v r3 s3 k)) ∙ n))
            (close-diverge (g ∷ (u ++ v)) (g ∷ u) r3 s3 k)
        both false = tt

    by : (k : Bool)
        → Step Equal Never g (u ++ v) u (b ∷ r1)
        (if k then Some (true, r1) else
        (if opens_comment (b ∷ r1) then option_map (λ rest. (false, rest)) (after_comment (b ∷ r1))
        else None))
        (if k then Some (true, s1) else
        (if opens_comment (b ∷ s1) then option_map (λ rest. (false, rest)) (after_comment (b ∷ s1))
        else None))
    by true = inr (refl, h)
    by false = opens r1 s1 h

-- nothing is known of a text
abbrev Nothing : List ℕ → Type 0
Nothing text = Unit {0}

pub blank-repeats : (g : ℕ) (u v : List ℕ) → Plain g → (r s : List ℕ)
    → Diverge (g ∷ (u ++ v)) (g ∷ u) r s
    → Repeats Equal Never g (u ++ v) u (each blank_part r) (each blank_part s)
blank-repeats g u v p r s h =
    each-repeats Nothing Equal Never g (u ++ v) u blank_part blank_part-takes
    (λ text rest x n e. tt) (λ a b n. blank_part-step g u v p a b) (length r) r s (omega arith) tt h

pub past_blank-to : (g : ℕ) (u v : List ℕ) → Plain g → (r s : List ℕ)
    → Diverge (g ∷ (u ++ v)) (g ∷ u) r s
    → To true (g ∷ (u ++ v)) (g ∷ u) (past_blank r) (past_blank s)
past_blank-to g u v p r s h =
    by (each blank_part r) (each blank_part s) (blank-repeats g u v p r s h)
  where
    by : (a b : List Bool × List ℕ) → Repeats Equal Never g (u ++ v) u a b
        → To true (g ∷ (u ++ v)) (g ∷ u) a.1 b.1
    by a b (inl k) = inl k
    by a b (inr (inl k)) = absurd k
    by a b (inr (inr k)) = inr k.1

pub opens_comment-diverge : (g : ℕ) (t u : List ℕ) → Plain g → (r s : List ℕ)
    → Diverge (g ∷ t) (g ∷ u) r s → opens_comment r ≡ opens_comment s
opens_comment-diverge g t u p r s at = let f : (g == slash_byte) ≡ false = p.slash in rw f refl
opens_comment-diverge g t u p r s (on b r1 s1 h) =
    ap (λ (k : Bool). b == slash_byte && k) (starts-diverge g t u asterisk r1 s1 h)

pub blank-guarded : (u v r s : List ℕ) → Diverge (close_brace ∷ (u ++ v)) (close_brace ∷ u) r s
    → Guard Equal true (close_brace ∷ (u ++ v)) (close_brace ∷ u) (blank r) (blank s)
unfolding blank
blank-guarded u v r s h =
    by (past_blank r) (past_blank s) (past_blank-to close_brace u v brace_plain r s h)
  where
    either : (k : Bool) (a : List ℕ) → length a ≤ length (u ++ v)
        → length (left_after {A = Unit {0}} (if k then fails (no_comment a) [] else got tt a)) ≤
        length (u ++ v)
    either true a l = omega arith
    either false a l = l

    by : (a b : List ℕ) → To true (close_brace ∷ (u ++ v)) (close_brace ∷ u) a b
        → Guard {A = Unit {0}} Equal true (close_brace ∷ (u ++ v)) (close_brace ∷ u)
        (if opens_comment a then fails (no_comment a) [] else got tt a)
        (if opens_comment b then fails (no_comment b) [] else got tt b)
    by a b (inl k) = inl (either (opens_comment a) a k)
    by a b (inr k) =
        guard-if Equal true (close_brace ∷ (u ++ v)) (close_brace ∷ u) (opens_comment a)
        (opens_comment b) _ _ _ _
        (opens_comment-diverge close_brace (u ++ v) u brace_plain a b k) (inl (omega arith))
        (inr (refl, k))

-- ---- what a byte closes

-- what is closed within the first tail is read past it
closed-passed : (c : Bool) (t : List ℕ) (k : ℕ) (fault : Fault) (o : Option (List ℕ))
    → IfAfter k t o → Passed c t (closed_or fault o)
closed-passed true t k fault None h = omega arith
closed-passed false t k fault None h = tt
closed-passed c t k fault (Some rest) h =
    passed-beyond c t (got tt rest)
    (beyond-less c t rest (omega (arith, ap length h.1, length-append h.0 (k ∷ rest))))

pub closed-diverge : (c : Bool) (t u : List ℕ) (k : ℕ) (f e : Fault) (r s : List ℕ)
    → Diverge t u r s
    → Guard Equal c t u (closed_or f (after_byte k r)) (closed_or e (after_byte k s))
closed-diverge c t u k f e r s at =
    inl (closed-passed c t k f (after_byte k t) (after_byte-after k t))
closed-diverge c t u k f e r s (on b r1 s1 h) = by (b == k) (closed-diverge c t u k f e r1 s1 h)
  where
    by : (j : Bool)
        → Guard Equal c t u (closed_or f (after_byte k r1)) (closed_or e (after_byte k s1))
        → Guard Equal c t u (closed_or f (if j then Some r1 else after_byte k r1))
        (closed_or e (if j then Some s1 else after_byte k s1))
    by true more = inr (refl, h)
    by false more = more

-- a string that is closed within the first tail
string-passed : (c : Bool) (t whole : List ℕ) (quote previous : ℕ) (o : Option (List ℕ))
    → IfCloses quote previous t o → Passed c t (string_up_to whole o)
string-passed true t whole quote previous None h = omega arith
string-passed false t whole quote previous None h = tt
string-passed c t whole quote previous (Some closing) h =
    rw h.closing_is
    (passed-beyond c t (got (before whole (quote ∷ h.following)) h.following)
    (beyond-less c t h.following
    (omega (arith, ap length h.is, length-append h.front (quote ∷ h.following)))))

pub string-diverge : (c : Bool) (t u whole other : List ℕ) → Diverge t u whole other
    → (quote previous : ℕ) (r s : List ℕ) → Diverge t u r s
    → Guard Equal c t u (string_up_to whole (from_quote quote previous r))
    (string_up_to other (from_quote quote previous s))
string-diverge c t u whole other w quote previous r s at =
    inl (string-passed c t whole quote previous (from_quote quote previous t)
    (from_quote-closes quote previous t))
string-diverge c t u whole other w quote previous r s (on b r1 s1 h) =
    by (b == quote && not (previous == backslash))
    (string-diverge c t u whole other w quote b r1 s1 h)
  where
    by : (j : Bool)
        → Guard Equal c t u (string_up_to whole (from_quote quote b r1))
        (string_up_to other (from_quote quote b s1))
        → Guard Equal c t u
        (string_up_to whole (if j then Some (b ∷ r1) else from_quote quote b r1))
        (string_up_to other (if j then Some (b ∷ s1) else from_quote quote b s1))
    by true more = inr (before-diverge t u whole other (b ∷ r1) (b ∷ s1) w (on b r1 s1 h), h)
    by false more = more

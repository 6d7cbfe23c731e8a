-- A name is read alike in texts that part after it. A lone hyphen that ends the first text is the
-- one exception: it is a name, and before a further byte it is none.
-- Serves `Lawful` (what every reader owes): `StyleSheet::{parse, parse_more, read}` and
-- `laws::cutting_law`.
use Rattle.std.proofs.Common.{◌≡◌, ℕ, ◌<◌, ◌≤◌, ◌⊎◌, inl, inr, List, [], ◌∷◌, ◌++◌, Bool, true, false, ◌&&◌, ◌==◌, length, arith, refl, sym, ap, ◌∙◌, subst, length-append, append_assoc, append-nil, IsUtf8}
use Rattle.std.specs.Str.{chars}
use Rattle.std.proofs.lemmas.Bool.{cases_lt, or_parts}
use Rattle.std.proofs.lemmas.Str.{IsUtf8-append, chars-append}
use Rattle.css_text.specs.AsciiBytes.{close_brace, hyphen}
use Rattle.css_text.specs.Reading.{Fault, Reading, got, fails, left_after, no_name}
use Rattle.css_text.specs.Bytes.{past, past_byte, starts_by, is_hex_digit}
use Rattle.css_text.specs.Characters.{Edition, first_edition, second_edition, is_name_start, is_name_char}
use Rattle.css_text.specs.Names.{begins_name, name}
use Rattle.simplecss_grammar.specs.Terms.{past_hash}
use Rattle.simplecss_grammar.proofs.reading.PrintedNames.{IsName, name-reads, ends_names}
use Rattle.simplecss_grammar.proofs.reading.ReadNames.{name-is, name-fails, name-none_begins}
use Rattle.css_text.proofs.bytes.Utf8Lemmas.{utf8-before_byte, utf8-first, utf8-second, chars-byte}
use Rattle.css_text.proofs.reading.TakesLemmas.{length-past}
use Rattle.simplecss_grammar.proofs.reading.LocalLemmas.{Diverge, Equal, Guard, ContinuesNothing, Seam, To, diverge-front, diverge-split, beyond-less, passed-beyond, past-seam, past_byte-to, quiet-brace}
use Rattle.simplecss_grammar.proofs.reading.LocalLemmas.Seam.{at_brace, at_quiet}

-- a front, where more than the tail is left
pub split-after : (front r n rest : List ℕ) → front ++ r ≡ n ++ rest → length r ≤ length rest
    → (left : List ℕ) × (front ≡ n ++ left) × (rest ≡ left ++ r)
split-after front r [] rest e h = (front, refl, sym e)
split-after [] r (b ∷ n) rest e h = absurd (omega (arith, ap length e, length-append n rest))
split-after (c ∷ front) r (b ∷ n) rest e h =
    let first : c ≡ b = cc in
    let others : front ++ r ≡ n ++ rest = cc in
    let more = split-after front r n rest others h in
    (more.0, (ap (λ k. k ∷ front) first ∙ ap (λ l. b ∷ l) more.1), more.2)

-- the name that begins both texts, or a hyphen that ends the first, or none
pub data NamesAlike (edition : Edition) (t u text other : List ℕ) : Type 0 where
  same : (n rest left : List ℕ) → name edition text ≡ got n rest → name edition other ≡ got n left
      → Diverge t u rest left → NamesAlike edition t u text other
  lone : (n : List ℕ) (fault : Fault) → name edition text ≡ got n []
      → name edition other ≡ fails fault u → t ≡ [] → text ≡ hyphen ∷ []
      → NamesAlike edition t u text other
  none : (fault other_fault : Fault) (rest left : List ℕ) → name edition text ≡ fails fault rest
      → name edition other ≡ fails other_fault left → Diverge t u rest left
      → NamesAlike edition t u text other

name_utf8 : (edition : Edition) (n : List ℕ) → IsName edition n → IsUtf8 n
name_utf8 edition n w = (w.letters, (w.scalars, w.spell))

module _ (edition : Edition) (q : ℕ) (more : List ℕ) (quiet : ContinuesNothing edition q) where
  ends-alike : (r front : List ℕ) → IsUtf8 front → ends_names edition (front ++ r) ≡ false
      → ends_names edition (front ++ (q ∷ more)) ≡ false
  ends-alike r front u e =
      ap (starts_by (is_name_char edition)) (chars-append front (q ∷ more) u)
      ∙ by (chars front) (ap (starts_by (is_name_char edition)) (sym (chars-append front r u)) ∙ e)
    where
      by : (cs : List ℕ) → starts_by (is_name_char edition) (cs ++ chars r) ≡ false
          → starts_by (is_name_char edition) (cs ++ chars (q ∷ more)) ≡ false
      by [] h = ap (starts_by (is_name_char edition)) (chars-byte q more quiet.low) ∙ quiet.no_char
      by (c ∷ cs) h = h

  -- no name begins with such a byte
  begins-quiet : (ds : List ℕ) → begins_name edition (q ∷ ds) ≡ false
  begins-quiet [] = rw (quiet.no_start, quiet.no_hyphen) refl
  begins-quiet (d ∷ ds) = rw (quiet.no_start, quiet.no_hyphen) refl

  begins-one : (c : ℕ) (rs ds : List ℕ) → begins_name edition (c ∷ rs) ≡ false
      → begins_name edition (c ∷ q ∷ ds) ≡ false
  begins-one c rs ds h =
      let start = by rs h in rw (start, quiet.no_start) (and_false (c == hyphen))
    where
      by : (rs : List ℕ) → begins_name edition (c ∷ rs) ≡ false → is_name_start edition c ≡ false
      by [] h = (or_parts (is_name_start edition c) (c == hyphen) h).0
      by (d ∷ rs) h = (or_parts (is_name_start edition c) (c == hyphen && is_name_start edition d)
          h).0

      and_false : (t : Bool) → (t && false) ≡ false
      and_false true = refl
      and_false false = refl

  begins-alike : (r front : List ℕ) → IsUtf8 front
      → begins_name edition (chars (front ++ r)) ≡ false
      → begins_name edition (chars (front ++ (q ∷ more))) ≡ false
  begins-alike r front u e =
      ap (begins_name edition) (chars-append front (q ∷ more) u
      ∙ ap (λ l. chars front ++ l) (chars-byte q more quiet.low))
      ∙ by (chars front) (ap (begins_name edition) (sym (chars-append front r u)) ∙ e)
    where
      by : (cs : List ℕ) → begins_name edition (cs ++ chars r) ≡ false
          → begins_name edition (cs ++ (q ∷ chars more)) ≡ false
      by [] h = begins-quiet (chars more)
      by (c ∷ []) h = begins-one c (chars r) (chars more) h
      by (c ∷ d ∷ cs) h = h

  -- at such a byte no name is read
  pub name-quiet : name edition (q ∷ more) ≡ fails (no_name (q ∷ more)) (q ∷ more)
  name-quiet =
      let begins : begins_name edition (chars (q ∷ more)) ≡ false =
      ap (begins_name edition) (chars-byte q more quiet.low)
      ∙ begins-quiet (chars more) in
      let left : past_byte hyphen (q ∷ more) ≡ q ∷ more = let p = quiet.no_hyphen in rw p refl in
      name-none_begins edition (q ∷ more) begins ∙ ap (fails (no_name (q ∷ more))) left

  same_name : (r front n rest : List ℕ) → IsUtf8 front → name edition (front ++ r) ≡ got n rest
      → IsName edition n → front ++ r ≡ n ++ rest → ends_names edition rest ≡ false
      → length r ≤ length rest → NamesAlike edition r (q ∷ more) (front ++ r) (front ++ (q ∷ more))
  same_name r front n rest u e w joined ends h =
      let split = split-after front r n rest joined h in
      let left = split.0 in
      let v : IsUtf8 left = utf8-second n left (subst IsUtf8 split.1 u) (name_utf8 edition n w) in
      let stops =
      ends-alike r left v (ap (ends_names edition) (sym split.2) ∙ ends) in
      let text : front ++ (q ∷ more) ≡ n ++ (left ++ (q ∷ more)) =
      ap (λ l. l ++ (q ∷ more)) split.1 ∙ append_assoc n left (q ∷ more) in
      let again : name edition (front ++ (q ∷ more)) ≡ got n (left ++ (q ∷ more)) =
      ap (name edition) text ∙ name-reads edition n (left ++ (q ∷ more)) w stops in
      same n rest (left ++ (q ∷ more)) e again
      (subst (λ (x : List ℕ). Diverge r (q ∷ more) x (left ++ (q ∷ more))) (sym split.2)
      (diverge-front r (q ∷ more) left))

  begins_hyphen : begins_name edition (chars (hyphen ∷ q ∷ more)) ≡ false
  begins_hyphen =
      ap (begins_name edition) (chars-byte hyphen (q ∷ more) (omega arith)
      ∙ ap (λ l. hyphen ∷ l) (chars-byte q more quiet.low)) ∙ by edition quiet.no_start
    where
      by : (edition : Edition) → is_name_start edition q ≡ false
          → begins_name edition (hyphen ∷ q ∷ chars more) ≡ false
      by first_edition e = rw e refl
      by second_edition e = rw e refl

  lone_name : (r front n rest : List ℕ) → name edition (front ++ r) ≡ got n rest → n ≡ hyphen ∷ []
      → rest ≡ [] → front ++ r ≡ n ++ rest → length r ≤ length rest
      → NamesAlike edition r (q ∷ more) (front ++ r) (front ++ (q ∷ more))
  lone_name r front n rest e is_lone ended joined h =
      let none_left : r ≡ [] = no_length r (omega (arith, ap length ended)) in
      let whole : front ≡ hyphen ∷ [] =
      sym (append-nil front) ∙ ap (λ l. front ++ l) (sym none_left) ∙ joined
      ∙ ap (λ l. n ++ l) ended ∙ append-nil n ∙ is_lone in
      let text = hyphen ∷ q ∷ more in
      let again : name edition (front ++ (q ∷ more)) ≡ fails (no_name text) (q ∷ more) =
      ap (λ l. name edition (l ++ (q ∷ more))) whole
      ∙ name-none_begins edition text begins_hyphen in
      lone n (no_name text) (e ∙ ap (got n) ended) again none_left (joined ∙ ap (λ l. n ++ l) ended
      ∙ append-nil n ∙ is_lone)
    where
      no_length : (l : List ℕ) → length l ≤ 0 → l ≡ []
      no_length [] h = refl
      no_length (b ∷ l) h = absurd (omega arith)

  no_name_there : (r front rest : List ℕ) (fault : Fault) → IsUtf8 front
      → name edition (front ++ r) ≡ fails fault rest → length r ≤ length rest
      → NamesAlike edition r (q ∷ more) (front ++ r) (front ++ (q ∷ more))
  no_name_there r front rest fault u e h =
      let failed = name-fails edition (front ++ r) rest fault e in
      let begins = begins-alike r front u failed.0 in
      by (subst (λ (x : List ℕ). length r ≤ length x) failed.1 h) failed.1 begins
      (past_byte-to r (q ∷ more) hyphen (let p = quiet.no_hyphen in rw p refl) (front ++ r)
      (front ++ (q ∷ more)) (diverge-front r (q ∷ more) front))
    where
      by : length r ≤ length (past_byte hyphen (front ++ r)) → rest ≡ past_byte hyphen (front ++ r)
          → begins_name edition (chars (front ++ (q ∷ more))) ≡ false
          → (length (past_byte hyphen (front ++ r)) < length r) ⊎ Diverge r (q ∷ more)
          (past_byte hyphen (front ++ r)) (past_byte hyphen (front ++ (q ∷ more)))
          → NamesAlike edition r (q ∷ more) (front ++ r) (front ++ (q ∷ more))
      by l is begins (inl k) = absurd (omega arith)
      by l is begins (inr diverge) =
          none fault (no_name (front ++ (q ∷ more))) rest (past_byte hyphen (front ++ (q ∷ more))) e
          (name-none_begins edition (front ++ (q ∷ more)) begins)
          (subst (λ (x : List ℕ). Diverge r (q ∷ more) x (past_byte hyphen (front ++ (q ∷ more))))
          (sym is)
          diverge)

  -- a name is read alike where no more than the tail is left
  name-front : (r front : List ℕ) → IsUtf8 r → IsUtf8 front
      → length r ≤ length (left_after (name edition (front ++ r)))
      → NamesAlike edition r (q ∷ more) (front ++ r) (front ++ (q ∷ more))
  name-front r front v u = by (name edition (front ++ r)) refl
    where
      by : (x : Reading (List ℕ)) → name edition (front ++ r) ≡ x → length r ≤ length (left_after x)
          → NamesAlike edition r (q ∷ more) (front ++ r) (front ++ (q ∷ more))
      by (got n rest) e h =
          let read = name-is edition (front ++ r) n rest (IsUtf8-append front r u v) e in
          elim (read.is) [
            | inl w ↦ same_name r front n rest u e w read.joined read.ends h
            | inr is_lone ↦ lone_name r front n rest e is_lone.0 is_lone.1
                read.joined h
          ]
      by (fails fault rest) e h = no_name_there r front rest fault u e h

  pub name-alike : (t : List ℕ) → IsUtf8 t → (r s : List ℕ) → IsUtf8 r → Diverge t (q ∷ more) r s
      → (length (left_after (name edition r)) < length t) ⊎ NamesAlike edition t (q ∷ more) r s
  name-alike t v r s u h =
      by (diverge-split t (q ∷ more) r s h) (cases_lt (length (left_after (name edition r)))
      (length t))
    where
      by : (front : List ℕ) × (r ≡ front ++ t) × (s ≡ front ++ (q ∷ more))
          → (length (left_after (name edition r)) < length t)
          ⊎ (length t ≤ length (left_after (name edition r)))
          → (length (left_after (name edition r)) < length t) ⊎ NamesAlike edition t (q ∷ more) r s
      by (front, is, also) (inl l) = inl l
      by (front, is, also) (inr l) =
          let whole : IsUtf8 (front ++ t) = subst IsUtf8 is u in
          let alike =
          name-front t front v (utf8-first front t whole v)
          (subst (λ (x : List ℕ). length t ≤ length (left_after (name edition x))) is l) in
          inr (subst (λ (x : List ℕ). NamesAlike edition t (q ∷ more) r x) (sym also)
          (subst (λ (x : List ℕ). NamesAlike edition t (q ∷ more) x (front ++ (q ∷ more)))
          (sym is) alike))

-- the text after a front that an ASCII byte ends
utf8-from : (t u : List ℕ) (g : ℕ) (r s : List ℕ) → g < 128 → IsUtf8 r → Diverge (g ∷ t) u r s
    → IsUtf8 (g ∷ t)
utf8-from t u g r s low v h =
    let parts = diverge-split (g ∷ t) u r s h in
    let whole : IsUtf8 (parts.0 ++ (g ∷ t)) = subst IsUtf8 parts.1 v in
    utf8-second parts.0 (g ∷ t) whole (utf8-before_byte parts.0 g t low whole)

names-seam : {edition : Edition} (c : Bool) (t u : List ℕ) → Seam edition c t u → (r s : List ℕ)
    → IsUtf8 r → Diverge t u r s
    → (length (left_after (name edition r)) < length t) ⊎ NamesAlike edition t u r s
names-seam {edition = edition} c t u (at_brace x y) r s v h =
    name-alike edition close_brace x (quiet-brace edition) (close_brace ∷ (x ++ y))
    (utf8-from (x ++ y) (close_brace ∷ x) close_brace r s (omega arith) v h) r s v h
names-seam {edition = edition} c t u (at_quiet _ q more w tail) r s v h =
    name-alike edition q more w t tail r s v h

-- where the first text is no lone hyphen
name-by : (edition : Edition) (c : Bool) (t u r s : List ℕ) → (t ≡ [] → r ≡ hyphen ∷ [] → ⊥)
    → (length (left_after (name edition r)) < length t) ⊎ NamesAlike edition t u r s
    → Guard Equal c t u (name edition r) (name edition s)
name-by edition c t u r s some (inl l) =
    inl (passed-beyond c t (name edition r) (beyond-less c t (left_after (name edition r)) l))
name-by edition c t u r s some (inr (same n rest left e f k)) = rw (e, f) (inr (refl, k))
name-by edition c t u r s some (inr (lone n fault e f k m)) = absurd (some k m)
name-by edition c t u r s some (inr (none fault other rest left e f k)) = rw (e, f) (inr k)

pub name-seam : {edition : Edition} (c : Bool) (t u : List ℕ) → Seam edition c t u → (r s : List ℕ)
    → (t ≡ [] → r ≡ hyphen ∷ [] → ⊥) → IsUtf8 r → Diverge t u r s
    → Guard Equal c t u (name edition r) (name edition s)
name-seam {edition = edition} c t u seam r s some v h =
    name-by edition c t u r s some (names-seam c t u seam r s v h)

-- at the same byte
pub name-same : (edition : Edition) (g : ℕ) (t u : List ℕ) → ContinuesNothing edition g
    → (r s : List ℕ)
    → IsUtf8 r → Diverge (g ∷ t) (g ∷ u) r s
    → Guard Equal true (g ∷ t) (g ∷ u) (name edition r) (name edition s)
name-same edition g t u w r s v h =
    name-by edition true (g ∷ t) (g ∷ u) r s (λ none_there. absurd (cc))
    (name-alike edition g u w (g ∷ t) (utf8-from t (g ∷ u) g r s w.low v h) r s v h)

-- what is left after a name, or after the hyphen that a missing one consumes
pub past_name-seam : {edition : Edition} (c : Bool) (t u : List ℕ) → Seam edition c t u
    → (r s : List ℕ) → IsUtf8 r → Diverge t u r s
    → To c t u (left_after (name edition r)) (left_after (name edition s))
past_name-seam {edition = edition} c t u seam r s v h = by (names-seam c t u seam r s v h)
  where
    by : (length (left_after (name edition r)) < length t) ⊎ NamesAlike edition t u r s
        → To c t u (left_after (name edition r)) (left_after (name edition s))
    by (inl l) = inl (beyond-less c t (left_after (name edition r)) l)
    by (inr (same n rest left e f k)) = rw (e, f) (inr k)
    by (inr (lone n fault e f k m)) =
        rw (e, f) (inr (subst (λ (x : List ℕ). Diverge x u [] u) (sym k) (diverge-front [] u [])))
    by (inr (none fault other rest left e f k)) = rw (e, f) (inr k)

-- what is left after a hash, after its number sign
pub past_hash-seam : {edition : Edition} (c : Bool) (t u : List ℕ) → Seam edition c t u
    → (r s : List ℕ) → IsUtf8 r → Diverge t u r s
    → To c t u (past_hash (name edition r)) (past_hash (name edition s))
past_hash-seam {edition = edition} c t u seam r s v h = by (names-seam c t u seam r s v h)
  where
    shorter : (x : Reading (List ℕ)) → length (past_hash x) ≤ length (left_after x)
    shorter (got n rest) = omega arith
    shorter (fails fault rest) = length-past is_hex_digit rest

    digits : (a b : List ℕ) → Diverge t u a b → To c t u (past is_hex_digit a) (past is_hex_digit b)
    digits a b k = past-seam c t u is_hex_digit (λ q w. w.no_hex) seam a b k

    by : (length (left_after (name edition r)) < length t) ⊎ NamesAlike edition t u r s
        → To c t u (past_hash (name edition r)) (past_hash (name edition s))
    by (inl l) =
        inl (beyond-less c t (past_hash (name edition r)) (omega (arith, shorter (name edition r))))
    by (inr (same n rest left e f k)) = rw (e, f) (inr k)
    by (inr (lone n fault e f k m)) =
        rw (e, f)
        (digits [] u (subst (λ (x : List ℕ). Diverge x u [] u) (sym k) (diverge-front [] u [])))
    by (inr (none fault other rest left e f k)) = rw (e, f) (digits rest left k)

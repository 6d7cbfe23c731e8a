-- Tokens of a text that is cut before an `@`, read in its front alone.
-- Serves `cutting_law`.
use Rattle.std.proofs.Common.{◌≡◌, ℕ, zero, suc, ◌<◌, ◌≤◌, ◌+◌, ◌*◌, ◌==◌, ◌||◌, ◌&&◌, not, Bool, true, false, List, [], ◌∷◌, ◌++◌, length, drop, length-drop, Option, Some, None, arith, refl, sym, ap, subst, ◌∙◌, ◌⊎◌, inl, inr, if◌then◌else◌, eqb-true}
use Rattle.std.specs.Option.{is_some, option_map}
use Rattle.css_text.specs.AsciiBytes.{asterisk, at_sign, backslash, carriage_return, close_parenthesis, hyphen, newline, number_sign, open_parenthesis, slash}
use Rattle.css_text.specs.Reading.{each}
use Rattle.css_text.specs.Bytes.{past, past_byte, past_one, starts, starts_by, starts_two, is_hex_digit}
use Rattle.css_text.specs.Characters.{is_space}
use Rattle.css_text.specs.Comments.{opens_comment, after_close}
use Rattle.css_text.specs.Strings.{is_quote}
use Rattle.css_text.proofs.bytes.RunLemmas.{past-yes, past-no}
use Rattle.css_text.proofs.reading.EachLemmas.{Takes, took, each-none, each-some, each-stops, option_cases}
use Rattle.css_text.proofs.reading.TakesLemmas.{Leaves, after_close-leaves, each-within, length-past, length-past_byte}
use Rattle.css_syntax.specs.declared.quality.Quality.{Quality}
use Rattle.css_syntax.specs.declared.quality.Quality.TheVariants.{Whole, BadString}
use Rattle.css_syntax.specs.Tokens.{is_newline, past_newline, past_one_space, past_hex, past_escape, begins_escape, hex_digit, hex_number, escaped_char, is_either, past_letter, then_letter, then_open, after_url, from_close, closed_or_open, past_comment, comment_quality, gap_part, past_gap, string_part, string_end, past_string, past_string_parts, is_name_byte, name_part, past_word, is_never_bare, url_part, remnant_part, url_end, past_url, begins_cdo, is_closer, other_token, token}
use Rattle.css_syntax.proofs.Shorter.{each-goes, gap_part-takes, string_part-takes, name_part-takes, url_part-takes, remnant_part-takes, url_end-within}

module _ (t : List ℕ) where
  -- the front, and then what follows it
  abbrev pub Whole_of : List ℕ → List ℕ
  Whole_of s = s ++ at_sign ∷ t

  -- What is left of the whole is what is left of the front and then what follows it, if reading the whole does not go
  -- past the cut.
  abbrev pub Kept : List ℕ → List ℕ → Type 0
  Kept x y = length t < length x → x ≡ y ++ at_sign ∷ t

  pub kept-if : (c d : Bool) → c ≡ d → (a b x y : List ℕ) → Kept a x → Kept b y
      → Kept (if c then a else b) (if d then x else y)
  kept-if true true e a b x y h k = h
  kept-if true false e a b x y h k = absurd (cc)
  kept-if false true e a b x y h k = absurd (cc)
  kept-if false false e a b x y h k = k

  -- what has gone past the cut
  pub kept-past : (x y : List ℕ) → length x ≤ length t → Kept x y
  kept-past x y h = λ l. absurd (omega (arith, l, h))

  -- one reading after another
  pub kept-then : (f : List ℕ → List ℕ) → ((x : List ℕ) → length (f x) ≤ length x)
      → ((s : List ℕ) → Kept (f (s ++ at_sign ∷ t)) (f s)) → (x y : List ℕ) → Kept x y → Kept (f x) (f y)
  kept-then f less kept x y h l =
      let e = h (omega (arith, l, less x)) in
      ap f e ∙ kept y (subst (λ (z : List ℕ). length t < length (f z)) e l)

  -- What is read with a rest is the same, if it does not go past the cut.
  abbrev pub Same : {A : Type 0} → A × List ℕ → A × List ℕ → Type 0
  Same x y = length t < length x.1 → (x.0 ≡ y.0) × (x.1 ≡ y.1 ++ at_sign ∷ t)

  -- after something else
  pub same-then : {A : Type 0} (f : List ℕ → A × List ℕ) → ((x : List ℕ) → length (f x).1 ≤ length x)
      → ((s : List ℕ) → Same (f (s ++ at_sign ∷ t)) (f s)) → (x y : List ℕ) → Kept x y → Same (f x) (f y)
  same-then f less same x y h l =
      let e = h (omega (arith, l, less x)) in
      let k = same y (subst (λ (z : List ℕ). length t < length (f z).1) e l) in
      (ap (λ (z : List ℕ). (f z).0) e ∙ k.0, ap (λ (z : List ℕ). (f z).1) e ∙ k.1)

  pub same-if : {A : Type 0} (c d : Bool) → c ≡ d → (a b x y : A × List ℕ) → Same a x → Same b y
      → Same (if c then a else b) (if d then x else y)
  same-if true true e a b x y h k = h
  same-if true false e a b x y h k = absurd (cc)
  same-if false true e a b x y h k = absurd (cc)
  same-if false false e a b x y h k = k

  -- What is found in the whole and in the front, where a value of the front stands for the one of the whole.
  abbrev pub Follows : {A : Type 0} → (A → A) → Option (A × List ℕ) → Option (A × List ℕ) → Type 0
  Follows g None None = Unit {0}
  Follows g None (Some y) = ⊥
  Follows g (Some x) None = length x.1 ≤ length t
  Follows g (Some x) (Some y) = length t < length x.1 → (x.0 ≡ g y.0) × (x.1 ≡ y.1 ++ at_sign ∷ t)

  pub follows-if : {A : Type 0} (g : A → A) (c d : Bool) → c ≡ d → (a b x y : Option (A × List ℕ))
      → Follows g a x → Follows g b y → Follows g (if c then a else b) (if d then x else y)
  follows-if g true true e a b x y h k = h
  follows-if g true false e a b x y h k = absurd (cc)
  follows-if g false true e a b x y h k = absurd (cc)
  follows-if g false false e a b x y h k = k

  -- with each value of the front in place of that of the whole
  abbrev pub each_with : {A : Type 0} → (A → A) → List A → List A
  each_with g [] = []
  each_with g (x ∷ xs) = g x ∷ each_with g xs

  abbrev pub EachSame : {A : Type 0} → (A → A) → (List ℕ → Option (A × List ℕ)) → List ℕ → Type 0
  EachSame g read s =
      length t < length (each read (s ++ at_sign ∷ t)).1
      → ((each read (s ++ at_sign ∷ t)).0 ≡ each_with g (each read s).0)
      × ((each read (s ++ at_sign ∷ t)).1 ≡ (each read s).1 ++ at_sign ∷ t)

  each-step : {A : Type 0} (g : A → A) (read : List ℕ → Option (A × List ℕ)) → Takes read
      → ((s : List ℕ) → Follows g (read (s ++ at_sign ∷ t)) (read s)) → (s : List ℕ)
      → ((r : List ℕ) → length r < length s → EachSame g read r) → EachSame g read s
  each-step {A = A} g read takes follow s more l =
      by (option_cases (read (s ++ at_sign ∷ t))) (option_cases (read s))
    where
      W : List ℕ
      W = s ++ at_sign ∷ t

      by : (read W ≡ None) ⊎ ((x : A × List ℕ) × (read W ≡ Some x))
          → (read s ≡ None) ⊎ ((y : A × List ℕ) × (read s ≡ Some y))
          → ((each read W).0 ≡ each_with g (each read s).0)
          × ((each read W).1 ≡ (each read s).1 ++ at_sign ∷ t)
      by (inl e) (inl f) = rw (each-none read W e, each-none read s f) (refl, refl)
      by (inl e) (inr y) =
          absurd (subst (Follows g None) y.1 (subst (λ o. Follows g o (read s)) e (follow s)))
      by (inr x) (inl f) =
          let short : length x.0.1 ≤ length t =
          subst (Follows g (Some x.0)) f (subst (λ o. Follows g o (read s)) x.1 (follow s)) in
          let all = each-some read takes W x.0.1 x.0.0 x.1 in
          absurd (omega (
            arith,
            l,
            short,
            ap (λ (p : List A × List ℕ). length p.1) all,
            each-within read takes x.0.1,
          ))
      by (inr x) (inr y) =
          let all = each-some read takes W x.0.1 x.0.0 x.1 in
          let also = each-some read takes s y.0.1 y.0.0 y.1 in
          let alike : length t < length x.0.1 → (x.0.0 ≡ g y.0.0) × (x.0.1 ≡ y.0.1 ++ at_sign ∷ t) =
          subst (Follows g (Some x.0)) y.1 (subst (λ o. Follows g o (read s)) x.1 (follow s)) in
          let left : length t < length (each read x.0.1).1 =
          omega (arith, l, ap (λ (p : List A × List ℕ). length p.1) all) in
          let here = alike (omega (arith, left, each-within read takes x.0.1)) in
          let rest = more y.0.1 (took read takes s y.0.1 y.0.0 y.1)
          (subst (λ (z : List ℕ). length t < length (each read z).1) here.1 left) in
          let values : (each read x.0.1).0 ≡ each_with g (each read y.0.1).0 =
          ap (λ (z : List ℕ). (each read z).0) here.1 ∙ rest.0 in
          let lefts : (each read x.0.1).1 ≡ (each read y.0.1).1 ++ at_sign ∷ t =
          ap (λ (z : List ℕ). (each read z).1) here.1 ∙ rest.1 in
          rw (all, also) (cc (here.0, values), lefts)

  each-up : {A : Type 0} (g : A → A) (read : List ℕ → Option (A × List ℕ)) → Takes read
      → ((s : List ℕ) → Follows g (read (s ++ at_sign ∷ t)) (read s))
      → (n : ℕ) (s : List ℕ) → length s ≤ n → EachSame g read s
  each-up g read takes follow zero s small =
      each-step g read takes follow s (λ r less. absurd (omega (arith, less, small)))
  each-up g read takes follow (suc n) s small =
      each-step g read takes follow s
      (λ r less. each-up g read takes follow n r (omega (arith, less, small)))

  pub each-same : {A : Type 0} (g : A → A) (read : List ℕ → Option (A × List ℕ)) → Takes read
      → ((s : List ℕ) → Follows g (read (s ++ at_sign ∷ t)) (read s)) → (s : List ℕ) → EachSame g read s
  each-same g read takes follow s = each-up g read takes follow (length s) s (omega arith)

  abbrev pub same_unit : Unit {0} → Unit {0}
  same_unit x = x

  -- where only what is left counts
  pub each-kept : (read : List ℕ → Option (Unit {0} × List ℕ)) → Takes read
      → ((s : List ℕ) → Follows same_unit (read (s ++ at_sign ∷ t)) (read s)) → (s : List ℕ)
      → Kept (each read (s ++ at_sign ∷ t)).1 (each read s).1
  each-kept read takes follow s l = (each-same same_unit read takes follow s l).1

  -- ---- bytes

  pub starts_by-same : (test : ℕ → Bool) → test at_sign ≡ false → (s : List ℕ)
      → starts_by test (s ++ at_sign ∷ t) ≡ starts_by test s
  starts_by-same test e [] = e
  starts_by-same test e (b ∷ s) = refl

  pub starts-same : (c : ℕ) → (at_sign == c) ≡ false → (s : List ℕ)
      → starts c (s ++ at_sign ∷ t) ≡ starts c s
  starts-same c e [] = e
  starts-same c e (b ∷ s) = refl

  -- a byte other than `@`
  pub past_byte-on : (c : ℕ) → (at_sign == c) ≡ false → (s : List ℕ)
      → past_byte c (s ++ at_sign ∷ t) ≡ past_byte c s ++ at_sign ∷ t
  past_byte-on c e [] = rw e refl
  past_byte-on c e (b ∷ s) = by (b == c)
    where
      by : (k : Bool) → (if k then s ++ at_sign ∷ t else b ∷ (s ++ at_sign ∷ t))
          ≡ (if k then s else b ∷ s) ++ at_sign ∷ t
      by true = refl
      by false = refl

  pub past_byte-kept : (c : ℕ) (s : List ℕ) → Kept (past_byte c (s ++ at_sign ∷ t)) (past_byte c s)
  past_byte-kept c [] = by (at_sign == c)
    where
      by : (k : Bool) → Kept (if k then t else at_sign ∷ t) []
      by true = kept-past t [] (omega arith)
      by false = λ l. refl
  past_byte-kept c (b ∷ s) =
      kept-if (b == c) (b == c) refl (s ++ at_sign ∷ t) (b ∷ (s ++ at_sign ∷ t)) s (b ∷ s) (λ l. refl) (λ l. refl)

  pub run-on : (test : ℕ → Bool) → test at_sign ≡ false → (s : List ℕ)
      → past test (s ++ at_sign ∷ t) ≡ past test s ++ at_sign ∷ t
  run-on test e [] = past-no test at_sign t e
  run-on test e (b ∷ s) = by (test b) refl (run-on test e s)
    where
      by : (k : Bool) → test b ≡ k → past test (s ++ at_sign ∷ t) ≡ past test s ++ at_sign ∷ t
          → past test (b ∷ (s ++ at_sign ∷ t)) ≡ past test (b ∷ s) ++ at_sign ∷ t
      by true f more = rw (past-yes test b (s ++ at_sign ∷ t) f, past-yes test b s f) more
      by false f more = rw (past-no test b (s ++ at_sign ∷ t) f, past-no test b s f) refl

  pub drop-kept : (n : ℕ) (s : List ℕ) → Kept (drop n (s ++ at_sign ∷ t)) (drop n s)
  drop-kept zero s = λ l. refl
  drop-kept (suc n) [] = kept-past (drop n t) [] (omega (arith, length-drop n t))
  drop-kept (suc n) (b ∷ s) = drop-kept n s

  -- ---- escapes

  past_newline-kept : (s : List ℕ) → Kept (past_newline (s ++ at_sign ∷ t)) (past_newline s)
  past_newline-kept [] = λ l. refl
  past_newline-kept (b ∷ s) =
      kept-if (is_newline b) (is_newline b) refl (s ++ at_sign ∷ t) (b ∷ (s ++ at_sign ∷ t)) s (b ∷ s)
      (λ l. refl) (λ l. refl)

  if-on : (c : Bool) (a b x y : List ℕ) → a ≡ x ++ at_sign ∷ t → b ≡ y ++ at_sign ∷ t
      → (if c then a else b) ≡ (if c then x else y) ++ at_sign ∷ t
  if-on true a b x y h k = h
  if-on false a b x y h k = k

  past_one_space-on : (s : List ℕ) → past_one_space (s ++ at_sign ∷ t) ≡ past_one_space s ++ at_sign ∷ t
  past_one_space-on [] = refl
  past_one_space-on (b ∷ s) =
      if-on (b == carriage_return) _ _ (past_byte newline s) _ (past_byte-on newline refl s)
      (if-on (is_space b) (s ++ at_sign ∷ t) (b ∷ (s ++ at_sign ∷ t)) s (b ∷ s) refl refl)

  past_hex-on : (n : ℕ) (s : List ℕ) → past_hex n (s ++ at_sign ∷ t) ≡ past_hex n s ++ at_sign ∷ t
  past_hex-on zero s = refl
  past_hex-on (suc n) [] = refl
  past_hex-on (suc n) (b ∷ s) =
      if-on (is_hex_digit b) _ (b ∷ (s ++ at_sign ∷ t)) (past_hex n s) (b ∷ s) (past_hex-on n s) refl

  -- what a backslash escapes, if that is in the front
  past_escape-on : (b : ℕ) (s : List ℕ)
      → past_escape (b ∷ (s ++ at_sign ∷ t)) ≡ past_escape (b ∷ s) ++ at_sign ∷ t
  unfolding past_escape
  past_escape-on b s =
      if-on (is_hex_digit b) _ _ (past_one_space (past_hex 5 s)) _
      (ap past_one_space (past_hex-on 5 s) ∙ past_one_space-on (past_hex 5 s))
      (if-on (is_newline b) _ (s ++ at_sign ∷ t) (past_one_space (b ∷ s)) s (past_one_space-on (b ∷ s)) refl)

  pub past_escape-kept : (s : List ℕ) → Kept (past_escape (s ++ at_sign ∷ t)) (past_escape s)
  unfolding past_escape
  past_escape-kept [] = kept-past t [] (omega arith)
  past_escape-kept (b ∷ s) = λ l. past_escape-on b s

  pub escape-same : (s : List ℕ) → begins_escape (s ++ at_sign ∷ t) ≡ begins_escape s
  escape-same [] = refl
  escape-same (b ∷ []) = refl
  escape-same (b ∷ c ∷ s) = refl

  -- ---- words

  name_part-follows : (s : List ℕ) → Follows same_unit (name_part (s ++ at_sign ∷ t)) (name_part s)
  unfolding name_part
  name_part-follows [] = tt
  name_part-follows (b ∷ s) =
      follows-if same_unit (is_name_byte b) (is_name_byte b) refl _ _ _ _ (λ l. (refl, refl))
      (follows-if same_unit (begins_escape (b ∷ (s ++ at_sign ∷ t))) (begins_escape (b ∷ s))
      (escape-same (b ∷ s)) _ _ _ _ (λ l. (refl, past_escape-kept s l)) tt)

  pub word-kept : (s : List ℕ) → Kept (past_word (s ++ at_sign ∷ t)) (past_word s)
  word-kept s = each-kept name_part name_part-takes name_part-follows s

  -- ---- comments and gaps

  -- a comment that is closed in the whole
  abbrev Closes : Option (List ℕ) → Option (List ℕ) → Type 0
  Closes None p = Unit {0}
  Closes (Some x) None = length x ≤ length t
  Closes (Some x) (Some y) = Kept x y

  closes-if : (c d : Bool) → c ≡ d → (a b x y : Option (List ℕ)) → Closes a x → Closes b y
      → Closes (if c then a else b) (if d then x else y)
  closes-if true true e a b x y h k = h
  closes-if true false e a b x y h k = absurd (cc)
  closes-if false true e a b x y h k = absurd (cc)
  closes-if false false e a b x y h k = k

  closes-short : (o p : Option (List ℕ)) → Leaves t o → Closes o p
  closes-short None p h = tt
  closes-short (Some x) None h = h
  closes-short (Some x) (Some y) h = kept-past x y h

  past_one-kept : (s : List ℕ) → Kept (past_one (s ++ at_sign ∷ t)) (past_one s)
  past_one-kept [] = kept-past t [] (omega arith)
  past_one-kept (b ∷ s) = λ l. refl

  pub and_starts : (b c d : ℕ) → (at_sign == d) ≡ false → (s : List ℕ)
      → (b == c && starts d (s ++ at_sign ∷ t)) ≡ (b == c && starts d s)
  and_starts b c d e s = ap (λ (k : Bool). b == c && k) (starts-same d e s)

  after_close-closes : (s : List ℕ) → Closes (after_close (s ++ at_sign ∷ t)) (after_close s)
  after_close-closes [] = closes-short (after_close t) None (after_close-leaves t)
  after_close-closes (b ∷ s) =
      closes-if (b == asterisk && starts slash (s ++ at_sign ∷ t)) (b == asterisk && starts slash s)
      (and_starts b asterisk slash refl s) (Some (past_one (s ++ at_sign ∷ t))) _ (Some (past_one s)) _
      (past_one-kept s) (after_close-closes s)

  -- from after the two bytes that open it
  after_two-closes : (s : List ℕ) → Closes (after_close (drop 1 (s ++ at_sign ∷ t))) (after_close (drop 1 s))
  after_two-closes [] = closes-short (after_close t) (after_close []) (after_close-leaves t)
  after_two-closes (b ∷ s) = after_close-closes s

  closed-same : (o p : Option (List ℕ)) → Closes o p
      → Same (closed_or_open o, from_close o) (closed_or_open p, from_close p)
  closed-same None p h = λ l. absurd (omega (arith, l))
  closed-same (Some x) None h = λ l. absurd (omega (arith, l, h))
  closed-same (Some x) (Some y) h = λ l. (refl, h l)

  comment-same : (b : ℕ) (s : List ℕ)
      → Same (comment_quality (b ∷ (s ++ at_sign ∷ t)), past_comment (b ∷ (s ++ at_sign ∷ t)))
      (comment_quality (b ∷ s), past_comment (b ∷ s))
  unfolding past_comment comment_quality
  comment-same b s =
      closed-same (after_close (drop 1 (s ++ at_sign ∷ t))) (after_close (drop 1 s)) (after_two-closes s)

  pub gap_part-follows : (s : List ℕ) → Follows same_unit (gap_part (s ++ at_sign ∷ t)) (gap_part s)
  unfolding gap_part
  gap_part-follows [] = tt
  gap_part-follows (b ∷ s) =
      follows-if same_unit (is_space b) (is_space b) refl _ _ _ _ (λ l. (refl, refl))
      (follows-if same_unit (opens_comment (b ∷ (s ++ at_sign ∷ t))) (opens_comment (b ∷ s))
      (and_starts b slash asterisk refl s) _ _ _ _ (λ l. (refl, (comment-same b s l).1)) tt)

  pub gap-kept : (s : List ℕ) → Kept (past_gap (s ++ at_sign ∷ t)) (past_gap s)
  gap-kept s = each-kept gap_part gap_part-takes gap_part-follows s

  -- ---- strings

  string_part-follows : (quote : ℕ) (s : List ℕ)
      → Follows same_unit (string_part quote (s ++ at_sign ∷ t)) (string_part quote s)
  unfolding string_part
  string_part-follows quote [] = by (at_sign == quote || is_newline at_sign)
    where
      by : (k : Bool) → Follows same_unit (if k then None else Some (tt {0}, t)) None
      by true = tt
      by false = omega arith
  string_part-follows quote (b ∷ s) =
      follows-if same_unit (b == quote || is_newline b) (b == quote || is_newline b) refl _ _ _ _ tt
      (follows-if same_unit (b == backslash) (b == backslash) refl _ _ _ _
      (λ l. (refl, past_escape-kept s l)) (λ l. (refl, refl)))

  -- a string does not end at `@`
  string-stops : (quote : ℕ) → (at_sign == quote) ≡ false → string_part quote (at_sign ∷ t) ≡ None → ⊥
  unfolding string_part
  string-stops quote e h = let some = rw e at h in cc

  string_end-same : (quote b : ℕ) (y : List ℕ)
      → Same (string_end quote (b ∷ (y ++ at_sign ∷ t))) (string_end quote (b ∷ y))
  string_end-same quote b y =
      same-if (b == quote) (b == quote) refl _ _ _ _ (λ l. (refl, refl)) (λ l. (refl, past_newline-kept (b ∷ y) l))

  pub if-within : {A : Type 0} (n : ℕ) (c : Bool) (x y : A × List ℕ) → length x.1 ≤ n → length y.1 ≤ n
      → length (if c then x else y).1 ≤ n
  if-within n true x y h k = h
  if-within n false x y h k = k

  past_newline-within : (x : List ℕ) → length (past_newline x) ≤ length x
  past_newline-within [] = omega arith
  past_newline-within (b ∷ x) = by (is_newline b)
    where
      by : (k : Bool) → length (if k then x else b ∷ x) ≤ length (b ∷ x)
      by true = omega arith
      by false = omega arith

  string_end-within : (quote : ℕ) (x : List ℕ) → length (string_end quote x).1 ≤ length x
  string_end-within quote [] = omega arith
  string_end-within quote (b ∷ x) =
      if-within (length (b ∷ x)) (b == quote) (Whole, x) (BadString, past_newline (b ∷ x)) (omega arith)
      (past_newline-within (b ∷ x))

  past_string-same : (quote : ℕ) → (at_sign == quote) ≡ false → (s : List ℕ)
      → Same (past_string quote (s ++ at_sign ∷ t)) (past_string quote s)
  unfolding past_string
  past_string-same quote e s l =
      let inside = past_string_parts quote (s ++ at_sign ∷ t) in
      let other = past_string_parts quote s in
      let parts = each-kept (string_part quote) (string_part-takes quote) (string_part-follows quote) s
      (omega (arith, l, string_end-within quote inside)) in
      by other parts
      (subst (λ (z : List ℕ). string_part quote z ≡ None) parts
      (each-stops (string_part quote) (string_part-takes quote) (s ++ at_sign ∷ t)))
    where
      by : (y : List ℕ) → past_string_parts quote (s ++ at_sign ∷ t) ≡ y ++ at_sign ∷ t
          → string_part quote (y ++ at_sign ∷ t) ≡ None
          → ((string_end quote (past_string_parts quote (s ++ at_sign ∷ t))).0 ≡ (string_end quote y).0)
          × ((string_end quote (past_string_parts quote (s ++ at_sign ∷ t))).1
          ≡ (string_end quote y).1 ++ at_sign ∷ t)
      by [] f stop = absurd (string-stops quote e stop)
      by (b ∷ y) f stop =
          let same = string_end-same quote b y
          (subst (λ (z : List ℕ). length t < length (string_end quote z).1) f l) in (
            ap (λ (z : List ℕ). (string_end quote z).0) f ∙ same.0,
            ap (λ (z : List ℕ). (string_end quote z).1) f ∙ same.1,
          )

  -- ---- urls

  url_part-follows : (s : List ℕ) → Follows same_unit (url_part (s ++ at_sign ∷ t)) (url_part s)
  unfolding url_part
  url_part-follows [] = omega arith
  url_part-follows (b ∷ s) =
      follows-if same_unit (begins_escape (b ∷ (s ++ at_sign ∷ t))) (begins_escape (b ∷ s))
      (escape-same (b ∷ s)) _ _ _ _ (λ l. (refl, past_escape-kept s l))
      (follows-if same_unit (b == close_parenthesis || is_space b || is_never_bare b)
      (b == close_parenthesis || is_space b || is_never_bare b) refl _ _ _ _ tt (λ l. (refl, refl)))

  remnant_part-follows : (s : List ℕ) → Follows same_unit (remnant_part (s ++ at_sign ∷ t)) (remnant_part s)
  unfolding remnant_part
  remnant_part-follows [] = omega arith
  remnant_part-follows (b ∷ s) =
      follows-if same_unit (begins_escape (b ∷ (s ++ at_sign ∷ t))) (begins_escape (b ∷ s))
      (escape-same (b ∷ s)) _ _ _ _ (λ l. (refl, past_escape-kept s l))
      (follows-if same_unit (b == close_parenthesis) (b == close_parenthesis) refl _ _ _ _ tt (λ l. (refl, refl)))

  remnants-short : length (each remnant_part (at_sign ∷ t)).1 ≤ length t
  unfolding remnant_part
  remnants-short =
      let found : remnant_part (at_sign ∷ t) ≡ Some (tt, t) = refl in
      omega (
        arith,
        ap length (each-goes remnant_part remnant_part-takes (at_sign ∷ t) t tt found),
        each-within remnant_part remnant_part-takes t,
      )

  url_end-same : (s : List ℕ) → Same (url_end (s ++ at_sign ∷ t)) (url_end s)
  url_end-same [] =
      λ l. absurd (omega (
        arith,
        l,
        length-past_byte close_parenthesis (each remnant_part (at_sign ∷ t)).1,
        remnants-short,
      ))
  url_end-same (b ∷ s) =
      same-if (b == close_parenthesis) (b == close_parenthesis) refl _ _ _ _ (λ l. (refl, refl))
      (λ l. (
        refl,
        kept-then (past_byte close_parenthesis) (length-past_byte close_parenthesis)
            (past_byte-kept close_parenthesis) _ _
            (each-kept remnant_part remnant_part-takes remnant_part-follows (b ∷ s)) l,
      ))

  past_url-same : (s : List ℕ) → Same (past_url (s ++ at_sign ∷ t)) (past_url s)
  unfolding past_url
  past_url-same s l =
      let start = past is_space s in
      let bare = (each url_part (start ++ at_sign ∷ t)).1 in
      let begun : past is_space (s ++ at_sign ∷ t) ≡ start ++ at_sign ∷ t = run-on is_space refl s in
      let end : List ℕ → Quality × List ℕ = λ x. url_end (past is_space (each url_part x).1) in
      let left : length t < length (end (start ++ at_sign ∷ t)).1 =
      subst (λ (z : List ℕ). length t < length (end z).1) begun l in
      let parts : bare ≡ (each url_part start).1 ++ at_sign ∷ t =
      each-kept url_part url_part-takes url_part-follows start
      (omega (arith, left, url_end-within (past is_space bare), length-past is_space bare)) in
      let blank : past is_space bare ≡ past is_space (each url_part start).1 ++ at_sign ∷ t =
      ap (past is_space) parts ∙ run-on is_space refl (each url_part start).1 in
      let same = url_end-same (past is_space (each url_part start).1)
      (subst (λ (z : List ℕ). length t < length (url_end z).1) blank left) in (
        ap (λ (z : List ℕ). (end z).0) begun ∙ ap (λ (z : List ℕ). (url_end z).0) blank ∙ same.0,
        ap (λ (z : List ℕ). (end z).1) begun ∙ ap (λ (z : List ℕ). (url_end z).1) blank ∙ same.1,
      )

  -- ---- the letters of `url`

  abbrev before_cut : List ℕ → List ℕ
  before_cut y = y ++ at_sign ∷ t

  hex_number-same : (n so_far : ℕ) (s : List ℕ) → hex_number n so_far (s ++ at_sign ∷ t) ≡ hex_number n so_far s
  hex_number-same zero so_far s = refl
  hex_number-same (suc n) so_far [] = refl
  hex_number-same (suc n) so_far (b ∷ s) =
      ap (λ (k : ℕ). if is_hex_digit b then k else so_far) (hex_number-same n (16 * so_far + hex_digit b) s)

  letters-if : (c d : Bool) → c ≡ d → (a b x y : Option (List ℕ)) → a ≡ option_map before_cut x
      → b ≡ option_map before_cut y → (if c then a else b) ≡ option_map before_cut (if d then x else y)
  letters-if true true e a b x y h k = h
  letters-if true false e a b x y h k = absurd (cc)
  letters-if false true e a b x y h k = absurd (cc)
  letters-if false false e a b x y h k = k

  past_letter-on : (low up : ℕ) → is_either low up at_sign ≡ false → is_either low up 0 ≡ false → (s : List ℕ)
      → past_letter low up (s ++ at_sign ∷ t) ≡ option_map before_cut (past_letter low up s)
  unfolding past_letter
  past_letter-on low up e f [] = rw e refl
  past_letter-on low up e f (b ∷ []) =
      letters-if (is_either low up b) (is_either low up b) refl (Some (at_sign ∷ t)) _ (Some []) _ refl
      (by (b == backslash))
    where
      by : (k : Bool) → (if (k && true) && is_either low up at_sign then Some (past_escape (at_sign ∷ t)) else None)
          ≡ option_map before_cut (if (k && true) && is_either low up 0 then Some (past_escape []) else None)
      by true = rw (e, f) refl
      by false = refl
  past_letter-on low up e f (b ∷ c ∷ s) =
      letters-if (is_either low up b) (is_either low up b) refl (Some (c ∷ (s ++ at_sign ∷ t))) _
      (Some (c ∷ s)) _ refl
      (letters-if (begins_escape (b ∷ c ∷ s) && is_either low up (escaped_char (c ∷ (s ++ at_sign ∷ t))))
      (begins_escape (b ∷ c ∷ s) && is_either low up (escaped_char (c ∷ s)))
      (ap (λ (k : ℕ). begins_escape (b ∷ c ∷ s) && is_either low up (if is_hex_digit c then k else c))
      (hex_number-same 6 0 (c ∷ s)))
      (Some (past_escape (c ∷ (s ++ at_sign ∷ t)))) None (Some (past_escape (c ∷ s))) None
      (ap Some (past_escape-on c s)) refl)

  then_letter-on : (low up : ℕ) → is_either low up at_sign ≡ false → is_either low up 0 ≡ false
      → (p : Option (List ℕ))
      → then_letter low up (option_map before_cut p) ≡ option_map before_cut (then_letter low up p)
  then_letter-on low up e f None = refl
  then_letter-on low up e f (Some y) = past_letter-on low up e f y

  then_open-on : (p : Option (List ℕ)) → then_open (option_map before_cut p) ≡ option_map before_cut (then_open p)
  then_open-on None = refl
  then_open-on (Some []) = refl
  then_open-on (Some (b ∷ y)) =
      letters-if (b == open_parenthesis && not (starts_by is_quote (past is_space (y ++ at_sign ∷ t))))
      (b == open_parenthesis && not (starts_by is_quote (past is_space y)))
      (ap (λ (k : Bool). b == open_parenthesis && not k)
      (ap (starts_by is_quote) (run-on is_space refl y) ∙ starts_by-same is_quote refl (past is_space y)))
      (Some (y ++ at_sign ∷ t)) None (Some y) None refl refl

  after_url-on : (s : List ℕ) → after_url (s ++ at_sign ∷ t) ≡ option_map before_cut (after_url s)
  after_url-on s =
      ap (λ (o : Option (List ℕ)). then_open (then_letter 108 76 (then_letter 114 82 o)))
      (past_letter-on 117 85 refl refl s)
      ∙ ap (λ (o : Option (List ℕ)). then_open (then_letter 108 76 o))
      (then_letter-on 114 82 refl refl (past_letter 117 85 s))
      ∙ ap then_open (then_letter-on 108 76 refl refl (then_letter 114 82 (past_letter 117 85 s)))
      ∙ then_open-on (then_letter 108 76 (then_letter 114 82 (past_letter 117 85 s)))

  -- ---- tokens

  pub starts_two-same : (one two : ℕ) → (at_sign == one) ≡ false → (at_sign == two) ≡ false → (s : List ℕ)
      → starts_two one two (s ++ at_sign ∷ t) ≡ starts_two one two s
  starts_two-same one two e f [] = rw e refl
  starts_two-same one two e f (b ∷ s) = and_starts b one two f s

  pub cdo-same : (s : List ℕ) → begins_cdo (s ++ at_sign ∷ t) ≡ begins_cdo s
  cdo-same [] = refl
  cdo-same (b ∷ []) = by (b == 60)
    where
      by : (k : Bool) → (k && false && starts_two hyphen hyphen (drop 1 (at_sign ∷ t)))
          ≡ (k && false && starts_two hyphen hyphen [])
      by true = refl
      by false = refl
  cdo-same (b ∷ c ∷ s) =
      ap (λ (k : Bool). b == 60 && c == 33 && k) (starts_two-same hyphen hyphen refl refl s)

  abbrev word_token : ℕ → List ℕ → Quality × List ℕ
  word_token b text =
      if is_name_byte b || begins_escape (b ∷ text) then (Whole, past_word (b ∷ text))
      else other_token b text

  abbrev cdo_token : ℕ → List ℕ → Quality × List ℕ
  cdo_token b text = if begins_cdo (b ∷ text) then (Whole, drop 3 text) else word_token b text

  -- by what follows `url(`
  abbrev url_token : ℕ → List ℕ → Option (List ℕ) → Quality × List ℕ
  url_token b text o = if is_some o then past_url (from_close o) else cdo_token b text

  other-same : (b : ℕ) (s : List ℕ) → Same (other_token b (s ++ at_sign ∷ t)) (other_token b s)
  other-same b s =
      same-if (b == number_sign || b == at_sign) (b == number_sign || b == at_sign) refl _ _ _ _
      (λ l. (refl, word-kept s l))
      (same-if (is_closer b) (is_closer b) refl _ _ _ _ (λ l. (refl, refl))
      (same-if (b == backslash) (b == backslash) refl _ _ _ _ (λ l. (refl, past_newline-kept s l))
      (λ l. (refl, refl))))

  word_token-same : (b : ℕ) (s : List ℕ) → Same (word_token b (s ++ at_sign ∷ t)) (word_token b s)
  word_token-same b s =
      same-if (is_name_byte b || begins_escape (b ∷ (s ++ at_sign ∷ t))) (is_name_byte b || begins_escape (b ∷ s))
      (ap (λ (k : Bool). is_name_byte b || k) (escape-same (b ∷ s))) _ _ _ _
      (λ l. (refl, word-kept (b ∷ s) l)) (other-same b s)

  cdo_token-same : (b : ℕ) (s : List ℕ) → Same (cdo_token b (s ++ at_sign ∷ t)) (cdo_token b s)
  cdo_token-same b s =
      same-if (begins_cdo (b ∷ (s ++ at_sign ∷ t))) (begins_cdo (b ∷ s)) (cdo-same (b ∷ s)) _ _ _ _
      (λ l. (refl, drop-kept 3 s l)) (word_token-same b s)

  url_token-same : (b : ℕ) (s : List ℕ) (p : Option (List ℕ))
      → Same (url_token b (s ++ at_sign ∷ t) (option_map before_cut p)) (url_token b s p)
  url_token-same b s None = cdo_token-same b s
  url_token-same b s (Some y) = past_url-same y

  quote-no_at : (b : ℕ) → is_quote b ≡ true → (at_sign == b) ≡ false
  quote-no_at b e = by (at_sign == b) refl
    where
      by : (k : Bool) → (at_sign == b) ≡ k → (at_sign == b) ≡ false
      by true f =
          absurd (let wrong : is_quote b ≡ false =
          subst (λ (x : ℕ). is_quote x ≡ false) (eqb-true at_sign b f) refl in cc)
      by false f = f

  abbrev quote_token : ℕ → List ℕ → Option (List ℕ) → Quality × List ℕ
  quote_token b text o = if is_quote b then past_string b text else url_token b text o

  quote_token-same : (b : ℕ) (s : List ℕ)
      → Same (quote_token b (s ++ at_sign ∷ t) (after_url (b ∷ (s ++ at_sign ∷ t))))
      (quote_token b s (after_url (b ∷ s)))
  quote_token-same b s = by (is_quote b) refl
    where
      by : (k : Bool) → is_quote b ≡ k
          → Same (if k then past_string b (s ++ at_sign ∷ t)
          else url_token b (s ++ at_sign ∷ t) (after_url (b ∷ (s ++ at_sign ∷ t))))
          (if k then past_string b s else url_token b s (after_url (b ∷ s)))
      by true e = past_string-same b (quote-no_at b e) s
      by false e =
          subst (λ (o : Option (List ℕ)). Same (url_token b (s ++ at_sign ∷ t) o)
          (url_token b s (after_url (b ∷ s)))) (sym (after_url-on (b ∷ s))) (url_token-same b s (after_url (b ∷ s)))

  pub token-same : (b : ℕ) (s : List ℕ) → Same (token (b ∷ (s ++ at_sign ∷ t))) (token (b ∷ s))
  unfolding token
  token-same b s =
      same-if (opens_comment (b ∷ (s ++ at_sign ∷ t))) (opens_comment (b ∷ s)) (and_starts b slash asterisk refl s)
      _ _ _ _ (comment-same b s) (quote_token-same b s)

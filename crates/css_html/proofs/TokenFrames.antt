-- What is read of a page before a start tag does not depend on what follows the `<` of that.
use Rattle.std.proofs.Common.{◌≡◌, ℕ, ◌-◌, ◌≤◌, ◌==◌, ◌||◌, ◌&&◌, Bool, true, false, if◌then◌else◌, List, [], ◌∷◌, ◌++◌, length, take, drop, Option, Some, None, arith, refl, sym, ap, ◌∙◌, length-append, length-drop, codes}
use Rattle.std.specs.List.{list_all}
use Rattle.std.specs.Char.{to_ascii_lowercase}
use Rattle.std.specs.Option.{is_some}
use Rattle.std.proofs.lemmas.Bool.{and_parts}
use Rattle.std.proofs.lemmas.List.{take-append-le}
use Rattle.css_text.specs.AsciiBytes.{greater_than_sign, hyphen, slash, exclamation_mark, open_bracket}
use Rattle.css_text.specs.Reading.{before}
use Rattle.css_text.specs.Bytes.{past, starts, starts_by, starts_two}
use Rattle.css_text.specs.Characters.{is_letter}
use Rattle.css_html.specs.Marks.{less_than_sign, is_in_name, past_letters, follows_open, begins_markup, past_text, begins_close, begins_bang_close, is_cut_close, ends_comment, from_comment_close, from_cdata_close, begins_end_named, from_end_tag, name_ends, begins_named, script_letters, begins_comment, script_step, may_end, from_script_end}
use Rattle.css_html.specs.Attributes.{past_attributes}
use Rattle.css_html.specs.Modes.{letters_of}
use Rattle.css_html.specs.Tokens.{PlacedToken, whole, framed, tag_end, tag_from, close_len, comment_from, is_not_close, up_to_close, begins_letters, begins_cdata, declared_from, closed_from, markup_from, marked_token, raw_token, token_from, next_token}
use Rattle.css_html.specs.Locality.{Said, said, TextDriver, Reads, reads_none, reads_one}
use Rattle.css_html.specs.declared.marks.ScriptState.{ScriptState}
use Rattle.css_html.specs.declared.marks.ScriptState.TheVariants.{Plain, Escaped, DoubleEscaped}
use Rattle.css_html.specs.declared.modes.Mode.{Mode}
use Rattle.css_html.specs.declared.modes.RawName.{RawName}
use Rattle.css_html.specs.declared.modes.Mode.TheVariants.{Data, Foreign, Raw, Script, Plaintext}
use Rattle.css_html.specs.declared.tokenizer.TokenKind.{TokenKind}
use Rattle.css_html.specs.declared.tokenizer.TokenKind.TheVariants as kinds
use Rattle.css_text.proofs.reading.EndsLemmas.{length-ends}
use Rattle.css_html.proofs.Placed.{past_attributes-ends}
use Rattle.css_html.proofs.Tiles.{comment_close-ends, cdata_close-ends, end_tag-ends, script_end-ends, same_length, token-placed}
use Rattle.css_html.proofs.Raw.{is_no_mark, not_so, letters-plain, letters-over, begins-over}
use Rattle.css_html.proofs.Frames.{Framed, within, beyond, past-framed, drop-framed, if-framed, past_attributes-framed}

-- Two tokens of pages that are alike up to a `<`: they say the same and end before it or at it, or the
-- first ends beyond.
pub data TokenFramed (m n : List ℕ) : PlacedToken → PlacedToken → Type 0 where
  alike : (kind : TokenKind) (w i e z : List ℕ) → TokenFramed m n
      (record {
        kind = kind;
        from = w ++ (less_than_sign ∷ m);
        inside = i ++ (less_than_sign ∷ m);
        inside_end = e ++ (less_than_sign ∷ m);
        rest = z ++ (less_than_sign ∷ m);
      })
      (record {
        kind = kind;
        from = w ++ (less_than_sign ∷ n);
        inside = i ++ (less_than_sign ∷ n);
        inside_end = e ++ (less_than_sign ∷ n);
        rest = z ++ (less_than_sign ∷ n);
      })
  past_it : (t u : PlacedToken) → length t.rest ≤ length m → TokenFramed m n t u

if-tokens : (m n : List ℕ) (j k : Bool) {a b c d : PlacedToken} → j ≡ k → TokenFramed m n a b
    → TokenFramed m n c d → TokenFramed m n (if j then a else c) (if k then b else d)
if-tokens m n j k {a = a} {b = b} {c = c} {d = d} e x y = rw e (by k x y)
  where
    by : (k : Bool) → TokenFramed m n a b → TokenFramed m n c d
        → TokenFramed m n (if k then a else c) (if k then b else d)
    by true x y = x
    by false x y = y

-- by what is left
rest-framed : (m n : List ℕ) (kind : TokenKind) (w i e s t : List ℕ) → Framed m n s t
    → TokenFramed m n
    (record {
      kind = kind;
      from = w ++ (less_than_sign ∷ m);
      inside = i ++ (less_than_sign ∷ m);
      inside_end = e ++ (less_than_sign ∷ m);
      rest = s;
    })
    (record {
      kind = kind;
      from = w ++ (less_than_sign ∷ n);
      inside = i ++ (less_than_sign ∷ n);
      inside_end = e ++ (less_than_sign ∷ n);
      rest = t;
    })
rest-framed m n kind w i e s t (within z) = alike kind w i e z
rest-framed m n kind w i e s t (beyond _ _ h) = past_it _ _ h

framed-framed : (m n : List ℕ) (kind : TokenKind) (w i : List ℕ) (k : ℕ) (s t : List ℕ)
    → Framed m n s t
    → TokenFramed m n (framed kind (w ++ (less_than_sign ∷ m)) (i ++ (less_than_sign ∷ m)) s k)
    (framed kind (w ++ (less_than_sign ∷ n)) (i ++ (less_than_sign ∷ n)) t k)
framed-framed m n kind w i k s t (within e) =
    rest-framed m n kind w i e (drop k (e ++ (less_than_sign ∷ m))) (drop k (e ++ (less_than_sign ∷ n)))
    (drop-framed m n k e)
framed-framed m n kind w i k s t (beyond _ _ h) =
    past_it _ _ (omega (arith, length-drop k s, h))

whole-framed : (m n : List ℕ) (kind : TokenKind) (w s t : List ℕ) → Framed m n s t
    → TokenFramed m n (whole kind (w ++ (less_than_sign ∷ m)) s) (whole kind (w ++ (less_than_sign ∷ n)) t)
whole-framed m n kind w s t (within z) = alike kind w w z z
whole-framed m n kind w s t (beyond _ _ h) = past_it _ _ h

-- ---- tags

tag_end-less : (kind : TokenKind) (from name name_end end : List ℕ)
    → length (tag_end kind from name name_end end).rest ≤ length end
tag_end-less kind from name name_end [] = omega arith
tag_end-less kind from name name_end (b ∷ end) = omega arith

tag_end-framed : (m n : List ℕ) (kind : TokenKind) (w i e s t : List ℕ) → Framed m n s t
    → TokenFramed m n
    (tag_end kind (w ++ (less_than_sign ∷ m)) (i ++ (less_than_sign ∷ m)) (e ++ (less_than_sign ∷ m)) s)
    (tag_end kind (w ++ (less_than_sign ∷ n)) (i ++ (less_than_sign ∷ n)) (e ++ (less_than_sign ∷ n)) t)
tag_end-framed m n kind w i e s t (within []) = past_it _ _ (omega arith)
tag_end-framed m n kind w i e s t (within (b ∷ z)) = alike kind w i e z
tag_end-framed m n kind w i e s t (beyond _ _ h) =
    past_it _ _ (omega (
      arith,
      h,
      tag_end-less kind (w ++ (less_than_sign ∷ m)) (i ++ (less_than_sign ∷ m)) (e ++ (less_than_sign ∷ m)) s,
    ))

named-framed : (m n : List ℕ) (kind : TokenKind) (w i s t : List ℕ) → Framed m n s t
    → TokenFramed m n
    (tag_end kind (w ++ (less_than_sign ∷ m)) (i ++ (less_than_sign ∷ m)) s (past_attributes s))
    (tag_end kind (w ++ (less_than_sign ∷ n)) (i ++ (less_than_sign ∷ n)) t (past_attributes t))
named-framed m n kind w i s t (within e) =
    tag_end-framed m n kind w i e (past_attributes (e ++ (less_than_sign ∷ m)))
    (past_attributes (e ++ (less_than_sign ∷ n)))
    (past_attributes-framed m n (e ++ (less_than_sign ∷ m)) (e ++ (less_than_sign ∷ n)) (within e))
named-framed m n kind w i s t (beyond _ _ h) =
    past_it _ _ (omega (
      arith,
      h,
      length-ends s (past_attributes s) (past_attributes-ends s),
      tag_end-less kind (w ++ (less_than_sign ∷ m)) (i ++ (less_than_sign ∷ m)) s (past_attributes s),
    ))

tag-framed : (m n : List ℕ) (kind : TokenKind) (w i : List ℕ)
    → TokenFramed m n (tag_from kind (w ++ (less_than_sign ∷ m)) (i ++ (less_than_sign ∷ m)))
    (tag_from kind (w ++ (less_than_sign ∷ n)) (i ++ (less_than_sign ∷ n)))
unfolding tag_from
tag-framed m n kind w i =
    named-framed m n kind w i (past is_in_name (i ++ (less_than_sign ∷ m)))
    (past is_in_name (i ++ (less_than_sign ∷ n))) (past-framed m n is_in_name i)

-- ---- comments

and-false : (k one two : Bool) → ((k && false) && one) ≡ ((k && false) && two)
and-false true one two = refl
and-false false one two = refl

and-none : (k : Bool) → (k && false) ≡ false
and-none true = refl
and-none false = refl

close-same : (m n z : List ℕ)
    → begins_close (z ++ (less_than_sign ∷ m)) ≡ begins_close (z ++ (less_than_sign ∷ n))
close-same m n [] = refl
close-same m n (a ∷ []) = and-false (a == hyphen) (starts greater_than_sign m) (starts greater_than_sign n)
close-same m n (a ∷ b ∷ []) = refl
close-same m n (a ∷ b ∷ c ∷ z) = refl

bang-same : (m n z : List ℕ)
    → begins_bang_close (z ++ (less_than_sign ∷ m)) ≡ begins_bang_close (z ++ (less_than_sign ∷ n))
bang-same m n [] = refl
bang-same m n (a ∷ []) =
    and-false (a == hyphen) (starts_two exclamation_mark greater_than_sign m)
    (starts_two exclamation_mark greater_than_sign n)
bang-same m n (a ∷ b ∷ []) = refl
bang-same m n (a ∷ b ∷ c ∷ []) = refl
bang-same m n (a ∷ b ∷ c ∷ d ∷ z) = refl

and-left : (k x : Bool) → ((k && false) && x) ≡ false
and-left true x = refl
and-left false x = refl

cut-none : (m z : List ℕ) → is_cut_close (z ++ (less_than_sign ∷ m)) ≡ false
cut-none [] [] = refl
cut-none (c ∷ []) [] = refl
cut-none (c ∷ d ∷ []) [] = refl
cut-none (c ∷ d ∷ e ∷ m) [] = refl
cut-none [] (a ∷ []) = and-none (a == hyphen)
cut-none (d ∷ []) (a ∷ []) = and-left (a == hyphen) (d == exclamation_mark)
cut-none (d ∷ e ∷ m) (a ∷ []) = refl
cut-none [] (a ∷ b ∷ []) = and-none (a == hyphen && b == hyphen)
cut-none (d ∷ m) (a ∷ b ∷ []) = refl
cut-none m (a ∷ b ∷ c ∷ []) = refl
cut-none m (a ∷ b ∷ c ∷ d ∷ z) = refl

if-same : (m n : List ℕ) (j k : Bool) {a b c d : List ℕ} → j ≡ k → Framed m n a b → Framed m n c d
    → Framed m n (if j then a else c) (if k then b else d)
if-same m n j k e x y = rw e (if-framed m n k x y)

comment_close-framed : (m n z : List ℕ)
    → Framed m n (from_comment_close (z ++ (less_than_sign ∷ m)))
    (from_comment_close (z ++ (less_than_sign ∷ n)))
unfolding from_comment_close
comment_close-framed m n [] =
    rw (cut-none m [], cut-none n []) (beyond (from_comment_close m) (from_comment_close n)
    (length-ends m (from_comment_close m) (comment_close-ends m)))
comment_close-framed m n (b ∷ z) =
    if-same m n (ends_comment ((b ∷ z) ++ (less_than_sign ∷ m)))
    (ends_comment ((b ∷ z) ++ (less_than_sign ∷ n)))
    (both (both (close-same m n (b ∷ z)) (bang-same m n (b ∷ z)))
    (cut-none m (b ∷ z) ∙ sym (cut-none n (b ∷ z)))) (within (b ∷ z))
    (comment_close-framed m n z)
  where
    both : {a b c d : Bool} → a ≡ b → c ≡ d → (a || c) ≡ (b || d)
    both e f = rw (e, f) refl

close_len-same : (m n e : List ℕ)
    → close_len (e ++ (less_than_sign ∷ m)) ≡ close_len (e ++ (less_than_sign ∷ n))
close_len-same m n e = ap (λ (k : Bool). if k then 3 else 4) (close-same m n e)

comment_end-framed : (m n w i s t : List ℕ) → Framed m n s t
    → TokenFramed m n
    (framed kinds.Comment (w ++ (less_than_sign ∷ m)) (i ++ (less_than_sign ∷ m)) s (close_len s))
    (framed kinds.Comment (w ++ (less_than_sign ∷ n)) (i ++ (less_than_sign ∷ n)) t (close_len t))
comment_end-framed m n w i s t (within e) =
    rw (close_len-same m n e)
    (framed-framed m n kinds.Comment w i (close_len (e ++ (less_than_sign ∷ n)))
    (e ++ (less_than_sign ∷ m)) (e ++ (less_than_sign ∷ n)) (within e))
comment_end-framed m n w i s t (beyond _ _ h) =
    past_it _ _ (omega (arith, h, length-drop (close_len s) s))

starts-same : (m n : List ℕ) (c : ℕ) (z : List ℕ)
    → starts c (z ++ (less_than_sign ∷ m)) ≡ starts c (z ++ (less_than_sign ∷ n))
starts-same m n c [] = refl
starts-same m n c (b ∷ z) = refl

arrow-same : (m n z : List ℕ) → starts_two hyphen greater_than_sign (z ++ (less_than_sign ∷ m))
    ≡ starts_two hyphen greater_than_sign (z ++ (less_than_sign ∷ n))
arrow-same m n [] = refl
arrow-same m n (a ∷ []) = refl
arrow-same m n (a ∷ b ∷ z) = refl

comment-framed : (m n w i : List ℕ)
    → TokenFramed m n (comment_from (w ++ (less_than_sign ∷ m)) (i ++ (less_than_sign ∷ m)))
    (comment_from (w ++ (less_than_sign ∷ n)) (i ++ (less_than_sign ∷ n)))
comment-framed m n w i =
    if-tokens m n (starts greater_than_sign (i ++ (less_than_sign ∷ m)))
    (starts greater_than_sign (i ++ (less_than_sign ∷ n))) (starts-same m n greater_than_sign i)
    (framed-framed m n kinds.Comment w i 1 (i ++ (less_than_sign ∷ m)) (i ++ (less_than_sign ∷ n)) (within i))
    (if-tokens m n (starts_two hyphen greater_than_sign (i ++ (less_than_sign ∷ m)))
    (starts_two hyphen greater_than_sign (i ++ (less_than_sign ∷ n))) (arrow-same m n i)
    (framed-framed m n kinds.Comment w i 2 (i ++ (less_than_sign ∷ m)) (i ++ (less_than_sign ∷ n)) (within i))
    (comment_end-framed m n w i (from_comment_close (i ++ (less_than_sign ∷ m)))
    (from_comment_close (i ++ (less_than_sign ∷ n))) (comment_close-framed m n i)))

close-framed : (m n : List ℕ) (kind : TokenKind) (w i : List ℕ)
    → TokenFramed m n (up_to_close kind (w ++ (less_than_sign ∷ m)) (i ++ (less_than_sign ∷ m)))
    (up_to_close kind (w ++ (less_than_sign ∷ n)) (i ++ (less_than_sign ∷ n)))
close-framed m n kind w i =
    framed-framed m n kind w i 1 (past is_not_close (i ++ (less_than_sign ∷ m)))
    (past is_not_close (i ++ (less_than_sign ∷ n))) (past-framed m n is_not_close i)

-- ---- what follows `<!` and `</`

letters-same : (m n letters z : List ℕ) → list_all is_no_mark letters ≡ true
    → begins_letters letters (z ++ (less_than_sign ∷ m)) ≡ begins_letters letters (z ++ (less_than_sign ∷ n))
unfolding past_letters
letters-same m n [] z h = refl
letters-same m n (c ∷ letters) [] h =
    let k = and_parts (is_no_mark c) (list_all is_no_mark letters) h in
    rw (not_so (less_than_sign == c) k.0) refl
letters-same m n (c ∷ letters) (b ∷ z) h =
    let k = and_parts (is_no_mark c) (list_all is_no_mark letters) h in
    by (to_ascii_lowercase b == c) (letters-same m n letters z k.1)
  where
    by : (t : Bool)
        → begins_letters letters (z ++ (less_than_sign ∷ m)) ≡ begins_letters letters (z ++ (less_than_sign ∷ n))
        → is_some (if t then past_letters letters (z ++ (less_than_sign ∷ m)) else None)
        ≡ is_some (if t then past_letters letters (z ++ (less_than_sign ∷ n)) else None)
    by true e = e
    by false e = refl

section-same : (m n : List ℕ) (b : ℕ) (z : List ℕ)
    → (starts_two 93 93 (b ∷ (z ++ (less_than_sign ∷ m))) && starts greater_than_sign (drop 1 (z ++ (less_than_sign ∷ m))))
    ≡ (starts_two 93 93 (b ∷ (z ++ (less_than_sign ∷ n))) && starts greater_than_sign (drop 1 (z ++ (less_than_sign ∷ n))))
section-same m n b [] = and-false (b == 93) (starts greater_than_sign m) (starts greater_than_sign n)
section-same m n b (c ∷ []) = refl
section-same m n b (c ∷ d ∷ z) = refl

cdata_close-framed : (m n z : List ℕ)
    → Framed m n (from_cdata_close (z ++ (less_than_sign ∷ m)))
    (from_cdata_close (z ++ (less_than_sign ∷ n)))
unfolding from_cdata_close
cdata_close-framed m n [] =
    beyond (from_cdata_close m) (from_cdata_close n)
    (length-ends m (from_cdata_close m) (cdata_close-ends m))
cdata_close-framed m n (b ∷ z) =
    if-same m n
    (starts_two 93 93 (b ∷ (z ++ (less_than_sign ∷ m))) && starts greater_than_sign (drop 1 (z ++ (less_than_sign ∷ m))))
    (starts_two 93 93 (b ∷ (z ++ (less_than_sign ∷ n))) && starts greater_than_sign (drop 1 (z ++ (less_than_sign ∷ n))))
    (section-same m n b z) (within (b ∷ z)) (cdata_close-framed m n z)

none-1 : (k b c d : Bool) → ((((k && false) && b) && c) && d) ≡ false
none-1 true b c d = refl
none-1 false b c d = refl

none-2 : (k c d : Bool) → (((k && false) && c) && d) ≡ false
none-2 true c d = refl
none-2 false c d = refl

none-3 : (k x c d : Bool) → (((k && (x && false)) && c) && d) ≡ false
none-3 true true c d = refl
none-3 true false c d = refl
none-3 false x c d = refl

none-4 : (k d : Bool) → ((k && false) && d) ≡ false
none-4 true d = refl
none-4 false d = refl

none-5 : (k x d : Bool) → ((k && (x && false)) && d) ≡ false
none-5 true true d = refl
none-5 true false d = refl
none-5 false x d = refl

-- what follows `<!` and is no comment and no doctype
abbrev pub section_from : (foreign : Bool) (from text : List ℕ) → PlacedToken
section_from foreign from text =
    if foreign && begins_cdata text
    then framed kinds.Cdata from (drop 7 text) (from_cdata_close (drop 7 text)) 3
    else up_to_close kinds.Comment from text

-- too short for a section
short-framed : (m n : List ℕ) (foreign : Bool) (w z : List ℕ)
    → begins_cdata (z ++ (less_than_sign ∷ m)) ≡ false → begins_cdata (z ++ (less_than_sign ∷ n)) ≡ false
    → TokenFramed m n (section_from foreign (w ++ (less_than_sign ∷ m)) (z ++ (less_than_sign ∷ m)))
    (section_from foreign (w ++ (less_than_sign ∷ n)) (z ++ (less_than_sign ∷ n)))
short-framed m n foreign w z e f =
    let one : (foreign && begins_cdata (z ++ (less_than_sign ∷ m))) ≡ false =
    ap (λ (k : Bool). foreign && k) e ∙ and-none foreign in
    let two : (foreign && begins_cdata (z ++ (less_than_sign ∷ n))) ≡ false =
    ap (λ (k : Bool). foreign && k) f ∙ and-none foreign in
    rw (one, two) (close-framed m n kinds.Comment w z)

section-framed : (m n : List ℕ) (foreign : Bool) (w z : List ℕ)
    → TokenFramed m n (section_from foreign (w ++ (less_than_sign ∷ m)) (z ++ (less_than_sign ∷ m)))
    (section_from foreign (w ++ (less_than_sign ∷ n)) (z ++ (less_than_sign ∷ n)))
section-framed m n foreign w [] = short-framed m n foreign w [] refl refl
section-framed m n foreign w (a ∷ []) =
    short-framed m n foreign w (a ∷ []) (none-1 (a == open_bracket) _ _ _)
    (none-1 (a == open_bracket) _ _ _)
section-framed m n foreign w (a ∷ b ∷ []) =
    short-framed m n foreign w (a ∷ b ∷ []) (none-2 (a == open_bracket && b == 67) _ _)
    (none-2 (a == open_bracket && b == 67) _ _)
section-framed m n foreign w (a ∷ b ∷ c ∷ []) =
    short-framed m n foreign w (a ∷ b ∷ c ∷ [])
    (none-3 (a == open_bracket && b == 67) (c == 68) _ _)
    (none-3 (a == open_bracket && b == 67) (c == 68) _ _)
section-framed m n foreign w (a ∷ b ∷ c ∷ d ∷ []) =
    short-framed m n foreign w (a ∷ b ∷ c ∷ d ∷ [])
    (none-4 ((a == open_bracket && b == 67) && (c == 68 && d == 65)) _)
    (none-4 ((a == open_bracket && b == 67) && (c == 68 && d == 65)) _)
section-framed m n foreign w (a ∷ b ∷ c ∷ d ∷ e ∷ []) =
    short-framed m n foreign w (a ∷ b ∷ c ∷ d ∷ e ∷ [])
    (none-5 ((a == open_bracket && b == 67) && (c == 68 && d == 65)) (e == 84) _)
    (none-5 ((a == open_bracket && b == 67) && (c == 68 && d == 65)) (e == 84) _)
section-framed m n foreign w (a ∷ b ∷ c ∷ d ∷ e ∷ f ∷ []) =
    short-framed m n foreign w (a ∷ b ∷ c ∷ d ∷ e ∷ f ∷ [])
    (and-none (((a == open_bracket && b == 67) && (c == 68 && d == 65)) && (e == 84 && f == 65)))
    (and-none (((a == open_bracket && b == 67) && (c == 68 && d == 65)) && (e == 84 && f == 65)))
section-framed m n foreign w (a ∷ b ∷ c ∷ d ∷ e ∷ f ∷ g ∷ z) =
    let k : Bool = foreign && ((((a == open_bracket && b == 67) && (c == 68 && d == 65)) && (e == 84 && f == 65))
    && g == open_bracket) in
    if-tokens m n k k refl
    (framed-framed m n kinds.Cdata w z 3 (from_cdata_close (z ++ (less_than_sign ∷ m)))
    (from_cdata_close (z ++ (less_than_sign ∷ n))) (cdata_close-framed m n z))
    (close-framed m n kinds.Comment w (a ∷ b ∷ c ∷ d ∷ e ∷ f ∷ g ∷ z))

doctype-framed : (m n : List ℕ) (foreign : Bool) (w z : List ℕ)
    → TokenFramed m n
    (if begins_letters (codes "doctype") (z ++ (less_than_sign ∷ m))
    then up_to_close kinds.Doctype (w ++ (less_than_sign ∷ m)) (z ++ (less_than_sign ∷ m))
    else section_from foreign (w ++ (less_than_sign ∷ m)) (z ++ (less_than_sign ∷ m)))
    (if begins_letters (codes "doctype") (z ++ (less_than_sign ∷ n))
    then up_to_close kinds.Doctype (w ++ (less_than_sign ∷ n)) (z ++ (less_than_sign ∷ n))
    else section_from foreign (w ++ (less_than_sign ∷ n)) (z ++ (less_than_sign ∷ n)))
doctype-framed m n foreign w z =
    if-tokens m n (begins_letters (codes "doctype") (z ++ (less_than_sign ∷ m)))
    (begins_letters (codes "doctype") (z ++ (less_than_sign ∷ n)))
    (letters-same m n (codes "doctype") z refl)
    (close-framed m n kinds.Doctype w z) (section-framed m n foreign w z)

declared-framed : (m n : List ℕ) (foreign : Bool) (w z : List ℕ)
    → TokenFramed m n (declared_from foreign (w ++ (less_than_sign ∷ m)) (z ++ (less_than_sign ∷ m)))
    (declared_from foreign (w ++ (less_than_sign ∷ n)) (z ++ (less_than_sign ∷ n)))
unfolding declared_from
declared-framed m n foreign w [] = doctype-framed m n foreign w []
declared-framed m n foreign w (a ∷ []) =
    rw (and-none (a == hyphen)) (doctype-framed m n foreign w (a ∷ []))
declared-framed m n foreign w (a ∷ b ∷ z) =
    if-tokens m n (a == hyphen && b == hyphen) (a == hyphen && b == hyphen) refl
    (comment-framed m n w z) (doctype-framed m n foreign w (a ∷ b ∷ z))

letter-same : (m n z : List ℕ)
    → starts_by is_letter (z ++ (less_than_sign ∷ m)) ≡ starts_by is_letter (z ++ (less_than_sign ∷ n))
letter-same m n [] = refl
letter-same m n (b ∷ z) = refl

nothing-framed : (m n : List ℕ) (j k : Bool) (w z : List ℕ) → j ≡ k
    → TokenFramed m n
    (up_to_close (if j then kinds.Nothing else kinds.Comment) (w ++ (less_than_sign ∷ m)) (z ++ (less_than_sign ∷ m)))
    (up_to_close (if k then kinds.Nothing else kinds.Comment) (w ++ (less_than_sign ∷ n)) (z ++ (less_than_sign ∷ n)))
nothing-framed m n j k w z e =
    rw e (close-framed m n (if k then kinds.Nothing else kinds.Comment) w z)

closed-framed : (m n w z : List ℕ)
    → TokenFramed m n (closed_from (w ++ (less_than_sign ∷ m)) (z ++ (less_than_sign ∷ m)))
    (closed_from (w ++ (less_than_sign ∷ n)) (z ++ (less_than_sign ∷ n)))
unfolding closed_from
closed-framed m n w z =
    if-tokens m n (starts_by is_letter (z ++ (less_than_sign ∷ m)))
    (starts_by is_letter (z ++ (less_than_sign ∷ n))) (letter-same m n z)
    (tag-framed m n kinds.EndTag w z)
    (nothing-framed m n (starts greater_than_sign (z ++ (less_than_sign ∷ m)))
    (starts greater_than_sign (z ++ (less_than_sign ∷ n))) w z (starts-same m n greater_than_sign z))

markup-framed : (m n : List ℕ) (foreign : Bool) (w z : List ℕ)
    → TokenFramed m n (markup_from foreign (w ++ (less_than_sign ∷ m)) (z ++ (less_than_sign ∷ m)))
    (markup_from foreign (w ++ (less_than_sign ∷ n)) (z ++ (less_than_sign ∷ n)))
markup-framed m n foreign w [] = close-framed m n kinds.Comment w []
markup-framed m n foreign w (b ∷ z) =
    if-tokens m n (is_letter b) (is_letter b) refl (tag-framed m n kinds.StartTag w (b ∷ z))
    (if-tokens m n (b == slash) (b == slash) refl (closed-framed m n w z)
    (if-tokens m n (b == exclamation_mark) (b == exclamation_mark) refl (declared-framed m n foreign w z)
    (close-framed m n kinds.Comment w (b ∷ z))))

-- ---- texts

not_open : (m : List ℕ) → follows_open (less_than_sign ∷ m) ≡ false
not_open [] = refl
not_open (b ∷ m) = refl

follows-same : (m n z : List ℕ)
    → follows_open (z ++ (less_than_sign ∷ m)) ≡ follows_open (z ++ (less_than_sign ∷ n))
follows-same m n [] = not_open m ∙ sym (not_open n)
follows-same m n (b ∷ []) = refl
follows-same m n (b ∷ c ∷ z) = refl

markup-same : (m n : List ℕ) (b : ℕ) (z : List ℕ)
    → begins_markup (b ∷ (z ++ (less_than_sign ∷ m))) ≡ begins_markup (b ∷ (z ++ (less_than_sign ∷ n)))
markup-same m n b z = ap (λ (k : Bool). b == less_than_sign && k) (follows-same m n z)

pub begins-tag : (m : List ℕ) → starts_by is_letter m ≡ true → begins_markup (less_than_sign ∷ m) ≡ true
begins-tag [] h = absurd (cc h)
begins-tag (c ∷ []) h = rw h refl
begins-tag (c ∷ d ∷ m) h = rw h refl

-- What follows a `<` makes it markup in both pages, and an end tag of the same elements.
pub record SameMark (m n : List ℕ) : Type 0 where
  pub one : begins_markup (less_than_sign ∷ m) ≡ true
  pub other : begins_markup (less_than_sign ∷ n) ≡ true
  pub ends : (name : RawName) → begins_end_named (letters_of name) (less_than_sign ∷ m)
      ≡ begins_end_named (letters_of name) (less_than_sign ∷ n)
  pub script_ends : begins_end_named script_letters (less_than_sign ∷ m)
      ≡ begins_end_named script_letters (less_than_sign ∷ n)

text-framed : (m n z : List ℕ) → SameMark m n
    → Framed m n (past_text (z ++ (less_than_sign ∷ m))) (past_text (z ++ (less_than_sign ∷ n)))
unfolding past_text
text-framed m n [] h = rw (h.one, h.other) (within [])
text-framed m n (b ∷ z) h =
    if-same m n (begins_markup (b ∷ (z ++ (less_than_sign ∷ m))))
    (begins_markup (b ∷ (z ++ (less_than_sign ∷ n)))) (markup-same m n b z) (within (b ∷ z))
    (text-framed m n z h)

marked-framed : (m n : List ℕ) (foreign : Bool) (b : ℕ) (z : List ℕ) → SameMark m n
    → TokenFramed m n (marked_token foreign b (z ++ (less_than_sign ∷ m)))
    (marked_token foreign b (z ++ (less_than_sign ∷ n)))
marked-framed m n foreign b z h =
    if-tokens m n (begins_markup (b ∷ (z ++ (less_than_sign ∷ m))))
    (begins_markup (b ∷ (z ++ (less_than_sign ∷ n)))) (markup-same m n b z)
    (markup-framed m n foreign (b ∷ z) z)
    (whole-framed m n kinds.Text (b ∷ z) (past_text (z ++ (less_than_sign ∷ m)))
    (past_text (z ++ (less_than_sign ∷ n))) (text-framed m n z h))

-- ---- raw text

letter-not_slash : (m : List ℕ) → starts_by is_letter m ≡ true → starts slash m ≡ false
letter-not_slash [] h = refl
letter-not_slash (c ∷ m) h = by (c == slash) refl
  where
    by : (k : Bool) → (c == slash) ≡ k → (c == slash) ≡ false
    by true e =
        let same : c ≡ slash = grind (arith, e) in
        absurd (cc (rw same at h))
    by false e = e

not_end : (letters m : List ℕ) → starts_by is_letter m ≡ true
    → begins_end_named letters (less_than_sign ∷ m) ≡ false
not_end letters m h = rw (letter-not_slash m h) refl

end-same : (m n letters : List ℕ) (b : ℕ) (z : List ℕ) → list_all is_no_mark letters ≡ true
    → begins_end_named letters (b ∷ (z ++ (less_than_sign ∷ m)))
    ≡ begins_end_named letters (b ∷ (z ++ (less_than_sign ∷ n)))
end-same m n letters b z h = begins-over letters b z m h ∙ sym (begins-over letters b z n h)

end_tag-framed : (m n letters z : List ℕ) → list_all is_no_mark letters ≡ true
    → begins_end_named letters (less_than_sign ∷ m) ≡ begins_end_named letters (less_than_sign ∷ n)
    → Framed m n (from_end_tag letters (z ++ (less_than_sign ∷ m)))
    (from_end_tag letters (z ++ (less_than_sign ∷ n)))
unfolding from_end_tag
end_tag-framed m n letters [] plain h =
    if-same m n (begins_end_named letters (less_than_sign ∷ m))
    (begins_end_named letters (less_than_sign ∷ n)) h (within [])
    (beyond (from_end_tag letters m) (from_end_tag letters n)
    (length-ends m (from_end_tag letters m) (end_tag-ends letters m)))
end_tag-framed m n letters (b ∷ z) plain h =
    if-same m n (begins_end_named letters (b ∷ (z ++ (less_than_sign ∷ m))))
    (begins_end_named letters (b ∷ (z ++ (less_than_sign ∷ n)))) (end-same m n letters b z plain)
    (within (b ∷ z)) (end_tag-framed m n letters z plain h)

other_length : (b : ℕ) (text rest : List ℕ) → length rest ≤ length text
    → (length rest == length (b ∷ text)) ≡ false
other_length b text rest h = grind arith

pub raw-whole : (b : ℕ) (text rest : List ℕ) → length rest ≤ length text
    → raw_token (b ∷ text) rest ≡ whole kinds.Text (b ∷ text) rest
raw-whole b text rest h = rw (other_length b text rest h) refl

pub raw-tag : (text : List ℕ) → raw_token text text ≡ tag_from kinds.EndTag text (drop 2 text)
raw-tag text = rw (same_length text) refl

and-not : (k x : Bool) → ((k && false) && x) ≡ false
and-not true x = refl
and-not false x = refl

-- one byte before the `<` begins no end tag
one-not_end : (letters : List ℕ) (b : ℕ) (m : List ℕ)
    → begins_end_named letters (b ∷ less_than_sign ∷ m) ≡ false
one-not_end letters b m = and-not (b == less_than_sign) (name_ends (past_letters letters m))

framed-by : (m n : List ℕ) {t u v w : PlacedToken} → t ≡ v → u ≡ w → TokenFramed m n v w
    → TokenFramed m n t u
framed-by m n e f h = rw (e, f) h

pub raw-step : (letters : List ℕ) (b : ℕ) (text : List ℕ) (k : Bool)
    → begins_end_named letters (b ∷ text) ≡ k
    → raw_token (b ∷ text) (from_end_tag letters (b ∷ text))
    ≡ (if k then tag_from kinds.EndTag (b ∷ text) (drop 2 (b ∷ text))
    else whole kinds.Text (b ∷ text) (from_end_tag letters text))
unfolding from_end_tag
raw-step letters b text true e = rw e (raw-tag (b ∷ text))
raw-step letters b text false e =
    rw e (raw-whole b text (from_end_tag letters text)
    (length-ends text (from_end_tag letters text) (end_tag-ends letters text)))

raw-framed : (m n letters : List ℕ) (b : ℕ) (z : List ℕ) → list_all is_no_mark letters ≡ true
    → begins_end_named letters (less_than_sign ∷ m) ≡ begins_end_named letters (less_than_sign ∷ n)
    → TokenFramed m n
    (raw_token (b ∷ (z ++ (less_than_sign ∷ m))) (from_end_tag letters (b ∷ (z ++ (less_than_sign ∷ m)))))
    (raw_token (b ∷ (z ++ (less_than_sign ∷ n))) (from_end_tag letters (b ∷ (z ++ (less_than_sign ∷ n)))))
raw-framed m n letters b [] plain h =
    framed-by m n (raw-step letters b (less_than_sign ∷ m) false (one-not_end letters b m))
    (raw-step letters b (less_than_sign ∷ n) false (one-not_end letters b n))
    (whole-framed m n kinds.Text (b ∷ []) (from_end_tag letters (less_than_sign ∷ m))
    (from_end_tag letters (less_than_sign ∷ n)) (end_tag-framed m n letters [] plain h))
raw-framed m n letters b (c ∷ z) plain h =
    by (begins_end_named letters (b ∷ c ∷ (z ++ (less_than_sign ∷ n))))
    (end-same m n letters b (c ∷ z) plain) refl
  where
    s : List ℕ
    s = c ∷ (z ++ (less_than_sign ∷ m))

    t : List ℕ
    t = c ∷ (z ++ (less_than_sign ∷ n))

    by : (k : Bool) → begins_end_named letters (b ∷ s) ≡ k → begins_end_named letters (b ∷ t) ≡ k
        → TokenFramed m n (raw_token (b ∷ s) (from_end_tag letters (b ∷ s)))
        (raw_token (b ∷ t) (from_end_tag letters (b ∷ t)))
    by true e f = framed-by m n (raw-step letters b s true e) (raw-step letters b t true f)
        (tag-framed m n kinds.EndTag (b ∷ c ∷ z) z)
    by false e f = framed-by m n (raw-step letters b s false e) (raw-step letters b t false f)
        (whole-framed m n kinds.Text (b ∷ c ∷ z) (from_end_tag letters s) (from_end_tag letters t)
        (end_tag-framed m n letters (c ∷ z) plain h))

-- ---- scripts

script-plain : list_all is_no_mark script_letters ≡ true
script-plain = refl

comment-same : (m n : List ℕ) (b : ℕ) (z : List ℕ)
    → begins_comment (b ∷ (z ++ (less_than_sign ∷ m))) ≡ begins_comment (b ∷ (z ++ (less_than_sign ∷ n)))
comment-same m n b [] =
    and-false (b == less_than_sign) (starts_two hyphen hyphen m) (starts_two hyphen hyphen n)
comment-same m n b (c ∷ []) = refl
comment-same m n b (c ∷ d ∷ []) = refl
comment-same m n b (c ∷ d ∷ e ∷ z) = refl

script_start-same : (m n : List ℕ) (b : ℕ) (z : List ℕ)
    → begins_named script_letters (b ∷ (z ++ (less_than_sign ∷ m)))
    ≡ begins_named script_letters (b ∷ (z ++ (less_than_sign ∷ n)))
script_start-same m n b z =
    ap (λ (k : Bool). b == less_than_sign && k)
    (letters-over script_letters z m script-plain ∙ sym (letters-over script_letters z n script-plain))

step-same : (m n : List ℕ) (state : ScriptState) (b : ℕ) (z : List ℕ)
    → script_step state (b ∷ (z ++ (less_than_sign ∷ m)))
    ≡ script_step state (b ∷ (z ++ (less_than_sign ∷ n)))
step-same m n Plain b z =
    ap (λ (k : Bool). if k then Escaped else Plain) (comment-same m n b z)
step-same m n Escaped b z =
    ap (λ (k : Bool). if k then Plain
    else (if begins_named script_letters (b ∷ (z ++ (less_than_sign ∷ m))) then DoubleEscaped else Escaped))
    (close-same m n (b ∷ z))
    ∙ ap (λ (k : Bool). if begins_close (b ∷ (z ++ (less_than_sign ∷ n))) then Plain
    else (if k then DoubleEscaped else Escaped)) (script_start-same m n b z)
step-same m n DoubleEscaped b z =
    ap (λ (k : Bool). if k then Plain
    else (if begins_end_named script_letters (b ∷ (z ++ (less_than_sign ∷ m))) then Escaped else DoubleEscaped))
    (close-same m n (b ∷ z))
    ∙ ap (λ (k : Bool). if begins_close (b ∷ (z ++ (less_than_sign ∷ n))) then Plain
    else (if k then Escaped else DoubleEscaped)) (end-same m n script_letters b z script-plain)

script_end-framed : (m n : List ℕ) (one other : ScriptState) (z : List ℕ) → one ≡ other
    → begins_end_named script_letters (less_than_sign ∷ m)
    ≡ begins_end_named script_letters (less_than_sign ∷ n)
    → Framed m n (from_script_end one (z ++ (less_than_sign ∷ m)))
    (from_script_end other (z ++ (less_than_sign ∷ n)))
unfolding from_script_end
script_end-framed m n one other [] e h =
    let state : ScriptState = script_step one (less_than_sign ∷ m) in
    let new_state : ScriptState = script_step other (less_than_sign ∷ n) in
    if-same m n
    (may_end one && begins_end_named script_letters (less_than_sign ∷ m))
    (may_end other && begins_end_named script_letters (less_than_sign ∷ n))
    (both (ap may_end e) h) (within [])
    (beyond (from_script_end state m) (from_script_end new_state n)
    (length-ends m (from_script_end state m) (script_end-ends state m)))
  where
    both : {a c d f : Bool} → a ≡ c → d ≡ f → (a && d) ≡ (c && f)
    both p q = rw (p, q) refl
script_end-framed m n one other (b ∷ z) e h =
    if-same m n
    (may_end one && begins_end_named script_letters (b ∷ (z ++ (less_than_sign ∷ m))))
    (may_end other && begins_end_named script_letters (b ∷ (z ++ (less_than_sign ∷ n))))
    (both (ap may_end e) (end-same m n script_letters b z script-plain))
    (within (b ∷ z))
    (script_end-framed m n (script_step one (b ∷ (z ++ (less_than_sign ∷ m))))
    (script_step other (b ∷ (z ++ (less_than_sign ∷ n)))) z
    (ap (λ (k : ScriptState). script_step k (b ∷ (z ++ (less_than_sign ∷ m)))) e
    ∙ step-same m n other b z) h)
  where
    both : {a c d f : Bool} → a ≡ c → d ≡ f → (a && d) ≡ (c && f)
    both p q = rw (p, q) refl

pub script-step : (b : ℕ) (text : List ℕ) (k : Bool) → begins_end_named script_letters (b ∷ text) ≡ k
    → raw_token (b ∷ text) (from_script_end Plain (b ∷ text))
    ≡ (if k then tag_from kinds.EndTag (b ∷ text) (drop 2 (b ∷ text))
    else whole kinds.Text (b ∷ text) (from_script_end (script_step Plain (b ∷ text)) text))
unfolding from_script_end
script-step b text true e = rw e (raw-tag (b ∷ text))
script-step b text false e =
    let state : ScriptState = script_step Plain (b ∷ text) in
    rw e (raw-whole b text (from_script_end state text)
    (length-ends text (from_script_end state text) (script_end-ends state text)))

script-framed : (m n : List ℕ) (b : ℕ) (z : List ℕ)
    → begins_end_named script_letters (less_than_sign ∷ m)
    ≡ begins_end_named script_letters (less_than_sign ∷ n)
    → TokenFramed m n
    (raw_token (b ∷ (z ++ (less_than_sign ∷ m))) (from_script_end Plain (b ∷ (z ++ (less_than_sign ∷ m)))))
    (raw_token (b ∷ (z ++ (less_than_sign ∷ n))) (from_script_end Plain (b ∷ (z ++ (less_than_sign ∷ n)))))
script-framed m n b [] h =
    framed-by m n (script-step b (less_than_sign ∷ m) false (one-not_end script_letters b m))
    (script-step b (less_than_sign ∷ n) false (one-not_end script_letters b n))
    (whole-framed m n kinds.Text (b ∷ [])
    (from_script_end (script_step Plain (b ∷ less_than_sign ∷ m)) (less_than_sign ∷ m))
    (from_script_end (script_step Plain (b ∷ less_than_sign ∷ n)) (less_than_sign ∷ n))
    (script_end-framed m n (script_step Plain (b ∷ less_than_sign ∷ m))
    (script_step Plain (b ∷ less_than_sign ∷ n)) [] (step-same m n Plain b []) h))
script-framed m n b (c ∷ z) h =
    by (begins_end_named script_letters (b ∷ c ∷ (z ++ (less_than_sign ∷ n))))
    (end-same m n script_letters b (c ∷ z) script-plain) refl
  where
    s : List ℕ
    s = c ∷ (z ++ (less_than_sign ∷ m))

    t : List ℕ
    t = c ∷ (z ++ (less_than_sign ∷ n))

    by : (k : Bool) → begins_end_named script_letters (b ∷ s) ≡ k
        → begins_end_named script_letters (b ∷ t) ≡ k
        → TokenFramed m n (raw_token (b ∷ s) (from_script_end Plain (b ∷ s)))
        (raw_token (b ∷ t) (from_script_end Plain (b ∷ t)))
    by true e f = framed-by m n (script-step b s true e) (script-step b t true f)
        (tag-framed m n kinds.EndTag (b ∷ c ∷ z) z)
    by false e f = framed-by m n (script-step b s false e) (script-step b t false f)
        (whole-framed m n kinds.Text (b ∷ c ∷ z) (from_script_end (script_step Plain (b ∷ s)) s)
        (from_script_end (script_step Plain (b ∷ t)) t)
        (script_end-framed m n (script_step Plain (b ∷ s)) (script_step Plain (b ∷ t)) (c ∷ z)
        (step-same m n Plain b (c ∷ z)) h))

token-framed : (m n : List ℕ) (mode : Mode) (b : ℕ) (z : List ℕ) → SameMark m n
    → TokenFramed m n (token_from mode b (z ++ (less_than_sign ∷ m)))
    (token_from mode b (z ++ (less_than_sign ∷ n)))
unfolding token_from
token-framed m n Data b z h = marked-framed m n false b z h
token-framed m n Foreign b z h = marked-framed m n true b z h
token-framed m n (Raw name) b z h =
    raw-framed m n (letters_of name) b z (letters-plain name) (h.ends name)
token-framed m n Script b z h = script-framed m n b z h.script_ends
token-framed m n Plaintext b z h = past_it _ _ (omega arith)

-- ---- what is read

before-over : (w z r : List ℕ) → before (w ++ r) (z ++ r) ≡ take (length w - length z) w
before-over w z r =
    let count : length (w ++ r) - length (z ++ r) ≡ length w - length z =
    omega (arith, length-append w r, length-append z r) in
    let few : length w - length z ≤ length w = omega arith in
    ap (λ (k : ℕ). take k (w ++ r)) count ∙ take-append-le (length w - length z) w r few

pub before-same : (w z r s : List ℕ) → before (w ++ r) (z ++ r) ≡ before (w ++ s) (z ++ s)
before-same w z r s = before-over w z r ∙ sym (before-over w z s)

-- the token that was found, or another
abbrev pub token_or : PlacedToken → Option (PlacedToken × List ℕ) → PlacedToken
token_or t None = t
token_or t (Some x) = x.0

pub first-same : (mode : Mode) (b : ℕ) (text : List ℕ) (t : PlacedToken)
    → next_token mode (b ∷ text) ≡ Some (t, t.rest) → t ≡ token_from mode b text
unfolding next_token
first-same mode b text t e = ap (token_or t) (sym e)

first-less : (mode : Mode) (b : ℕ) (text : List ℕ) (t : PlacedToken)
    → next_token mode (b ∷ text) ≡ Some (t, t.rest) → length t.rest ≤ length text
first-less mode b text t e =
    let one : PlacedToken = token_from mode b text in
    let same : t.rest ≡ one.rest = ap (λ (x : PlacedToken). x.rest) (first-same mode b text t e) in
    rw same (length-ends text one.rest (token-placed mode b text).ends)

next-less : (mode : Mode) (text : List ℕ) (t : PlacedToken) → next_token mode text ≡ Some (t, t.rest)
    → length t.rest ≤ length text
unfolding next_token
next-less mode [] t e = absurd (cc e)
next-less mode (b ∷ text) t e = omega (arith, first-less mode b text t e)

reads-less : (drive : TextDriver) (seen found : List Said) (text rest : List ℕ)
    → Reads drive seen text found rest → length rest ≤ length text
reads-less drive seen found text rest (reads_none _ _) = omega arith
reads-less drive seen found text rest (reads_one _ _ _ more t e r) =
    omega (arith, reads-less drive (seen ++ said t ∷ []) more t.rest rest r, next-less (drive seen) text t e)

-- the token at the start, in both pages
pub next-is : (mode : Mode) (b : ℕ) (text : List ℕ)
    → next_token mode (b ∷ text) ≡ Some (token_from mode b text, (token_from mode b text).rest)
unfolding next_token
next-is mode b text = refl

pub said-same : (m n : List ℕ) (kind : TokenKind) (w i e z : List ℕ)
    → said (record {
      kind = kind;
      from = w ++ (less_than_sign ∷ m);
      inside = i ++ (less_than_sign ∷ m);
      inside_end = e ++ (less_than_sign ∷ m);
      rest = z ++ (less_than_sign ∷ m);
    })
    ≡ said (record {
      kind = kind;
      from = w ++ (less_than_sign ∷ n);
      inside = i ++ (less_than_sign ∷ n);
      inside_end = e ++ (less_than_sign ∷ n);
      rest = z ++ (less_than_sign ∷ n);
    })
said-same m n kind w i e z =
    let text = before-same w z (less_than_sign ∷ m) (less_than_sign ∷ n) in
    let inside = before-same i e (less_than_sign ∷ m) (less_than_sign ∷ n) in
    ap (λ (x : List ℕ). record {
      kind = kind;
      text = x;
      inside = before (i ++ (less_than_sign ∷ m)) (e ++ (less_than_sign ∷ m));
    }) text
    ∙ ap (λ (x : List ℕ). record {
      kind = kind;
      text = before (w ++ (less_than_sign ∷ n)) (z ++ (less_than_sign ∷ n));
      inside = x;
    }) inside

-- One token: it is read in the other page too, and what follows it.
step : (drive : TextDriver) (m n : List ℕ) (seen more : List Said) (text : List ℕ)
    → (t u : PlacedToken) → next_token (drive seen) text ≡ Some (u, u.rest)
    → TokenFramed m n t u → length (less_than_sign ∷ m) ≤ length t.rest
    → ((z : List ℕ) → t.rest ≡ z ++ (less_than_sign ∷ m)
    → Reads drive (seen ++ said t ∷ []) (z ++ (less_than_sign ∷ n)) more (less_than_sign ∷ n))
    → Reads drive seen text (said t ∷ more) (less_than_sign ∷ n)
step drive m n seen more text t u e (past_it _ _ h) less go = absurd (omega arith)
step drive m n seen more text t u e (alike kind w i f z) less go =
    let same = said-same m n kind w i f z in
    rw same (reads_one seen text (less_than_sign ∷ n) more u e (rw (← same) (go z refl)))

local : (drive : TextDriver) (m n : List ℕ) (seen found : List Said) (text rest z : List ℕ)
    → SameMark m n
    → Reads drive seen text found rest → text ≡ z ++ (less_than_sign ∷ m) → rest ≡ less_than_sign ∷ m
    → Reads drive seen (z ++ (less_than_sign ∷ n)) found (less_than_sign ∷ n)
local drive m n seen found text rest [] h (reads_none _ _) p q = reads_none seen (less_than_sign ∷ n)
local drive m n seen found text rest (b ∷ z) h (reads_none _ _) p q =
    absurd (omega (arith, ap length p, ap length q, length-append z (less_than_sign ∷ m)))
local drive m n seen found text rest [] h (reads_one _ _ _ more t e r) p q =
    let less : length t.rest ≤ length m = first-less (drive seen) less_than_sign m t (rw p at e) in
    absurd (omega (arith, less, ap length q, reads-less drive (seen ++ said t ∷ []) more t.rest rest r))
local drive m n seen found text rest (b ∷ z) h (reads_one _ _ _ more t e r) p q =
    let same : t ≡ token_from (drive seen) b (z ++ (less_than_sign ∷ m)) =
    first-same (drive seen) b (z ++ (less_than_sign ∷ m)) t (rw p at e) in
    let few : length rest ≤ length t.rest = reads-less drive (seen ++ said t ∷ []) more t.rest rest r in
    let framed_token : TokenFramed m n t (token_from (drive seen) b (z ++ (less_than_sign ∷ n))) =
    rw same (token-framed m n (drive seen) b z h) in
    step drive m n seen more (b ∷ (z ++ (less_than_sign ∷ n))) t
    (token_from (drive seen) b (z ++ (less_than_sign ∷ n)))
    (next-is (drive seen) b (z ++ (less_than_sign ∷ n)))
    framed_token (omega (arith, few, ap length q))
    (λ y f. local drive m n (seen ++ said t ∷ []) more t.rest rest y h r f q)

-- What is read before markup is read before other markup too.
pub marks-local : (drive : TextDriver) (seen : List Said) (front m n : List ℕ)
    (found : List Said) → SameMark m n
    → Reads drive seen (front ++ (less_than_sign ∷ m)) found (less_than_sign ∷ m)
    → Reads drive seen (front ++ (less_than_sign ∷ n)) found (less_than_sign ∷ n)
marks-local drive seen front m n found h r =
    local drive m n seen found (front ++ (less_than_sign ∷ m)) (less_than_sign ∷ m) front h r refl refl

-- start tags are such markup
tags-alike : (m n : List ℕ) → starts_by is_letter m ≡ true → starts_by is_letter n ≡ true
    → SameMark m n
tags-alike m n h k = record {
  one = begins-tag m h;
  other = begins-tag n k;
  ends = λ name. not_end (letters_of name) m h ∙ sym (not_end (letters_of name) n k);
  script_ends = not_end script_letters m h ∙ sym (not_end script_letters n k);
}

pub tags-local-after : (drive : TextDriver) (seen : List Said) (front tag other : List ℕ)
    (found : List Said) → starts_by is_letter tag ≡ true → starts_by is_letter other ≡ true
    → Reads drive seen (front ++ (less_than_sign ∷ tag)) found (less_than_sign ∷ tag)
    → Reads drive seen (front ++ (less_than_sign ∷ other)) found (less_than_sign ∷ other)
tags-local-after drive seen front tag other found h k r =
    marks-local drive seen front tag other found (tags-alike tag other h k) r

pub tags-local : (drive : TextDriver) (front tag other : List ℕ) (found : List Said)
    → starts_by is_letter tag ≡ true → starts_by is_letter other ≡ true
    → Reads drive [] (front ++ (less_than_sign ∷ tag)) found (less_than_sign ∷ tag)
    → Reads drive [] (front ++ (less_than_sign ∷ other)) found (less_than_sign ∷ other)
tags-local drive front tag other found h k r = tags-local-after drive [] front tag other found h k r

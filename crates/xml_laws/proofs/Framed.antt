-- What is read of a document before a `<` does not depend on what follows that.
use Rattle.std.proofs.Common.{◌≡◌, ℕ, ◌≤◌, ◌==◌, ◌&&◌, nat_eq, Bool, true, false, not, if◌then◌else◌, List, [], ◌∷◌, ◌++◌, length, drop, Option, None, Some, arith, refl, sym, ap, ◌∙◌, length-append, length-drop, codes}
use Rattle.std.specs.List.{starts_with, list_all}
use Rattle.std.proofs.lemmas.Bool.{and_parts}
use Rattle.css_text.specs.AsciiBytes.{exclamation_mark, slash, greater_than_sign}
use Rattle.css_text.specs.Bytes.{past}
use Rattle.css_text.proofs.reading.EndsLemmas.{length-ends}
use Rattle.css_html.specs.declared.tokenizer.TokenKind.{TokenKind}
use Rattle.css_html.specs.declared.tokenizer.TokenKind.TheVariants as kinds
use Rattle.css_html.specs.Locality.{Said, said}
use Rattle.css_html.specs.Marks.{less_than_sign, question_mark, is_in_name}
use Rattle.css_html.specs.Tokens.{PlacedToken, tag_end}
use Rattle.css_html.proofs.Frames.{Framed, within, beyond, past-framed, past-step, drop-framed, if-framed}
use Rattle.css_html.proofs.TokenFrames.{TokenFramed, alike, past_it, said-same}
use Rattle.css_xml.specs.Doctypes.{part_after, may_end, from_end}
use Rattle.xml_laws.specs.Locality.{Reads, reads_none, reads_one}
use Rattle.css_xml.specs.Tokens.{is_in_text, from_mark, quote_after, ends_tag, from_tag_end, tag_from, closed, comment_end, declared_from, markup_from, token_from, next_token}
use Rattle.css_xml.specs.declared.doctypes.Part.{Part}
use Rattle.css_xml.specs.declared.doctypes.Part.TheVariants as parts
use Rattle.xml_laws.proofs.Tiles.{mark-ends, tag_end-ends, doctype_end-ends, token-placed}

-- ---- where tags and document types end

tag_end-framed : (m n : List ℕ) (quote : Option ℕ) (z : List ℕ)
    → Framed m n (from_tag_end quote (z ++ (less_than_sign ∷ m))) (from_tag_end quote (z ++ (less_than_sign ∷ n)))
unfolding from_tag_end
tag_end-framed m n None [] =
    beyond (from_tag_end None m) (from_tag_end None n)
    (length-ends m (from_tag_end None m) (tag_end-ends None m))
tag_end-framed m n (Some q) [] =
    let after : Option ℕ = quote_after (Some q) less_than_sign in
    beyond (from_tag_end after m) (from_tag_end after n)
    (length-ends m (from_tag_end after m) (tag_end-ends after m))
tag_end-framed m n quote (b ∷ z) =
    if-framed m n (ends_tag quote b) (within (b ∷ z)) (tag_end-framed m n (quote_after quote b) z)

and-no : (k : Bool) → (k && false) ≡ false
and-no true = refl
and-no false = refl

doctype_end-framed : (m n : List ℕ) (part : Part) (z : List ℕ)
    → Framed m n (from_end part (z ++ (less_than_sign ∷ m))) (from_end part (z ++ (less_than_sign ∷ n)))
unfolding from_end
doctype_end-framed m n part [] =
    let after : Part = part_after part less_than_sign in
    rw (and-no (may_end part))
    (beyond (from_end after m) (from_end after n)
    (length-ends m (from_end after m) (doctype_end-ends after m)))
doctype_end-framed m n part (b ∷ z) =
    if-framed m n (may_end part && b == greater_than_sign) (within (b ∷ z))
    (doctype_end-framed m n (part_after part b) z)

-- ---- marks

-- not `<`
abbrev is_plain : ℕ → Bool
is_plain c = not (nat_eq c less_than_sign)

-- A text begins with a mark without a `<`, whatever follows the `<` in it, or it does not.
data Marked (m n mark z : List ℕ) : Type 0 where
  differs : starts_with nat_eq (z ++ (less_than_sign ∷ m)) mark ≡ false
      → starts_with nat_eq (z ++ (less_than_sign ∷ n)) mark ≡ false → Marked m n mark z
  begins : (y : List ℕ) → z ≡ mark ++ y → starts_with nat_eq (z ++ (less_than_sign ∷ m)) mark ≡ true
      → starts_with nat_eq (z ++ (less_than_sign ∷ n)) mark ≡ true → Marked m n mark z

no : (k : Bool) → not k ≡ true → k ≡ false
no true h = absurd (cc h)
no false h = refl

marked : (m n mark z : List ℕ) → list_all is_plain mark ≡ true → Marked m n mark z
marked m n [] z h = begins z refl refl refl
marked m n (c ∷ mark) [] h =
    let plain : nat_eq c less_than_sign ≡ false =
    no (nat_eq c less_than_sign) (and_parts (is_plain c) (list_all is_plain mark) h).0 in
    differs (rw plain refl) (rw plain refl)
marked m n (c ∷ mark) (b ∷ z) h =
    by (nat_eq c b) refl (marked m n mark z (and_parts (is_plain c) (list_all is_plain mark) h).1)
  where
    by : (k : Bool) → nat_eq c b ≡ k → Marked m n mark z → Marked m n (c ∷ mark) (b ∷ z)
    by false e x = differs (rw e refl) (rw e refl)
    by true e (differs f g) = differs (rw e f) (rw e g)
    by true e (begins y s f g) =
        let same : b ≡ c = grind (arith, e) in
        begins y (ap (λ (x : ℕ). x ∷ z) same ∙ ap (λ (x : List ℕ). c ∷ x) s) (rw e f) (rw e g)

mark-framed : (m n mark z : List ℕ) → list_all is_plain mark ≡ true
    → starts_with nat_eq (less_than_sign ∷ m) mark ≡ false → starts_with nat_eq (less_than_sign ∷ n) mark ≡ false
    → Framed m n (from_mark mark (z ++ (less_than_sign ∷ m))) (from_mark mark (z ++ (less_than_sign ∷ n)))
unfolding from_mark
mark-framed m n mark [] h f g =
    rw (f, g) (beyond (from_mark mark m) (from_mark mark n) (length-ends m (from_mark mark m) (mark-ends mark m)))
mark-framed m n mark (b ∷ z) h f g =
    by (marked m n mark (b ∷ z) h) (mark-framed m n mark z h f g)
  where
    by : Marked m n mark (b ∷ z)
        → Framed m n (from_mark mark (z ++ (less_than_sign ∷ m))) (from_mark mark (z ++ (less_than_sign ∷ n)))
        → Framed m n
        (if starts_with nat_eq (b ∷ (z ++ (less_than_sign ∷ m))) mark then b ∷ (z ++ (less_than_sign ∷ m))
        else from_mark mark (z ++ (less_than_sign ∷ m)))
        (if starts_with nat_eq (b ∷ (z ++ (less_than_sign ∷ n))) mark then b ∷ (z ++ (less_than_sign ∷ n))
        else from_mark mark (z ++ (less_than_sign ∷ n)))
    by (differs p q) x = rw (p, q) x
    by (begins _ _ p q) x = rw (p, q) (within (b ∷ z))

-- ---- tokens

tag-less : (kind : TokenKind) (from name name_end end : List ℕ)
    → length (tag_end kind from name name_end end).rest ≤ length end
tag-less kind from name name_end [] = omega arith
tag-less kind from name name_end (b ∷ end) = omega arith

named-framed : (m n : List ℕ) (kind : TokenKind) (w i s t u v : List ℕ) → length u ≤ length s
    → Framed m n s t → Framed m n u v
    → TokenFramed m n (tag_end kind (w ++ (less_than_sign ∷ m)) (i ++ (less_than_sign ∷ m)) s u)
    (tag_end kind (w ++ (less_than_sign ∷ n)) (i ++ (less_than_sign ∷ n)) t v)
named-framed m n kind w i s t u v h (beyond _ _ f) y =
    past_it _ _ (omega (
      arith,
      h,
      f,
      tag-less kind (w ++ (less_than_sign ∷ m)) (i ++ (less_than_sign ∷ m)) s u,
    ))
named-framed m n kind w i s t u v h (within e) (beyond _ _ f) =
    past_it _ _ (omega (
      arith,
      f,
      tag-less kind (w ++ (less_than_sign ∷ m)) (i ++ (less_than_sign ∷ m)) (e ++ (less_than_sign ∷ m)) u,
    ))
named-framed m n kind w i s t u v h (within e) (within []) = past_it _ _ (omega arith)
named-framed m n kind w i s t u v h (within e) (within (b ∷ z)) = alike kind w i e z

-- a tag ends no earlier than its name
name-less : (quote : Option ℕ) (text : List ℕ) → length (from_tag_end quote text) ≤ length (past is_in_name text)
unfolding from_tag_end
name-less quote [] = omega arith
name-less quote (b ∷ text) =
    rw (past-step is_in_name b text)
    (by quote (b == greater_than_sign) refl (is_in_name b) refl (name-less (quote_after quote b) text))
  where
    end : List ℕ
    end = from_tag_end (quote_after quote b) text

    shorter : length end ≤ length text
    shorter = length-ends text end (tag_end-ends (quote_after quote b) text)

    within_name : (k : Bool) → length end ≤ length (past is_in_name text)
        → length end ≤ length (if k then past is_in_name text else b ∷ text)
    within_name true h = h
    within_name false h = omega (arith, shorter)

    by : (q : Option ℕ) (k : Bool) → (b == greater_than_sign) ≡ k → (j : Bool) → is_in_name b ≡ j
        → length end ≤ length (past is_in_name text)
        → length (if ends_tag q b then b ∷ text else end) ≤ length (if j then past is_in_name text else b ∷ text)
    by (Some q) k e j f h = within_name j h
    by None false e j f h = rw e (within_name j h)
    by None true e true f h = let same : b ≡ greater_than_sign = grind (arith, e) in absurd (cc (rw same at f))
    by None true e false f h = rw e (omega arith)

tag-framed : (m n : List ℕ) (kind : TokenKind) (w i : List ℕ)
    → TokenFramed m n (tag_from kind (w ++ (less_than_sign ∷ m)) (i ++ (less_than_sign ∷ m)))
    (tag_from kind (w ++ (less_than_sign ∷ n)) (i ++ (less_than_sign ∷ n)))
tag-framed m n kind w i =
    named-framed m n kind w i (past is_in_name (i ++ (less_than_sign ∷ m)))
    (past is_in_name (i ++ (less_than_sign ∷ n))) (from_tag_end None (i ++ (less_than_sign ∷ m)))
    (from_tag_end None (i ++ (less_than_sign ∷ n))) (name-less None (i ++ (less_than_sign ∷ m)))
    (past-framed m n is_in_name i) (tag_end-framed m n None i)

left-framed : (m n : List ℕ) (kind : TokenKind) (w i e s t : List ℕ) → Framed m n s t
    → TokenFramed m n
    (record {
      kind = kind;
      from = w ++ (less_than_sign ∷ m);
      inside = i ++ (less_than_sign ∷ m);
      inside_end = e ++ (less_than_sign ∷ m);
      rest = s;
    })
    (record {
      kind = kind;
      from = w ++ (less_than_sign ∷ n);
      inside = i ++ (less_than_sign ∷ n);
      inside_end = e ++ (less_than_sign ∷ n);
      rest = t;
    })
left-framed m n kind w i e s t (within z) = alike kind w i e z
left-framed m n kind w i e s t (beyond _ _ h) = past_it _ _ h

closed-less : (kind : TokenKind) (from inside end : List ℕ) (k : ℕ)
    → length (closed kind from inside end k).rest ≤ length end
closed-less kind from inside [] k = omega (arith, length-drop {A = ℕ} k [])
closed-less kind from inside (b ∷ end) k = omega (arith, length-drop k (b ∷ end))

closed-framed : (m n : List ℕ) (kind : TokenKind) (w i : List ℕ) (k : ℕ) (s t : List ℕ) → Framed m n s t
    → TokenFramed m n (closed kind (w ++ (less_than_sign ∷ m)) (i ++ (less_than_sign ∷ m)) s k)
    (closed kind (w ++ (less_than_sign ∷ n)) (i ++ (less_than_sign ∷ n)) t k)
closed-framed m n kind w i k s t (within []) =
    left-framed m n kind w i [] (drop k (less_than_sign ∷ m)) (drop k (less_than_sign ∷ n)) (drop-framed m n k [])
closed-framed m n kind w i k s t (within (b ∷ e)) =
    left-framed m n kind w i (b ∷ e) (drop k (b ∷ (e ++ (less_than_sign ∷ m))))
    (drop k (b ∷ (e ++ (less_than_sign ∷ n)))) (drop-framed m n k (b ∷ e))
closed-framed m n kind w i k s t (beyond _ _ h) =
    past_it _ _ (omega (
      arith,
      h,
      closed-less kind (w ++ (less_than_sign ∷ m)) (i ++ (less_than_sign ∷ m)) s k,
    ))

if-shorter : (k : Bool) (s : List ℕ) → length (if k then s else []) ≤ length s
if-shorter true s = omega arith
if-shorter false s = omega arith

comment_end-framed : (m n s t : List ℕ) → Framed m n s t → Framed m n (comment_end s) (comment_end t)
comment_end-framed m n s t (beyond _ _ h) =
    beyond (comment_end s) (comment_end t)
    (omega (arith, h, if-shorter (starts_with nat_eq s (codes "-->")) s))
comment_end-framed m n s t (within z) = by (marked m n (codes "-->") z refl)
  where
    by : Marked m n (codes "-->") z
        → Framed m n (comment_end (z ++ (less_than_sign ∷ m))) (comment_end (z ++ (less_than_sign ∷ n)))
    by (differs p q) = rw (p, q) (beyond [] [] (omega arith))
    by (begins _ _ p q) = rw (p, q) (within z)

-- where each of two texts begins with a mark or neither does
by_mark : (m n mark z : List ℕ) {a b c d : PlacedToken} → Marked m n mark z
    → ((y : List ℕ) → z ≡ mark ++ y → TokenFramed m n a b) → TokenFramed m n c d
    → TokenFramed m n (if starts_with nat_eq (z ++ (less_than_sign ∷ m)) mark then a else c)
    (if starts_with nat_eq (z ++ (less_than_sign ∷ n)) mark then b else d)
by_mark m n mark z (differs p q) x y = rw (p, q) y
by_mark m n mark z (begins y s p q) x other = rw (p, q) (x y s)

declared-framed : (m n w z : List ℕ)
    → TokenFramed m n (declared_from (w ++ (less_than_sign ∷ m)) (z ++ (less_than_sign ∷ m)))
    (declared_from (w ++ (less_than_sign ∷ n)) (z ++ (less_than_sign ∷ n)))
declared-framed m n w z =
    by_mark m n (codes "--") z (marked m n (codes "--") z refl) comment
    (by_mark m n (codes "[CDATA[") z (marked m n (codes "[CDATA[") z refl) cdata
    (by_mark m n (codes "DOCTYPE") z (marked m n (codes "DOCTYPE") z refl) doctype (past_it _ _ (omega arith))))
  where
    s : List ℕ
    s = z ++ (less_than_sign ∷ m)

    t : List ℕ
    t = z ++ (less_than_sign ∷ n)

    comment : (y : List ℕ) → z ≡ codes "--" ++ y
        → TokenFramed m n
        (closed kinds.Comment (w ++ (less_than_sign ∷ m)) (drop 2 s) (comment_end (from_mark (codes "--") (drop 2 s))) 3)
        (closed kinds.Comment (w ++ (less_than_sign ∷ n)) (drop 2 t) (comment_end (from_mark (codes "--") (drop 2 t))) 3)
    comment y e =
        rw e (closed-framed m n kinds.Comment w y 3 (comment_end (from_mark (codes "--") (y ++ (less_than_sign ∷ m))))
        (comment_end (from_mark (codes "--") (y ++ (less_than_sign ∷ n))))
        (comment_end-framed m n (from_mark (codes "--") (y ++ (less_than_sign ∷ m)))
        (from_mark (codes "--") (y ++ (less_than_sign ∷ n))) (mark-framed m n (codes "--") y refl refl refl)))

    cdata : (y : List ℕ) → z ≡ codes "[CDATA[" ++ y
        → TokenFramed m n
        (closed kinds.Cdata (w ++ (less_than_sign ∷ m)) (drop 7 s) (from_mark (codes "]]>") (drop 7 s)) 3)
        (closed kinds.Cdata (w ++ (less_than_sign ∷ n)) (drop 7 t) (from_mark (codes "]]>") (drop 7 t)) 3)
    cdata y e =
        rw e (closed-framed m n kinds.Cdata w y 3 (from_mark (codes "]]>") (y ++ (less_than_sign ∷ m)))
        (from_mark (codes "]]>") (y ++ (less_than_sign ∷ n))) (mark-framed m n (codes "]]>") y refl refl refl))

    doctype : (y : List ℕ) → z ≡ codes "DOCTYPE" ++ y
        → TokenFramed m n
        (closed kinds.Doctype (w ++ (less_than_sign ∷ m)) s (from_end parts.Front (drop 7 s)) 1)
        (closed kinds.Doctype (w ++ (less_than_sign ∷ n)) t (from_end parts.Front (drop 7 t)) 1)
    doctype y e =
        rw e (closed-framed m n kinds.Doctype w (codes "DOCTYPE" ++ y) 1
        (from_end parts.Front (y ++ (less_than_sign ∷ m))) (from_end parts.Front (y ++ (less_than_sign ∷ n)))
        (doctype_end-framed m n parts.Front y))

if-framed-tokens : (m n : List ℕ) (k : Bool) {a b c d : PlacedToken} → TokenFramed m n a b
    → TokenFramed m n c d → TokenFramed m n (if k then a else c) (if k then b else d)
if-framed-tokens m n true x y = x
if-framed-tokens m n false x y = y

markup-framed : (m n w z : List ℕ)
    → TokenFramed m n (markup_from (w ++ (less_than_sign ∷ m)) (z ++ (less_than_sign ∷ m)))
    (markup_from (w ++ (less_than_sign ∷ n)) (z ++ (less_than_sign ∷ n)))
markup-framed m n w [] = tag-framed m n kinds.StartTag w []
markup-framed m n w (c ∷ z) =
    if-framed-tokens m n (c == slash) (tag-framed m n kinds.EndTag w z)
    (if-framed-tokens m n (c == exclamation_mark) (declared-framed m n w z)
    (if-framed-tokens m n (c == question_mark)
    (closed-framed m n kinds.Comment w z 2 (from_mark (codes "?>") (z ++ (less_than_sign ∷ m)))
    (from_mark (codes "?>") (z ++ (less_than_sign ∷ n))) (mark-framed m n (codes "?>") z refl refl refl))
    (tag-framed m n kinds.StartTag w (c ∷ z))))

text-framed : (m n w s t : List ℕ) → Framed m n s t
    → TokenFramed m n
    (record {
      kind = kinds.Text;
      from = w ++ (less_than_sign ∷ m);
      inside = w ++ (less_than_sign ∷ m);
      inside_end = s;
      rest = s;
    })
    (record {
      kind = kinds.Text;
      from = w ++ (less_than_sign ∷ n);
      inside = w ++ (less_than_sign ∷ n);
      inside_end = t;
      rest = t;
    })
text-framed m n w s t (within z) = alike kinds.Text w w z z
text-framed m n w s t (beyond _ _ h) = past_it _ _ h

token-framed : (m n : List ℕ) (b : ℕ) (z : List ℕ)
    → TokenFramed m n (token_from b (z ++ (less_than_sign ∷ m))) (token_from b (z ++ (less_than_sign ∷ n)))
unfolding token_from
token-framed m n b z =
    if-framed-tokens m n (b == less_than_sign) (markup-framed m n (b ∷ z) z)
    (text-framed m n (b ∷ z) (past is_in_text (z ++ (less_than_sign ∷ m)))
    (past is_in_text (z ++ (less_than_sign ∷ n))) (past-framed m n is_in_text z))

-- ---- what is read

-- the token that was found, or another
abbrev token_or : PlacedToken → Option (PlacedToken × List ℕ) → PlacedToken
token_or t None = t
token_or t (Some x) = x.0

first-same : (b : ℕ) (text : List ℕ) (t : PlacedToken) → next_token (b ∷ text) ≡ Some (t, t.rest)
    → t ≡ token_from b text
unfolding next_token
first-same b text t e = ap (token_or t) (sym e)

first-less : (b : ℕ) (text : List ℕ) (t : PlacedToken) → next_token (b ∷ text) ≡ Some (t, t.rest)
    → length t.rest ≤ length text
first-less b text t e =
    let one : PlacedToken = token_from b text in
    let same : t.rest ≡ one.rest = ap (λ (x : PlacedToken). x.rest) (first-same b text t e) in
    rw same (length-ends text one.rest (token-placed b text).ends)

next-less : (text : List ℕ) (t : PlacedToken) → next_token text ≡ Some (t, t.rest) → length t.rest ≤ length text
unfolding next_token
next-less [] t e = absurd (cc e)
next-less (b ∷ text) t e = omega (arith, first-less b text t e)

reads-less : (text rest : List ℕ) (found : List Said) → Reads text found rest → length rest ≤ length text
reads-less text rest found (reads_none _) = omega arith
reads-less text rest found (reads_one _ _ more t e r) =
    omega (arith, reads-less t.rest rest more r, next-less text t e)

next-is : (b : ℕ) (text : List ℕ) → next_token (b ∷ text) ≡ Some (token_from b text, (token_from b text).rest)
unfolding next_token
next-is b text = refl

-- One token: it is read of the other text too, and what follows it.
step : (m n text : List ℕ) (more : List Said) (t u : PlacedToken) → next_token text ≡ Some (u, u.rest)
    → TokenFramed m n t u → length (less_than_sign ∷ m) ≤ length t.rest
    → ((z : List ℕ) → t.rest ≡ z ++ (less_than_sign ∷ m) → Reads (z ++ (less_than_sign ∷ n)) more (less_than_sign ∷ n))
    → Reads text (said t ∷ more) (less_than_sign ∷ n)
step m n text more t u e (past_it _ _ h) less go = absurd (omega arith)
step m n text more t u e (alike kind w i f z) less go =
    let same = said-same m n kind w i f z in
    rw same (reads_one text (less_than_sign ∷ n) more u e (go z refl))

local : (m n text rest z : List ℕ) (found : List Said) → Reads text found rest
    → text ≡ z ++ (less_than_sign ∷ m) → rest ≡ less_than_sign ∷ m
    → Reads (z ++ (less_than_sign ∷ n)) found (less_than_sign ∷ n)
local m n text rest [] found (reads_none _) p q = reads_none (less_than_sign ∷ n)
local m n text rest (b ∷ z) found (reads_none _) p q =
    absurd (omega (arith, ap length p, ap length q, length-append z (less_than_sign ∷ m)))
local m n text rest [] found (reads_one _ _ more t e r) p q =
    let less : length t.rest ≤ length m = first-less less_than_sign m t (rw p at e) in
    absurd (omega (arith, less, ap length q, reads-less t.rest rest more r))
local m n text rest (b ∷ z) found (reads_one _ _ more t e r) p q =
    let same : t ≡ token_from b (z ++ (less_than_sign ∷ m)) =
    first-same b (z ++ (less_than_sign ∷ m)) t (rw p at e) in
    let few : length rest ≤ length t.rest = reads-less t.rest rest more r in
    let framed_token : TokenFramed m n t (token_from b (z ++ (less_than_sign ∷ n))) =
    rw same (token-framed m n b z) in
    step m n (b ∷ (z ++ (less_than_sign ∷ n))) more t (token_from b (z ++ (less_than_sign ∷ n)))
    (next-is b (z ++ (less_than_sign ∷ n))) framed_token (omega (arith, few, ap length q))
    (λ y f. local m n t.rest rest y more r f q)

pub markup-local : (front old new : List ℕ) (found : List Said)
    → Reads (front ++ (less_than_sign ∷ old)) found (less_than_sign ∷ old)
    → Reads (front ++ (less_than_sign ∷ new)) found (less_than_sign ∷ new)
markup-local front old new found r =
    local old new (front ++ (less_than_sign ∷ old)) (less_than_sign ∷ old) front found r refl refl

-- one run after another
reads-append : (text middle rest : List ℕ) (found more : List Said) → Reads text found middle
    → Reads middle more rest → Reads text (found ++ more) rest
reads-append text middle rest found more (reads_none _) r = r
reads-append text middle rest found more (reads_one _ _ others t e first) r =
    reads_one text rest (others ++ more) t e (reads-append t.rest middle rest others more first r)

pub edits-local : (front old new after rest : List ℕ) (found changed more : List Said)
    → Reads (front ++ (less_than_sign ∷ old)) found (less_than_sign ∷ old)
    → Reads (less_than_sign ∷ new) changed after → Reads after more rest
    → Reads (front ++ (less_than_sign ∷ new)) (found ++ (changed ++ more)) rest
edits-local front old new after rest found changed more before_it put after_it =
    reads-append (front ++ (less_than_sign ∷ new)) (less_than_sign ∷ new) rest found (changed ++ more)
    (markup-local front old new found before_it)
    (reads-append (less_than_sign ∷ new) after rest changed more put after_it)

-- Markup that ends before a place, or at it, does not depend on what follows the place.
use Rattle.std.proofs.Common.{◌≡◌, ℕ, zero, suc, ◌+◌, ◌<◌, ◌≤◌, ◌==◌, ◌&&◌, Bool, true, false, not, if◌then◌else◌, List, [], ◌∷◌, ◌++◌, length, drop, None, arith, refl, sym, ap, ◌∙◌, ◌⊎◌, length-append, length-drop, inl, inr, codes}
use Rattle.std.specs.List.{list_all}
use Rattle.std.specs.Char.{to_ascii_lowercase}
use Rattle.std.specs.Option.{is_some}
use Rattle.std.proofs.lemmas.Bool.{and_parts}
use Rattle.css_text.specs.AsciiBytes.{greater_than_sign, hyphen, slash, exclamation_mark, open_bracket}
use Rattle.css_text.specs.Reading.{before}
use Rattle.css_text.specs.Bytes.{past, starts, starts_by, starts_two}
use Rattle.css_text.specs.Characters.{is_letter}
use Rattle.css_text.proofs.reading.EndsLemmas.{length-ends}
use Rattle.css_html.specs.Marks.{is_in_name, past_letters, begins_close, ends_comment, from_comment_close, from_cdata_close}
use Rattle.css_html.specs.Attributes.{past_attributes}
use Rattle.css_html.specs.Tokens.{PlacedToken, framed, tag_end, tag_from, close_len, comment_from, is_not_close, up_to_close, begins_letters, begins_cdata, declared_from, closed_from, markup_from}
use Rattle.css_html.specs.declared.tokenizer.TokenKind.{TokenKind}
use Rattle.css_html.specs.declared.tokenizer.TokenKind.TheVariants as kinds
use Rattle.css_html.proofs.Placed.{past_attributes-ends}
use Rattle.css_html.proofs.Tiles.{comment_close-ends, cdata_close-ends, comment-placed, closed-placed, declared-placed}
use Rattle.css_html.proofs.Frames.{length-past, past-step}
use Rattle.css_html.proofs.TokenFrames.{before-same, section_from}
use Rattle.css_html.proofs.Closed.{Kept, kept, lost, past-any, past_attributes-kept, tag_end-lost, SameTag}

-- Two tokens of texts that are alike up to a place: they say the same and end before it or at it, or the
-- first ends beyond.
pub data Ended (r s : List ℕ) : PlacedToken → PlacedToken → Type 0 where
  ended : (kind : TokenKind) (w i e z : List ℕ) → Ended r s
      (record { kind = kind; from = w ++ r; inside = i ++ r; inside_end = e ++ r; rest = z ++ r })
      (record { kind = kind; from = w ++ s; inside = i ++ s; inside_end = e ++ s; rest = z ++ s })
  unclosed : (t u : PlacedToken) → length t.rest < length r → Ended r s t u

pub ended-same : (r s : List ℕ) (t u : PlacedToken) → Ended r s t u → t.rest ≡ r → SameTag r s t u
ended-same r s t u (ended kind w i e []) h = record {
  says = ap (λ (x : List ℕ). record { kind = kind; text = x; inside = before (i ++ r) (e ++ r) })
      (before-same w [] r s)
      ∙ ap (λ (x : List ℕ). record { kind = kind; text = before (w ++ s) s; inside = x })
      (before-same i e r s);
  left = refl;
}
ended-same r s t u (ended kind w i e (b ∷ z)) h = absurd (omega (arith, ap length h, length-append z r))
ended-same r s t u (unclosed _ _ l) h = absurd (omega (arith, l, ap length h))

if-ended : (r s : List ℕ) (k : Bool) {a b c d : PlacedToken} → Ended r s a b → Ended r s c d
    → Ended r s (if k then a else c) (if k then b else d)
if-ended r s true x y = x
if-ended r s false x y = y

if-both : (r s : List ℕ) (j k : Bool) {a b c d : PlacedToken} → j ≡ k → Ended r s a b → Ended r s c d
    → Ended r s (if j then a else c) (if k then b else d)
if-both r s j k e x y = rw e (if-ended r s k x y)

-- ---- what is no longer than what follows the place

drop-less : (k n : ℕ) (text : List ℕ) → length text ≤ n → 0 < n → 0 < k → length (drop k text) < n
drop-less k n text h l p = omega (arith, h, l, p, length-drop k text)

-- a tag whose name does not end before the place
pub tag-beyond : (r : List ℕ) (kind : TokenKind) (from name : List ℕ)
    → length (past is_in_name name) ≤ length r → 0 < length r
    → length (tag_from kind from name).rest < length r
unfolding tag_from
tag-beyond r kind from name h l =
    let end : List ℕ = past is_in_name name in
    tag_end-lost kind from name end (past_attributes end) r
    (omega (arith, h, length-ends end (past_attributes end) (past_attributes-ends end))) l

close-beyond : (r : List ℕ) (kind : TokenKind) (from inside : List ℕ)
    → length (past is_not_close inside) ≤ length r → 0 < length r
    → length (up_to_close kind from inside).rest < length r
close-beyond r kind from inside h l =
    drop-less 1 (length r) (past is_not_close inside) h l (omega arith)

-- it leaves less than this
record Leaves (n : ℕ) (t : PlacedToken) : Type 0 where
  pub less : length t.rest < n

if-less : (n : ℕ) (k : Bool) {a b : PlacedToken} → Leaves n a → Leaves n b → Leaves n (if k then a else b)
if-less n true x y = x
if-less n false x y = y

pub closed-beyond : (from r : List ℕ) → 0 < length r → length (closed_from from r).rest < length r
unfolding closed_from
closed-beyond from r l =
    (if-less (length r) (starts_by is_letter r)
    (record { less = tag-beyond r kinds.EndTag from r (length-past is_in_name r) l })
    (record {
      less = close-beyond r (if starts greater_than_sign r then kinds.Nothing else kinds.Comment) from r
          (length-past is_not_close r) l;
    })).less

cdata-less : (from inside : List ℕ) (n : ℕ) → length inside < n
    → length (framed kinds.Cdata from inside (from_cdata_close inside) 3).rest < n
cdata-less from inside n h =
    omega (
      arith,
      h,
      length-ends inside (from_cdata_close inside) (cdata_close-ends inside),
      length-drop 3 (from_cdata_close inside),
    )

-- a declaration in which no `>` comes before the place: this many bytes of it are before that
section-beyond : (r : List ℕ) (foreign : Bool) (from text : List ℕ)
    → length (past is_not_close text) ≤ length r → length text < 7 + length r → 0 < length r
    → length (section_from foreign from text).rest < length r
section-beyond r foreign from text h k l =
    (if-less (length r) (foreign && begins_cdata text)
    (record { less = cdata-less from (drop 7 text) (length r) (omega (arith, k, l, length-drop 7 text)) })
    (record { less = close-beyond r kinds.Comment from text h l })).less

-- what follows `<!` and is no comment
abbrev other_from : (foreign : Bool) (from text : List ℕ) → PlacedToken
other_from foreign from text =
    if begins_letters (codes "doctype") text then up_to_close kinds.Doctype from text
    else section_from foreign from text

other-beyond : (r : List ℕ) (foreign : Bool) (from text : List ℕ)
    → length (past is_not_close text) ≤ length r → length text < 7 + length r → 0 < length r
    → length (other_from foreign from text).rest < length r
other-beyond r foreign from text h k l =
    (if-less (length r) (begins_letters (codes "doctype") text)
    (record { less = close-beyond r kinds.Doctype from text h l })
    (record { less = section-beyond r foreign from text h k l })).less

declared-beyond : (r : List ℕ) (foreign : Bool) (from text : List ℕ)
    → length (past is_not_close text) ≤ length r → length text < 2 + length r → 0 < length r
    → length (declared_from foreign from text).rest < length r
unfolding declared_from
declared-beyond r foreign from text h k l =
    (if-less (length r) (starts_two hyphen hyphen text)
    (record { less = omega (arith, k, l, length-drop 2 text, comment-shorter (drop 2 text)) })
    (record { less = other-beyond r foreign from text h (omega (arith, k)) l })).less
  where
    comment-shorter : (inside : List ℕ) → length (comment_from from inside).rest ≤ length inside
    comment-shorter inside =
        length-ends inside (comment_from from inside).rest (comment-placed from inside).ends

pub markup-beyond : (foreign : Bool) (from r : List ℕ) → 0 < length r
    → length (markup_from foreign from r).rest < length r
markup-beyond foreign from [] l = absurd (omega arith)
markup-beyond foreign from (b ∷ r) l =
    let n : ℕ = length (b ∷ r) in
    (if-less n (is_letter b)
    (record { less = tag-beyond (b ∷ r) kinds.StartTag from (b ∷ r) (length-past is_in_name (b ∷ r)) l })
    (if-less n (b == slash)
    (record { less = omega (arith, length-ends r (closed_from from r).rest (closed-placed from r).ends) })
    (if-less n (b == exclamation_mark)
    (record {
      less = omega (
        arith,
        length-ends r (declared_from foreign from r).rest (declared-placed foreign from r).ends,
      );
    })
    (record {
      less = close-beyond (b ∷ r) kinds.Comment from (b ∷ r) (length-past is_not_close (b ∷ r)) l;
    })))).less

-- ---- tags

end-ended : (r s : List ℕ) (kind : TokenKind) (w i : List ℕ) (c : ℕ) (y d e : List ℕ) → 0 < length r
    → Kept r s d e
    → Ended r s (tag_end kind (w ++ r) (i ++ r) (c ∷ (y ++ r)) d)
    (tag_end kind (w ++ s) (i ++ s) (c ∷ (y ++ s)) e)
end-ended r s kind w i c y d e l (kept b z) = ended kind w i (c ∷ y) z
end-ended r s kind w i c y d e l (lost _ _ h) =
    unclosed _ _ (tag_end-lost kind (w ++ r) (i ++ r) (c ∷ (y ++ r)) d r h l)

name-ended : (r s : List ℕ) (kind : TokenKind) (w i d e : List ℕ) → 0 < length r → Kept r s d e
    → Ended r s (tag_end kind (w ++ r) (i ++ r) d (past_attributes d))
    (tag_end kind (w ++ s) (i ++ s) e (past_attributes e))
name-ended r s kind w i d e l (kept c y) =
    end-ended r s kind w i c y (past_attributes (c ∷ (y ++ r))) (past_attributes (c ∷ (y ++ s))) l
    (past_attributes-kept r s (c ∷ (y ++ r)) (c ∷ (y ++ s)) (kept c y))
name-ended r s kind w i d e l (lost _ _ h) =
    unclosed _ _ (tag_end-lost kind (w ++ r) (i ++ r) d (past_attributes d) r
    (omega (arith, h, length-ends d (past_attributes d) (past_attributes-ends d))) l)

pub tag-ended : (r s : List ℕ) (kind : TokenKind) (w i : List ℕ) → 0 < length r
    → Ended r s (tag_from kind (w ++ r) (i ++ r)) (tag_from kind (w ++ s) (i ++ s))
unfolding tag_from
tag-ended r s kind w i l =
    name-ended r s kind w i (past is_in_name (i ++ r)) (past is_in_name (i ++ s)) l
    (past-any r s is_in_name i)

-- ---- up to `>`

up-ended : (r s : List ℕ) (kind : TokenKind) (w i d e : List ℕ) → 0 < length r → Kept r s d e
    → Ended r s (framed kind (w ++ r) (i ++ r) d 1) (framed kind (w ++ s) (i ++ s) e 1)
up-ended r s kind w i d e l (kept b z) = ended kind w i (b ∷ z) z
up-ended r s kind w i d e l (lost _ _ h) = unclosed _ _ (drop-less 1 (length r) d h l (omega arith))

close-ended : (r s : List ℕ) (kind : TokenKind) (w i : List ℕ) → 0 < length r
    → Ended r s (up_to_close kind (w ++ r) (i ++ r)) (up_to_close kind (w ++ s) (i ++ s))
close-ended r s kind w i l =
    up-ended r s kind w i (past is_not_close (i ++ r)) (past is_not_close (i ++ s)) l
    (past-any r s is_not_close i)

-- ---- comments

-- a comment from where it is closed on
abbrev closed_comment : (from inside end : List ℕ) → PlacedToken
closed_comment from inside end = framed kinds.Comment from inside end (close_len end)

close_len-more : (end : List ℕ) → 3 ≤ close_len end
close_len-more end = by (begins_close end)
  where
    by : (k : Bool) → 3 ≤ (if k then 3 else 4)
    by true = omega arith
    by false = omega arith

-- closed with less than three bytes before the place
comment-late : (r from inside text : List ℕ) → length text < 3 + length r → 0 < length r
    → length (closed_comment from inside (from_comment_close text)).rest < length r
comment-late r from inside text h l =
    let end : List ℕ = from_comment_close text in
    omega (
      arith,
      h,
      l,
      length-ends text end (comment_close-ends text),
      length-drop (close_len end) end,
      close_len-more end,
    )

-- closed by `--!>`, whose last byte is beyond, or later
three-late : (r from inside : List ℕ) (a b c : ℕ) → begins_close (a ∷ b ∷ c ∷ r) ≡ false → 0 < length r
    → length (closed_comment from inside (from_comment_close (a ∷ b ∷ c ∷ r))).rest < length r
unfolding from_comment_close
three-late r from inside a b c e l = by (ends_comment (a ∷ b ∷ c ∷ r))
  where
    by : (k : Bool) → length (closed_comment from inside
        (if k then a ∷ b ∷ c ∷ r else from_comment_close (b ∷ c ∷ r))).rest < length r
    by true = rw e (drop-less 1 (length r) r (omega arith) l (omega arith))
    by false = comment-late r from inside (b ∷ c ∷ r) (omega arith) l

three-closed : (a b c : ℕ) (r : List ℕ) → begins_close (a ∷ b ∷ c ∷ r) ≡ true
    → from_comment_close (a ∷ b ∷ c ∷ r) ≡ a ∷ b ∷ c ∷ r
unfolding from_comment_close
three-closed a b c r e = rw e refl

three-ended : (r s w i : List ℕ) (a b c : ℕ) → 0 < length r
    → Ended r s (closed_comment (w ++ r) (i ++ r) (from_comment_close (a ∷ b ∷ c ∷ r)))
    (closed_comment (w ++ s) (i ++ s) (from_comment_close (a ∷ b ∷ c ∷ s)))
three-ended r s w i a b c l = by (begins_close (a ∷ b ∷ c ∷ r)) refl
  where
    by : (k : Bool) → begins_close (a ∷ b ∷ c ∷ r) ≡ k
        → Ended r s (closed_comment (w ++ r) (i ++ r) (from_comment_close (a ∷ b ∷ c ∷ r)))
        (closed_comment (w ++ s) (i ++ s) (from_comment_close (a ∷ b ∷ c ∷ s)))
    by true e =
        rw (three-closed a b c r e, three-closed a b c s e)
        (rw e (ended kinds.Comment w i (a ∷ b ∷ c ∷ []) []))
    by false e = unclosed _ _ (three-late r (w ++ r) (i ++ r) a b c e l)

comment_close-ended : (r s w i z : List ℕ) → 0 < length r
    → Ended r s (closed_comment (w ++ r) (i ++ r) (from_comment_close (z ++ r)))
    (closed_comment (w ++ s) (i ++ s) (from_comment_close (z ++ s)))
unfolding from_comment_close
comment_close-ended r s w i [] l = unclosed _ _ (comment-late r (w ++ r) (i ++ r) r (omega arith) l)
comment_close-ended r s w i (a ∷ []) l =
    unclosed _ _ (comment-late r (w ++ r) (i ++ r) (a ∷ r) (omega arith) l)
comment_close-ended r s w i (a ∷ b ∷ []) l =
    unclosed _ _ (comment-late r (w ++ r) (i ++ r) (a ∷ b ∷ r) (omega arith) l)
comment_close-ended r s w i (a ∷ b ∷ c ∷ []) l = three-ended r s w i a b c l
comment_close-ended r s w i (a ∷ b ∷ c ∷ d ∷ z) l =
    by (ends_comment (a ∷ b ∷ c ∷ d ∷ (z ++ r))) (begins_close (a ∷ b ∷ c ∷ d ∷ (z ++ r))) refl refl
    (comment_close-ended r s w i (b ∷ c ∷ d ∷ z) l)
  where
    one : List ℕ
    one = a ∷ b ∷ c ∷ d ∷ (z ++ r)

    two : List ℕ
    two = a ∷ b ∷ c ∷ d ∷ (z ++ s)

    by : (k j : Bool) → begins_close one ≡ j → begins_close two ≡ j
        → Ended r s (closed_comment (w ++ r) (i ++ r) (from_comment_close (b ∷ c ∷ d ∷ (z ++ r))))
        (closed_comment (w ++ s) (i ++ s) (from_comment_close (b ∷ c ∷ d ∷ (z ++ s))))
        → Ended r s (closed_comment (w ++ r) (i ++ r)
        (if k then one else from_comment_close (b ∷ c ∷ d ∷ (z ++ r))))
        (closed_comment (w ++ s) (i ++ s)
        (if k then two else from_comment_close (b ∷ c ∷ d ∷ (z ++ s))))
    by true true e f more = rw e (ended kinds.Comment w i (a ∷ b ∷ c ∷ d ∷ z) (d ∷ z))
    by true false e f more = rw e (ended kinds.Comment w i (a ∷ b ∷ c ∷ d ∷ z) z)
    by false j e f more = more

after-arrow : (r from inside text : List ℕ) → length text < 2 + length r → 0 < length r
    → length (if starts_two hyphen greater_than_sign inside then framed kinds.Comment from inside text 2
    else closed_comment from inside (from_comment_close text)).rest < length r
after-arrow r from inside text h l =
    (if-less (length r) (starts_two hyphen greater_than_sign inside)
    (record { less = omega (arith, h, l, length-drop 2 text) })
    (record { less = comment-late r from inside text (omega (arith, h)) l })).less

comment-beyond : (r from : List ℕ) → 0 < length r → length (comment_from from r).rest < length r
comment-beyond r from l =
    (if-less (length r) (starts greater_than_sign r)
    (record { less = drop-less 1 (length r) r (omega arith) l (omega arith) })
    (record { less = after-arrow r from r r (omega arith) l })).less

comment-ended : (r s w i : List ℕ) → 0 < length r
    → Ended r s (comment_from (w ++ r) (i ++ r)) (comment_from (w ++ s) (i ++ s))
comment-ended r s w [] l = unclosed _ _ (comment-beyond r (w ++ r) l)
comment-ended r s w (a ∷ []) l = by (a == greater_than_sign)
  where
    late : (t : List ℕ) → List ℕ → PlacedToken
    late t f =
        if starts_two hyphen greater_than_sign (a ∷ t) then framed kinds.Comment f (a ∷ t) (a ∷ t) 2
        else closed_comment f (a ∷ t) (from_comment_close (a ∷ t))

    by : (k : Bool) → Ended r s
        (if k then framed kinds.Comment (w ++ r) (a ∷ r) (a ∷ r) 1 else late r (w ++ r))
        (if k then framed kinds.Comment (w ++ s) (a ∷ s) (a ∷ s) 1 else late s (w ++ s))
    by true = ended kinds.Comment w (a ∷ []) (a ∷ []) []
    by false = unclosed _ _ (after-arrow r (w ++ r) (a ∷ r) (a ∷ r) (omega arith) l)
comment-ended r s w (a ∷ b ∷ z) l =
    if-ended r s (a == greater_than_sign) (ended kinds.Comment w (a ∷ b ∷ z) (a ∷ b ∷ z) (b ∷ z))
    (if-ended r s (a == hyphen && b == greater_than_sign)
    (ended kinds.Comment w (a ∷ b ∷ z) (a ∷ b ∷ z) z)
    (comment_close-ended r s w (a ∷ b ∷ z) (a ∷ b ∷ z) l))

-- ---- sections

-- closed with less than three bytes before the place
cdata-late : (r from inside text : List ℕ) → length text < 3 + length r → 0 < length r
    → length (framed kinds.Cdata from inside (from_cdata_close text) 3).rest < length r
cdata-late r from inside text h l =
    omega (
      arith,
      h,
      l,
      length-ends text (from_cdata_close text) (cdata_close-ends text),
      length-drop 3 (from_cdata_close text),
    )

cdata-ended : (r s w i z : List ℕ) → 0 < length r
    → Ended r s (framed kinds.Cdata (w ++ r) (i ++ r) (from_cdata_close (z ++ r)) 3)
    (framed kinds.Cdata (w ++ s) (i ++ s) (from_cdata_close (z ++ s)) 3)
unfolding from_cdata_close
cdata-ended r s w i [] l = unclosed _ _ (cdata-late r (w ++ r) (i ++ r) r (omega arith) l)
cdata-ended r s w i (a ∷ []) l = unclosed _ _ (cdata-late r (w ++ r) (i ++ r) (a ∷ r) (omega arith) l)
cdata-ended r s w i (a ∷ b ∷ []) l = unclosed _ _ (cdata-late r (w ++ r) (i ++ r) (a ∷ b ∷ r) (omega arith) l)
cdata-ended r s w i (a ∷ b ∷ c ∷ z) l =
    by ((a == 93 && b == 93) && c == greater_than_sign) (cdata-ended r s w i (b ∷ c ∷ z) l)
  where
    by : (k : Bool)
        → Ended r s (framed kinds.Cdata (w ++ r) (i ++ r) (from_cdata_close (b ∷ c ∷ (z ++ r))) 3)
        (framed kinds.Cdata (w ++ s) (i ++ s) (from_cdata_close (b ∷ c ∷ (z ++ s))) 3)
        → Ended r s (framed kinds.Cdata (w ++ r) (i ++ r)
        (if k then a ∷ b ∷ c ∷ (z ++ r) else from_cdata_close (b ∷ c ∷ (z ++ r))) 3)
        (framed kinds.Cdata (w ++ s) (i ++ s)
        (if k then a ∷ b ∷ c ∷ (z ++ s) else from_cdata_close (b ∷ c ∷ (z ++ s))) 3)
    by true more = ended kinds.Cdata w i (a ∷ b ∷ c ∷ z) z
    by false more = more

-- a text after so many bytes of what comes before the place
data Dropped (r s : List ℕ) : List ℕ → List ℕ → Type 0 where
  still : (z : List ℕ) → Dropped r s (z ++ r) (z ++ s)
  too_far : (p q : List ℕ) → length p < length r → Dropped r s p q

drop-any : (r s : List ℕ) (k : ℕ) (i : List ℕ) → 0 < length r
    → Dropped r s (drop k (i ++ r)) (drop k (i ++ s))
drop-any r s zero i l = still i
drop-any r s (suc k) [] l =
    too_far (drop (suc k) r) (drop (suc k) s) (drop-less (suc k) (length r) r (omega arith) l (omega arith))
drop-any r s (suc k) (b ∷ i) l = drop-any r s k i l

content-ended : (r s w p q : List ℕ) → Dropped r s p q → 0 < length r
    → Ended r s (framed kinds.Cdata (w ++ r) p (from_cdata_close p) 3)
    (framed kinds.Cdata (w ++ s) q (from_cdata_close q) 3)
content-ended r s w p q (still z) l = cdata-ended r s w z z l
content-ended r s w p q (too_far _ _ h) l = unclosed _ _ (cdata-less (w ++ r) p (length r) h)

-- the text begins with exactly these bytes
abbrev begins_exactly : (bytes text : List ℕ) → Bool
begins_exactly [] text = true
begins_exactly (c ∷ bytes) [] = false
begins_exactly (c ∷ bytes) (b ∷ text) = b == c && begins_exactly bytes text

abbrev cdata_bytes : List ℕ
cdata_bytes = 91 ∷ 67 ∷ 68 ∷ 65 ∷ 84 ∷ 65 ∷ 91 ∷ []

and-three : (a b c : Bool) → ((a && b) && c) ≡ (a && (b && c))
and-three true b c = refl
and-three false b c = refl

pair-none : (a c d : Bool) → (((a && false) && c) && d) ≡ (a && false)
pair-none true c d = refl
pair-none false c d = refl

cdata-exact : (text : List ℕ) → begins_cdata text ≡ begins_exactly cdata_bytes text
cdata-exact [] = refl
cdata-exact (a ∷ []) = by (a == 91)
  where
    by : (i : Bool) → ((((i && false) && false) && false) && false) ≡ (i && false)
    by true = refl
    by false = refl
cdata-exact (a ∷ b ∷ []) = by (a == 91) (b == 67)
  where
    by : (i j : Bool) → ((((i && j) && false) && false) && false) ≡ (i && (j && false))
    by true true = refl
    by true false = refl
    by false j = refl
cdata-exact (a ∷ b ∷ c ∷ []) = by (a == 91) (b == 67) (c == 68)
  where
    by : (i j k : Bool) → ((((i && j) && (k && false)) && false) && false) ≡ (i && (j && (k && false)))
    by true true true = refl
    by true true false = refl
    by true false k = refl
    by false j k = refl
cdata-exact (a ∷ b ∷ c ∷ d ∷ []) = by (a == 91) (b == 67) (c == 68) (d == 65)
  where
    by : (i j k m : Bool)
        → ((((i && j) && (k && m)) && false) && false) ≡ (i && (j && (k && (m && false))))
    by true true true true = refl
    by true true true false = refl
    by true true false m = refl
    by true false k m = refl
    by false j k m = refl
cdata-exact (a ∷ b ∷ c ∷ d ∷ e ∷ []) = by (a == 91) (b == 67) (c == 68) (d == 65) (e == 84)
  where
    by : (i j k m n : Bool) → ((((i && j) && (k && m)) && (n && false)) && false)
        ≡ (i && (j && (k && (m && (n && false)))))
    by true true true true true = refl
    by true true true true false = refl
    by true true true false n = refl
    by true true false m n = refl
    by true false k m n = refl
    by false j k m n = refl
cdata-exact (a ∷ b ∷ c ∷ d ∷ e ∷ f ∷ text) =
    by (a == 91) (b == 67) (c == 68) (d == 65) (e == 84) (f == 65) text
  where
    by : (i j k m n o : Bool) (rest : List ℕ)
        → ((((i && j) && (k && m)) && (n && o)) && starts open_bracket rest)
        ≡ (i && (j && (k && (m && (n && (o && begins_exactly (91 ∷ []) rest))))))
    by true true true true true true [] = refl
    by true true true true true true (g ∷ rest) = last (g == 91)
      where
        last : (x : Bool) → x ≡ (x && true)
        last true = refl
        last false = refl
    by true true true true true false rest = refl
    by true true true true false o rest = refl
    by true true true false n o rest = refl
    by true true false m n o rest = refl
    by true false k m n o rest = refl
    by false j k m n o rest = refl

-- What is asked of a text is the same of both, or all that comes before the place is a part of what is looked
-- for: less than this many bytes, and no `>`.
abbrev IsPart : (n : ℕ) → List ℕ → Type 0
IsPart n i = (list_all is_not_close i ≡ true) × (length i < n)

part-more : (n b : ℕ) (i : List ℕ) → is_not_close b ≡ true → IsPart n i → IsPart (suc n) (b ∷ i)
part-more n b i e h = (rw e h.0, omega (arith, h.1))

byte-open : (b c : ℕ) → (b == c) ≡ true → is_not_close c ≡ true → is_not_close b ≡ true
byte-open b c e h =
    let same : b ≡ c = grind (arith, e) in rw same h

exact-side : (r s bytes i : List ℕ) → list_all is_not_close bytes ≡ true
    → (begins_exactly bytes (i ++ r) ≡ begins_exactly bytes (i ++ s)) ⊎ IsPart (length bytes) i
exact-side r s [] i h = inl refl
exact-side r s (c ∷ bytes) [] h = inr (refl, omega arith)
exact-side r s (c ∷ bytes) (b ∷ i) h =
    let k = and_parts (is_not_close c) (list_all is_not_close bytes) h in
    by (b == c) refl k.0 (exact-side r s bytes i k.1)
  where
    by : (t : Bool) → (b == c) ≡ t → is_not_close c ≡ true
        → (begins_exactly bytes (i ++ r) ≡ begins_exactly bytes (i ++ s)) ⊎ IsPart (length bytes) i
        → ((t && begins_exactly bytes (i ++ r)) ≡ (t && begins_exactly bytes (i ++ s)))
        ⊎ IsPart (suc (length bytes)) (b ∷ i)
    by true e g (inl same) = inl same
    by true e g (inr part) = inr (part-more (length bytes) b i (byte-open b c e g) part)
    by false e g found = inl refl

lower-open : (b c : ℕ) → (to_ascii_lowercase b == c) ≡ true → is_not_close c ≡ true
    → is_not_close b ≡ true
lower-open b c e h = by (b == greater_than_sign) refl
  where
    by : (k : Bool) → (b == greater_than_sign) ≡ k → not k ≡ true
    by true f =
        let same : b ≡ greater_than_sign = grind (arith, f) in
        let found : (greater_than_sign == c) ≡ true = rw same at e in
        let close : c ≡ greater_than_sign = grind (arith, found) in
        absurd (cc (rw close at h))
    by false f = refl

letters-side : (r s letters i : List ℕ) → list_all is_not_close letters ≡ true
    → (begins_letters letters (i ++ r) ≡ begins_letters letters (i ++ s)) ⊎ IsPart (length letters) i
unfolding past_letters
letters-side r s [] i h = inl refl
letters-side r s (c ∷ letters) [] h = inr (refl, omega arith)
letters-side r s (c ∷ letters) (b ∷ i) h =
    let k = and_parts (is_not_close c) (list_all is_not_close letters) h in
    by (to_ascii_lowercase b == c) refl k.0 (letters-side r s letters i k.1)
  where
    by : (t : Bool) → (to_ascii_lowercase b == c) ≡ t → is_not_close c ≡ true
        → (begins_letters letters (i ++ r) ≡ begins_letters letters (i ++ s)) ⊎ IsPart (length letters) i
        → (is_some (if t then past_letters letters (i ++ r) else None)
        ≡ is_some (if t then past_letters letters (i ++ s) else None))
        ⊎ IsPart (suc (length letters)) (b ∷ i)
    by true e g (inl same) = inl same
    by true e g (inr part) = inr (part-more (length letters) b i (lower-open b c e g) part)
    by false e g found = inl refl

-- no `>` before the place
past-open : (r i : List ℕ) → list_all is_not_close i ≡ true
    → length (past is_not_close (i ++ r)) ≤ length r
past-open r [] h = length-past is_not_close r
past-open r (b ∷ i) h =
    let k = and_parts (is_not_close b) (list_all is_not_close i) h in
    rw (past-step is_not_close b (i ++ r), k.0) (past-open r i k.1)

section-ended : (r s : List ℕ) (foreign : Bool) (w i : List ℕ) → 0 < length r
    → Ended r s (section_from foreign (w ++ r) (i ++ r)) (section_from foreign (w ++ s) (i ++ s))
section-ended r s foreign w i l = by (exact-side r s cdata_bytes i refl)
  where
    by : (begins_exactly cdata_bytes (i ++ r) ≡ begins_exactly cdata_bytes (i ++ s))
        ⊎ IsPart (length cdata_bytes) i
        → Ended r s (section_from foreign (w ++ r) (i ++ r)) (section_from foreign (w ++ s) (i ++ s))
    by (inl same) =
        let e : begins_cdata (i ++ r) ≡ begins_cdata (i ++ s) =
        cdata-exact (i ++ r) ∙ same ∙ sym (cdata-exact (i ++ s)) in
        if-both r s (foreign && begins_cdata (i ++ r)) (foreign && begins_cdata (i ++ s))
        (ap (λ (k : Bool). foreign && k) e)
        (content-ended r s w (drop 7 (i ++ r)) (drop 7 (i ++ s)) (drop-any r s 7 i l) l)
        (close-ended r s kinds.Comment w i l)
    by (inr part) =
        unclosed _ _ (section-beyond r foreign (w ++ r) (i ++ r) (past-open r i part.0)
        (omega (arith, part.1, length-append i r)) l)

other-ended : (r s : List ℕ) (foreign : Bool) (w i : List ℕ) → 0 < length r
    → Ended r s (other_from foreign (w ++ r) (i ++ r)) (other_from foreign (w ++ s) (i ++ s))
other-ended r s foreign w i l = by (letters-side r s (codes "doctype") i refl)
  where
    by : (begins_letters (codes "doctype") (i ++ r) ≡ begins_letters (codes "doctype") (i ++ s))
        ⊎ IsPart (length (codes "doctype")) i
        → Ended r s (other_from foreign (w ++ r) (i ++ r)) (other_from foreign (w ++ s) (i ++ s))
    by (inl same) =
        if-both r s (begins_letters (codes "doctype") (i ++ r)) (begins_letters (codes "doctype") (i ++ s))
        same (close-ended r s kinds.Doctype w i l) (section-ended r s foreign w i l)
    by (inr part) =
        unclosed _ _ (other-beyond r foreign (w ++ r) (i ++ r) (past-open r i part.0)
        (omega (arith, part.1, length-append i r)) l)

declared-ended : (r s : List ℕ) (foreign : Bool) (w i : List ℕ) → 0 < length r
    → Ended r s (declared_from foreign (w ++ r) (i ++ r)) (declared_from foreign (w ++ s) (i ++ s))
unfolding declared_from
declared-ended r s foreign w [] l =
    unclosed _ _ (declared-beyond r foreign (w ++ r) r (length-past is_not_close r) (omega arith) l)
declared-ended r s foreign w (a ∷ []) l = by (a == hyphen) refl
  where
    by : (k : Bool) → (a == hyphen) ≡ k
        → Ended r s (declared_from foreign (w ++ r) (a ∷ r)) (declared_from foreign (w ++ s) (a ∷ s))
    by true e =
        unclosed _ _ (declared-beyond r foreign (w ++ r) (a ∷ r)
        (past-open r (a ∷ []) (rw (byte-open a hyphen e refl) refl)) (omega arith) l)
    by false e = rw e (other-ended r s foreign w (a ∷ []) l)
declared-ended r s foreign w (a ∷ b ∷ z) l =
    if-ended r s (a == hyphen && b == hyphen) (comment-ended r s w z l)
    (other-ended r s foreign w (a ∷ b ∷ z) l)

-- ---- all markup

closed-ended : (r s w i : List ℕ) → 0 < length r
    → Ended r s (closed_from (w ++ r) (i ++ r)) (closed_from (w ++ s) (i ++ s))
unfolding closed_from
closed-ended r s w [] l = unclosed _ _ (closed-beyond (w ++ r) r l)
closed-ended r s w (c ∷ i) l =
    if-ended r s (is_letter c) (tag-ended r s kinds.EndTag w (c ∷ i) l)
    (close-ended r s (if c == greater_than_sign then kinds.Nothing else kinds.Comment) w (c ∷ i) l)

-- what follows a `<`
pub markup-ended : (r s : List ℕ) (foreign : Bool) (w i : List ℕ) → 0 < length r
    → Ended r s (markup_from foreign (w ++ r) (i ++ r)) (markup_from foreign (w ++ s) (i ++ s))
markup-ended r s foreign w [] l = unclosed _ _ (markup-beyond foreign (w ++ r) r l)
markup-ended r s foreign w (b ∷ i) l =
    if-ended r s (is_letter b) (tag-ended r s kinds.StartTag w (b ∷ i) l)
    (if-ended r s (b == slash) (closed-ended r s w i l)
    (if-ended r s (b == exclamation_mark) (declared-ended r s foreign w i l)
    (close-ended r s kinds.Comment w (b ∷ i) l)))

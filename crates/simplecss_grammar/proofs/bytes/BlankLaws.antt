-- What the reader of a comment consumes is a comment, and what that of a blank consumes is the
-- longest front that is a blank.
-- Serves `simplecss_grammar::laws` (what a comment and a blank are).
use Rattle.std.proofs.Common.{◌≡◌, ℕ, zero, suc, ◌-◌, ◌<◌, ◌≤◌, ◌↔◌, List, [], ◌∷◌, ◌++◌, Bool, true, false, ◌==◌, if◌then◌else◌, length, drop, Option, Some, None, arith, refl, sym, ap, ◌∙◌, subst, append_assoc, length-append, length-take, eqb-true}
use Rattle.std.specs.List.{list_any}
use Rattle.std.specs.Option.{option_map}
use Rattle.std.proofs.lemmas.Bool.{and_parts, or_parts}
use Rattle.css_text.specs.AsciiBytes.{asterisk, slash}
use Rattle.css_text.specs.Reading.{no_comment, got, fails, and_then, up_to, each, before, Ends}
use Rattle.css_text.specs.Bytes.{starts_two, past_one, past_byte, closed_or}
use Rattle.css_text.specs.Characters.{is_space}
use Rattle.css_text.specs.Comments.{opens_comment, after_close, after_comment, comment, blank_part, past_blank, blank, has_space}
use Rattle.simplecss_grammar.specs.Blanks.{IsComment, IsBlank, IsComments}
use Rattle.simplecss_grammar.specs.Blanks.IsBlank.{empty, space_then, comment_then}
use Rattle.simplecss_grammar.specs.Blanks.IsComments.{none, comment_before}
use Rattle.css_text.proofs.reading.EachLemmas.{each-some, each-stops}
use Rattle.css_text.proofs.reading.TakesLemmas.{blank_part-takes, length-past_blank}
use Rattle.css_text.proofs.reading.EndsLemmas.{before-append, ends-append}
use Rattle.simplecss_grammar.proofs.reading.OccurrenceLemmas.{ends-past_blank}
use Rattle.css_text.proofs.bytes.GapLemmas.{no_space_after}

-- the two bytes that a text begins with
starts_two-reports : (one two : ℕ) (text : List ℕ) → starts_two one two text ≡ true
    → text ≡ one ∷ two ∷ drop 2 text
starts_two-reports one two [] e = absurd (cc)
starts_two-reports one two (b ∷ []) e = let both = and_parts (b == one) false e in absurd (cc)
starts_two-reports one two (b ∷ c ∷ text) e =
    let both = and_parts (b == one) (c == two) e in
    let first : b ≡ one = eqb-true b one both.0 in
    let second : c ≡ two = eqb-true c two both.1 in
    rw (first, second) refl

-- ---- what is inside a comment

-- before a `*/` that follows it none begins
abbrev IsInside : List ℕ → Type 0
IsInside inside = (k : ℕ) → k < length inside
    → starts_two asterisk slash (drop k (inside ++ (asterisk ∷ slash ∷ [])))
    ≡ false

-- whether a `*/` begins with a byte does not depend on what follows a later one
starts_two-close : (b : ℕ) (inside rest : List ℕ)
    → starts_two asterisk slash (b ∷ (inside ++ (asterisk ∷ slash ∷ rest)))
    ≡ starts_two asterisk slash (b ∷ (inside ++ (asterisk ∷ slash ∷ [])))
starts_two-close b [] rest = refl
starts_two-close b (c ∷ inside) rest = refl

after_close-inside : (inside rest : List ℕ) → IsInside inside
    → after_close (inside ++ (asterisk ∷ slash ∷ rest)) ≡ Some rest
after_close-inside [] rest h = refl
after_close-inside (b ∷ inside) rest h =
    let here : starts_two asterisk slash (b ∷ (inside ++ (asterisk ∷ slash ∷ rest)))
    ≡ false = starts_two-close b inside rest ∙ h 0 (omega arith) in
    rw here (after_close-inside inside rest (λ k l. h (suc k) (omega arith)))

-- the text is cut by its first `*/`
record IsClosed (text rest : List ℕ) : Type 0 where
  inside : List ℕ
  is : text ≡ inside ++ (asterisk ∷ slash ∷ rest)
  first : IsInside inside

inside-cons : (b : ℕ) (inside : List ℕ)
    → starts_two asterisk slash (b ∷ (inside ++ (asterisk ∷ slash ∷ []))) ≡ false
    → IsInside inside → IsInside (b ∷ inside)
inside-cons b inside here h zero l = here
inside-cons b inside here h (suc k) l = h k (omega arith)

closed-cons : (b : ℕ) (text rest : List ℕ) → starts_two asterisk slash (b ∷ text) ≡ false
    → IsClosed text rest → IsClosed (b ∷ text) rest
closed-cons b text rest here c = record {
  inside = b ∷ c.inside;
  is = ap (λ t. b ∷ t) c.is;
  first = inside-cons b c.inside (sym (starts_two-close b c.inside rest)
      ∙ ap (λ t. starts_two asterisk slash (b ∷ t)) (sym c.is) ∙ here) c.first;
}

after_close-reports : (text rest : List ℕ) → after_close text ≡ Some rest → IsClosed text rest
after_close-reports [] rest e = absurd (cc)
after_close-reports (b ∷ text) rest e = by (starts_two asterisk slash (b ∷ text)) refl e
    (after_close-reports text rest)
  where
    by : (t : Bool) → starts_two asterisk slash (b ∷ text) ≡ t
        → (if t then Some (past_one text) else after_close text) ≡ Some rest
        → (after_close text ≡ Some rest → IsClosed text rest) → IsClosed (b ∷ text) rest
    by true here f more =
        let cut : b ∷ text ≡ asterisk ∷ slash ∷ drop 1 text =
        starts_two-reports asterisk slash (b ∷ text) here in
        let tail : text ≡ slash ∷ drop 1 text = cc in
        let left : past_one text ≡ rest = cc in
        record {
          inside = [];
          is = cut ∙ ap (λ t. asterisk ∷ slash ∷ t) (sym (ap past_one tail) ∙ left);
          first = λ k l. absurd (omega (arith, l));
        }
    by false here f more = closed-cons b text rest here (more f)

-- ---- comments

-- a front of the text is one of these, and this is what follows it
record Front (P : List ℕ → Type 0) (text rest : List ℕ) : Type 0 where
  front : List ℕ
  cut : front ++ rest ≡ text
  is : P front

-- it is what is before the rest
front-before : (P : List ℕ → Type 0) (text rest : List ℕ) → Front P text rest
    → Ends text rest × P (before text rest)
front-before P text rest f =
    subst (λ (t : List ℕ). Ends t rest × P (before t rest)) f.cut
    (ends-append f.front rest, subst P (sym (before-append f.front rest)) f.is)

comment-append : (c rest : List ℕ) (h : IsComment c)
    → c ++ rest ≡ slash ∷ asterisk ∷ (h.inside ++ (asterisk ∷ slash ∷ rest))
comment-append c rest h = ap (λ t. t ++ rest) h.is
    ∙ ap (λ t. slash ∷ asterisk ∷ t) (append_assoc h.inside (asterisk ∷ slash ∷ []) rest)

-- a comment at the front of a text is read
comment-front : (c rest : List ℕ) → IsComment c → comment (c ++ rest) ≡ got (tt {0}) rest
unfolding comment
comment-front c rest h = rw (comment-append c rest h, after_close-inside h.inside rest h.first) refl

-- one that opens and is closed is a comment
after_comment-front : (text rest : List ℕ) → opens_comment text ≡ true
    → after_comment text ≡ Some rest → Front IsComment text rest
after_comment-front text rest o e =
    let c = after_close-reports (drop 2 text) rest e in
    record {
      front = slash ∷ asterisk ∷ (c.inside ++ (asterisk ∷ slash ∷ []));
      cut = ap (λ t. slash ∷ asterisk ∷ t)
          (append_assoc c.inside (asterisk ∷ slash ∷ []) rest ∙ sym c.is)
          ∙ sym (starts_two-reports slash asterisk text o);
      is = record { inside = c.inside; is = refl; first = c.first };
    }

comment-reports : (text rest : List ℕ) → comment text ≡ got (tt {0}) rest
    → Front IsComment text rest
unfolding comment
comment-reports text rest e = by (opens_comment text) (after_comment text) refl refl e
  where
    by : (t : Bool) (o : Option (List ℕ)) → opens_comment text ≡ t → after_comment text ≡ o
        → (if t then closed_or (no_comment text) o
        else fails (no_comment text) (past_byte slash text))
        ≡ got tt rest → Front IsComment text rest
    by true (Some left) f g h = let same : left
        ≡ rest = cc in after_comment-front text rest f (g ∙ ap Some same)
    by true None f g h = absurd (cc)
    by false o f g h = absurd (cc)

-- a comment is read exactly where what is consumed is a comment
pub comment-got : (text rest : List ℕ) → (comment text ≡ got (tt {0}) rest) ↔
    (Ends text rest × IsComment (before text rest))
comment-got text rest = (
  λ e. front-before IsComment text rest (comment-reports text rest e),
  λ (ends, c). subst (λ (t : List ℕ). comment t ≡ got (tt {0}) rest) ends
      (comment-front (before text rest) rest c),
)

-- ---- blanks

-- A part that was found is a part of a blank, and one of only comments if it is no space byte.
abbrev PartCut : List ℕ → Option (Bool × List ℕ) → Type 0
PartCut text None = Unit {0}
PartCut text (Some x) =
    (part : List ℕ) × (part ++ x.1 ≡ text) × ((rest : List ℕ) → IsBlank rest
    → IsBlank (part ++ rest)) × (x.0 ≡ false → (rest : List ℕ) → IsComments rest
    → IsComments (part ++ rest))

blank_part-cut : (text : List ℕ) → PartCut text (blank_part text)
blank_part-cut [] = tt
blank_part-cut (b ∷ text) = by (is_space b) (opens_comment (b ∷ text)) (after_comment (b ∷ text))
    refl refl refl
  where
    by : (s o : Bool) (c : Option (List ℕ)) → is_space b ≡ s → opens_comment (b ∷ text) ≡ o
        → after_comment (b ∷ text) ≡ c → PartCut (b ∷ text)
        (if s then Some (true, text) else
        (if o then option_map (λ rest. (false, rest)) c else None))
    by true o c e f g = (b ∷ [], refl, λ rest h. space_then b rest e h, λ no. absurd (cc))
    by false true None e f g = tt
    by false true (Some left) e f g =
        let c = after_comment-front (b ∷ text) left f g in (
          c.front,
          c.cut,
          λ rest h. comment_then c.front rest c.is h,
          λ no rest h. comment_before
              c.front rest c.is h,
        )
    by false false c e f g = tt

up_to-blank : (n : ℕ) (text : List ℕ) → Front IsBlank text (up_to n blank_part text).1
up_to-blank zero text = record { front = []; cut = refl; is = empty }
up_to-blank (suc n) text = by (blank_part text) (blank_part-cut text) (λ t. up_to-blank n t)
  where
    by : (o : Option (Bool × List ℕ)) → PartCut text o
        → ((t : List ℕ) → Front IsBlank t (up_to n blank_part t).1)
        → Front IsBlank text (and_then text o (up_to n blank_part)).1
    by None h more = record { front = []; cut = refl; is = empty }
    by (Some x) h more =
        let m = more x.1 in
        record {
          front = h.0 ++ m.front;
          cut = append_assoc h.0 m.front (up_to n blank_part x.1).1
              ∙ ap (λ t. h.0 ++ t) m.cut ∙ h.1;
          is = h.2 m.front m.is;
        }

past_blank-front : (text : List ℕ) → Front IsBlank text (past_blank text)
unfolding each
past_blank-front text = up_to-blank (length text) text

-- what a blank consumes is one
pub past_blank-cut : (text : List ℕ) → IsBlank (before text (past_blank text))
past_blank-cut text = (front-before IsBlank text (past_blank text) (past_blank-front text)).1

-- a space byte or a comment at the front of a text is a part of its blank
blank_part-space : (b : ℕ) (rest : List ℕ) → is_space b ≡ true
    → blank_part (b ∷ rest) ≡ Some (true, rest)
blank_part-space b rest e = rw e refl

blank_part-comment : (c rest : List ℕ) → IsComment c → blank_part (c ++ rest) ≡ Some (false, rest)
blank_part-comment c rest h = rw (comment-append c rest h, after_close-inside h.inside rest h.first)
    refl

past_blank-part : (text rest : List ℕ) (spaced : Bool) → blank_part text ≡ Some (spaced, rest)
    → past_blank text ≡ past_blank rest
past_blank-part text rest spaced e = ap (λ r. r.1)
    (each-some blank_part blank_part-takes text rest spaced e)

-- reading continues after any blank at the front as at its start
past_blank-after : {front : List ℕ} → IsBlank front → (rest : List ℕ)
    → past_blank (front ++ rest) ≡ past_blank rest
past_blank-after empty rest = refl
past_blank-after (space_then b more e h) rest = past_blank-part (b ∷ (more ++ rest)) (more ++ rest)
    true (blank_part-space b (more ++ rest) e) ∙ past_blank-after h rest
past_blank-after (comment_then c more i h) rest =
    ap past_blank (append_assoc c more rest) ∙ past_blank-part (c ++ (more ++ rest)) (more ++ rest)
    false (blank_part-comment c (more ++ rest) i) ∙ past_blank-after h rest

length-before : (text rest : List ℕ) → length (before text rest) ≡ length text - length rest
length-before text rest = omega (arith, length-take (length text - length rest) text)

-- no longer front is a blank
pub past_blank-longest : (text front rest : List ℕ) → text ≡ front ++ rest → IsBlank front
    → length front ≤ length (before text (past_blank text))
past_blank-longest text front rest e h =
    let same : past_blank text ≡ past_blank rest = ap past_blank e ∙ past_blank-after h rest in
    omega (
      arith,
      length-before text (past_blank text),
      ap length same,
      ap length e,
      length-append
          front rest,
      length-past_blank rest,
    )

-- ---- space bytes of a blank

abbrev any_space : List Bool × List ℕ → Bool
any_space r = list_any (λ is_space_byte. is_space_byte) r.0

up_to-comments : (n : ℕ) (text : List ℕ) → any_space (up_to n blank_part text) ≡ false
    → Front IsComments text (up_to n blank_part text).1
up_to-comments zero text e = record { front = []; cut = refl; is = none }
up_to-comments (suc n) text e = by (blank_part text) (blank_part-cut text) e
    (λ t. up_to-comments n t)
  where
    by : (o : Option (Bool × List ℕ)) → PartCut text o
        → any_space (and_then text o (up_to n blank_part)) ≡ false
        → ((t : List ℕ) → any_space (up_to n blank_part t) ≡ false
        → Front IsComments t (up_to n blank_part t).1)
        → Front IsComments text (and_then text o (up_to n blank_part)).1
    by None h f more = record { front = []; cut = refl; is = none }
    by (Some x) h f more =
        let no = or_parts x.0 (any_space (up_to n blank_part x.1)) f in
        let m = more x.1 no.1 in
        record {
          front = h.0 ++ m.front;
          cut = append_assoc h.0 m.front (up_to n blank_part x.1).1
              ∙ ap (λ t. h.0 ++ t) m.cut ∙ h.1;
          is = h.3 no.0 m.front m.is;
        }

has_space-none : (text : List ℕ) → has_space text ≡ false → Front IsComments text (past_blank text)
unfolding each
has_space-none text e = up_to-comments (length text) text e

has_space-after : {front : List ℕ} → IsComments front → (rest : List ℕ)
    → has_space (front ++ rest) ≡ has_space rest
has_space-after none rest = refl
has_space-after (comment_before c more i h) rest =
    ap has_space (append_assoc c more rest) ∙ ap any_space
    (each-some blank_part blank_part-takes (c ++ (more ++ rest)) (more ++ rest) false
    (blank_part-comment c (more ++ rest) i)) ∙ has_space-after h rest

-- a blank has no space byte exactly where what it consumes is cut into only comments
pub has_space-comments : (text : List ℕ) → (has_space text ≡ false) ↔ IsComments
    (before text (past_blank text))
has_space-comments text = (
  λ e. (front-before IsComments text (past_blank text) (has_space-none text e)).1,
  λ h. ap has_space (sym (ends-past_blank text)) ∙ has_space-after h (past_blank text)
      ∙ no_space_after text,
)

-- ---- an open comment after a blank

-- a comment that opens after a blank is not closed
pub blank-open : (text : List ℕ) → opens_comment (past_blank text) ≡ true
    → blank text ≡ comment (past_blank text)
unfolding blank comment
blank-open text o = rw o (by (past_blank text) (after_comment (past_blank text))
    (starts_two-reports slash asterisk (past_blank text) o) refl
    (each-stops blank_part blank_part-takes text))
  where
    by : (rest : List ℕ) (c : Option (List ℕ)) → rest ≡ slash ∷ asterisk ∷ drop 2 rest
        → after_comment rest ≡ c → blank_part rest ≡ None
        → fails (no_comment rest) [] ≡ closed_or (no_comment rest) c
    by rest None e f h = refl
    by rest (Some left) e f h =
        let found : blank_part rest ≡ Some (false, left) = ap blank_part e
        ∙ ap (option_map (λ left. (false, left))) f in
        absurd (cc)

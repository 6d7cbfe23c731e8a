-- Each piece of a page takes a byte or more.
-- Serves the loop over pieces.
use Rattle.std.proofs.Common.{ℕ, ◌≤◌, ◌==◌, Bool, true, false, if◌then◌else◌, List, [], ◌∷◌, length, drop, Option, Some, None, arith, length-drop}
use Rattle.css_text.specs.AsciiBytes.{greater_than_sign}
use Rattle.css_text.specs.Bytes.{past, after_byte, starts_by}
use Rattle.css_text.proofs.reading.EachLemmas.{Shrinks, Takes}
use Rattle.css_text.proofs.reading.EndsLemmas.{length-ends}
use Rattle.css_text.proofs.reading.TakesLemmas.{length-past}
use Rattle.css_html.specs.Marks.{less_than_sign, is_in_bare_value, begins_close}
use Rattle.css_html.specs.Attributes.{past_attributes}
use Rattle.css_html.proofs.Placed.{past_attributes-ends}
use Rattle.html_encodings.specs.declared.encoding.Encoding.{Encoding}
use Rattle.html_encodings.specs.Finding.{encoding_of_meta}
use Rattle.html_encodings.specs.Prescan.{after_comment, after_tag, naming, begins_meta, begins_tag, is_mark, begins_comment, marked_piece, next_piece}

-- what is left has at most `n` bytes
abbrev pub AtMost : ℕ → Option (List ℕ) → Type 0
AtMost n None = Unit {0}
AtMost n (Some rest) = length rest ≤ n

-- the same of what is left after a piece
abbrev pub LeavesAtMost : ℕ → Option (Option Encoding × List ℕ) → Type 0
LeavesAtMost n None = Unit {0}
LeavesAtMost n (Some x) = length x.1 ≤ n

more : (m n : ℕ) (o : Option (List ℕ)) → m ≤ n → AtMost m o → AtMost n o
more m n None l h = tt
more m n (Some rest) l h = omega arith

-- on both sides of a test
either : (n : ℕ) (t : Bool) (x y : Option (List ℕ)) → AtMost n x → AtMost n y
    → AtMost n (if t then x else y)
either n true x y a b = a
either n false x y a b = b

after_byte-leaves : (byte : ℕ) (text : List ℕ) → AtMost (length text) (after_byte byte text)
after_byte-leaves byte [] = tt
after_byte-leaves byte (b ∷ text) =
    either (length (b ∷ text)) (b == byte) (Some text) (after_byte byte text) (omega arith)
    (more (length text) (length (b ∷ text)) (after_byte byte text) (omega arith)
    (after_byte-leaves byte text))

after_comment-leaves : (text : List ℕ) → AtMost (length text) (after_comment text)
unfolding after_comment
after_comment-leaves [] = tt
after_comment-leaves (b ∷ text) =
    either (length (b ∷ text)) (begins_close (b ∷ text)) (Some (drop 3 (b ∷ text)))
    (after_comment text) (omega (arith, length-drop 3 (b ∷ text)))
    (more (length text) (length (b ∷ text)) (after_comment text) (omega arith)
    (after_comment-leaves text))

after_tag-leaves : (text : List ℕ) → AtMost (length text) (after_tag text)
after_tag-leaves text =
    more (length (past_attributes text)) (length text) (after_tag text)
    (length-ends text (past_attributes text) (past_attributes-ends text))
    (after_byte-leaves greater_than_sign (past_attributes text))

naming-leaves : (n : ℕ) (encoding : Option Encoding) (o : Option (List ℕ)) → AtMost n o
    → LeavesAtMost n (naming encoding o)
naming-leaves n encoding None h = tt
naming-leaves n encoding (Some rest) h = h

either-leaves : (n : ℕ) (t : Bool) (x y : Option (Option Encoding × List ℕ)) → LeavesAtMost n x
    → LeavesAtMost n y → LeavesAtMost n (if t then x else y)
either-leaves n true x y a b = a
either-leaves n false x y a b = b

dropped : (k : ℕ) (text : List ℕ) (o : Option (List ℕ)) → AtMost (length (drop k text)) o
    → AtMost (length text) o
dropped k text o h =
    more (length (drop k text)) (length text) o (omega (arith, length-drop k text)) h

marked_piece-leaves : (text : List ℕ) → LeavesAtMost (length text) (marked_piece text)
unfolding marked_piece
marked_piece-leaves text =
    either-leaves (length text) (begins_comment text) (naming None (after_comment (drop 1 text)))
    others
    (naming-leaves (length text) None (after_comment (drop 1 text))
    (dropped 1 text (after_comment (drop 1 text)) (after_comment-leaves (drop 1 text))))
    (either-leaves (length text) (begins_meta text)
    (naming (encoding_of_meta (drop 4 text)) (after_tag (drop 4 text))) tags
    (naming-leaves (length text) (encoding_of_meta (drop 4 text)) (after_tag (drop 4 text))
    (dropped 4 text (after_tag (drop 4 text)) (after_tag-leaves (drop 4 text))))
    (either-leaves (length text) (begins_tag text)
    (naming None (after_tag (past is_in_bare_value text))) marks
    (naming-leaves (length text) None (after_tag (past is_in_bare_value text))
    (more (length (past is_in_bare_value text)) (length text)
    (after_tag (past is_in_bare_value text)) (length-past is_in_bare_value text)
    (after_tag-leaves (past is_in_bare_value text))))
    (either-leaves (length text) (starts_by is_mark text)
    (naming None (after_byte greater_than_sign text)) (Some (None, text))
    (naming-leaves (length text) None (after_byte greater_than_sign text)
    (after_byte-leaves greater_than_sign text))
    (omega arith))))
  where
    marks : Option (Option Encoding × List ℕ)
    marks =
        if starts_by is_mark text then naming None (after_byte greater_than_sign text)
        else Some (None, text)

    tags : Option (Option Encoding × List ℕ)
    tags =
        if begins_tag text then naming None (after_tag (past is_in_bare_value text)) else marks

    others : Option (Option Encoding × List ℕ)
    others =
        if begins_meta text
        then naming (encoding_of_meta (drop 4 text)) (after_tag (drop 4 text)) else tags

shrinks : (b : ℕ) (text : List ℕ) (o : Option (Option Encoding × List ℕ))
    → LeavesAtMost (length text) o → Shrinks (b ∷ text) o
shrinks b text None h = tt
shrinks b text (Some x) h = omega arith

pub next_piece-takes : Takes next_piece
unfolding next_piece
next_piece-takes [] = tt
next_piece-takes (b ∷ text) =
    shrinks b text (if b == less_than_sign then marked_piece text else Some (None, text))
    (either-leaves (length text) (b == less_than_sign) (marked_piece text) (Some (None, text))
    (marked_piece-leaves text) (omega arith))

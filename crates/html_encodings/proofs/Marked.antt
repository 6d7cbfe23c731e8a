-- What a `<` begins, by what follows it.
-- Serves the reader of pieces.
use Rattle.std.proofs.Common.{◌≡◌, ℕ, true, false, List, drop, Some, None, refl}
use Rattle.css_text.specs.AsciiBytes.{greater_than_sign}
use Rattle.css_text.specs.Bytes.{past, after_byte, starts_by}
use Rattle.css_html.specs.Marks.{is_in_bare_value}
use Rattle.html_encodings.specs.Finding.{encoding_of_meta}
use Rattle.html_encodings.specs.Prescan.{after_comment, after_tag, naming, begins_meta, begins_tag, is_mark, begins_comment, marked_piece}

pub comment_marked : (text : List ℕ) → begins_comment text ≡ true
    → marked_piece text ≡ naming None (after_comment (drop 1 text))
unfolding marked_piece
comment_marked text c = rw c refl

pub meta_marked : (text : List ℕ) → begins_comment text ≡ false → begins_meta text ≡ true
    → marked_piece text ≡ naming (encoding_of_meta (drop 4 text)) (after_tag (drop 4 text))
unfolding marked_piece
meta_marked text c m = rw (c, m) refl

pub tag_marked : (text : List ℕ) → begins_comment text ≡ false → begins_meta text ≡ false
    → begins_tag text ≡ true
    → marked_piece text ≡ naming None (after_tag (past is_in_bare_value text))
unfolding marked_piece
tag_marked text c m t = rw (c, m, t) refl

pub mark_marked : (text : List ℕ) → begins_comment text ≡ false → begins_meta text ≡ false
    → begins_tag text ≡ false → starts_by is_mark text ≡ true
    → marked_piece text ≡ naming None (after_byte greater_than_sign text)
unfolding marked_piece
mark_marked text c m t k = rw (c, m, t, k) refl

pub none_marked : (text : List ℕ) → begins_comment text ≡ false → begins_meta text ≡ false
    → begins_tag text ≡ false → starts_by is_mark text ≡ false
    → marked_piece text ≡ Some (None, text)
unfolding marked_piece
none_marked text c m t k = rw (c, m, t, k) refl

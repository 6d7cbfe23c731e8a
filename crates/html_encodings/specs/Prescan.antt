-- The encoding that a `meta` in the front of a page names (HTML Standard, section 13.2.3.2, "prescan a byte stream to
-- determine its encoding"). A place is what is left of the front from there on; where the front ends in the midst
-- of something, nothing is named.
use Rattle.std.specs.Prelude.{ℕ, Bool, false, ◌&&◌, ◌||◌, ◌==◌, if◌then◌else◌, List, [], ◌∷◌, drop, codes, Option, Some, None, option_map}
use Rattle.css_text.specs.AsciiBytes.{exclamation_mark, hyphen, slash, greater_than_sign}
use Rattle.css_text.specs.Reading.{each}
use Rattle.css_text.specs.Bytes.{past, past_byte, after_byte, starts, starts_by, starts_two}
use Rattle.css_text.specs.Characters.{is_letter}
use Rattle.css_html.specs.Attributes.{past_attributes}
use Rattle.css_html.specs.Marks.{less_than_sign, question_mark, is_between, is_in_bare_value, past_letters, begins_close}
use Rattle.html_encodings.specs.declared.encoding.Encoding.{Encoding}
use Rattle.html_encodings.specs.Finding.{encoding_of_meta}

-- the rest after the first `-->`
unfoldable pub after_comment : List ℕ → Option (List ℕ)
after_comment [] = None
after_comment (b ∷ text) =
    if begins_close (b ∷ text) then Some (drop 3 (b ∷ text)) else after_comment text

-- the rest after the attributes of a tag and its `>`
abbrev pub after_tag : List ℕ → Option (List ℕ)
after_tag text = after_byte greater_than_sign (past_attributes text)

-- a rest before which this encoding was named, if there is one
abbrev pub naming : Option Encoding → Option (List ℕ) → Option (Option Encoding × List ℕ)
naming encoding rest = option_map (λ r. (encoding, r)) rest

-- a place was found, and a space byte or a slash is next
abbrev pub goes_on : Option (List ℕ) → Bool
goes_on None = false
goes_on (Some rest) = starts_by is_between rest

-- after `<`: the front of the tag of a `meta`
abbrev pub begins_meta : List ℕ → Bool
begins_meta text = goes_on (past_letters (codes "meta") text)

-- after `<`: a letter begins a tag, also after a slash
abbrev pub begins_tag : List ℕ → Bool
begins_tag text = starts_by is_letter (past_byte slash text)

-- `!`, a slash or `?`
abbrev pub is_mark : ℕ → Bool
is_mark b = b == exclamation_mark || b == slash || b == question_mark

-- after `<`: a comment, whose `-->` may have its hyphens in common with the `<!--`
abbrev pub begins_comment : List ℕ → Bool
begins_comment text = starts_two exclamation_mark hyphen text && starts hyphen (drop 2 text)

-- What a `<` before this text begins, with the encoding that it names. The name of a tag ends at a space byte or
-- a `>`.
unfoldable pub marked_piece : List ℕ → Option (Option Encoding × List ℕ)
marked_piece text =
    if begins_comment text then naming None (after_comment (drop 1 text))
    else (if begins_meta text then naming (encoding_of_meta (drop 4 text)) (after_tag (drop 4 text))
    else (if begins_tag text then naming None (after_tag (past is_in_bare_value text))
    else (if starts_by is_mark text then naming None (after_byte greater_than_sign text)
    else Some (None, text))))

-- the next piece of the front: what a `<` begins, or one byte
unfoldable pub next_piece : List ℕ → Option (Option Encoding × List ℕ)
next_piece [] = None
next_piece (b ∷ text) = if b == less_than_sign then marked_piece text else Some (None, text)

-- the first encoding of these that there is
unfoldable pub first_named : List (Option Encoding) → Option Encoding
first_named [] = None
first_named (None ∷ more) = first_named more
first_named (Some encoding ∷ more) = Some encoding

-- the encoding that the first `meta` names that names one
abbrev pub prescan : List ℕ → Option Encoding
prescan front = first_named (each next_piece front).0

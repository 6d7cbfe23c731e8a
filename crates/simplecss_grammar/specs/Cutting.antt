-- Where the statements of a text end, and what reading a text in pieces that are cut there means.
use Rattle.std.specs.Prelude.{◌≡◌, ℕ, List, [], ◌∷◌, ◌++◌, take, drop, map, Option, IsUtf8}
use Rattle.std.specs.List.{Contains}
use Rattle.std.specs.Option.{option_map}
use Rattle.css_text.specs.Reading.{each, rest_offset}
use Rattle.css_text.specs.Characters.{Edition}
use Rattle.simplecss_grammar.specs.Statements.{StyleRule, next_statement, kept}
use Rattle.simplecss_grammar.specs.Sheets.{sheet}

-- the rest after a blank and a statement, if the statements continue
abbrev pub after_statement : Edition → List ℕ → Option (List ℕ × List ℕ)
after_statement edition text =
    option_map (λ statement. (statement.1, statement.1)) (next_statement edition text)

-- The text is cut into blanks and statements, one after another. The rests after each of its
-- statements.
unfoldable pub rests_after : Edition → List ℕ → List (List ℕ)
rests_after edition text = (each (after_statement edition) text).0

-- the offsets at which the statements of a text end
abbrev pub statement_ends : Edition → List ℕ → List ℕ
statement_ends edition text = map (rest_offset text) (rests_after edition text)

-- a statement of the text ends at the offset
abbrev pub StatementEndsAt : Edition → List ℕ → ℕ → Type 0
StatementEndsAt edition text offset = Contains (statement_ends edition text) offset

-- The rules of the text are those of what precedes the offset, followed by those of what follows
-- it.
abbrev pub KeepsAcross : Edition → List ℕ → ℕ → Type 0
KeepsAcross edition text offset =
    kept edition text ≡ kept edition (take offset text) ++ kept edition (drop offset text)

-- A sheet had the rules `old`, then read `text`, and now has the rules `new`. If `old` are the
-- rules of some texts and of a prefix of a further one up to the end of one of its statements, and
-- `text` is the rest of that one, then `new` are the rules of those texts and of the whole further
-- one.
abbrev pub ContinuesReading : Edition → (old : List StyleRule) → (text : List ℕ)
    → (new : List StyleRule) → Type 0
ContinuesReading edition old text new =
    (texts : List (List ℕ)) (whole : List ℕ) (offset : ℕ)
    → IsUtf8 whole
    → StatementEndsAt edition whole offset
    → text ≡ drop offset whole
    → old ≡ sheet edition (texts ++ take offset whole ∷ [])
    → new ≡ sheet edition (texts ++ whole ∷ [])

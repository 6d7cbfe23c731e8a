-- The names of layers after `@layer` (CSS Cascading 5, section 6.4.2): names with dots between their parts
-- and no white space around these, and commas between them.
use Rattle.std.specs.Prelude.{ℕ, Bool, true, false, if◌then◌else◌, List, [], ◌∷◌, Option, Some, None}
use Rattle.css_text.specs.AsciiBytes.{comma}
use Rattle.css_text.specs.Reading.{before, each}
use Rattle.css_text.specs.Bytes.{past_byte, starts}
use Rattle.css_syntax.specs.Tokens.{past_comments, past_gap, past_word}
use Rattle.css_syntax.specs.Escapes.{decoded}
use Rattle.css_syntax.specs.Statements.{begins_ident}
use Rattle.css_cascade.specs.Layers.{LayerPart, named, anonymous}

-- the full stop
abbrev pub dot : ℕ
dot = 46

abbrev pub is_empty : List ℕ → Bool
is_empty [] = true
is_empty (b ∷ text) = false

-- a name that begins here, with its escapes decoded, and the rest
unfoldable pub name_part : List ℕ → Option (LayerPart × List ℕ)
name_part text =
    if begins_ident text
    then Some (named (decoded (before text (past_word text))), past_word text) else None

-- what is after a dot: a name
abbrev pub after_dot : List ℕ → Option (LayerPart × List ℕ)
after_dot text = if starts dot text then name_part (past_comments (past_byte dot text)) else None

-- a dot and a name, with comments before each, but no white space
unfoldable pub dotted_part : List ℕ → Option (LayerPart × List ℕ)
dotted_part text = after_dot (past_comments text)

abbrev pub then_dotted : Option (LayerPart × List ℕ) → Option (List LayerPart × List ℕ)
then_dotted None = None
then_dotted (Some first) = Some (first.0 ∷ (each dotted_part first.1).0, (each dotted_part first.1).1)

-- a name with all of its parts, and the rest
unfoldable pub layer_name : List ℕ → Option (List LayerPart × List ℕ)
layer_name text = then_dotted (name_part text)

-- after blanks a comma, and after blanks a name with all of its parts
unfoldable pub further_name : List ℕ → Option (List LayerPart × List ℕ)
further_name text =
    if starts comma (past_gap text) then layer_name (past_gap (past_byte comma (past_gap text)))
    else None

abbrev pub if_ended : (names : List (List LayerPart)) → (rest : List ℕ)
    → Option (List (List LayerPart))
if_ended names rest = if is_empty (past_gap rest) then Some names else None

abbrev pub then_further : Option (List LayerPart × List ℕ) → Option (List (List LayerPart))
then_further None = None
then_further (Some first) =
    if_ended (first.0 ∷ (each further_name first.1).0) (each further_name first.1).1

-- the names of a list, if the text is one
unfoldable pub layer_names : List ℕ → Option (List (List LayerPart))
layer_names text = then_further (layer_name text)

abbrev pub if_whole : Option (List LayerPart × List ℕ) → Option (List LayerPart)
if_whole None = None
if_whole (Some found) = if is_empty (past_gap found.1) then Some found.0 else None

-- The layer that a block with this prelude is in, which begins at this place: one name, or a new layer
-- without a name. None, if the prelude is neither.
unfoldable pub block_name : (prelude : List ℕ) → (place : List ℕ) → Option (List LayerPart)
block_name prelude place =
    if is_empty (past_gap prelude) then Some (anonymous place ∷ []) else if_whole (layer_name prelude)

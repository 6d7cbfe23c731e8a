-- What a text of a page stands for: newlines are normalized (HTML Standard, section 13.2.3.5), character
-- references are replaced, and U+0000 is U+FFFD (13.2.5) or left out (13.2.6.4.7).
use Rattle.std.specs.Prelude.{ℕ, Bool, true, false, ◌&&◌, ◌==◌, if◌then◌else◌, List, [], ◌∷◌, ◌++◌, Option, Some, None, encode_utf8}
use Rattle.css_text.specs.AsciiBytes.{newline, carriage_return}
use Rattle.css_text.specs.Reading.{each}
use Rattle.css_text.specs.Bytes.{past_byte}
use Rattle.css_html.specs.References.{replacement, reference}
use Rattle.css_html.specs.declared.decoding.TextKind.{TextKind}
use Rattle.css_html.specs.declared.decoding.TextKind.TheVariants.{Value, Text, Escapable, Raw}

-- `&`
abbrev pub ampersand : ℕ
ampersand = 38

-- what U+0000 stands for
abbrev pub nul_of : TextKind → List ℕ
nul_of Value = encode_utf8 replacement
nul_of Text = []
nul_of Escapable = encode_utf8 replacement
nul_of Raw = encode_utf8 replacement

-- the text may have character references
abbrev pub has_references : TextKind → Bool
has_references Value = true
has_references Text = true
has_references Escapable = true
has_references Raw = false

-- the text is the value of an attribute
abbrev pub is_value : TextKind → Bool
is_value Value = true
is_value Text = false
is_value Escapable = false
is_value Raw = false

-- an `&` that begins no reference is itself
abbrev pub or_ampersand : List ℕ → Option (List ℕ × List ℕ) → List ℕ × List ℕ
or_ampersand text None = (ampersand ∷ [], text)
or_ampersand text (Some x) = x

-- What a byte stands for, or the newline or the reference that begins with it, and the rest.
unfoldable pub part_at : TextKind → ℕ → List ℕ → List ℕ × List ℕ
part_at kind b text =
    if b == carriage_return then (newline ∷ [], past_byte newline text)
    else (if b == 0 then (nul_of kind, text)
    else (if b == ampersand && has_references kind
    then or_ampersand text (reference (is_value kind) text)
    else (b ∷ [], text)))

-- the next part: what it stands for, and the rest
abbrev pub next_part : TextKind → List ℕ → Option (List ℕ × List ℕ)
next_part kind [] = None
next_part kind (b ∷ text) = Some (part_at kind b text)

-- texts one after another
abbrev pub joined : List (List ℕ) → List ℕ
joined [] = []
joined (part ∷ parts) = part ++ joined parts

-- what a text stands for, part by part
unfoldable pub decoded : TextKind → List ℕ → List ℕ
decoded kind text = joined (each (next_part kind) text).0

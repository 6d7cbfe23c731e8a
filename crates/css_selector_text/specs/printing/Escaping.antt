-- The identifier that denotes a name, and the string that denotes a text, wherever they are written.
use Rattle.std.specs.Prelude.{◌≡◌, ℕ, ◌<◌, List, [], length}
use Rattle.css_syntax.specs.Escapes.{without_nul}
use Rattle.css_selector_text.specs.reading.Grammar.{ident_sequence, value}
use Rattle.css_selector_text.specs.printing.Printing.{identifier_text, string_text}
use Rattle.css_selector_text.specs.reading.Readings.{got}

-- "serialize an identifier" (CSSOM, "Common Serializing Idioms")
abbrev pub escaped : List ℕ → List ℕ
escaped name = identifier_text name

-- "serialize a string"
abbrev pub quoted : List ℕ → List ℕ
quoted text = string_text text

-- an identifier that is written for a name reads as it, whole
abbrev pub EscapedReadsBack : List ℕ → Type 0
EscapedReadsBack name =
    0 < length name → ident_sequence (escaped name) ≡ got (without_nul name) []

-- a string that is written for a text reads as it, whole
abbrev pub QuotedReadsBack : List ℕ → Type 0
QuotedReadsBack text = value (quoted text) ≡ got (without_nul text) []

-- The encoding of a page, and what says it (HTML Standard, section 13.2.3.2, "determining the character encoding").
use Rattle.std.specs.Prelude.{ℕ, List, ◌++◌, take, codes, Option, Some, None, option_map, unwrap_or, if◌then◌else◌, [], ◌∷◌}
use Rattle.std.specs.Option.{option_or}
use Rattle.html_encodings.specs.declared.encoding.Encoding.{Encoding}
use Rattle.html_encodings.specs.declared.encoding.Encoding.TheVariants.{Utf8, Utf16Be, Utf16Le, Windows1252}
use Rattle.html_encodings.specs.declared.page.Found.{Found}
use Rattle.html_encodings.specs.declared.page.Source.{Source}
use Rattle.html_encodings.specs.declared.page.Source.TheVariants.{Mark, Label, Declaration, Meta, Default}
use Rattle.css_text.specs.AsciiBytes.{tab}
use Rattle.html_encodings.specs.Labels.{name_of}
use Rattle.html_encodings.specs.Finding.{encoding_of_label}
use Rattle.html_encodings.specs.Prescan.{prescan}
use Rattle.html_encodings.specs.Declaration.{begins, wide_declaration, declared_encoding}

-- the encoding of the mark of the order of bytes at the start, if there is one
abbrev pub encoding_of_mark : List ℕ → Option Encoding
encoding_of_mark text =
    if begins (0xEF ∷ 0xBB ∷ 0xBF ∷ []) text then Some Utf8
    else (if begins (0xFE ∷ 0xFF ∷ []) text then Some Utf16Be
    else (if begins (0xFF ∷ 0xFE ∷ []) text then Some Utf16Le else None))

-- how many bytes of a page are looked at for what it says of itself
abbrev pub front_length : ℕ
front_length = 1024

-- an encoding that this says, if there is one
abbrev pub by : Source → Option Encoding → Option Found
by source encoding = option_map (λ e. record { source = source; encoding = e }) encoding

-- what a page says of itself in its front
abbrev pub said_in : List ℕ → Option Found
said_in front =
    option_or (by Declaration (wide_declaration front))
    (option_or (by Meta (prescan front)) (by Declaration (declared_encoding front)))

-- The encoding of a page: a mark is before the label that comes with the page, that before what the page says of
-- itself, and the default is windows-1252. A label of no encoding does not count.
abbrev pub found_of : (label page : List ℕ) → Found
found_of label page =
    unwrap_or (option_or (by Mark (encoding_of_mark page))
    (option_or (by Label (encoding_of_label label)) (said_in (take front_length page))))
    (record { source = Default; encoding = Windows1252 })

-- the word for what says it
abbrev pub source_word : Source → List ℕ
source_word Mark = codes "mark"
source_word Label = codes "label"
source_word Meta = codes "meta"
source_word Declaration = codes "declaration"
source_word Default = codes "default"

-- what says it, a tab and the encoding's name
abbrev pub line_of : Found → List ℕ
line_of found = source_word found.source ++ tab ∷ name_of found.encoding

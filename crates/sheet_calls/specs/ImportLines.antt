-- The `@import` rules of a sheet that are in force: of each a line of numbers, and its texts.
use Rattle.std.specs.Prelude.{ℕ, Bool, true, false}
use Rattle.std.specs.Prelude.{List, [], ◌∷◌, ◌++◌, length, map, decimal}
use Rattle.std.specs.List.{flat_map}
use Rattle.std.specs.Option.{is_some, unwrap_or}
use Rattle.css_sheet.specs.ImportRules.{ImportText, UrlText, quoted, bare}
use Rattle.css_sheet.specs.ImportRules.{ImportLayer, unlayered, layered, layered_as}
use Rattle.call_answers.specs.Numbers.{number_if}
use Rattle.call_answers.specs.PortTexts.{line, line_of}

-- whether a url is between quotes
abbrev pub is_string : UrlText → Bool
is_string (quoted text) = true
is_string (bare text) = false

abbrev pub url_text : UrlText → List ℕ
url_text (quoted text) = text
url_text (bare text) = text

-- 0 for no layer, 1 for one without a name, and 2 for the one of a name
abbrev pub layer_number : ImportLayer → ℕ
layer_number unlayered = 0
layer_number layered = 1
layer_number (layered_as name) = 2

-- the name of a layer, or nothing if it has none
abbrev pub layer_name : ImportLayer → List ℕ
layer_name unlayered = []
layer_name layered = []
layer_name (layered_as name) = name

-- the condition of an import, or nothing if it has none
abbrev pub condition : ImportText → List ℕ
condition one = unwrap_or one.supports []

-- Nine numbers of an import: the offset of its first byte, and how many it has; whether its url is
-- between quotes, and the length of that; which layer it has, and the length of the name; whether
-- it has a condition, and the length of that; and the length of its media queries.
abbrev pub import_numbers : ImportText → List ℕ
import_numbers one =
    one.start ∷ one.size ∷ number_if (is_string one.url) ∷ length (url_text one.url)
    ∷ layer_number one.layer ∷ length (layer_name one.layer) ∷ number_if (is_some one.supports)
    ∷ length (condition one) ∷ length one.media ∷ []

-- its url, the name of its layer, its condition and its media queries, one after another
abbrev pub import_texts : ImportText → List ℕ
import_texts one =
    url_text one.url ++ layer_name one.layer ++ condition one ++ one.media

-- its numbers on a line, and its texts on another
abbrev pub import_lines : ImportText → List ℕ
import_lines one = line_of (map decimal (import_numbers one)) ++ line (import_texts one)

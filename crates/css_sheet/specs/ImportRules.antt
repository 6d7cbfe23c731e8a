-- What an `@import` rule has (CSS Cascading 5, section 2): a url, a layer, a condition and media
-- queries.
use Rattle.std.specs.Prelude.{ℕ, Bool, not, ◌||◌, ◌&&◌, if◌then◌else◌, List, [], ◌∷◌, codes, Option, Some, None}
use Rattle.std.specs.Option.{is_some}
use Rattle.css_text.specs.AsciiBytes.{open_parenthesis, close_parenthesis}
use Rattle.css_text.specs.Reading.{before, each}
use Rattle.css_text.specs.Bytes.{past, past_byte, starts, starts_by}
use Rattle.css_text.specs.Characters.{is_space}
use Rattle.css_text.specs.Strings.{is_quote}
use Rattle.css_syntax.specs.Tokens.{past_gap, past_string_parts, past_url_parts, past_word, spells}
use Rattle.css_syntax.specs.ComponentValues.{component_value, deepest}
use Rattle.css_cascade.specs.LayerNames.{block_name, is_empty}

-- A url, with its escapes as written: what is between the quotes of a string, or what is in `url(..)`
-- that has no string, without blanks at either end.
pub data UrlText : Type 0 where
  quoted : (text : List ℕ) → UrlText
  bare : (text : List ℕ) → UrlText

-- The layer that the imported sheet is in: none, one without a name, or the one of a name.
pub data ImportLayer : Type 0 where
  unlayered : ImportLayer
  layered : ImportLayer
  layered_as : (name : List ℕ) → ImportLayer

-- An import: the offset of its first byte, and how many it has; the url; the layer; what is in the
-- parentheses of `supports(..)`, if that is there; and the list of media queries.
pub record ImportText : Type 0 where
  pub start : ℕ
  pub size : ℕ
  pub url : UrlText
  pub layer : ImportLayer
  pub supports : Option (List ℕ)
  pub media : List ℕ

-- ---- urls

-- the rest after the byte that closes something; the end of the text closes all
abbrev pub closed_by : ℕ → List ℕ → Option (List ℕ)
closed_by byte text =
    if is_empty text || starts byte text then Some (past_byte byte text) else None

abbrev pub with_rest : UrlText → Option (List ℕ) → Option (UrlText × List ℕ)
with_rest url None = None
with_rest url (Some rest) = Some (url, rest)

-- a string from after its quote, and the rest; none, if a newline is in it
abbrev pub string_url : ℕ → List ℕ → Option (UrlText × List ℕ)
string_url quote inside =
    with_rest (quoted (before inside (past_string_parts quote inside)))
    (closed_by quote (past_string_parts quote inside))

-- a string that begins here
abbrev pub string_here : List ℕ → Option (UrlText × List ℕ)
string_here [] = None
string_here (b ∷ text) = if is_quote b then string_url b text else None

-- a url without quotes, from its first byte
abbrev pub bare_url : List ℕ → Option (UrlText × List ℕ)
bare_url inside =
    with_rest (bare (before inside (past_url_parts inside)))
    (closed_by close_parenthesis (past is_space (past_url_parts inside)))

-- nothing but blanks follows a string in `url(..)`
abbrev pub then_closed : Option (UrlText × List ℕ) → Option (UrlText × List ℕ)
then_closed None = None
then_closed (Some found) = with_rest found.0 (closed_by close_parenthesis (past_gap found.1))

-- what is in `url(..)`, from after blanks
abbrev pub url_inside : List ℕ → Option (UrlText × List ℕ)
url_inside text = if starts_by is_quote text then then_closed (string_here text) else bare_url text

-- this word begins here
abbrev pub begins_word : (keyword : List ℕ) → List ℕ → Bool
begins_word keyword text = spells keyword (before text (past_word text))

-- the function of this name begins here
abbrev pub begins_function : (keyword : List ℕ) → List ℕ → Bool
begins_function keyword text = begins_word keyword text && starts open_parenthesis (past_word text)

-- from after the parenthesis of a function on
abbrev pub after_open : List ℕ → List ℕ
after_open text = past_byte open_parenthesis (past_word text)

-- a url that begins here, and the rest
unfoldable pub url_here : List ℕ → Option (UrlText × List ℕ)
url_here text =
    if starts_by is_quote text then string_here text
    else (if begins_function (codes "url") text then url_inside (past is_space (after_open text))
    else None)

-- ---- layers and conditions

-- a component value, unless the text or the parentheses end here
unfoldable pub value_part : List ℕ → Option (Unit {0} × List ℕ)
value_part text =
    if is_empty text || starts close_parenthesis text then None
    else Some (tt, (component_value deepest text).1)

-- the rest after component values up to a closing parenthesis
abbrev pub past_values : List ℕ → List ℕ
past_values text = (each value_part text).1

-- what is in the parentheses of a function, from its first byte that is no blank
abbrev pub arguments : List ℕ → List ℕ
arguments text = before (past_gap (after_open text)) (past_values (past_gap (after_open text)))

-- the rest after a function
abbrev pub after_function : List ℕ → List ℕ
after_function text = past_byte close_parenthesis (past_values (past_gap (after_open text)))

-- the text is the name of a layer
abbrev pub is_layer_name : List ℕ → Bool
is_layer_name text = not (is_empty text) && is_some (block_name text (0 ∷ 0 ∷ []))

-- `layer(..)`, and the rest; with what is no name of a layer it is one of the media queries
abbrev pub layer_function : List ℕ → ImportLayer × List ℕ
layer_function text =
    if is_layer_name (arguments text) then (layered_as (arguments text), after_function text)
    else (unlayered, text)

-- the layer that is named here, and the rest
unfoldable pub layer_here : List ℕ → ImportLayer × List ℕ
layer_here text =
    if begins_function (codes "layer") text then layer_function text
    else (if begins_word (codes "layer") text then (layered, past_word text) else (unlayered, text))

-- the condition `supports(..)`, if it is here, and the rest
unfoldable pub supports_here : List ℕ → Option (List ℕ) × List ℕ
supports_here text =
    if begins_function (codes "supports") text
    then (Some (arguments text), after_function text) else (None, text)

abbrev pub import_with : (start size : ℕ) → UrlText → ImportLayer → Option (List ℕ) × List ℕ
    → ImportText
import_with start size url layer supports = record {
  start = start;
  size = size;
  url = url;
  layer = layer;
  supports = supports.0;
  media = past_gap supports.1;
}

abbrev pub import_in : (start size : ℕ) → UrlText → ImportLayer × List ℕ → ImportText
import_in start size url layer =
    import_with start size url layer.0 (supports_here (past_gap layer.1))

-- the import that has this url, before what follows it
abbrev pub import_from : (start size : ℕ) → UrlText × List ℕ → ImportText
import_from start size found = import_in start size found.0 (layer_here (past_gap found.1))

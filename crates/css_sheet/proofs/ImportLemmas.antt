-- What is in urls and in functions is the front of what is left.
-- Serves `import_rules::{read_bare, past_values, read_function}`.
use Rattle.std.proofs.Common.{ℕ, ◌<◌, Bool, true, false, if◌then◌else◌, List, [], ◌∷◌, length, Some, None, arith}
use Rattle.css_text.specs.AsciiBytes.{close_parenthesis}
use Rattle.css_text.specs.Reading.{Ends}
use Rattle.css_text.specs.Bytes.{starts}
use Rattle.css_text.proofs.reading.EachLemmas.{Shrinks, Takes}
use Rattle.css_text.proofs.reading.WellLemmas.{WellFound, each-well}
use Rattle.css_syntax.specs.Tokens.{past_url_parts}
use Rattle.css_syntax.specs.ComponentValues.{component_value, deepest}
use Rattle.css_syntax.proofs.OpenBlocks.{value-within}
use Rattle.css_syntax.proofs.Utf8Ends.{url_parts-well, value-leaves_text}
use Rattle.css_sheet.specs.ImportRules.{value_part, past_values}

pub url_ends : (text : List ℕ) → Ends text (past_url_parts text)
url_ends text = (url_parts-well text).0

less : (b : ℕ) (text : List ℕ) → length (component_value deepest (b ∷ text)).1 < length (b ∷ text)
less b text = omega (arith, value-within deepest b text)

pub value_part-takes : Takes value_part
unfolding value_part
value_part-takes [] = tt
value_part-takes (b ∷ text) = by (starts close_parenthesis (b ∷ text))
  where
    by : (t : Bool) → Shrinks (b ∷ text)
        (if t then None else Some (tt {0}, (component_value deepest (b ∷ text)).1))
    by true = tt
    by false = less b text

pub value_part-well : (text : List ℕ) → WellFound text (value_part text)
unfolding value_part
value_part-well [] = tt
value_part-well (b ∷ text) = by (starts close_parenthesis (b ∷ text))
  where
    by : (t : Bool) → WellFound (b ∷ text)
        (if t then None else Some (tt {0}, (component_value deepest (b ∷ text)).1))
    by true = tt
    by false = value-leaves_text deepest (b ∷ text)

pub values_ends : (text : List ℕ) → Ends text (past_values text)
values_ends text = (each-well value_part value_part-well text).0

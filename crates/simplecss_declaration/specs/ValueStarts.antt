-- Where the value of a declaration begins and ends.
use Rattle.std.specs.Prelude.{ℕ, List, Option, None, Some}
use Rattle.std.specs.Str.{trim_start}
use Rattle.css_text.specs.Characters.{Edition}
use Rattle.css_text.specs.Reading.{Reading, got, fails}
use Rattle.simplecss_grammar.specs.Declarations.{stated_name, terms}

-- the rest after a name, without white space at its start
abbrev pub from_name : Reading (List ℕ) → Option (List ℕ)
from_name (got name rest) = Some (trim_start rest)
from_name (fails fault rest) = None

-- The rest of a text from the value of the declaration at its start on, if a name and a colon precede
-- one. (A value has no white space of Unicode at its start.)
abbrev pub value_from : Edition → List ℕ → Option (List ℕ)
value_from edition text = from_name (stated_name edition text)

-- the rest after the terms that follow a name, and the blank after them
abbrev pub past_terms : Edition → Reading (List ℕ) → Option (List ℕ)
past_terms edition (got name rest) = Some (terms edition rest).1
past_terms edition (fails fault rest) = None

-- The rest after the value of the declaration at the start of a text, and the blank after the value, if
-- a name and a colon precede one. Of a string or a function that is not closed it is the text.
abbrev pub value_end : Edition → List ℕ → Option (List ℕ)
value_end edition text = past_terms edition (stated_name edition text)

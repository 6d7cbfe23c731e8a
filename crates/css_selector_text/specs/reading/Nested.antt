-- The selectors of a nested rule (CSS Nesting 1, sections 3 and 3.1): each may be relative, and `&`
-- stands for the list of the rule around it.
use Rattle.std.specs.Prelude.{ℕ, Bool, ◌||◌, ◌==◌, nat_lt, if◌then◌else◌, List, [], ◌∷◌, ◌++◌, length, map, Option, None, Some}
use Rattle.std.specs.List.{list_any}
use Rattle.std.specs.Option.{is_some}
use Rattle.css_text.specs.Reading.{each}
use Rattle.css_syntax.specs.Tokens.{token}
use Rattle.css_selector_text.specs.declared.components.Nesting.{Nesting}
use Rattle.css_selector_text.specs.declared.reading.Start.TheVariants.{Relative}
use Rattle.css_selector_text.specs.Components.{Simple, Part, Selector, Placed, outermost}
use Rattle.css_selector_text.specs.Components.Simple.{nesting}
use Rattle.css_selector_text.specs.reading.Grammar.{ampersand, first_sign, nesting_part, placed_list_by}
use Rattle.css_selector_text.specs.reading.Readings.{Reading, got, refused, Reader}
use Rattle.css_selector_text.specs.Simples.{selector_with_each}
use Rattle.css_selector_text.specs.reading.Supported.{supported_readings}
use Rattle.css_selector_text.specs.reading.Defaults.{in_default}
use Rattle.css_selector_text.specs.Names.{Names}

-- ---- whether there is an `&`

-- the next token, unless no more than so much is left: whether it is an `&`, and the rest
unfoldable pub token_before : ℕ → List ℕ → Option (Bool × List ℕ)
token_before left [] = None
token_before left (b ∷ text) =
    if nat_lt left (length (b ∷ text)) then Some (b == ampersand, (token (b ∷ text)).1) else None

-- Whether one of the tokens of a text is an `&`, up to where this is left of it. One in a string, a url, a
-- comment or an escape is no token.
abbrev pub has_ampersand : (text : List ℕ) → (left : List ℕ) → Bool
has_ampersand text left = list_any (λ is_ampersand. is_ampersand) (each (token_before (length left)) text).0

-- Whether there is an `&` in a selector, also in brackets: in a selector of a forgiving list that is invalid
-- and left out, too. Before a combinator at the start one was read.
abbrev pub has_nesting : Placed → Bool
has_nesting p = is_some (first_sign p.from) || has_ampersand p.from p.to

-- ---- what the selectors are

-- `&` as a compound selector, where a default namespace may be declared
abbrev pub nesting_in : Names → Nesting → List Part
nesting_in names list = in_default names.default_namespace (nesting_part list ∷ [])

-- A selector without an `&` is joined to one before it as a descendant.
abbrev pub absolute_by : (has_one : Bool) → Names → Selector → Selector
absolute_by has_one names s =
    if has_one then s
    else record { parts = nesting_in names outermost ++ s.parts; pseudo_element = s.pseudo_element }

abbrev pub absolute : Names → Placed → Selector
absolute names p = absolute_by (has_nesting p) names p.selector

-- `&` stands for the list
abbrev pub simple_under : Nesting → Simple → Simple
simple_under list (nesting other) = nesting list
simple_under list s = s

abbrev pub selector_under : Nesting → Selector → Selector
selector_under list s = selector_with_each (simple_under list) s

-- what a relative selector is in a rule whose parent has this list
abbrev pub nested_selector : Names → Nesting → Placed → Selector
nested_selector names list p = selector_under list (absolute names p)

abbrev pub nested : Names → Nesting → Placed → Placed
nested names list p = record {
  selector = nested_selector names list p;
  from = p.from;
  element = p.element;
  to = p.to;
}

abbrev pub nested_readings : Names → Nesting → Reading (List Placed) → Reading (List Placed)
nested_readings names list (got all rest) = got (map (nested names list) all) rest
nested_readings names list (refused why rest) = refused why rest

-- a text that is the list of a nested rule, under a rule with this list
abbrev pub nested_list : Names → Nesting → Reader (List Placed)
nested_list names list text = nested_readings names list (placed_list_by names Relative text)

-- and all its selectors have a meaning
abbrev pub supported_nested_list : Names → Nesting → Reader (List Selector)
supported_nested_list names list text = supported_readings (nested_list names list text)

-- Component values one after another, up to a byte that ends them outside brackets.
use Rattle.std.specs.Prelude.{ℕ, Bool, true, ◌||◌, ◌&&◌, ◌==◌, if◌then◌else◌, List, [], ◌∷◌, map, Option, Some, None}
use Rattle.css_text.specs.AsciiBytes.{comma, exclamation_mark, semicolon, open_brace, close_brace}
use Rattle.css_text.specs.Reading.{each, before, last_or}
use Rattle.css_syntax.specs.declared.quality.Quality.{Quality}
use Rattle.css_syntax.specs.declared.parts.Stops.{Stops}
use Rattle.css_syntax.specs.Qualities.{flaw_of_all}
use Rattle.css_syntax.specs.Tokens.{past_gap, is_closer}
use Rattle.css_syntax.specs.ComponentValues.{deepest, component_value}

-- one of the bytes at which these parts end
abbrev pub stops_at : Stops → ℕ → Bool
stops_at stops b =
    if b == semicolon then stops.semicolon
    else (if b == open_brace then stops.open_brace
    else (if b == close_brace then stops.close_brace
    else (if b == comma then stops.comma
    else (stops.in_value && (b == exclamation_mark || is_closer b)))))

-- the text ends, or the parts do
abbrev pub ends_at : Stops → List ℕ → Bool
ends_at stops [] = true
ends_at stops (b ∷ text) = stops_at stops b

-- a part: its quality and the rest after it, and the rest after the blank that follows
abbrev pub with_gap : Quality × List ℕ → (Quality × List ℕ) × List ℕ
with_gap part = (part, past_gap part.1)

abbrev pub part : Stops → List ℕ → Option ((Quality × List ℕ) × List ℕ)
part stops text =
    if ends_at stops text then None else Some (with_gap (component_value deepest text))

-- Parts that were read: their text, without blanks at its end, and the first flaw of all.
pub record Stated : Type 0 where
  pub text : List ℕ
  pub quality : Quality

-- the parts at the start, and the rest
unfoldable pub parts : Stops → List ℕ → Stated × List ℕ
parts stops text =
    let found = each (part stops) text in (
      record {
        text = before text (last_or text (map (λ one. one.1) found.0));
        quality = flaw_of_all (map (λ one. one.0) found.0);
      },
      found.1,
    )

-- Component values (CSS Syntax 3, section 5.4.7): a token, or brackets with component values in
-- them.
use Rattle.std.specs.Prelude.{ℕ, zero, suc, Bool, ◌||◌, ◌==◌, if◌then◌else◌, List, [], ◌∷◌, length, Option, Some, None}
use Rattle.css_text.specs.AsciiBytes.{open_parenthesis, close_parenthesis, open_bracket, close_bracket, open_brace, close_brace}
use Rattle.css_text.specs.Reading.{each}
use Rattle.css_text.specs.Bytes.{past_byte}
use Rattle.css_syntax.specs.declared.quality.Quality.{Quality}
use Rattle.css_syntax.specs.declared.quality.Quality.TheVariants.{Whole, Open, TooDeep}
use Rattle.css_syntax.specs.Qualities.{first_flaw, flaw_of_all}
use Rattle.css_syntax.specs.Tokens.{is_closer, token}

-- an opening bracket
abbrev pub is_opener : ℕ → Bool
is_opener b = b == open_parenthesis || b == open_bracket || b == open_brace

-- the bracket that closes what this one opens
abbrev pub mirror : ℕ → ℕ
mirror b =
    if b == open_parenthesis then close_parenthesis
    else (if b == open_bracket then close_bracket else close_brace)

-- How many brackets may be open at once. One more makes what they are in bad: up to where it closes
-- brackets are only counted. (The standard has no limit.)
abbrev pub deepest : ℕ
deepest = 64

-- a component value, if neither the text nor the block ends here
abbrev pub value_inside : (List ℕ → Quality × List ℕ) → ℕ → List ℕ → Option (Quality × List ℕ)
value_inside read closer [] = None
value_inside read closer (b ∷ text) = if b == closer then None else Some (read (b ∷ text))

-- a block is open, if the text ends in it
abbrev pub end_quality : List ℕ → Quality
end_quality [] = Open
end_quality (b ∷ text) = Whole

-- A simple block (section 5.4.8), from after its opening bracket: component values up to the
-- bracket that closes it, which is consumed, or to the end of the text. The first flaw of all, and
-- the rest.
unfoldable pub block_of : (List ℕ → Quality × List ℕ) → ℕ → List ℕ → Quality × List ℕ
block_of read closer text =
    let inside = each (value_inside read closer) text in
    (first_flaw (flaw_of_all inside.0) (end_quality inside.1), past_byte closer inside.1)

-- a component value, by what reads a block
abbrev pub value_by : (ℕ → List ℕ → Quality × List ℕ) → List ℕ → Quality × List ℕ
value_by block [] = (Whole, [])
value_by block (b ∷ text) = if is_opener b then block (mirror b) text else token (b ∷ text)

-- The rest after what is nested too deep, where `depth` brackets of it are open: a closing bracket of
-- any kind closes the last. Reading takes at most as many steps as the text has bytes.
unfoldable pub past_open : (steps depth : ℕ) → List ℕ → List ℕ
past_open zero depth text = text
past_open (suc n) zero text = text
past_open (suc n) (suc depth) [] = []
past_open (suc n) (suc depth) (b ∷ text) =
    if is_opener b then past_open n (suc (suc depth)) text
    else (if is_closer b then past_open n depth text
    else past_open n (suc depth) (token (b ∷ text)).1)

-- the same from after its opening bracket
abbrev pub past_deep : List ℕ → List ℕ
past_deep text = past_open (length text) 1 text

-- The component value at the start, with brackets nested at most `n` deep: its quality, and the
-- rest.
unfoldable pub component_value : ℕ → List ℕ → Quality × List ℕ
component_value zero text = value_by (λ closer rest. (TooDeep, past_deep rest)) text
component_value (suc n) text = value_by (block_of (component_value n)) text

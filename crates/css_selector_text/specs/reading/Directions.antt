-- The directions that `:dir()` tests (Selectors 4, section 7.1).
use Rattle.std.specs.Prelude.{List, ℕ, Option, None, Some, codes, if◌then◌else◌}
use Rattle.css_syntax.specs.Tokens.{spells}
use Rattle.css_selector_text.specs.reading.Grammar.{is_word}

-- The state of an element with a direction: `ltr` or `rtl`, in either case and whatever escapes spell it. An
-- element is in no other.
abbrev pub direction_named : List ℕ → Option (List ℕ)
direction_named argument =
    if spells (codes "ltr") argument then Some (codes "dir(ltr)")
    else (if spells (codes "rtl") argument then Some (codes "dir(rtl)") else None)

-- the state that a pseudo-class with an argument tests, if it is `:dir()` with a direction
abbrev pub direction_state : (name argument : List ℕ) → Option (List ℕ)
direction_state name argument =
    if is_word (codes "dir") name then direction_named argument else None

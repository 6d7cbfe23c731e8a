-- Selectors under a scope.
use Rattle.std.specs.Prelude.{ℕ, Bool, true, false, not, ◌||◌, ◌&&◌, ◌==◌, if◌then◌else◌, List, [], ◌∷◌, drop, Option, Some, None}
use Rattle.std.specs.Option.{is_some}
use Rattle.css_text.specs.AsciiBytes.{comma, space, backslash}
use Rattle.css_text.specs.Reading.{each}
use Rattle.css_text.specs.Bytes.{is_within, past_byte, past_one, starts, starts_by, starts_two}
use Rattle.css_syntax.specs.declared.parts.Stops.{Stops}
use Rattle.css_syntax.specs.Qualities.{is_whole}
use Rattle.css_syntax.specs.Tokens.{past_gap}
use Rattle.css_syntax.specs.Parts.{Stated, ends_at, parts}
use Rattle.css_syntax.specs.Statements.{begins_ident}
use Rattle.css_syntax.specs.DeclarationLists.{is_empty}
use Rattle.css_selector_text.specs.Components.{Selector}
use Rattle.css_selector_text.specs.Names.{no_names}
use Rattle.css_selector_text.specs.reading.Grammar.{placed_list}
use Rattle.clean_values.specs.Selectors.{is_selector_named}
use Rattle.css_clean.specs.Scopes.{compound_read, is_read_under}
use Rattle.css_clean.specs.Policies.{PolicyText, is_safe_byte, in_selector, in_scope, tokens_allowed}

-- What is allowed in a sheet: what is allowed of declarations; the selector under which all selectors
-- are, and whether a selector may be that one itself; pseudo-classes and pseudo-elements by their names;
-- the words of media queries, and the names of other at-rules after `@`.
pub record SheetPolicyText : Type 0 where
  pub declarations : PolicyText
  pub scope : List ℕ
  pub itself : Bool
  pub pseudos : List (List ℕ)
  pub media : List (List ℕ)

-- ---- bytes

-- a byte that a backslash may escape: a hexadecimal digit, or one of `!#$%&()*+,-./:[]`
abbrev pub is_escapable : ℕ → Bool
is_escapable b =
    b == 33 || is_within 35 38 b || is_within 40 58 b || b == 91 || b == 93 || is_within 65 70 b
    || is_within 97 102 b

-- a byte of a selector, before this text: one that may be written, `>`, or a backslash before a byte that
-- it may escape
abbrev pub selector_byte : ℕ → List ℕ → Bool
selector_byte b text = is_safe_byte b || b == 62 || b == backslash && starts_by is_escapable text

abbrev pub is_selector_safe : List ℕ → Bool
is_selector_safe [] = true
is_selector_safe (b ∷ text) = selector_byte b text && is_selector_safe text

-- ---- one selector

-- a byte with which a compound begins, if no name does: one of `#.*:[`
abbrev pub is_compound_mark : ℕ → Bool
is_compound_mark b = b == 35 || b == 46 || b == 42 || b == 58 || b == 91

-- a compound begins here, and no combinator, which could lead out of the scope
abbrev pub begins_compound : List ℕ → Bool
begins_compound text = starts_by is_compound_mark text || begins_ident text

-- a selector that may be under the scope
abbrev pub selector_allowed : (pseudos : List (List ℕ)) → List ℕ → Bool
selector_allowed pseudos text =
    begins_compound text && is_selector_safe text && tokens_allowed (in_selector pseudos) text

-- the text may be that of a scope
abbrev pub is_scope_text : List ℕ → Bool
is_scope_text text =
    begins_compound text && is_selector_safe text && tokens_allowed in_scope text

-- the scope as a selector, if it is one compound of names, ids and classes
abbrev pub scope_of : List ℕ → Option Selector
scope_of text = if is_scope_text text then compound_read text else None

abbrev pub is_scope : List ℕ → Bool
is_scope text = is_some (scope_of text)

-- what follows these bytes, if they are next
abbrev pub after_front : (front text : List ℕ) → Option (List ℕ)
after_front [] text = Some text
after_front (c ∷ front) [] = None
after_front (c ∷ front) (b ∷ text) = if b == c then after_front front text else None

-- what follows `> `, if that is next
abbrev pub past_child : List ℕ → List ℕ
past_child text = if starts_two 62 space text then drop 2 text else text

-- a selector that may be under the scope, with the prefix of ids and classes
unfoldable pub inner_allowed : SheetPolicyText → List ℕ → Bool
inner_allowed policy text =
    selector_allowed policy.pseudos text && is_selector_named policy.declarations.changes.prefix text

-- Nothing follows the scope, if that may be; or a space does, or ` > `, and then a selector that may be under it.
abbrev pub is_under : SheetPolicyText → Option (List ℕ) → Bool
is_under policy None = false
is_under policy (Some after) =
    policy.itself && is_empty after
    || starts space after && inner_allowed policy (past_child (past_one after))

-- A selector that is under the scope, or, where it is to be put there, any.
abbrev pub fits : SheetPolicyText → (is_scoped : Bool) → List ℕ → Bool
fits policy is_scoped text =
    if is_scoped then is_under policy (after_front policy.scope text) else true

-- ---- lists

-- what ends a selector of a list: a comma, or what no selector has
abbrev pub selector_ends : Stops
selector_ends = record {
  semicolon = true;
  open_brace = true;
  close_brace = true;
  comma = true;
  in_value = true;
}

-- after a selector, the list ends, or a comma is next and then something
abbrev pub goes_on : List ℕ → Bool
goes_on rest =
    is_empty rest || starts comma rest && not (is_empty (past_gap (past_byte comma rest)))

abbrev pub selector_is_read : SheetPolicyText → (is_scoped : Bool) → Stated × List ℕ → Bool
selector_is_read policy is_scoped found =
    is_whole found.0.quality && fits policy is_scoped found.0.text && goes_on found.1

-- a selector that was read, and the rest after the comma that follows it
abbrev pub selector_read :
    SheetPolicyText → (is_scoped : Bool) → Stated × List ℕ → Option (List ℕ × List ℕ)
selector_read policy is_scoped found =
    if selector_is_read policy is_scoped found
    then Some (found.0.text, past_gap (past_byte comma found.1)) else None

-- the next selector of a list, if it fits
unfoldable pub next_selector :
    SheetPolicyText → (is_scoped : Bool) → List ℕ → Option (List ℕ × List ℕ)
next_selector policy is_scoped text =
    if ends_at selector_ends text then None
    else selector_read policy is_scoped (parts selector_ends text)

-- Each selector of the list is under the scope: as it is written, and as `css_selector_text` reads it.
abbrev pub is_list_under : SheetPolicyText → List ℕ → Option Selector → Bool
is_list_under policy text None = false
is_list_under policy text (Some scope) =
    not (is_empty text) && is_empty (each (next_selector policy true) text).1
    && is_read_under policy.itself scope.parts (placed_list no_names text)

abbrev pub is_list_scoped : SheetPolicyText → List ℕ → Bool
is_list_scoped policy text = is_list_under policy text (scope_of policy.scope)

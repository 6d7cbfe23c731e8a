-- Lists of selectors, put under the scope.
use Rattle.std.specs.Prelude.{ℕ, Bool, false, not, ◌&&◌, if◌then◌else◌, List, [], ◌∷◌, ◌++◌, codes, option_map, Option, Some, None}
use Rattle.std.specs.List.{join_by}
use Rattle.std.specs.Str.{is_utf8}
use Rattle.css_text.specs.Reading.{each}
use Rattle.css_syntax.specs.DeclarationLists.{is_empty}
use Rattle.css_clean.specs.Fronts.{InnerText, inner_of}
use Rattle.clean_values.specs.Selectors.{named_selector}
use Rattle.clean_values.specs.Values.{has_backslash}
use Rattle.css_clean.specs.Escaping.{escaped_anew}
use Rattle.css_clean.specs.Selectors.{SheetPolicyText, selector_allowed, next_selector, is_list_scoped}

-- between the scope and a selector
abbrev pub joint : (is_child : Bool) → List ℕ
joint is_child = if is_child then codes " > " else codes " "

-- a selector under the scope
abbrev pub under_scope : SheetPolicyText → (is_child : Bool) → Option (List ℕ) → Option (List ℕ)
under_scope policy is_child None = None
under_scope policy is_child (Some text) = Some (policy.scope ++ joint is_child ++ text)

-- The scope itself, if that may be, where nothing is left of the selector; or the scope, a space or ` > `, and
-- what is left of it, with the prefix of ids and classes, if that is allowed.
abbrev pub scoped_inner : SheetPolicyText → InnerText → Option (List ℕ)
scoped_inner policy inner =
    if is_empty inner.text
    then (if policy.itself && not inner.is_child then Some policy.scope else None)
    else (if selector_allowed policy.pseudos inner.text
    then under_scope policy inner.is_child
    (named_selector policy.declarations.changes.prefix inner.text) else None)

-- the same of bytes, which are UTF-8
abbrev pub scoped_bytes : SheetPolicyText → List ℕ → Option (List ℕ)
scoped_bytes policy text = if is_utf8 text then scoped_inner policy (inner_of text) else None

-- a selector under the scope, with its escapes written anew, if it is allowed there
abbrev pub scoped : SheetPolicyText → List ℕ → Option (List ℕ)
scoped policy text =
    if has_backslash text then scoped_bytes policy (escaped_anew text) else scoped_inner policy (inner_of text)

abbrev pub scoped_then : Option (List ℕ) → Option (List (List ℕ)) → Option (List (List ℕ))
scoped_then None more = None
scoped_then (Some selector) more = option_map (λ all. selector ∷ all) more

-- each of these selectors under the scope, in their order, if each is allowed there
abbrev pub all_scoped : SheetPolicyText → List (List ℕ) → Option (List (List ℕ))
all_scoped policy [] = Some []
all_scoped policy (text ∷ more) = scoped_then (scoped policy text) (all_scoped policy more)

-- the selectors of a list that is read to its end, under the scope
abbrev pub scoped_read : SheetPolicyText → List (List ℕ) × List ℕ → Option (List (List ℕ))
scoped_read policy read = if is_empty read.1 then all_scoped policy read.0 else None

abbrev pub scoped_selectors : SheetPolicyText → List ℕ → Option (List (List ℕ))
scoped_selectors policy text = scoped_read policy (each (next_selector policy false) text)

-- selectors with a comma and a space between two
abbrev pub joined : List (List ℕ) → List ℕ
joined selectors = join_by (λ s. s) (codes ", ") selectors

-- a list that is scoped as `css_selector_text` reads it, too
abbrev pub if_scoped : SheetPolicyText → List ℕ → Option (List ℕ)
if_scoped policy list = if is_list_scoped policy list then Some list else None

abbrev pub scoped_joined : SheetPolicyText → Option (List (List ℕ)) → Option (List ℕ)
scoped_joined policy None = None
scoped_joined policy (Some selectors) = if_scoped policy (joined selectors)

-- the list of selectors under the scope, if all of it is allowed there
abbrev pub scoped_list : SheetPolicyText → List ℕ → Option (List ℕ)
scoped_list policy text = scoped_joined policy (scoped_selectors policy text)

-- Selectors that begin with their key: of an element that is known to have it only the rest is tested.
use Rattle.std.specs.Prelude.{◌≡◌, ℕ, ◌-◌, ◌&&◌, not, nat_lt, Bool, true, false, List, [], ◌∷◌, length, None}
use Rattle.css_selectors.specs.AncestorKeys.{is_exact_condition}
use Rattle.css_selector_text.specs.Components.{Condition, Part, Selector, conditions_from}
use Rattle.css_selectors.specs.Documents.{Document}
use Rattle.css_selectors.specs.Keys.{condition_keys, conditions_at, least_rank}
use Rattle.css_selectors.specs.Meanings.{AreMet, Matches}

-- whether no condition has keys of a greater rank
abbrev pub have_no_greater : ℕ → List Condition → Bool
have_no_greater rank [] = true
have_no_greater rank (c ∷ cs) =
    not (nat_lt rank (least_rank (condition_keys c))) && have_no_greater rank cs

-- whether the first condition is an id or a class, and no other has keys of a greater rank
abbrev pub begin_with_key : List Condition → Bool
begin_with_key [] = false
begin_with_key (c ∷ cs) =
    is_exact_condition c && have_no_greater (least_rank (condition_keys c)) cs

-- whether it is one part that begins so
abbrev pub is_led_by_key : List Part → Bool
is_led_by_key [] = false
is_led_by_key (part ∷ []) = begin_with_key part.conditions
is_led_by_key (part ∷ next ∷ parts) = false

-- whether the selector is one compound selector that begins with an id or a class, which is its key
abbrev pub begins_with_key : Selector → Bool
begins_with_key s = is_led_by_key s.parts

-- all but the first
abbrev pub after_first : List Condition → List Condition
after_first [] = []
after_first (c ∷ cs) = cs

-- the conditions of the last part but the first
abbrev pub conditions_after_key : Selector → List Condition
conditions_after_key s = after_first (conditions_at s.parts (length s.parts - 1))

-- the node matches the selector, if it satisfies the first condition
abbrev pub MatchesAfterKey : {Node : Type 0} → Document Node → Selector → Node → Type 0
MatchesAfterKey document s n =
    (s.pseudo_element ≡ None) × AreMet document (conditions_from (conditions_after_key s)) n

-- what is left to test of a node that has a key of the selector: all but the key, where it begins with it
abbrev pub MatchesFoundBy : {Node : Type 0} → Bool → Document Node → Selector → Node → Type 0
MatchesFoundBy true document s n = MatchesAfterKey document s n
MatchesFoundBy false document s n = Matches document s n

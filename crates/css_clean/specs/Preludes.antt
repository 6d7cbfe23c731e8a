-- What group rules and rules have before their blocks.
use Rattle.std.specs.Prelude.{ℕ, Bool, not, ◌&&◌, ◌==◌, if◌then◌else◌, List, ◌++◌, length, Option, Some, None}
use Rattle.css_syntax.specs.DeclarationLists.{is_empty}
use Rattle.clean_values.specs.Checks.{begins_with}
use Rattle.css_clean.specs.declared.groups.Group.{Group}
use Rattle.css_clean.specs.declared.groups.Group.TheVariants as groups
use Rattle.css_clean.specs.Groups.{has_name}
use Rattle.css_clean.specs.Policies.{PlaceText, in_media, in_supports, in_name, in_frames, are_safe, tokens_allowed}
use Rattle.css_clean.specs.Selectors.{SheetPolicyText, is_list_scoped}
use Rattle.css_clean.specs.Scoping.{scoped_list}

-- ---- group rules

-- where the tokens of a condition are
abbrev pub condition_place : SheetPolicyText → Group → PlaceText
condition_place policy groups.Supports = in_supports
condition_place policy _ = in_media policy.media

-- a condition of bytes that may be written and of tokens that are allowed
abbrev pub condition_allowed : SheetPolicyText → Group → List ℕ → Bool
condition_allowed policy group text = are_safe text && tokens_allowed (condition_place policy group) text

-- one name, without escapes
abbrev pub is_name : List ℕ → Bool
is_name text = not (is_empty text) && are_safe text && tokens_allowed in_name text

-- one name that begins with the prefix, of which there is one
abbrev pub is_own_name : (prefix text : List ℕ) → Bool
is_own_name prefix text = not (length prefix == 0) && begins_with prefix text && is_name text

-- the prelude of a group rule may be written as it is: a name with the prefix, or a condition
abbrev pub is_prelude_clean : SheetPolicyText → Group → List ℕ → Bool
is_prelude_clean policy group text =
    if has_name group then is_own_name policy.declarations.changes.prefix text
    else condition_allowed policy group text

-- a name with the prefix, if both are names
abbrev pub own_name : (prefix text : List ℕ) → Option (List ℕ)
own_name prefix text =
    if is_name text && is_own_name prefix (prefix ++ text) then Some (prefix ++ text) else None

-- the prelude of a group rule, written anew, if it is allowed
abbrev pub group_prelude : SheetPolicyText → Group → List ℕ → Option (List ℕ)
group_prelude policy group text =
    if has_name group then own_name policy.declarations.changes.prefix text
    else (if condition_allowed policy group text then Some text else None)

-- ---- rules

-- frames, as `from, 50%`
abbrev pub are_frames : List ℕ → Bool
are_frames text = not (is_empty text) && are_safe text && tokens_allowed in_frames text

-- the prelude of a rule may be written as it is: frames, or selectors under the scope
abbrev pub is_rule_prelude : SheetPolicyText → (frames : Bool) → List ℕ → Bool
is_rule_prelude policy frames text = if frames then are_frames text else is_list_scoped policy text

-- the prelude of a rule, written anew, if it is allowed
abbrev pub rule_prelude : SheetPolicyText → (frames : Bool) → List ℕ → Option (List ℕ)
rule_prelude policy frames text =
    if frames then (if are_frames text then Some text else None) else scoped_list policy text

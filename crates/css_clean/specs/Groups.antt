-- At-rules with rules in their blocks, by their names.
use Rattle.std.specs.Prelude.{ℕ, Bool, true, false, ◌&&◌, if◌then◌else◌, List, codes, Option, Some, None}
use Rattle.css_syntax.specs.Tokens.{spells}
use Rattle.clean_values.specs.Checks.{is_one_of}
use Rattle.css_clean.specs.declared.groups.Group.{Group}
use Rattle.css_clean.specs.declared.groups.Group.TheVariants as groups

abbrev pub group_name : Group → List ℕ
group_name groups.Media = codes "media"
group_name groups.Supports = codes "supports"
group_name groups.Container = codes "container"
group_name groups.Layer = codes "layer"
group_name groups.Keyframes = codes "keyframes"

-- the rules in its block are frames
abbrev pub has_frames : Group → Bool
has_frames groups.Keyframes = true
has_frames _ = false

-- it has a name of its own, and no condition
abbrev pub has_name : Group → Bool
has_name groups.Layer = true
has_name groups.Keyframes = true
has_name _ = false

-- a name is this one, which is listed after `@`
abbrev pub is_called : (listed : List (List ℕ)) → (one at name : List ℕ) → Bool
is_called listed one at name = spells one name && is_one_of listed at

-- Which at-rule a name is of: `@media`, or another that is listed.
abbrev pub group_of : (listed : List (List ℕ)) → (name : List ℕ) → Option Group
group_of listed name =
    if spells (codes "media") name then Some groups.Media
    else (if is_called listed (codes "supports") (codes "@supports") name then Some groups.Supports
    else (if is_called listed (codes "container") (codes "@container") name then Some groups.Container
    else (if is_called listed (codes "layer") (codes "@layer") name then Some groups.Layer
    else (if is_called listed (codes "keyframes") (codes "@keyframes") name then Some groups.Keyframes
    else None))))

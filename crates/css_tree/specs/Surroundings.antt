-- What the ancestors of an element of an HTML document decide for it.
use Rattle.std.specs.Prelude.{ℕ, suc, Bool, true, false, not, ◌||◌, ◌&&◌, List, [], ◌∷◌, Option, None, Some, codes, nat_eq, if◌then◌else◌}
use Rattle.std.specs.Option.{option_and_then, option_eq, option_or, unwrap_or}
use Rattle.std.specs.Str.{str_eq_ignore_ascii_case}
use Rattle.css_matching.specs.ListTrees.{ancestors, parent_by}
use Rattle.css_elements.specs.Rows.{Row}
use Rattle.css_elements.specs.TreeNodes.{named_parent, attribute_at}
use Rattle.css_tree.specs.Counts.{any_below}
use Rattle.css_tree.specs.HtmlElements.{is_named, has_attribute, is_telephone}
use Rattle.css_tree.specs.declared.surroundings.Direction.{Direction}
use Rattle.css_tree.specs.declared.surroundings.Direction.TheVariants.{LeftToRight, RightToLeft, OfText}
use Rattle.css_tree.specs.declared.surroundings.Surroundings.{Surroundings}

-- a `legend` that is a child of the element at an index
abbrev pub is_legend_of : List Row → (parent i : ℕ) → Bool
is_legend_of rows parent i =
    is_named rows i (codes "legend")
    && option_eq nat_eq (parent_by (named_parent rows) i) (Some parent)

-- the first `legend` among the children of its parent
abbrev pub is_first_legend : List Row → (parent i : ℕ) → Bool
is_first_legend rows parent i =
    is_named rows i (codes "legend") && not (any_below (is_legend_of rows parent) i)

-- a disabled `fieldset` bars its children but its first legend
abbrev pub bars : List Row → (parent i : ℕ) → Bool
bars rows parent i =
    is_named rows parent (codes "fieldset") && has_attribute rows parent (codes "disabled")
    && not (is_first_legend rows parent i)

-- Whether a `fieldset` among the ancestors of an element, which are given from the nearest on, bars the
-- child of it that is the element or among its ancestors.
abbrev pub is_barred : List Row → ℕ → List ℕ → Bool
is_barred rows i [] = false
is_barred rows i (parent ∷ more) = bars rows parent i || is_barred rows parent more

-- elements past which an option has no `optgroup`
abbrev pub ends_group : List Row → ℕ → Bool
ends_group rows i =
    is_named rows i (codes "select") || is_named rows i (codes "option")
    || is_named rows i (codes "datalist") || is_named rows i (codes "hr")

-- whether the options in an element are disabled, where it is said whether they are around it
abbrev pub is_grouped_within : List Row → ℕ → (above : Bool) → Bool
is_grouped_within rows i above =
    if is_named rows i (codes "optgroup") then has_attribute rows i (codes "disabled")
    else not (ends_group rows i) && above

-- whether the nearest `optgroup` among the ancestors of an option, which are given from the nearest on, is
-- disabled
abbrev pub is_grouped : List Row → List ℕ → Bool
is_grouped rows [] = false
is_grouped rows (parent ∷ more) = is_grouped_within rows parent (is_grouped rows more)

-- whether a value of `contenteditable` says that an element is edited, or that it is not, if it says one
abbrev pub editing_named : List ℕ → Option Bool
editing_named [] = Some true
editing_named (b ∷ text) =
    if str_eq_ignore_ascii_case (b ∷ text) (codes "true") then Some true
    else (if str_eq_ignore_ascii_case (b ∷ text) (codes "plaintext-only") then Some true
    else (if str_eq_ignore_ascii_case (b ∷ text) (codes "false") then Some false else None))

-- what an element says itself
abbrev pub own_editing : List Row → ℕ → Option Bool
own_editing rows i = option_and_then editing_named (attribute_at rows i (codes "contenteditable"))

-- whether the first of these that says so is edited
abbrev pub is_editable : List Row → List ℕ → Bool
is_editable rows [] = false
is_editable rows (i ∷ more) = unwrap_or (own_editing rows i) (is_editable rows more)

-- ---- directions (HTML Standard, "The directionality")

-- what a value of `dir` says, if it says something: `auto`, that it depends on a text
abbrev pub direction_named : List ℕ → Option Direction
direction_named text =
    if str_eq_ignore_ascii_case text (codes "ltr") then Some LeftToRight
    else (if str_eq_ignore_ascii_case text (codes "rtl") then Some RightToLeft
    else (if str_eq_ignore_ascii_case text (codes "auto") then Some OfText else None))

-- what an element says that has no such value: a `bdi`, that it depends on a text; a telephone number is
-- written from left to right
abbrev pub usual_direction : List Row → ℕ → Option Direction
usual_direction rows i =
    if is_named rows i (codes "bdi") then Some OfText
    else (if is_telephone rows i then Some LeftToRight else None)

-- what an element says itself
abbrev pub own_direction : List Row → ℕ → Option Direction
own_direction rows i =
    option_or (option_and_then direction_named (attribute_at rows i (codes "dir"))) (usual_direction rows i)

-- the direction that the first of these says that says one, or else from left to right
abbrev pub direction_of : List Row → List ℕ → Direction
direction_of rows [] = LeftToRight
direction_of rows (i ∷ more) = unwrap_or (own_direction rows i) (direction_of rows more)

-- ---- all

-- the number of a form among ancestors: one more than its index, or 0 if there is none
abbrev pub form_among : List Row → List ℕ → ℕ
form_among rows [] = 0
form_among rows (parent ∷ more) =
    if is_named rows parent (codes "form") then suc parent else form_among rows more

-- what the ancestors of an element, which are given from the nearest on, decide for it
abbrev pub surroundings_by : List Row → ℕ → List ℕ → Surroundings
surroundings_by rows i above = record {
  is_barred = is_barred rows i above;
  is_grouped = is_grouped rows above;
  is_editable = is_editable rows (i ∷ above);
  direction = direction_of rows (i ∷ above);
  form = form_among rows above;
}

abbrev pub surroundings : List Row → ℕ → Surroundings
surroundings rows i = surroundings_by rows i (ancestors (named_parent rows) i)

-- ---- how they are found

-- what is decided for a child of an element for which this is decided
abbrev pub within : List Row → (parent i : ℕ) → Surroundings → Surroundings
within rows parent i above = record {
  is_barred = bars rows parent i || above.is_barred;
  is_grouped = is_grouped_within rows parent above.is_grouped;
  is_editable = unwrap_or (own_editing rows i) above.is_editable;
  direction = unwrap_or (own_direction rows i) above.direction;
  form = if is_named rows parent (codes "form") then suc parent else above.form;
}

-- what is decided for an element without a parent
abbrev pub at_root : List Row → ℕ → Surroundings
at_root rows i = record {
  is_barred = false;
  is_grouped = false;
  is_editable = unwrap_or (own_editing rows i) false;
  direction = unwrap_or (own_direction rows i) LeftToRight;
  form = 0;
}

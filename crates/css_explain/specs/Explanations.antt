-- Why a declaration wins on an element: all declarations of a property that apply to it, the strongest first, and by
-- which criterion each loses to the one before it (CSS Cascading 5, section 6.1).
use Rattle.std.specs.Prelude.{ℕ, Bool, ◌&&◌, ◌==◌, if◌then◌else◌, List, [], ◌∷◌, Option, None, Some, nat_eq, reverse}
use Rattle.std.specs.Bool.{beq}
use Rattle.std.specs.Cmp.Lexicographic.{pointwise, slice_cmp}
use Rattle.std.specs.declared.cmp.Ordering.{Ordering}
use Rattle.std.specs.Ordering.{bool_cmp, nat_cmp, on, then_cmp, flip_args}
use Rattle.css_cascade.specs.Cascade.{Weighed, important_layer, important_origin, normal_layer, normal_origin, origin_rank}
use Rattle.css_sheet.specs.SheetOrder.{SheetRuleText}
use Rattle.css_styles.specs.Contenders.{Contender, OwnText, contenders, of_names}
use Rattle.css_styles.specs.Winners.{in_order}
use Rattle.css_explain.specs.declared.criterion.Criterion.{Criterion}
use Rattle.css_explain.specs.declared.criterion.Criterion.TheVariants.{OriginAndImportance, StyleAttribute, Layers, Specificity, Order}

-- ---- criteria

-- they are as important, and of one origin
abbrev pub has_same_origin : Weighed → Weighed → Bool
has_same_origin a b = beq a.important b.important && (origin_rank a.origin == origin_rank b.origin)

-- The first criterion in which two declarations differ; the last is the order in which they stand.
abbrev pub criterion : Weighed → Weighed → Criterion
criterion a b =
    if has_same_origin a b
    then (if beq a.attached b.attached
    then (if a.layer == b.layer
    then (if pointwise nat_eq a.specificity b.specificity then Order else Specificity)
    else Layers)
    else StyleAttribute)
    else OriginAndImportance

-- What a criterion alone says of two declarations. Of those that are not important the one of the later origin or
-- layer is later, and of important ones the one of the earlier.
abbrev pub order_by : Criterion → Weighed → Weighed → Ordering
order_by OriginAndImportance =
    then_cmp (on (λ (d : Weighed). d.important) bool_cmp)
    (then_cmp (on normal_origin nat_cmp) (flip_args (on important_origin nat_cmp)))
order_by StyleAttribute = on (λ (d : Weighed). d.attached) bool_cmp
order_by Layers = then_cmp (on normal_layer nat_cmp) (flip_args (on important_layer nat_cmp))
order_by Specificity = on (λ (d : Weighed). d.specificity) (slice_cmp nat_cmp)
order_by Order = on (λ (d : Weighed). d.place) (slice_cmp nat_cmp)

-- ---- declarations

-- a declaration that applies to the element, and the criterion by which it loses to the one before it, if there is one
pub record ExplainedText : Type 0 where
  pub contender : Contender
  pub lost_by : Option Criterion

-- the criterion by which a declaration loses to the one before it, if there is one
abbrev pub lost_by : (before : Option Weighed) → Weighed → Option Criterion
lost_by None one = None
lost_by (Some before) one = Some (criterion before one)

-- declarations one after another, each with the criterion by which it loses to the one before it
abbrev pub losing : (before : Option Weighed) → List Contender → List ExplainedText
losing before [] = []
losing before (one ∷ more) =
    record { contender = one; lost_by = lost_by before one.weight } ∷ losing (Some one.weight) more

-- in the order of the cascade, the strongest first
abbrev pub strongest_first : List Contender → List Contender
strongest_first found = reverse (in_order found)

abbrev pub explained : List Contender → List ExplainedText
explained found = losing None (strongest_first found)

-- All declarations of the property of these names that apply to an element that the rules at these indices match and
-- that has these of its own, the strongest first, each with the criterion by which it loses to the one before it.
abbrev pub explanation : List SheetRuleText → (indices : List ℕ) → OwnText → (names : List (List ℕ))
    → List ExplainedText
explanation rules indices own names = explained (of_names names (contenders rules indices own))

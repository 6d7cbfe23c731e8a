-- Style sheets, and where they come from.
use Rattle.std.specs.Prelude.{ℕ, List, [], Option, Some, None}
use Rattle.std.specs.List.{slice_get}
use Rattle.css_cascade.specs.Layers.{outermost_number}
use Rattle.css_cascade.specs.declared.weights.Origin.{Origin}
use Rattle.css_cascade.specs.declared.weights.Origin.TheVariants.{Author}

-- A group rule that all of a sheet is in: its keyword and its prelude, and a number. Of layers without a
-- name in one layer those with the same number are one.
pub record GroupRuleText : Type 0 where
  pub keyword : List ℕ
  pub prelude : List ℕ
  pub number : ℕ

-- A style sheet; where it comes from; the group rules that all of it is in, from the outermost: those of the
-- `@import` that names it, for instance; and the urls of the namespaces that are known, of which the first has
-- number 1.
pub record SheetText : Type 0 where
  pub text : List ℕ
  pub origin : Origin
  pub around : List GroupRuleText
  pub namespaces : List (List ℕ)

-- a sheet of the author's, in no group rule, where no namespace is known
abbrev pub authored : List ℕ → SheetText
authored text = record { text = text; origin = Author; around = []; namespaces = [] }

abbrev pub origin_if : Option SheetText → Origin
origin_if (Some sheet) = sheet.origin
origin_if None = Author

-- the origin of the sheet of a number
abbrev pub origin_at : List SheetText → (number : ℕ) → Origin
origin_at sheets number = origin_if (slice_get sheets number)

-- the number of the layer in which all of the sheet of a number is: that of its origin
abbrev pub outermost_at : List SheetText → (number : ℕ) → ℕ
outermost_at sheets number = outermost_number (origin_at sheets number)

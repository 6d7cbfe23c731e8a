-- Rules in the order of specificity, and the rules of a sheet.
use Rattle.std.specs.Prelude.{ℕ, List, Bool}
use Rattle.std.specs.List.{flat_map}
use Rattle.std.specs.Ordering.{is_lt, nat_cmp}
use Rattle.std.specs.Cmp.Lexicographic.{slice_cmp}
use Rattle.css_text.specs.Characters.{Edition}
use Rattle.css_text.specs.Ranks.{ordered_by}
use Rattle.simplecss_grammar.specs.Specificity.{specificity}
use Rattle.simplecss_grammar.specs.Statements.{StyleRule, kept}

-- `a` has a smaller specificity than `b`: the first count that differs decides
abbrev pub is_smaller : StyleRule → StyleRule → Bool
is_smaller a b = is_lt (slice_cmp nat_cmp (specificity a.components) (specificity b.components))

-- Each rule at its rank: its index is the number of rules of smaller specificity and of earlier
-- ones of equal specificity.
abbrev pub ordered : List StyleRule → List StyleRule
ordered = ordered_by is_smaller

-- the rules of a sheet that has read these texts, one after another
abbrev pub sheet : Edition → List (List ℕ) → List StyleRule
sheet edition texts = ordered (flat_map (kept edition) texts)

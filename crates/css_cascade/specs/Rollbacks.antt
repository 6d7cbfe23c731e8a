-- Values that roll the cascade back (CSS Cascading 5, sections 7.3.4 and 7.3.5), and what is left then.
use Rattle.std.specs.Prelude.{ℕ, zero, suc, Bool, true, false, ◌||◌, ◌==◌, if◌then◌else◌, List, codes, filter, map, length, Option, None, Some}
use Rattle.std.specs.declared.cmp.Ordering.{Ordering}
use Rattle.std.specs.Ordering.{is_lt, bool_cmp, nat_cmp, on, then_cmp}
use Rattle.css_text.specs.Reading.{before}
use Rattle.css_syntax.specs.Tokens.{past_gap, past_word, spells}
use Rattle.css_cascade.specs.Cascade.{Weighed, origin_rank, winner_from}
use Rattle.css_cascade.specs.LayerNames.{is_empty}
use Rattle.css_cascade.specs.declared.rollback.Rollback.{Rollback}
use Rattle.css_cascade.specs.declared.rollback.Rollback.TheVariants.{Nowhere, ToLayer, ToOrigin}
use Rattle.css_cascade.specs.declared.weights.Origin.{Origin}
use Rattle.css_cascade.specs.declared.weights.Origin.TheVariants.{UserAgent, User, Hint, Author}

-- ---- values

abbrev pub if_ended : (word rest : List ℕ) → Option (List ℕ)
if_ended word rest = if is_empty (past_gap rest) then Some word else None

-- the word that a value is, with comments and blanks around it
abbrev pub only_word : List ℕ → Option (List ℕ)
only_word value =
    if_ended (before (past_gap value) (past_word (past_gap value))) (past_word (past_gap value))

abbrev pub rollback_by : Option (List ℕ) → Rollback
rollback_by None = Nowhere
rollback_by (Some word) =
    if spells (codes "revert-layer") word then ToLayer
    else if spells (codes "revert") word then ToOrigin else Nowhere

-- What a value says of the cascade: something, if the whole of it is one of these two words. So it is with
-- custom properties, too.
abbrev pub rollback_of : List ℕ → Rollback
rollback_of value = rollback_by (only_word value)

-- ---- what a declaration takes out

-- how many origins are before this one for `revert`, where hints are the author's
abbrev pub revert_rank : Origin → ℕ
revert_rank UserAgent = 0
revert_rank User = 1
revert_rank Hint = 2
revert_rank Author = 2

-- Which of two is in the later layer, whether they are important or not: origins decide first, and those
-- that are attached to the element are a layer after all others of their origin.
abbrev pub level_cmp : Weighed → Weighed → Ordering
level_cmp =
    then_cmp (on (λ (d : Weighed). origin_rank d.origin) nat_cmp)
    (then_cmp (on (λ (d : Weighed). d.attached) bool_cmp) (on (λ (d : Weighed). d.layer) nat_cmp))

abbrev pub rolls_back_by : Rollback → Weighed → Bool
rolls_back_by Nowhere one = false
rolls_back_by ToLayer one = true
rolls_back_by ToOrigin one = is_lt (nat_cmp 0 (revert_rank one.origin))

-- A declaration is rolled back where it wins. `revert` in the user agent's origin is not: nothing is before
-- that, so it is as `unset`.
abbrev pub rolls_back : Weighed → Bool
rolls_back one = rolls_back_by one.rollback one

abbrev pub is_left_by : Rollback → Weighed → Weighed → Bool
is_left_by Nowhere one winner = true
is_left_by ToLayer one winner = is_lt (level_cmp one winner)
is_left_by ToOrigin one winner =
    revert_rank winner.origin == 0
    || is_lt (nat_cmp (revert_rank one.origin) (revert_rank winner.origin))

-- The first counts still where the second wins: with `revert-layer` if it is in an earlier layer, or of an
-- earlier origin; with `revert` if it is of an earlier origin.
abbrev pub is_left : Weighed → Weighed → Bool
is_left one winner = is_left_by winner.rollback one winner

abbrev pub is_left_under : Option Weighed → Weighed → Bool
is_left_under None one = true
is_left_under (Some winner) one = is_left one winner

-- ---- what is left of several

-- what the cascade sees of the one that wins of these
abbrev pub best_of : {X : Type 0} → (X → Weighed) → List X → Option Weighed
best_of weight found = winner_from (λ w. w) None (map weight found)

-- Those that count still, where `rivals` says with which of them one contends for its property, and the one
-- that wins of these is rolled back or not.
abbrev pub left_once : {X : Type 0} → (X → Weighed) → (List X → X → List X) → List X → List X
left_once weight rivals all =
    filter (λ one. is_left_under (best_of weight (rivals all one)) (weight one)) all

abbrev pub left_after : {X : Type 0} → (X → Weighed) → (List X → X → List X) → (times : ℕ) → List X
    → List X
left_after weight rivals zero all = all
left_after weight rivals (suc times) all =
    left_once weight rivals (left_after weight rivals times all)

-- Those that count in the end: what wins of them is not rolled back. Each time one is taken out or nothing
-- changes any more, so as many times as there are declarations are enough.
abbrev pub left : {X : Type 0} → (X → Weighed) → (List X → X → List X) → List X → List X
left weight rivals all = left_after weight rivals (length all) all

-- The next condition, by what reads a list.
-- Serves the loops of `compounds`.
use Rattle.std.proofs.Common.{◌≡◌, ℕ, zero, suc, Bool, true, false, List, refl, ap, ◌∙◌, ◌<◌, ◌||◌, arith, rules}
use Rattle.std.specs.Prelude.{if◌then◌else◌}
use Rattle.css_selector_text.specs.declared.components.Simple.{Simple as SimpleOf}
use Rattle.css_selector_text.specs.declared.components.Condition.{Simple, the_lemmas}
use Rattle.css_selector_text.specs.Components.Condition.{simple}
use Rattle.css_selector_text.specs.reading.Grammar.{past_comments, next_condition, next_simple, condition_here, condition_by, condition_at, list_at, list_within, complex_list, may_open, is_relative, one_less, begins_pseudo_class, simple_item, pseudo_condition, name}
use Rattle.css_text.specs.Bytes.{past_one}
use Rattle.css_selector_text.specs.reading.Readings.{refused, item, step_after}
use Rattle.css_selector_text.specs.declared.components.ListKind.{ListKind}
use Rattle.css_selector_text.specs.reading.Rooms.{Room}
use Rattle.css_selector_text.specs.declared.refusal.Why.TheVariants.{TooDeep, Unexpected}
use Rattle.css_selector_text.specs.Views.{condition_of, simple_of}
use Rattle.css_selector_text.specs.Names.{Names}

by_list : (names : Names) (n : ℕ) (in_has : Bool) (text : List ℕ)
    → condition_by names (list_at names n in_has) text ≡ condition_at names n in_has text
unfolding condition_at
by_list names zero in_has text = refl
by_list names (suc n) in_has text = refl

pub condition_within : (room : Room) (text : List ℕ)
    → condition_by room.names (list_within room) text ≡ next_condition room text
condition_within room text = by_list room.names room.depth room.in_has text

pub none_opens : (names : Names) (n : ℕ) (in_has : Bool) (kind : ListKind) (opened text : List ℕ) → n ≡ 0
    → list_at names n in_has kind opened text ≡ refused TooDeep opened
none_opens names zero in_has kind opened text e = refl
none_opens names (suc n) in_has kind opened text e = absurd (cc)

pub one_barred : (names : Names) (n : ℕ) (in_has : Bool) (kind : ListKind) (opened text : List ℕ) → 0 < n
    → may_open kind in_has ≡ false → list_at names n in_has kind opened text ≡ refused Unexpected opened
one_barred names zero in_has kind opened text some e = absurd (omega (arith, some))
one_barred names (suc n) in_has kind opened text some e =
    ap (λ (t : Bool). if t then complex_list names kind (condition_at names n (is_relative kind || in_has)) text
    else refused Unexpected opened) e

pub one_opens : (names : Names) (n : ℕ) (in_has : Bool) (kind : ListKind) (opened text : List ℕ) → 0 < n
    → may_open kind in_has ≡ true → list_at names n in_has kind opened text
    ≡ complex_list names kind (condition_at names (one_less n) (is_relative kind || in_has)) text
one_opens names zero in_has kind opened text some e = absurd (omega (arith, some))
one_opens names (suc n) in_has kind opened text some e =
    ap (λ (t : Bool). if t then complex_list names kind (condition_at names n (is_relative kind || in_has)) text
    else refused Unexpected opened) e

pub condition_simple : (s : SimpleOf) → condition_of (Simple s) ≡ simple (simple_of s)
condition_simple s = search (rules, the_lemmas)

plain : {A : Type 0} (b : Bool) (one other : A) → b ≡ false
    → other ≡ if b then one else other
plain true one other e = absurd (cc)
plain false one other e = refl

-- after comments a condition that is no pseudo-class is the simple selector that is next
pub condition_plain : (n : Room) (text here rest : List ℕ) (s : SimpleOf) → here ≡ past_comments text
    → begins_pseudo_class here ≡ false → item (simple_of s) rest ≡ next_simple n.names here
    → item (condition_of (Simple s)) rest ≡ next_condition n text
condition_plain n text here rest s e is_plain found =
    ap (λ c. item c rest) (condition_simple s) ∙ ap simple_item found
    ∙ plain (begins_pseudo_class here)
    (step_after (name (past_comments (past_one here))) (pseudo_condition n.names (list_within n) here))
    (simple_item (next_simple n.names here)) is_plain
    ∙ ap (condition_here n.names (list_within n)) e ∙ condition_within n text

-- The declarations that apply to an element, as they are gathered.
-- Serves the functions of `gathering`.
use Rattle.std.proofs.Common.{◌≡◌, ℕ, ◌+◌, ◌<◌, ◌≤◌, true, false, if◌then◌else◌, List, [], ◌∷◌, ◌++◌, filter, length, map, get_or, Some, Result, Ok, Err, refl, sym, ap, ◌∙◌, subst, arith, option_map}
use Rattle.std.specs.Prelude.{IfSome, OnOk, is_ok}
use Rattle.std.specs.List.{All, slice_get}
use Rattle.std.specs.Option.{is_some}
use Rattle.std.proofs.lemmas.List.{append_assoc, length-map, map-append, nil_from_length}
use Rattle.std.proofs.lemmas.List.Elements.{All-append}
use Rattle.std.proofs.lemmas.Option.{slice_get-map}
use Rattle.css_text.specs.Reading.{each}
use Rattle.css_syntax.specs.DeclarationLists.{DeclarationText, items}
use Rattle.css_sheet.specs.SheetOrder.{SheetRuleText}
use Rattle.css_sheet.specs.SheetRuleViews.{sheet_rule_of}
use Rattle.css_sheet.specs.declared.sheet_rules.SheetRule.{SheetRule}
use Rattle.css_styles.specs.declared.contest.Numbered.{Numbered}
use Rattle.css_styles.specs.Contenders.{Contender, in_rule, in_turn, is_declared, own_declarations, rule_declarations, stated_at, states_at}
use Rattle.css_styles.specs.internal.Numbered.{AreStated, IsMore, numbered_of}
use Rattle.css_styles.proofs.ContestLemmas.{at-index}
use Rattle.css_styles.proofs.WinningLemmas.{some-mapped, turn-first}

-- one more is gathered, of those that are to come
pub turn-step : (contends : (place : ℕ) → DeclarationText → Contender) (place : ℕ)
    (one : DeclarationText) (before after : List DeclarationText) (old now whole : List Contender)
    → before ≡ one ∷ after → old ++ in_turn contends place before ≡ whole
    → now ≡ old ++ filter is_declared (contends place one ∷ [])
    → now ++ in_turn contends (place + 1) after ≡ whole
turn-step contends place one before after old now whole first come pushed =
    ap (λ cs. cs ++ in_turn contends (place + 1) after) pushed
    ∙ append_assoc old (filter is_declared (contends place one ∷ []))
    (in_turn contends (place + 1) after)
    ∙ sym (ap (λ ds. old ++ in_turn contends place ds) first
    ∙ ap (λ cs. old ++ cs) (turn-first contends place one after))
    ∙ come

pub numbered-push : (old now : List Numbered) (n : Numbered) (one : Contender) → now ≡ old ++ n ∷ []
    → numbered_of n ≡ one → map numbered_of now ≡ map numbered_of old ++ one ∷ []
numbered-push old now n one pushed same =
    ap (map numbered_of) pushed ∙ map-append numbered_of old (n ∷ [])
    ∙ ap (λ c. map numbered_of old ++ c ∷ []) same

-- one fewer is to come
pub come-count : {X : Type 0} (before after : List X) (x : X) (place total : ℕ) → before ≡ x ∷ after
    → place + length before ≤ total → place + 1 + length after ≤ total
come-count before after x place total first within =
    let count : length before ≡ length after + 1 = ap length first ∙ omega arith in
    omega (arith, count, within)

pub more-after : (known a b : List (List ℕ)) → IsMore a b → IsMore (known ++ a) (known ++ b)
more-after known a b more =
    (more.0, ap (λ ps. known ++ ps) more.1 ∙ sym (append_assoc known a more.0))

pub then-ok : {T E : Type 0} {P Q : Type 0} (r : Result T E) → (P → Q) → OnOk r P → OnOk r Q
then-ok (Ok x) f h = f h
then-ok (Err e) f h = tt

-- an empty text has no declarations
own-none : own_declarations [] ≡ []
unfolding items each
own-none = refl

pub own-empty : (text : List ℕ) → length text ≡ 0 → own_declarations text ≡ []
own-empty text none = ap own_declarations (nil_from_length text none) ∙ own-none

-- those of a slice are gathered
pub extended-are : {E : Type 0} (old stated now : List Numbered) (all : List Contender)
    (r : Result (Unit {0}) E) → now ≡ (if is_ok r then old ++ stated else old)
    → all ≡ map numbered_of stated
    → OnOk r (map numbered_of now ≡ map numbered_of old ++ all)
extended-are old stated now all (Ok done) e is =
    ap (map numbered_of) e ∙ map-append numbered_of old stated
    ∙ sym (ap (λ cs. map numbered_of old ++ cs) is)
extended-are old stated now all (Err error) e is = tt

pub extended-all : {E : Type 0} (P : Numbered → Type 0) (old stated now : List Numbered)
    (r : Result (Unit {0}) E) → now ≡ (if is_ok r then old ++ stated else old)
    → All P old → All P stated → OnOk r (All P now)
extended-all P old stated now (Ok done) e h k =
    subst (All P) (sym e) (All-append P old stated h k)
extended-all P old stated now (Err error) e h k = tt

-- ---- the rule at an index

pub rule-at : (list : List SheetRule) (rules : List SheetRuleText) (index : ℕ) (d rule : SheetRule)
    → map sheet_rule_of list ≡ rules → index < length rules → rule ≡ get_or list index d
    → slice_get rules index ≡ Some (sheet_rule_of rule)
rule-at list rules index d rule are within is =
    let count : length list ≡ length rules =
    sym (length-map list sheet_rule_of) ∙ ap length are in
    ap (λ rs. slice_get rs index) (sym are) ∙ slice_get-map sheet_rule_of list index
    ∙ ap (option_map sheet_rule_of)
    (at-index list index d rule (omega (arith, count, within)) (sym is))

abbrev in_order : ℕ → SheetRule → List Contender
in_order index rule =
    in_turn (in_rule index (sheet_rule_of rule)) 0 (rule_declarations (sheet_rule_of rule))

pub at-pseudo : (rules : List SheetRuleText) (index : ℕ) (rule : SheetRule)
    → slice_get rules index ≡ Some (sheet_rule_of rule) → is_some rule.pseudo_element ≡ true
    → stated_at rules index ≡ []
at-pseudo rules index rule at pseudo =
    ap (states_at index) at
    ∙ ap (λ t. if t then [] else in_order index rule)
    (some-mapped (λ name. name.now) rule.pseudo_element ∙ pseudo)

pub at-plain : (properties : List (List ℕ)) (rules : List SheetRuleText) (index : ℕ)
    (rule : SheetRule) (stated : List Numbered) → slice_get rules index ≡ Some (sheet_rule_of rule)
    → is_some rule.pseudo_element ≡ false → AreStated properties index (sheet_rule_of rule) stated
    → stated_at rules index ≡ map numbered_of stated
at-plain properties rules index rule stated at plain are =
    ap (states_at index) at
    ∙ ap (λ t. if t then [] else in_order index rule)
    (some-mapped (λ name. name.now) rule.pseudo_element ∙ plain)
    ∙ sym are.are

pub stated-of : (properties : List (List ℕ)) (rules : List SheetRuleText) (index : ℕ)
    (rule : SheetRule) (stated : List Numbered) → slice_get rules index ≡ Some (sheet_rule_of rule)
    → IfSome (slice_get rules index) (λ r. AreStated properties index r stated)
    → AreStated properties index (sheet_rule_of rule) stated
stated-of properties rules index rule stated at are =
    subst (λ o. IfSome o (λ r. AreStated properties index r stated)) at are

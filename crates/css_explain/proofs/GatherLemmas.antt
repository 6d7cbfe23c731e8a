-- Declarations as they are gathered, one after another.
-- Serves the functions of `gathering`.
use Rattle.std.proofs.Common.{◌≡◌, ℕ, ◌+◌, ◌≤◌, Bool, true, false, if◌then◌else◌, List, [], ◌∷◌, ◌++◌, filter, length, map, Option, None, Some, Result, Ok, Err, refl, sym, ap, ◌∙◌, arith, option_map}
use Rattle.std.specs.Prelude.{OnOk}
use Rattle.std.specs.List.{cons_option, slice_get}
use Rattle.std.specs.Option.{is_some}
use Rattle.std.proofs.lemmas.List.{append_assoc}
use Rattle.std.proofs.lemmas.List.Elements.{filter-append}
use Rattle.std.proofs.lemmas.Option.{slice_get-map}
use Rattle.css_syntax.specs.DeclarationLists.{DeclarationText, ListText}
use Rattle.css_syntax.specs.declared.declarations.Declaration.{Declaration}
use Rattle.css_syntax.specs.declared.declarations.Item.{Item}
use Rattle.css_syntax.specs.declared.declarations.Item.TheVariants as item_kinds
use Rattle.css_syntax.specs.declared.declarations.ListPart.{ListPart}
use Rattle.css_syntax.specs.Views.{declaration_of, item_of, list_part_of}
use Rattle.css_sheet.specs.SheetRuleViews.{sheet_rule_of}
use Rattle.css_sheet.specs.declared.sheet_rules.SheetRule.{SheetRule}
use Rattle.css_styles.specs.Contenders.{Contender, declared_by, declared_in, in_rule, in_turn, is_declared, placed, rule_declarations, stated_at, states_at}

pub then-ok : {T E : Type 0} {P Q : Type 0} (r : Result T E) → (P → Q) → OnOk r P → OnOk r Q
then-ok (Ok x) f h = f h
then-ok (Err e) f h = tt

-- one more is gathered, of those that are to come
pub turn-step : (contends : (place : ℕ) → DeclarationText → Contender) (place : ℕ)
    (one : DeclarationText) (before after : List DeclarationText) (old now whole : List Contender)
    → before ≡ one ∷ after → old ++ in_turn contends place before ≡ whole
    → now ≡ old ++ filter is_declared (contends place one ∷ [])
    → now ++ in_turn contends (place + 1) after ≡ whole
turn-step contends place one before after old now whole first come pushed =
    ap (λ cs. cs ++ in_turn contends (place + 1) after) pushed
    ∙ append_assoc old (filter is_declared (contends place one ∷ []))
    (in_turn contends (place + 1) after)
    ∙ sym (ap (λ ds. old ++ in_turn contends place ds) first
    ∙ ap (λ cs. old ++ cs)
    (filter-append is_declared (contends place one ∷ []) (placed contends (place + 1) after)))
    ∙ come

-- one fewer is to come
pub come-count : {X : Type 0} (before after : List X) (x : X) (place total : ℕ) → before ≡ x ∷ after
    → place + length before ≤ total → place + 1 + length after ≤ total
come-count before after x place total first within =
    let count : length before ≡ length after + 1 = ap length first ∙ omega arith in
    omega (arith, count, within)

pub first-declared : (part : ListPart) (one : Declaration) (before after : List ListText)
    → before ≡ list_part_of part ∷ after → part.item ≡ item_kinds.Declaration one
    → declared_in before ≡ declaration_of one ∷ declared_in after
first-declared part one before after e is =
    ap declared_in e
    ∙ ap (λ (item : Item). cons_option (declared_by (item_of item)) (declared_in after)) is

-- ---- the rule at an index

module _ (rules : List SheetRule) (index : ℕ) where
  pub at-none : slice_get rules index ≡ None → stated_at (map sheet_rule_of rules) index ≡ []
  at-none e =
      ap (states_at index) (slice_get-map sheet_rule_of rules index ∙ ap (option_map sheet_rule_of) e)

  module _ (rule : SheetRule) (at : slice_get rules index ≡ Some rule) where
    mapped : {X Y : Type 0} (f : X → Y) (o : Option X) → is_some (option_map f o) ≡ is_some o
    mapped f None = refl
    mapped f (Some x) = refl

    there : (t : Bool) → is_some rule.pseudo_element ≡ t
        → stated_at (map sheet_rule_of rules) index
        ≡ (if t then [] else in_turn (in_rule index (sheet_rule_of rule)) 0 (rule_declarations (sheet_rule_of rule)))
    there t e =
        ap (states_at index) (slice_get-map sheet_rule_of rules index ∙ ap (option_map sheet_rule_of) at)
        ∙ ap (λ t. if t then [] else in_turn (in_rule index (sheet_rule_of rule)) 0 (rule_declarations (sheet_rule_of rule)))
        (mapped (λ name. name.now) rule.pseudo_element ∙ e)

    pub at-pseudo : is_some rule.pseudo_element ≡ true → stated_at (map sheet_rule_of rules) index ≡ []
    at-pseudo = there true

    pub at-plain : is_some rule.pseudo_element ≡ false → stated_at (map sheet_rule_of rules) index
        ≡ in_turn (in_rule index (sheet_rule_of rule)) 0 (rule_declarations (sheet_rule_of rule))
    at-plain = there false

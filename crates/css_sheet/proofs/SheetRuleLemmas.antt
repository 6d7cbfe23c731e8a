-- Rules that are gathered one after another, and their order.
-- Serves `gathering::push_rules` and `sheet_order::{push_sheet, read_sheets}`.
use Rattle.std.proofs.Common.{◌≡◌, ◌<◌, ℕ, ◌+◌, List, [], ◌∷◌, ◌++◌, Option, None, Some, map, refl, sym, ap, ◌∙◌, arith, append-nil}
use Rattle.std.specs.Prelude.{option_to_list}
use Rattle.std.specs.List.{cons_option, fold}
use Rattle.std.specs.List.Sorted.{IsPermutation, IsSortedBy, IsStableBy}
use Rattle.std.proofs.lemmas.Cmp.{nat_list_cmp_total}
use Rattle.std.proofs.lemmas.List.{append_assoc}
use Rattle.std.proofs.lemmas.List.Sorted.{ranks_by}
use Rattle.std.proofs.lemmas.List.Sums.{sum_by-append}
use Rattle.css_text.specs.Ranks.{ordered_by}
use Rattle.css_text.proofs.order.RankLemmas.{ordered_is, arranges_from_sort, arranges-map}
use Rattle.css_cascade.specs.Layers.{LayerText}
use Rattle.css_sheet.specs.declared.sheet_rules.SheetRule.{SheetRule}
use Rattle.css_sheet.specs.SheetOrder.{SheetRuleText, declaration_count, declarations_in, rule_key, is_before, ranked}
use Rattle.css_sheet.specs.Sheets.{SheetText}
use Rattle.css_sheet.specs.SheetRuleViews.{sheet_rule_of}

-- Rules were gathered and others are to come: together they are those before and all others. So it
-- is with what is left of the limit.
pub record Gathering (before after : List SheetRuleText) (had left : ℕ)
    (come all : List SheetRuleText) : Type 0 where
  pub rules : after ++ come ≡ before ++ all
  pub room : had + declarations_in come ≡ left + declarations_in all

module _ (before after : List SheetRuleText) (had left : ℕ) (more come all : List SheetRuleText) where
  pub gathering-more : (after' : List SheetRuleText) (left' : ℕ) → after' ≡ after ++ more
      → left' + declarations_in more ≡ left → Gathering before after had left (more ++ come) all
      → Gathering before after' had left' come all
  gathering-more after' left' e h g =
      let sums = sum_by-append (λ (rule : SheetRuleText). declaration_count rule.block) more come in
      let old = g.room in
      record {
        rules = ap (λ l. l ++ come) e ∙ append_assoc after more come ∙ g.rules;
        room = omega arith;
      }

pub declarations-append : (rules more : List SheetRuleText)
    → declarations_in (rules ++ more) ≡ declarations_in rules + declarations_in more
declarations-append rules more =
    sum_by-append (λ (rule : SheetRuleText). declaration_count rule.block) rules more

pub cons-option : {X : Type 0} (o : Option X) (xs : List X)
    → cons_option o xs ≡ option_to_list o ++ xs
cons-option None xs = refl
cons-option (Some x) xs = refl

-- std's stable sort by the keys
pub sorted-rules : (rules sorted : List SheetRule) → IsPermutation rules sorted
    → IsSortedBy (λ a b. is_before (sheet_rule_of a) (sheet_rule_of b)) sorted
    → IsStableBy (λ a b. is_before (sheet_rule_of a) (sheet_rule_of b)) rules sorted
    → map sheet_rule_of sorted ≡ ordered_by is_before (map sheet_rule_of rules)
sorted-rules rules sorted moved up stable =
    sym (ordered_is is_before (ranks_by nat_list_cmp_total (λ rule. rule_key rule)) _ _
    (arranges-map sheet_rule_of is_before (ranks_by nat_list_cmp_total (λ rule. rule_key rule)) _ _
    (arranges_from_sort _
    (ranks_by nat_list_cmp_total (λ rule. rule_key (sheet_rule_of rule))) _ _ moved up
    stable)))

-- the limit is as far from rules with their origins and the ranks of their layers
ranked-from : (known : List LayerText) (sheets : List SheetText) (rules : List SheetRuleText) (n : ℕ)
    → fold (λ (sum : ℕ) (rule : SheetRuleText). sum + declaration_count rule.block) n
    (map (ranked known sheets) rules)
    ≡ fold (λ (sum : ℕ) (rule : SheetRuleText). sum + declaration_count rule.block) n rules
ranked-from known sheets [] n = refl
ranked-from known sheets (rule ∷ rules) n =
    ranked-from known sheets rules (n + declaration_count rule.block)

pub ranked-declarations : (known : List LayerText) (sheets : List SheetText) (rules : List SheetRuleText)
    → declarations_in (map (ranked known sheets) rules) ≡ declarations_in rules
ranked-declarations known sheets rules = ranked-from known sheets rules 0

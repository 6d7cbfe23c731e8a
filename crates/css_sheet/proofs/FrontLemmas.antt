-- The imports of the statements of a sheet, one after another.
-- Serves `imports::read_imports`.
use Rattle.std.proofs.Common.{◌≡◌, ℕ, ◌-◌, Bool, true, false, List, [], ◌∷◌, length, map, Some, None, refl, sym, ap, ◌∙◌, subst, append-nil}
use Rattle.css_syntax.specs.Statements.{SheetText, next_statement, past_between}
use Rattle.css_syntax.specs.Placed.{placed_statements}
use Rattle.css_syntax.proofs.PlacedSteps.{placed-statements-some, placed-statements-none}
use Rattle.css_selector_text.specs.Names.{no_names}
use Rattle.css_sheet.specs.declared.import_rules.Import.{Import}
use Rattle.css_sheet.specs.ImportRules.{ImportText}
use Rattle.css_sheet.specs.ImportViews.{import_of}
use Rattle.css_sheet.specs.Imports.{FrontRule, rule_in_front, front_rule}
use Rattle.css_sheet.specs.internal.FrontViews.{all_with, TakesRule}

-- the rules of a text in a sheet that has as many bytes
abbrev pub rules_in : ℕ → List ℕ → List FrontRule
rules_in size text = map (front_rule size) (placed_statements false text)

-- The next statement is this rule, and imports were read of it, if it is one.
pub record Read (size : ℕ) (text rest : List ℕ) (part : SheetText) (rule : FrontRule) (goes_on : Bool)
    (before after : List Import) (all : List ImportText) : Type 0 where
  pub next : next_statement false text ≡ Some (part, rest)
  pub rule_is : rule
      ≡ rule_in_front no_names (size - length (past_between false text)) (length part.text) part.statement
  pub takes : (rules : List FrontRule) → TakesRule goes_on before rule rules after
  pub due : all_with before (rules_in size text) ≡ all

module _ (size : ℕ) (text rest : List ℕ) (part : SheetText) (rule : FrontRule) (goes_on : Bool)
    (before after : List Import) (all : List ImportText)
    (r : Read size text rest part rule goes_on before after all) where
  then-all : all_with before (rule ∷ rules_in size rest) ≡ all
  then-all =
      ap (λ (first : FrontRule). all_with before (first ∷ rules_in size rest)) r.rule_is
      ∙ sym (ap (λ placed. all_with before (map (front_rule size) placed))
      (placed-statements-some false text rest part r.next))
      ∙ r.due

  pub read-on : goes_on ≡ true → all_with after (rules_in size rest) ≡ all
  read-on e =
      subst (λ (b : Bool). TakesRule b before rule (rules_in size rest) after) e
      (r.takes (rules_in size rest))
      ∙ then-all

  pub read-last : goes_on ≡ false → map import_of after ≡ all
  read-last e =
      subst (λ (b : Bool). TakesRule b before rule (rules_in size rest) after) e
      (r.takes (rules_in size rest))
      ∙ then-all

none-left : (imports : List Import) → map import_of imports ≡ all_with imports []
none-left [] = refl
none-left (first ∷ imports) = sym (append-nil (map import_of (first ∷ imports)))

pub read-all : (size : ℕ) (text : List ℕ) (imports : List Import) (all : List ImportText)
    → next_statement false text ≡ None → all_with imports (rules_in size text) ≡ all
    → map import_of imports ≡ all
read-all size text imports all e h =
    none-left imports
    ∙ sym (ap (λ placed. all_with imports (map (front_rule size) placed))
    (placed-statements-none false text e))
    ∙ h

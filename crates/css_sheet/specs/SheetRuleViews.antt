-- What contracts see of style rules and of reading them.
use Rattle.std.specs.Prelude.{◌≡◌, ℕ, ◌+◌, ◌<◌, ◌++◌, Bool, List, map, Result, Ok, Err}
use Rattle.std.specs.Option.{option_map}
use Rattle.std.specs.Borrow.{Bor}
use Rattle.css_selector_text.specs.NameViews.{texts_of}
use Rattle.css_sheet.specs.declared.sheet_error.SheetError.{SheetError}
use Rattle.css_sheet.specs.declared.sheet_error.SheetError.TheVariants.{TooManyDeclarations}
use Rattle.css_sheet.specs.declared.sheet_rules.Sheet.{Sheet}
use Rattle.css_sheet.specs.declared.sheet_rules.SheetRule.{SheetRule}
use Rattle.css_sheet.specs.declared.gathering.Gathered.{Gathered}
use Rattle.css_sheet.specs.declared.gathering.Run.{Run}
use Rattle.css_sheet.specs.GroupViews.{group_rule_of}
use Rattle.css_sheet.specs.SheetOrder.{RunText, SheetRuleText, declarations_in}
use Rattle.css_sheet.specs.Sheets.{SheetText}

abbrev pub sheet_of : Sheet → SheetText
sheet_of s = record {
  text = s.text.now;
  origin = s.origin;
  around = map group_rule_of s.around.now;
  namespaces = texts_of s.namespaces.now;
}

abbrev pub sheet_rule_of : SheetRule → SheetRuleText
sheet_rule_of r = record {
  origin = r.origin;
  layer = r.layer;
  sheet = r.sheet;
  start = r.start;
  text = r.text.now;
  selector = r.selector;
  pseudo_element = option_map (λ name. name.now) r.pseudo_element;
  block = r.block.now;
}

-- Each call of a closure returns what `holds` says of the name and the prelude.
abbrev pub Answers : (Bor (List ℕ) → Bor (List ℕ) → Bool → Type 0)
    → (List ℕ → List ℕ → Bool) → Type 0
Answers post holds =
    (name prelude : Bor (List ℕ)) (answer : Bool) → post name prelude answer
    → answer ≡ holds name.now prelude.now

-- declarations of a style rule
abbrev pub run_of : Run → RunText
run_of r = record { layer = r.layer; sheet = r.sheet; start = r.start; text = r.text.now }

-- the rules that are gathered
abbrev pub gathered_rules : Gathered → List SheetRuleText
gathered_rules g = map sheet_rule_of g.rules.items

-- These rules were appended and their declarations taken off the limit, or they are beyond it.
abbrev pub Gathers : Gathered → Result (Unit {0}) SheetError → Gathered → List SheetRuleText → Type 0
Gathers before (Ok done) after more =
    (gathered_rules after ≡ gathered_rules before ++ more)
    × (after.left + declarations_in more ≡ before.left)
Gathers before (Err error) after more =
    error ≡ TooManyDeclarations → before.left < declarations_in more

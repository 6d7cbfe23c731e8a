-- What contracts see of rules with their declarations, of a walk with them, and of winners.
use Rattle.std.specs.Prelude.{◌≡◌, ℕ, All, List, length, map}
use Rattle.std.specs.Borrow.{Bor}
use Rattle.css_syntax.specs.Views.{declaration_of}
use Rattle.css_index.specs.Walks.{Walk}
use Rattle.css_selector_text.specs.Components.{Selector}
use Rattle.css_selectors.specs.MarkedLists.{ListText}
use Rattle.css_sheet.specs.SheetOrder.{SheetRuleText}
use Rattle.css_tree.specs.Answered.{SelectorIsAnswered}
use Rattle.css_tree.specs.Html.{html_selector, list_in}
use Rattle.css_tree.specs.Marks.{AreMarked}
use Rattle.css_tree.specs.Pages.{Page}
use Rattle.css_tree.specs.declared.html.HtmlMode.{HtmlMode}
use Rattle.css_styles.specs.declared.winner.Own.{Own}
use Rattle.css_styles.specs.declared.winner.Winner.{Winner}
use Rattle.css_styles.specs.Contenders.{OwnText}
use Rattle.css_styles.specs.Winners.{WinnerText}

-- rules in order, with numbers in their selectors; the lists that have these numbers, of which the first has
-- number 1; and the properties that the rules state, in the order in which these appear
pub record StyleRulesText : Type 0 where
  pub rules : List SheetRuleText
  pub lists : List ListText
  pub properties : List (List ℕ)

-- the rules, the page, and a walk over it of the rules' selectors
pub record StylesText : Type 0 where
  pub rules : List SheetRuleText
  pub page : Page
  pub walk : Walk

-- a page that is marked with these lists answers the selectors of the rules
abbrev pub AreAnswered : List SheetRuleText → List ListText → Type 0
AreAnswered rules lists = All (λ rule. SelectorIsAnswered (length lists) rule.selector) rules

-- The selectors are those of the rules as an HTML document in some mode reads them, and so are the lists that the page
-- is marked with.
abbrev pub IsMarkedInHtml : StyleRulesText → List Selector → Page → Type 0
IsMarkedInHtml text selectors page =
    (mode : HtmlMode) × (selectors ≡ map (λ (rule : SheetRuleText). html_selector mode rule.selector) text.rules)
    × AreMarked (map (list_in mode) text.lists) page

abbrev pub winner_of : Winner → WinnerText
winner_of w = record { declaration = declaration_of w.declaration; source = w.source; place = w.place }

abbrev pub own_of : Own → OwnText
own_of o = record { style = o.style.now; presentation = o.presentation.now }

-- the names of each of some properties
abbrev pub names_of : List (Bor (List (Bor (List ℕ)))) → List (List (List ℕ))
names_of asked = map (λ names. map (λ name. name.now) names.now) asked

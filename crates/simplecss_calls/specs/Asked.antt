-- What is asked of the elements of a page with rules: what wins on each, which rules match it, or all that applies.
use Rattle.std.specs.Prelude.{◌≡◌, ℕ, List, Option, None, Some, Result, Ok, Err}
use Rattle.css_selector_text.specs.Components.{Selector}
use Rattle.css_selectors.specs.MarkedLists.{ListText}
use Rattle.css_sheet.specs.SheetOrder.{SheetRuleText}
use Rattle.css_tree.specs.Pages.{Page}
use Rattle.call_answers.specs.Calls.{FailsWithin, HasTexts, HasBadEnds, IsBrokenUtf8}
use Rattle.call_answers.specs.declared.answer.CallError.{CallError}
use Rattle.page_calls.specs.MarkedPages.{AreOnMarked}
use Rattle.page_calls.specs.Readings.{selector_as}
use Rattle.page_calls.specs.declared.modern.document_kind.DocumentKind.{DocumentKind}
use Rattle.page_calls.specs.declared.modern.ranges.ElementRange.{ElementRange}
use Rattle.simplecss_calls.specs.ExplainNumbers.{AreExplained}
use Rattle.simplecss_calls.specs.WinnerNumbers.{AreMatched, AreWon, groups_in}
use Rattle.simplecss_calls.specs.declared.contents.ElementContent.{ElementContent}
use Rattle.simplecss_calls.specs.declared.contents.ElementContent.TheVariants as contents

-- what is written of each element: what wins, of these properties or of each; what matches; or all that applies of the
-- property of these names
pub data ContentText : Type 0 where
  won : Option (List (List (List ℕ))) → ContentText
  matched : ContentText
  explained : List (List ℕ) → ContentText

-- those of the elements of a range, where there are two texts for each element of the page
abbrev pub AreNumbers : ContentText → (texts : List (List ℕ)) → (most : ℕ) → ElementRange → (Selector → Selector)
    → List SheetRuleText → Page → Option (List ℕ) → Type 0
AreNumbers (won asked) texts = AreWon asked texts
AreNumbers matched texts = AreMatched
AreNumbers (explained names) texts = AreExplained names texts

-- what a caller says of it: the same by names in a buffer, with their ends
abbrev pub IsContent : ElementContent → ContentText → Type 0
IsContent contents.Winners content = content ≡ won None
IsContent (contents.Named names) content =
    (words : List (List ℕ)) × HasTexts names.names.now names.ends.now words
    × (content ≡ won (Some (groups_in names.counts.now words)))
IsContent contents.Matches content = content ≡ matched
IsContent (contents.Explained names) content =
    (words : List (List ℕ)) × HasTexts names.names.now names.ends.now words × (content ≡ explained words)

-- ends are not those of texts
abbrev pub HasBadContent : ElementContent → Type 0
HasBadContent contents.Winners = ⊥
HasBadContent (contents.Named names) = HasBadEnds names.names.now names.ends.now
HasBadContent contents.Matches = ⊥
HasBadContent (contents.Explained names) = HasBadEnds names.names.now names.ends.now

-- a text is not UTF-8
abbrev pub IsBrokenContent : ElementContent → Type 0
IsBrokenContent contents.Winners = ⊥
IsBrokenContent (contents.Named names) = IsBrokenUtf8 names.names.now names.ends.now
IsBrokenContent contents.Matches = ⊥
IsBrokenContent (contents.Explained names) = IsBrokenUtf8 names.names.now names.ends.now

-- The numbers of each element of a range of a page, or none within a limit: on it the lists are answered that
-- selectors ask by numbers.
abbrev pub AreAskedOf : ElementContent → (most : ℕ) → ElementRange → DocumentKind → List SheetRuleText
    → List ListText → (texts : List (List ℕ)) → Page → Option (List ℕ) → Type 0
AreAskedOf asked most range kind rules lists texts page answer =
    (content : ContentText) × IsContent asked content
    × AreOnMarked most kind lists page (AreNumbers content texts most range (selector_as kind) rules) answer

-- the same, or why there are none
abbrev pub IsAskedOf : ElementContent → (most : ℕ) → ElementRange → DocumentKind → List SheetRuleText
    → List ListText → (texts : List (List ℕ)) → Page → Result (List ℕ) CallError → Type 0
IsAskedOf asked most range kind rules lists texts page (Ok numbers) =
    AreAskedOf asked most range kind rules lists texts page (Some numbers)
IsAskedOf asked most range kind rules lists texts page (Err failure) =
    FailsWithin (HasBadContent asked) (λ fault. ⊥) (IsBrokenContent asked) ⊥
    (AreAskedOf asked most range kind rules lists texts page None) failure

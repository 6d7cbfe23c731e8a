use Rattle.std.proofs.Common.{◌≡◌, ◌++◌, length, map}
use Rattle.css_sheet.specs.GroupViews.{group_rule_of}
use Rattle.css_sheet.specs.SheetRuleViews.{sheet_of}
use Rattle.simplecss_calls.specs.WinnerNumbers.{sheets_with}
use Rattle.simplecss_calls.proofs.winners.sheets_with.Given as goal

-- the sheets so far, and those that are left
abbrev pub invariant-texts : goal.invariant-texts
invariant-texts l =
    map sheet_of l.sheets.items
    ++ sheets_with l.numbers l.counts (map group_rule_of l.left) (map (λ url. url.now) l.namespaces)
    (map (λ text. text.now) l.rest)
    ≡ sheets_with l.origins l.depths (map group_rule_of l.rules) (map (λ url. url.now) l.namespaces)
    (map (λ text. text.now) l.texts)

abbrev pub decreases-texts : goal.decreases-texts
decreases-texts l = length l.rest

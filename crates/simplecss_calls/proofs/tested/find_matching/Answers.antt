use Rattle.std.proofs.Common.{◌≡◌, OnOk, map, subst, rules}
use Rattle.css_matching.specs.ListTrees.{spot}
use Rattle.css_index.specs.Found.{AreMatches}
use Rattle.css_sheet.specs.SheetRuleViews.{sheet_rule_of}
use Rattle.css_tree.specs.Pages.{page_document}
use Rattle.page_calls.specs.Readings.{selector_as}
use Rattle.simplecss_calls.specs.WinnerNumbers.{selectors_read}
use Rattle.simplecss_calls.proofs.tested.find_matching.Goals as goal

pub returns : goal.returns
returns c =
    let same : c.unwrap-node.result ≡ spot c.args.page.now c.args.element = search rules in
    subst (λ node. OnOk c.find_on.result (AreMatches page_document node (selectors_read
    (selector_as c.args.kind) (map sheet_rule_of c.args.rules.now)) c.find_on.new.indices.items)) same
    c.find_on.ensures

use Rattle.std.proofs.Common.{◌≡◌, true, ◌&&◌, cond, Some, ap, sym, ◌∙◌}
use Rattle.std.specs.BTreeMap.{get}
use Rattle.std.specs.Ordering.{is_eq}
use Rattle.css_tree.specs.HtmlElements.{is_radio}
use Rattle.css_tree.specs.HtmlStates.{is_checked}
use Rattle.css_tree.specs.HtmlViews.{group_cmp}
use Rattle.css_tree.proofs.HtmlStateLemmas.{groups-more}
use Rattle.css_tree.proofs.html_states.add_group.Goals as goal

pub returns-in_ok-insert : goal.returns-in_ok-insert
returns-in_ok-insert c =
    let rows = c.args.node.now.0 in
    let i = c.args.node.now.1 in
    let radio : is_radio rows i ≡ true = sym c.is_radio.ensures ∙ c.if-is_radio.true in
    let checked : is_checked rows i ≡ true = sym c.is_checked.ensures ∙ c.if-is_checked.true in
    groups-more rows c.args.groups.now c.insert.new.self i (c.form_of.result, c.group_name.result)
    (ap (λ b. b && is_checked rows i) radio ∙ checked) c.form_of.ensures c.group_name.ensures
    (λ q. c.in_ok-insert.ensures.updates.0 q
    ∙ ap (λ n. cond (is_eq (group_cmp (c.form_of.result, c.group_name.result) q)) (Some n)
    (get group_cmp c.args.groups.now q)) c.index.ensures)
    c.requires.groups

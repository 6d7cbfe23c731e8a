use Rattle.std.proofs.Common.{◌≡◌, ◌++◌, ◌∙◌, ap, sym, map, rules}
use Rattle.std.specs.List.{filter}
use Rattle.std.proofs.lemmas.List.{map-append}
use Rattle.std.proofs.lemmas.List.Elements.{filter_from_retain}
use Rattle.simplecss_grammar.specs.Statements.{has_declaration}
use Rattle.simplecss_grammar.specs.Sheets.{is_smaller, ordered}
use Rattle.simplecss.specs.RuleViews.{rule_of}
use Rattle.simplecss_grammar.proofs.order.OrderLemmas.{smaller_order}
use Rattle.css_text.proofs.order.ListFacts.{filter-map}
use Rattle.css_text.proofs.order.RankLemmas.{ordered_filter}
use Rattle.simplecss.proofs.sheet.order.merge.Goals as goal

-- the rules are dropped after they are ordered, since the order may fail for memory
pub returns-clause-ok : goal.returns-clause-ok
returns-clause-ok c =
    let all : c.join.new.rules.items ≡ c.args.rules.now.items ++ c.args.more.items = search rules in
    let seen = ap (map rule_of) all ∙ map-append rule_of c.args.rules.now.items c.args.more.items in
    let sorted : map rule_of c.sort_rules.new.rules.items
    ≡ ordered (map rule_of c.join.new.rules.items) = search rules in
    ap (map rule_of) (filter_from_retain _ (λ r. has_declaration (rule_of r))
    (λ p x b q k. search rules) _ _ _ c.retain.ensures.filtered)
    ∙ sym (filter-map rule_of has_declaration c.sort_rules.new.rules.items)
    ∙ ap (filter has_declaration) (sorted ∙ ap ordered seen)
    ∙ sym (ordered_filter is_smaller smaller_order has_declaration
    (map rule_of c.args.rules.now.items ++ map rule_of c.args.more.items))

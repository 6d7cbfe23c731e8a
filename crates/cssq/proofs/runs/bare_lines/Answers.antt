use Rattle.std.proofs.Common.{map, ◌∙◌, string_bytes}
use Rattle.std.proofs.lemmas.List.{length-map}
use Rattle.cssq_tree.specs.PageNodes.{spot}
use Rattle.cssq.proofs.Indexed.{none_match}
use Rattle.cssq.proofs.MatchLines.{lines_more}
use Rattle.cssq.proofs.runs.bare_lines.Goals as goal

-- the line of one more element
pub loop-element-preserved : goal.loop-element-preserved
loop-element-preserved c =
    let added = c.in_ok-push_answer.ensures c.args.page.now
    (none_match (map (λ rule. rule.selector) c.args.rules.now)
    (spot c.args.page.now c.loop-element.element)
    (length-map c.args.rules.now (λ rule. rule.selector) ∙ c.requires)) in
    lines_more c.loop-element.invariant added.0 (string_bytes c.push_answer.new.out) added.1 added.2

use Rattle.std.proofs.Common.{◌∙◌, string_bytes}
use Rattle.cssq_tree.specs.ParentsAndSiblings.{depths_of}
use Rattle.cssq.proofs.MatchLines.{lines_more}
use Rattle.cssq.proofs.Walking.{next_place}
use Rattle.cssq.proofs.runs.page_lines.Goals as goal

-- the line of one more element
pub loop-element-preserved : goal.loop-element-preserved
loop-element-preserved c =
    let added = c.in_ok-push_element.ensures.reported in
    record {
      lines = lines_more c.loop-element.invariant.lines added.0
          (string_bytes c.push_element.new.out) added.1 added.2;
      walk = c.in_ok-push_element.ensures.walk;
      path = c.in_ok-push_element.ensures.path ∙ c.loop-element.invariant.path;
      before = next_place (depths_of c.args.page.now) c.loop-element.element
          c.push_element.new.walk.place c.in_ok-push_element.ensures.at;
    }

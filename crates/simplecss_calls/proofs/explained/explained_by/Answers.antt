use Rattle.std.proofs.Common.{◌≡◌, ◌+◌, ◌++◌, ℕ, List, length, map, Some, None, ◌∙◌, subst, arith}
use Rattle.cssq.proofs.MatchLines.{lines_more}
use Rattle.page_calls.specs.Ranges.{count_in}
use Rattle.css_sheet.specs.SheetRuleViews.{sheet_rule_of}
use Rattle.simplecss_calls.specs.ExplainNumbers.{AreExplainedBy, IsExplainedBy}
use Rattle.simplecss_calls.specs.internal.Contents.{names_of_asked as names_of, own_of_asked as own_of}
use Rattle.call_answers.proofs.PageLines.{lines_done, longer_due, memory_due}
use Rattle.simplecss_calls.proofs.explained.explained_by.Goals as goal

pub returns-in_err-push_explained : goal.returns-in_err-push_explained
returns-in_err-push_explained c =
    let are = AreExplainedBy (names_of c.args.asked) (own_of c.args.asked) c.args.most c.args.range c.args.walk.now.walk.selectors
    (map sheet_rule_of c.args.rules.now) c.args.walk.now.page in
    memory_due (λ out. are (Some out.items)) (are None) c.from_residual.result
    c.from_residual.ensures.1

-- the numbers up to this element are too many
pub returns-in_err-check_count : goal.returns-in_err-check_count
returns-in_err-check_count c =
    let page = c.args.walk.now.page in
    let selectors = c.args.walk.now.walk.selectors in
    let are = AreExplainedBy (names_of c.args.asked) (own_of c.args.asked) c.args.most c.args.range selectors
    (map sheet_rule_of c.args.rules.now) page in
    let added = subst (λ p. (line : List ℕ) × IsExplainedBy (names_of c.args.asked) (own_of c.args.asked) c.args.walk.now.walk.selectors (map sheet_rule_of c.args.rules.now)
    p (c.args.range.from + c.loop-index.index) line
    × (c.push_explained.new.out.items ≡ c.loop-index.out.items ++ line))
    c.loop-index.invariant.page
    (subst (λ ss. (line : List ℕ) × IsExplainedBy (names_of c.args.asked) (own_of c.args.asked) ss (map sheet_rule_of c.args.rules.now)
    c.loop-index.walk.page (c.args.range.from + c.loop-index.index) line
    × (c.push_explained.new.out.items ≡ c.loop-index.out.items ++ line))
    c.loop-index.invariant.selectors c.in_ok-push_explained.ensures.written) in
    longer_due (λ out. are (Some out.items)) c.args.most (λ index. IsExplainedBy (names_of c.args.asked) (own_of c.args.asked) selectors
    (map sheet_rule_of c.args.rules.now) page (c.args.range.from + index))
    (c.loop-index.index + 1) (count_in c.args.range (length page.rows)) c.push_explained.new.out.items
    (lines_more c.loop-index.invariant.lines.so_far added.0 c.push_explained.new.out.items added.1
    added.2) (omega arith) c.from_residual-in_err-check_count.result
    c.in_err-check_count.field-0.0 c.from_residual-in_err-check_count.ensures.1
    c.in_err-check_count.ensures

-- the numbers of one more element
pub loop-index-preserved : goal.loop-index-preserved
loop-index-preserved c =
    let added = subst (λ p. (line : List ℕ)
    × IsExplainedBy (names_of c.args.asked) (own_of c.args.asked) c.args.walk.now.walk.selectors (map sheet_rule_of c.args.rules.now)
    p (c.args.range.from + c.loop-index.index) line
    × (c.push_explained.new.out.items ≡ c.loop-index.out.items ++ line))
    c.loop-index.invariant.page
    (subst (λ ss. (line : List ℕ)
    × IsExplainedBy (names_of c.args.asked) (own_of c.args.asked) ss (map sheet_rule_of c.args.rules.now)
    c.loop-index.walk.page (c.args.range.from + c.loop-index.index) line
    × (c.push_explained.new.out.items ≡ c.loop-index.out.items ++ line))
    c.loop-index.invariant.selectors c.in_ok-push_explained.ensures.written) in
    record {
      lines = record {
        so_far = lines_more c.loop-index.invariant.lines.so_far added.0
            c.push_explained.new.out.items added.1 added.2;
        short = c.in_ok-check_count.ensures;
      };
      page = c.in_ok-push_explained.ensures.page ∙ c.loop-index.invariant.page;
      selectors = c.in_ok-push_explained.ensures.selectors ∙ c.loop-index.invariant.selectors;
    }

pub returns : goal.returns
returns c =
    let page = c.args.walk.now.page in
    lines_done c.args.most (λ index. IsExplainedBy (names_of c.args.asked) (own_of c.args.asked) c.args.walk.now.walk.selectors
    (map sheet_rule_of c.args.rules.now) page (c.args.range.from + index))
    c.loop-index.index (count_in c.args.range (length page.rows)) c.loop-index.out.items
    c.loop-index.invariant.lines (omega arith)

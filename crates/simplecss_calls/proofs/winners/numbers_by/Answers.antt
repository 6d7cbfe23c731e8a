use Rattle.std.proofs.Common.{◌≡◌, ◌+◌, ◌++◌, ℕ, List, length, Some, None, ◌∙◌, sym, subst, arith}
use Rattle.css_selector_text.specs.Components.{Selector}
use Rattle.css_styles.specs.StyleViews.{StylesText}
use Rattle.cssq.proofs.MatchLines.{lines_more}
use Rattle.page_calls.specs.Ranges.{count_in}
use Rattle.simplecss_calls.specs.WinnerNumbers.{AreWon, IsWonOf}
use Rattle.simplecss_calls.specs.declared.winners.Wanted.{Wanted}
use Rattle.simplecss_calls.specs.internal.Contents.{AreReadBy, asked_by, own_by}
use Rattle.call_answers.proofs.PageLines.{lines_done, longer_due, memory_due}
use Rattle.simplecss_calls.proofs.winners.numbers_by.Goals.{After-push_element}
use Rattle.simplecss_calls.proofs.winners.numbers_by.Goals as goal

-- what is written of an element by the walk as it is now is that of its rules and its page
one-more : (wanted : Wanted) (read : Selector → Selector) (styles first : StylesText) (element : ℕ) (before after : List ℕ)
    → styles.rules ≡ first.rules → styles.page ≡ first.page
    → ((line : List ℕ) × IsWonOf (asked_by wanted) (own_by wanted) read styles.rules styles.page element line
    × (after ≡ before ++ line))
    → (line : List ℕ) × IsWonOf (asked_by wanted) (own_by wanted) read first.rules first.page element line
    × (after ≡ before ++ line)
one-more wanted read styles first element before after rules page one = (
  one.0,
  subst (λ p. IsWonOf (asked_by wanted) (own_by wanted) read first.rules p element one.0) page
      (subst (λ rs. IsWonOf (asked_by wanted) (own_by wanted) read rs styles.page element one.0) rules one.1),
  one.2,
)

pub returns-in_err-push_element : goal.returns-in_err-push_element
returns-in_err-push_element c = λ read is_read.
    let are = AreWon (asked_by c.args.wanted) (own_by c.args.wanted) c.args.most c.args.range read c.args.styles.rules c.args.styles.page in
    memory_due (λ out. are (Some out.items)) (are None) c.from_residual.result
    c.from_residual.ensures.1

-- the numbers up to this element are too many
pub returns-in_err-check_count : goal.returns-in_err-check_count
returns-in_err-check_count c = λ read is_read.
    let page = c.args.styles.page in
    let rules = c.args.styles.rules in
    let are = AreWon (asked_by c.args.wanted) (own_by c.args.wanted) c.args.most c.args.range read rules page in
    let same = subst (λ rs. AreReadBy read rs c.loop-index.styles.walk.selectors)
    (sym c.loop-index.invariant.rules)
    (subst (AreReadBy read rules) (sym c.loop-index.invariant.selectors) is_read) in
    let added = one-more c.args.wanted read c.loop-index.styles c.args.styles (c.args.range.from + c.loop-index.index)
    c.loop-index.out.items c.push_element.new.out.items c.loop-index.invariant.rules c.loop-index.invariant.page
    (c.in_ok-push_element.ensures.written read same) in
    longer_due (λ out. are (Some out.items)) c.args.most
    (λ index. IsWonOf (asked_by c.args.wanted) (own_by c.args.wanted) read rules page (c.args.range.from + index))
    (c.loop-index.index + 1) (count_in c.args.range (length page.rows)) c.push_element.new.out.items
    (lines_more (c.loop-index.invariant.lines read is_read).so_far added.0
    c.push_element.new.out.items added.1
    added.2) (omega arith) c.from_residual-in_err-check_count.result
    c.in_err-check_count.field-0.0 c.from_residual-in_err-check_count.ensures.1
    c.in_err-check_count.ensures

-- the numbers of one more element
pub loop-index-preserved : goal.loop-index-preserved
loop-index-preserved c = record {
  lines = λ read is_read.
      let page = c.args.styles.page in
      let rules = c.args.styles.rules in
      let same = subst (λ rs. AreReadBy read rs c.loop-index.styles.walk.selectors)
      (sym c.loop-index.invariant.rules)
      (subst (AreReadBy read rules) (sym c.loop-index.invariant.selectors) is_read) in
      let added = one-more c.args.wanted read c.loop-index.styles c.args.styles
      (c.args.range.from + c.loop-index.index) c.loop-index.out.items c.push_element.new.out.items
      c.loop-index.invariant.rules c.loop-index.invariant.page (c.in_ok-push_element.ensures.written read same) in
      record {
        so_far = lines_more (c.loop-index.invariant.lines read is_read).so_far added.0
            c.push_element.new.out.items added.1 added.2;
        short = c.in_ok-check_count.ensures;
      };
  page = c.in_ok-push_element.ensures.page ∙ c.loop-index.invariant.page;
  rules = c.in_ok-push_element.ensures.rules ∙ c.loop-index.invariant.rules;
  selectors = c.in_ok-push_element.ensures.selectors ∙ c.loop-index.invariant.selectors;
}

pub returns : goal.returns
returns c = λ read is_read.
    lines_done c.args.most (λ index. IsWonOf (asked_by c.args.wanted) (own_by c.args.wanted) read c.args.styles.rules
    c.args.styles.page (c.args.range.from + index))
    c.loop-index.index (count_in c.args.range (length c.args.styles.page.rows)) c.loop-index.out.items
    (c.loop-index.invariant.lines read is_read) (omega arith)

use Rattle.std.proofs.Common.{◌≡◌, ◌+◌, ◌++◌, ◌<◌, List, ℕ, map, drop, sym, ◌∙◌, ap, subst, true, false, append_assoc, append-nil, refl, arith}
use Rattle.css_text.specs.declared.sheet_error.SheetError.TheVariants.{TooManyDeclarations}
use Rattle.css_text.specs.Reading.{no_comment}
use Rattle.css_text.specs.Comments.{opens_comment, past_blank}
use Rattle.simplecss_grammar.specs.Statements.{statement}
use Rattle.simplecss_grammar.specs.Skipped.{add_each, end_skips, skipped}
use Rattle.simplecss_grammar.proofs.reading.SkipLemmas.{skipped-none, skipped-blank}
use Rattle.css_text.specs.ThisEdition.{this_edition}
use Rattle.css_text.specs.Cursor.{rest_of}
use Rattle.simplecss.specs.RuleViews.{rule_of}
use Rattle.simplecss.specs.internal.SharedBlocks.{rules_read}
use Rattle.simplecss.specs.DeclarationCounts.{declaration_count, kept_declarations}
use Rattle.simplecss.proofs.DeclarationSums.{left-more, too_many, kept_declarations-of, kept_declarations-none}
use Rattle.simplecss.proofs.StatementLemmas.{rules_from, rules_from-some, rules_from-none, rules_from-blank, statement-less, told-some, blank-got, blank-open, next_statement-open}
use Rattle.simplecss.proofs.Reports.{passed_on}
use Rattle.simplecss.proofs.sheet.reading.read_rules.Goals as goal

pub returns-then-not-skip_blank-clause-rules : goal.returns-then-not-skip_blank-clause-rules
returns-then-not-skip_blank-clause-rules g c =
    let start : rest_of c.new-s.result ≡ c.args.text.now =
    ap (λ n. drop n c.new-s.result.text.now) c.new-s.ensures.offset ∙ c.new-s.ensures.text in
    subst (λ (t : List ℕ). opens_comment (past_blank t) ≡ true) start
    (blank-open (rest_of c.new-s.result) (rest_of c.skip_blank.new.s)
    (no_comment (past_blank (rest_of c.new-s.result))) c.if-not-skip_blank.ensures.reads)

pub statements-init : goal.statements-init
statements-init g c =
    let start : rest_of c.new-s.result ≡ c.args.text.now =
    ap (λ n. drop n c.new-s.result.text.now) c.new-s.ensures.offset ∙ c.new-s.ensures.text in
    let after = blank-got (rest_of c.new-s.result)
    (rest_of c.skip_blank.new.s) c.if-not-skip_blank.ensures.reads in
    record {
      rules = rw c.new-reader.ensures (ap (rules_from this_edition) (sym after.1) ∙ rules_from-blank
          this_edition (rest_of c.new-s.result) ∙ ap (rules_from this_edition) start);
      left = rw c.new-reader.ensures (omega arith);
      reported = ap (add_each g.P.Report.add (g.P.Report.state c.begin.new.self))
          (ap (skipped this_edition) (sym after.1)
          ∙ skipped-blank this_edition (rest_of c.new-s.result) ∙ ap (skipped this_edition) start);
    }

pub statements-smaller : goal.statements-smaller
statements-smaller g c =
    statement-less this_edition (rest_of c.statements.s) (rest_of c.at_statement.new.s) _
    c.if-not-at_statement.ensures.reads c.in_ok-consume_statement.ensures.rest

pub statements-preserved : goal.statements-preserved
statements-preserved g c =
    let read = statement this_edition (rest_of c.at_statement.new.s) in
    let step = rules_from-some this_edition (rest_of c.statements.s)
    (rest_of c.at_statement.new.s) c.if-not-at_statement.ensures.reads in
    let next = rest_of c.consume_statement.new.s in
    let old = map rule_of c.statements.reader.rules.items in
    let more : map rule_of c.keep_rules.new.self.rules.items ≡ old ++ read.0 =
    c.in_ok-left.ensures.rules
    ∙ ap (λ l. map rule_of l ++ rules_read c.consume_statement.new.self)
    c.consume_statement.ensures.kept
    ∙ ap (λ l. old ++ l) c.in_ok-consume_statement.ensures.rules in
    record {
      reported = told-some g.P.Report.add this_edition (g.P.Report.state c.statements.report) _
          (rest_of c.statements.s) (rest_of c.at_statement.new.s) next
          c.if-not-at_statement.ensures.reads (c.if-not-at_statement.ensures.rest refl)
          c.in_ok-consume_statement.ensures.rest c.in_ok-consume_statement.ensures.reported
          ∙ c.statements.invariant.reported;
      left = subst (λ rules. c.in_ok-left.left + declaration_count rules ≡ c.args.most.now) (sym more)
          (left-more old read.0 c.statements.left c.in_ok-left.left c.args.most.now
          c.statements.invariant.left
          (ap (λ rules. c.in_ok-left.left + declaration_count rules)
          (sym c.in_ok-consume_statement.ensures.rules) ∙ c.in_ok-left.ensures.left));
      rules = ap (λ l. l ++ rules_from this_edition next) more
          ∙ append_assoc old read.0 (rules_from this_edition next)
          ∙ ap (λ (t : List ℕ). old ++ (read.0 ++ rules_from this_edition t))
          c.in_ok-consume_statement.ensures.rest
          ∙ ap (λ l. old ++ l) (sym step)
          ∙ c.statements.invariant.rules;
    }

pub returns-then-not-at_statement-clause-rules : goal.returns-then-not-at_statement-clause-rules
returns-then-not-at_statement-clause-rules g c =
    let start : rest_of c.new-s.result ≡ c.args.text.now =
    ap (λ n. drop n c.new-s.result.text.now) c.new-s.ensures.offset ∙ c.new-s.ensures.text in
    let after = blank-got (rest_of c.new-s.result)
    (rest_of c.skip_blank.new.s) c.if-not-skip_blank.ensures.reads in
    let end =
    rules_from-none this_edition (rest_of c.statements.s) c.if-not-at_statement.ensures.reads in (
      subst (λ (t : List ℕ). opens_comment (past_blank t) ≡ false) start after.0,
      ap (map rule_of) c.into_rules.ensures
          ∙ sym (append-nil (map rule_of c.statements.reader.rules.items))
          ∙ ap (λ l. map rule_of c.statements.reader.rules.items ++ l) (sym end)
          ∙ c.statements.invariant.rules,
    )

pub returns-then-not-at_statement-clause-reported :
    goal.returns-then-not-at_statement-clause-reported
returns-then-not-at_statement-clause-reported g c =
    let add = g.P.Report.add in
    let before = g.P.Report.state c.statements.report in
    c.in_ok-report_end-2.ensures
    ∙ ap (λ (t : List ℕ). add_each add before (end_skips t)) c.slice_tail-rest.ensures
    ∙ ap (add_each add before)
    (sym (skipped-none this_edition (rest_of c.statements.s) c.if-not-at_statement.ensures.reads))
    ∙ c.statements.invariant.reported
    ∙ ap (λ (s : g.P.Report.State). add_each add s (skipped this_edition c.args.text.now))
    c.begin.ensures

pub returns-then-not-skip_blank-clause-reported : goal.returns-then-not-skip_blank-clause-reported
returns-then-not-skip_blank-clause-reported g c =
    let start : rest_of c.new-s.result ≡ c.args.text.now =
    ap (λ n. drop n c.new-s.result.text.now) c.new-s.ensures.offset ∙ c.new-s.ensures.text in
    let none =
    next_statement-open this_edition (rest_of c.new-s.result) (rest_of c.skip_blank.new.s)
    (no_comment (past_blank (rest_of c.new-s.result))) c.if-not-skip_blank.ensures.reads in
    c.in_ok-report_end.ensures
    ∙ ap (λ (s : g.P.Report.State). add_each g.P.Report.add s (end_skips c.args.text.now))
    c.begin.ensures
    ∙ ap (add_each g.P.Report.add
    (g.P.Report.begun (g.P.Report.state c.args.report.now) c.args.text.now))
    (ap end_skips (sym start) ∙ sym (skipped-none this_edition (rest_of c.new-s.result) none)
    ∙ ap (skipped this_edition) start)

pub returns-then-not-skip_blank-clause-left : goal.returns-then-not-skip_blank-clause-left
returns-then-not-skip_blank-clause-left g c =
    let start : rest_of c.new-s.result ≡ c.args.text.now =
    ap (λ n. drop n c.new-s.result.text.now) c.new-s.ensures.offset ∙ c.new-s.ensures.text in
    let none =
    next_statement-open this_edition (rest_of c.new-s.result) (rest_of c.skip_blank.new.s)
    (no_comment (past_blank (rest_of c.new-s.result))) c.if-not-skip_blank.ensures.reads in
    let zero_kept = ap (kept_declarations this_edition) (sym start)
    ∙ kept_declarations-none this_edition (rest_of c.new-s.result) none in
    omega (arith, zero_kept)

pub returns-then-not-at_statement-clause-left : goal.returns-then-not-at_statement-clause-left
returns-then-not-at_statement-clause-left g c =
    let old = map rule_of c.statements.reader.rules.items in
    let end =
    rules_from-none this_edition (rest_of c.statements.s) c.if-not-at_statement.ensures.reads in
    let all = kept_declarations-of this_edition c.args.text.now ∙ ap declaration_count
    (sym c.statements.invariant.rules ∙ ap (λ l. old ++ l) end ∙ append-nil old) in
    let left = c.statements.invariant.left in
    omega (arith, all, left)

pub returns-in_err-left-clause-refused : goal.returns-in_err-left-clause-refused
returns-in_err-left-clause-refused g c =
    let text = c.args.text.now in
    let old = map rule_of c.statements.reader.rules.items in
    let read = statement this_edition (rest_of c.at_statement.new.s) in
    let step = rules_from-some this_edition (rest_of c.statements.s)
    (rest_of c.at_statement.new.s) c.if-not-at_statement.ensures.reads in
    passed_on
    (λ error. error ≡ TooManyDeclarations → c.args.most.now < kept_declarations this_edition text)
    c.from_residual-in_err-left.result c.in_err-left.field-0.0 c.from_residual-in_err-left.ensures.1
    (λ many. too_many this_edition text old read.0
    (rules_from this_edition read.1) c.statements.left c.args.most.now c.statements.invariant.left
    (subst (λ rules. c.statements.left < declaration_count rules)
    c.in_ok-consume_statement.ensures.rules (c.in_err-left.ensures.refused many))
    (ap (λ l. old ++ l) (sym step) ∙ c.statements.invariant.rules))

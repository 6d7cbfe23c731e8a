use Rattle.std.proofs.Common.{◌≡◌, ◌++◌, ◌∷◌, [], ◌<◌, ◌+◌, ◌∙◌, ℕ, List, length, map, ap, sym, subst, take, arith, flat_map, IsUtf8}
use Rattle.std.specs.List.{All, filter}
use Rattle.std.proofs.lemmas.List.{map-append, map_more, take_all, take_more, take-map}
use Rattle.std.proofs.lemmas.List.Elements.{All-push, filter-append}
use Rattle.simplecss_grammar.specs.Statements.{has_declaration, kept, statements}
use Rattle.simplecss.proofs.Reports.{add-more, passed_on}
use Rattle.simplecss.proofs.TextCounts.{open_not, open_still, left_of-more, texts_exceed}
use Rattle.css_text.specs.declared.sheet_error.SheetError.TheVariants.{TooManyDeclarations}
use Rattle.simplecss.specs.DeclarationCounts.{kept_in_all}
use Rattle.simplecss.specs.Readings.{are_open_comments, reports_of}
use Rattle.css_text.specs.ThisEdition.{this_edition}
use Rattle.simplecss.specs.declared.sheet.rules.Rule.{Rule}
use Rattle.simplecss.specs.RuleViews.{rule_of, rules_of}
use Rattle.simplecss.proofs.SheetLemmas.{texts_more, texts_open}
use Rattle.simplecss.proofs.sheet.reading.read_all.Goals as goal
use Rattle.simplecss.proofs.sheet.reading.read_all.Goals.{in-Some+in_ok-join, in_default}

-- the rules of one more text are appended
joined : (texts : List (List ℕ)) (text : List ℕ) (old more new : List Rule)
    → rules_of more ≡ flat_map (λ given. given) (statements this_edition text) → new ≡ old ++ more
    → filter has_declaration (rules_of old) ≡ flat_map (kept this_edition) texts
    → filter has_declaration (rules_of new) ≡ flat_map (kept this_edition) (texts ++ text ∷ [])
joined texts text old more new read e was =
    ap (λ l. filter has_declaration (rules_of l)) e
    ∙ ap (filter has_declaration) (map-append rule_of old more ∙ ap (λ l. rules_of old ++ l) read)
    ∙ filter-append has_declaration (rules_of old)
    (flat_map (λ given. given) (statements this_edition text))
    ∙ ap (λ l. l ++ kept this_edition text) was ∙ sym (texts_more this_edition texts text)

-- the rules of one more text
pub loop-text-preserved : goal.loop-text-preserved
loop-text-preserved g c =
    let texts = c.args.texts.now in
    let i = c.loop-text.text-index in
    let within : i < length texts = omega arith in
    let before : List (List ℕ) = map (λ text. text.now) (take i texts) in
    let more = map_more (λ text. text.now) texts i _ within in record {
      rules = elim c.match-branch-2.branch [
        | in-Some+in_ok-join w ↦ rw w.rules-is
            (joined before _ c.loop-text.rules.items w.in-Some.more.items w.join.new.rules.items
            (rw w.in-Some.is at c.in_ok-more.ensures.rules).1 w.in_ok-join.ensures.ok
            c.loop-text.invariant.rules ∙ ap (flat_map (kept this_edition)) (sym more))
        | in_default w ↦ rw w.rules-is (c.loop-text.invariant.rules ∙ sym
            (texts_open this_edition before _ (rw w.in_default.is at c.in_ok-more.ensures.rules))
            ∙ ap (flat_map (kept this_edition)) (sym more))
      ];
      open_comments = elim c.match-branch-2.branch [
        | in-Some+in_ok-join w ↦ rw w.open-is (sym (ap are_open_comments more
            ∙ open_not before _ (rw w.in-Some.is at c.in_ok-more.ensures.rules).0))
        | in_default w ↦ rw w.open-is (c.loop-text.invariant.open_comments
            ∙ sym (ap are_open_comments more
            ∙ open_still before _ (rw w.in_default.is at c.in_ok-more.ensures.rules)))
      ];
      left = ap (λ (ts : List (List ℕ)). c.read_rules.new.most + kept_in_all this_edition ts) more
          ∙ left_of-more this_edition before _ c.loop-text.left c.read_rules.new.most c.args.most
          c.loop-text.invariant.left c.in_ok-more.ensures.left;
      utf8 = subst (All (λ text. IsUtf8 text.now)) (sym (take_more texts i _ within)) (All-push
          (λ text. IsUtf8 text.now) (take i texts) _ c.loop-text.invariant.utf8
          c.read_rules.ensures.utf8);
      reported = add-more g.P.Report.begun g.P.Report.add this_edition before _
          (g.P.Report.state c.args.report.now) (g.P.Report.state c.loop-text.report)
          (g.P.Report.state c.read_rules.new.report)
          c.loop-text.invariant.reported c.in_ok-more.ensures.reported
          ∙ ap (reports_of g.P.Report.begun g.P.Report.add this_edition
          (g.P.Report.state c.args.report.now)) (sym more);
    }

pub returns-in_err-more-clause-refused : goal.returns-in_err-more-clause-refused
returns-in_err-more-clause-refused g c =
    let texts = c.args.texts.now in
    let i = c.loop-text.text-index in
    let within : i < length texts = omega arith in
    let all : List (List ℕ) = map (λ text. text.now) texts in
    let before : List (List ℕ) = map (λ text. text.now) (take i texts) in
    passed_on
    (λ error. error ≡ TooManyDeclarations → c.args.most < kept_in_all this_edition all)
    c.from_residual.result c.in_err-more.field-0.0 c.from_residual.ensures.1
    (λ many. texts_exceed this_edition all before _ (i + 1) c.loop-text.left c.args.most
    (take-map (λ text. text.now) (i + 1) texts ∙ map_more (λ text. text.now) texts i _ within)
    c.loop-text.invariant.left (c.in_err-more.ensures.refused many))

pub returns-then-open-clause-rules : goal.returns-then-open-clause-rules
returns-then-open-clause-rules g c =
    ap (λ ts. are_open_comments (map (λ text. text.now) ts)) (sym
    (take_all c.loop-text.text-index c.args.texts.now (omega arith)))
    ∙ sym c.loop-text.invariant.open_comments ∙ c.if-open.true

pub returns-then-open-clause-utf8 : goal.returns-then-open-clause-utf8
returns-then-open-clause-utf8 g c = λ _. subst (All (λ text. IsUtf8 text.now))
    (take_all c.loop-text.text-index c.args.texts.now (omega arith)) c.loop-text.invariant.utf8

pub returns-then-open-clause-within : goal.returns-then-open-clause-within
returns-then-open-clause-within g c =
    let all = ap (λ ts. kept_in_all this_edition (map (λ text. text.now) ts))
    (take_all c.loop-text.text-index c.args.texts.now (omega arith)) in
    let left = c.loop-text.invariant.left in
    omega (arith, all, left)

pub returns-then-open-clause-reported : goal.returns-then-open-clause-reported
returns-then-open-clause-reported g c =
    c.loop-text.invariant.reported ∙ ap (λ ts. reports_of g.P.Report.begun g.P.Report.add this_edition
    (g.P.Report.state c.args.report.now) (map (λ text. text.now) ts))
    (take_all c.loop-text.text-index c.args.texts.now (omega arith))

pub returns-clause-rules : goal.returns-clause-rules
returns-clause-rules g c = (
  ap (λ ts. are_open_comments (map (λ text. text.now) ts)) (sym
      (take_all c.loop-text.text-index c.args.texts.now (omega arith)))
      ∙ sym c.loop-text.invariant.open_comments ∙ c.if-open.false,
  c.loop-text.invariant.rules ∙ ap (λ ts. flat_map (kept this_edition) (map (λ text. text.now) ts))
      (take_all c.loop-text.text-index c.args.texts.now (omega arith)),
)

pub returns-clause-within : goal.returns-clause-within
returns-clause-within g c =
    let all = ap (λ ts. kept_in_all this_edition (map (λ text. text.now) ts))
    (take_all c.loop-text.text-index c.args.texts.now (omega arith)) in
    let left = c.loop-text.invariant.left in
    omega (arith, all, left)

pub returns-clause-utf8 : goal.returns-clause-utf8
returns-clause-utf8 g c = λ _. subst (All (λ text. IsUtf8 text.now))
    (take_all c.loop-text.text-index c.args.texts.now (omega arith)) c.loop-text.invariant.utf8

pub returns-clause-reported : goal.returns-clause-reported
returns-clause-reported g c =
    c.loop-text.invariant.reported ∙ ap (λ ts. reports_of g.P.Report.begun g.P.Report.add this_edition
    (g.P.Report.state c.args.report.now) (map (λ text. text.now) ts))
    (take_all c.loop-text.text-index c.args.texts.now (omega arith))

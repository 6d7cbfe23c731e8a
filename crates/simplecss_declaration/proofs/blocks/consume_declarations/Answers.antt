use Rattle.std.proofs.Common.{◌∷◌, [], Some, None, sym, subst, ◌∙◌, ap, refl, List, ℕ}
use Rattle.std.proofs.lemmas.List.{map-append}
use Rattle.simplecss_grammar.specs.Blocks.{declaration_in_block}
use Rattle.css_text.specs.ThisEdition.{this_edition}
use Rattle.css_text.specs.Cursor.{rest_of}
use Rattle.css_text.proofs.reading.EachLemmas.{done_start, done_step, done_end}
use Rattle.simplecss_declaration.specs.internal.ListEnds.{EndsAt}
use Rattle.simplecss_declaration.specs.DeclarationViews.{declaration_of}
use Rattle.simplecss_declaration.proofs.BlockLemmas.{list-some, list-less, list-none, list-broken}
use Rattle.simplecss_declaration.proofs.OpenValueLemmas.{add_each-declaration, add_each-end}
use Rattle.simplecss_declaration.proofs.blocks.consume_declarations.Goals as goal

pub list-smaller : goal.list-smaller
list-smaller g c = list-less this_edition _ _ _ c.in-Some.ensures.reads

pub list-init : goal.list-init
list-init g c = record {
  same = refl;
  read = rw c.clear.ensures.items
      (done_start (declaration_in_block this_edition) (rest_of c.args.s.now));
  reported = refl;
}

pub list-preserved : goal.list-preserved
list-preserved g c =
    let here = rest_of c.list.s in
    let rest = rest_of c.take_declaration.new.s in
    let declared = declaration_of c.in-Some.declaration in
    let goes = sym c.at_list_end.ensures ∙ c.list-test.true in
    let step = list-some this_edition here rest declared goes c.in-Some.ensures.reads in
    record {
      same = c.in-Some.ensures.text ∙ c.list.invariant.same;
      read = rw (
        c.in_ok-push-in-Some.ensures.items,
        map-append declaration_of c.list.declarations.items (c.in-Some.declaration ∷ []),
      )
          (done_step (declaration_in_block this_edition) _ _ _ _ _ step c.list.invariant.read);
      reported =
          add_each-declaration g.P.Report.add this_edition here rest declared
          (g.P.Report.state c.list.report) (g.P.Report.state c.report_declared.new.report)
          goes c.in-Some.ensures.reads
          (rw (← c.slice_tail-text.ensures)
          (c.in_ok-report_declared-in-Some.ensures declared
          (rw c.slice_tail-text.ensures c.in-Some.ensures.reads)))
          ∙ c.list.invariant.reported;
    }

pub returns-in-None-clause-values : goal.returns-in-None-clause-values
returns-in-None-clause-values g c =
    let broken =
    list-broken this_edition (rest_of c.list.s) (rest_of c.take_declaration.new.s)
    c.in-None.ensures.reads in
    sym (ap (λ r. r.0) (done_end (declaration_in_block this_edition) _ _ _ broken
    c.list.invariant.read))

pub returns-in-None-clause-list : goal.returns-in-None-clause-list
returns-in-None-clause-list g c =
    let here = rest_of c.list.s in
    let broken =
    list-broken this_edition here (rest_of c.take_declaration.new.s) c.in-None.ensures.reads in
    let all = done_end (declaration_in_block this_edition) _ _ _ broken c.list.invariant.read in
    subst (λ (t : List ℕ). EndsAt this_edition t (Some c.slice_tail-text.result.now)
    (rest_of c.take_declaration.new.s)) (sym (ap (λ r. r.1) all)) (
      sym c.at_list_end.ensures ∙ c.list-test.true,
      c.slice_tail-text.ensures,
      c.in-None.ensures.reads,
    )

pub returns-in-None-clause-reported : goal.returns-in-None-clause-reported
returns-in-None-clause-reported g c =
    let broken =
    list-broken this_edition (rest_of c.list.s) (rest_of c.take_declaration.new.s)
    c.in-None.ensures.reads in
    add_each-end g.P.Report.add this_edition _ (rest_of c.list.s) (rest_of c.args.s.now)
    (g.P.Report.state c.args.report.now) (g.P.Report.state c.list.report) broken
    c.list.invariant.read c.list.invariant.reported

pub returns-clause-values : goal.returns-clause-values
returns-clause-values g c =
    let end =
    list-none this_edition (rest_of c.list.s) (sym c.at_list_end.ensures ∙ c.list-test.false) in
    sym (ap (λ r. r.0) (done_end (declaration_in_block this_edition) _ _ _ end
    c.list.invariant.read))

pub returns-clause-list : goal.returns-clause-list
returns-clause-list g c =
    let here = sym c.at_list_end.ensures ∙ c.list-test.false in
    let all =
    done_end (declaration_in_block this_edition) _ _ _ (list-none this_edition (rest_of c.list.s)
    here) c.list.invariant.read in
    subst (λ (t : List ℕ). EndsAt this_edition t None (rest_of c.list.s)) (sym (ap (λ r. r.1) all))
    (here, refl)

pub returns-clause-reported : goal.returns-clause-reported
returns-clause-reported g c =
    let end =
    list-none this_edition (rest_of c.list.s) (sym c.at_list_end.ensures ∙ c.list-test.false) in
    add_each-end g.P.Report.add this_edition _ (rest_of c.list.s) (rest_of c.args.s.now)
    (g.P.Report.state c.args.report.now) (g.P.Report.state c.list.report) end
    c.list.invariant.read c.list.invariant.reported

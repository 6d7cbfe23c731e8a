use Rattle.std.proofs.Common.{map, ap, ◌∙◌, arith}
use Rattle.css_selector_text.specs.Components.{selectors_from}
use Rattle.css_selector_text.specs.Views.{complex_of, progression_of}
use Rattle.css_tree.specs.Visits.{is_numbered_at}
use Rattle.css_tree.proofs.VisitLemmas.{answered_all}
use Rattle.css_tree.proofs.numbered_tree.NumberedTree.nth_marks.Goals as goal

pub returns-clause-each : goal.returns-clause-each
returns-clause-each c = λ i lt.
    let p = progression_of c.args.progression in
    answered_all c.args.end p c.args.self.now (selectors_from (map complex_of c.args.list.now))
    c.in_ok-marks.marks.items c.in_ok-found.found.items c.in_ok-marks.ensures.each (record {
      all = c.in_ok-found.ensures.all;
      visits = λ j less. c.in_ok-found.ensures.each j less
          ∙ ap (λ m. is_numbered_at c.args.end p c.args.self.now.rows m j) c.as_slice.ensures.value;
      others = λ j le less. absurd (omega arith);
    }) i lt

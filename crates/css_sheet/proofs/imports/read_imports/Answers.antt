use Rattle.std.proofs.Common.{ℕ, ◌-◌, ◌<◌, false, List, length, arith, ap, ◌∙◌, rules}
use Rattle.css_text.proofs.reading.EachLemmas.{took}
use Rattle.css_syntax.specs.Statements.{next_statement}
use Rattle.css_syntax.specs.Views.{sheet_part_of, statement_of}
use Rattle.css_syntax.proofs.ItemLemmas.{next_statement-takes, past_between-within}
use Rattle.css_selector_text.specs.Names.{no_names}
use Rattle.css_sheet.specs.Imports.{rule_in_front, sheet_imports}
use Rattle.css_sheet.specs.internal.FrontViews.{front_rule_of}
use Rattle.css_sheet.proofs.FrontLemmas.{read-on, read-last, read-all}
use Rattle.css_sheet.proofs.imports.read_imports.Goals as goal

pub overflow_sub-start : goal.overflow_sub-start
overflow_sub-start c =
    let from = ap length c.in-Some.ensures.from in
    let within = past_between-within false c.statements.rest.now in
    let before = c.statements.invariant.within in
    omega (arith, from, within, before)

pub returns-then-not-branch : goal.returns-then-not-branch
returns-then-not-branch c =
    let found = c.in-Some.found in
    let size = length c.args.text.now in
    read-last size c.statements.rest.now found.rest.now (sheet_part_of found.part)
    (front_rule_of c.in_ok-rule.rule) _ c.statements.imports.items c.push_rule.new.imports.items
    (sheet_imports c.args.text.now) (record {
      next = c.in-Some.ensures.read;
      rule_is =
          c.in_ok-rule.ensures
          ∙ ap (λ (from : List ℕ). rule_in_front no_names (size - length from)
          (length found.part.text.now) (statement_of found.part.statement)) c.in-Some.ensures.from;
      takes = c.in_ok-push_rule.ensures;
      due = c.statements.invariant.all;
    }) (search rules)

pub statements-smaller : goal.statements-smaller
statements-smaller c =
    let found = c.in-Some.found in
    took (next_statement false) (next_statement-takes false) c.statements.rest.now found.rest.now
    (sheet_part_of found.part) c.in-Some.ensures.read

pub statements-preserved : goal.statements-preserved
statements-preserved c =
    let found = c.in-Some.found in
    let size = length c.args.text.now in
    let less : length found.rest.now < length c.statements.rest.now =
    took (next_statement false) (next_statement-takes false) c.statements.rest.now found.rest.now
    (sheet_part_of found.part) c.in-Some.ensures.read in
    let before = c.statements.invariant.within in
    record {
      utf8 = search rules;
      within = omega (arith, less, before);
      all =
          read-on size c.statements.rest.now found.rest.now (sheet_part_of found.part)
          (front_rule_of c.in_ok-rule.rule) _ c.statements.imports.items
          c.push_rule.new.imports.items (sheet_imports c.args.text.now) (record {
            next = c.in-Some.ensures.read;
            rule_is =
                c.in_ok-rule.ensures
                ∙ ap (λ (from : List ℕ). rule_in_front no_names (size - length from)
                (length found.part.text.now) (statement_of found.part.statement))
                c.in-Some.ensures.from;
            takes = c.in_ok-push_rule.ensures;
            due = c.statements.invariant.all;
          }) (search rules);
    }

pub returns : goal.returns
returns c =
    read-all (length c.args.text.now) c.statements.rest.now c.statements.imports.items
    (sheet_imports c.args.text.now) c.in_default.ensures.read c.statements.invariant.all

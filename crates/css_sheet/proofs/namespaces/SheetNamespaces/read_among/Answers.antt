use Rattle.std.proofs.Common.{◌≡◌, ◌∙◌, Bool, true, false, ap, rules}
use Rattle.css_text.proofs.reading.EachLemmas.{took}
use Rattle.css_syntax.specs.Placed.{placed_statements}
use Rattle.css_syntax.specs.Statements.{next_statement}
use Rattle.css_syntax.specs.Views.{sheet_part_of}
use Rattle.css_syntax.proofs.ItemLemmas.{next_statement-takes}
use Rattle.css_selector_text.specs.Names.{Names}
use Rattle.css_selector_text.specs.NameViews.{texts_of}
use Rattle.css_sheet.specs.Namespaces.{begun_after, names_from, names_among}
use Rattle.css_sheet.specs.NamespaceViews.{names_owned}
use Rattle.css_sheet.specs.internal.FrontViews.{front_rule_of}
use Rattle.css_sheet.proofs.NamespaceLemmas.{names-all, names-last, names-on}
use Rattle.css_sheet.proofs.namespaces.SheetNamespaces.read_among.Goals as goal

pub returns-then-not-may_be_before : goal.returns-then-not-may_be_before
returns-then-not-may_be_before c =
    let found = c.in-Some.found in
    let known = texts_of c.args.known.now in
    names-last known c.statements.is_begun (names_owned c.statements.read)
    (names_among known c.args.text.now) c.statements.rest.now c.statements.invariant.all found.rest.now
    (sheet_part_of found.part) (front_rule_of c.in_ok-rule.rule) c.in-Some.ensures.read
    c.in_ok-rule.ensures (search rules)

pub statements-smaller : goal.statements-smaller
statements-smaller c =
    let found = c.in-Some.found in
    took (next_statement false) (next_statement-takes false) c.statements.rest.now found.rest.now
    (sheet_part_of found.part) c.in-Some.ensures.read

pub statements-preserved : goal.statements-preserved
statements-preserved c =
    let found = c.in-Some.found in
    let known = texts_of c.args.known.now in
    let rule = front_rule_of c.in_ok-rule.rule in
    let more = placed_statements false found.rest.now in
    record {
      utf8 = search rules;
      all =
          ap (λ (begun : Bool). names_from known begun (names_owned c.push_rule.new.self) more)
          c.is_begun_after-is_begun.ensures
          ∙ ap (λ (names : Names). names_from known (begun_after c.statements.is_begun rule) names more)
          c.in_ok-push_rule.ensures
          ∙ names-on known c.statements.is_begun (names_owned c.statements.read)
          (names_among known c.args.text.now) c.statements.rest.now c.statements.invariant.all
          found.rest.now (sheet_part_of found.part) rule c.in-Some.ensures.read c.in_ok-rule.ensures
          (search rules);
    }

pub returns : goal.returns
returns c =
    let known = texts_of c.args.known.now in
    names-all known c.statements.is_begun (names_owned c.statements.read)
    (names_among known c.args.text.now) c.statements.rest.now c.statements.invariant.all
    c.in_default.ensures.read

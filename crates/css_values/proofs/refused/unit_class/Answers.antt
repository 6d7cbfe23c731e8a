use Rattle.std.proofs.Common.{◌≡◌, ◌∙◌, true, false, ap, sym, rules, if◌then◌else◌}
use Rattle.css_text.proofs.reading.EachLemmas.{took}
use Rattle.css_values.specs.Names.{part_before}
use Rattle.css_values.specs.Refused.{is_listed, letter_of}
use Rattle.css_values.proofs.NameLemmas.{part_before-takes}
use Rattle.css_values.proofs.RefusedLemmas.{class_from, class-none, class-some}
use Rattle.css_values.proofs.refused.unit_class.Goals as goal

pub lines-smaller : goal.lines-smaller
lines-smaller c =
    took (part_before 10) (part_before-takes 10) c.lines.rest.now c.in-Some.line.rest.now
    c.in-Some.line.front.now c.in-Some.ensures

pub returns : goal.returns
returns c = sym (c.lines.invariant.1 ∙ class-none c.lines.rest.now c.args.unit.now c.in_default.ensures)

pub returns-then-is_listed : goal.returns-then-is_listed
returns-then-is_listed c =
    let has : is_listed c.cut-class.result.rest.now c.args.unit.now ≡ true =
    sym c.is_listed.ensures ∙ c.if-is_listed.true in
    c.letter_of.ensures
    ∙ sym (c.lines.invariant.1
    ∙ class-some c.lines.rest.now c.in-Some.line.front.now c.in-Some.line.rest.now c.args.unit.now
    c.cut-class.result.front.now c.cut-class.result.rest.now c.in-Some.ensures c.cut-class.ensures
    ∙ ap (λ t. if t then letter_of c.cut-class.result.front.now else class_from c.in-Some.line.rest.now c.args.unit.now) has)

pub lines-preserved : goal.lines-preserved
lines-preserved c =
    let not_so : is_listed c.cut-class.result.rest.now c.args.unit.now ≡ false =
    sym c.is_listed.ensures ∙ c.if-is_listed.false in (
      search rules,
      c.lines.invariant.1
          ∙ class-some c.lines.rest.now c.in-Some.line.front.now c.in-Some.line.rest.now c.args.unit.now
          c.cut-class.result.front.now c.cut-class.result.rest.now c.in-Some.ensures c.cut-class.ensures
          ∙ ap (λ t. if t then letter_of c.cut-class.result.front.now else class_from c.in-Some.line.rest.now c.args.unit.now) not_so,
    )

use Rattle.std.proofs.Common.{◌∙◌, Some, ap, sym, rules, if◌then◌else◌}
use Rattle.css_text.proofs.reading.EachLemmas.{took}
use Rattle.css_values.specs.Names.{part_before}
use Rattle.css_values.specs.internal.Joined.{row_at}
use Rattle.css_values.proofs.NameLemmas.{part_before-takes, named-none}
use Rattle.css_values.proofs.RefusedLemmas.{added-some}
use Rattle.css_values.proofs.refused.add_names.Goals as goal

pub names-smaller : goal.names-smaller
names-smaller c =
    took (part_before 32) (part_before-takes 32) c.names.rest.now c.in-Some.part.rest.now
    c.in-Some.part.front.now c.in-Some.ensures

pub names-preserved : goal.names-preserved
names-preserved c = (
  search rules,
  λ name.
      added-some c.names.rest.now c.in-Some.part.front.now c.in-Some.part.rest.now name c.args.row.now
      (row_at c.names.rows name) (row_at c.add_name.new.rows name) c.in-Some.ensures (c.in_ok-add_name.ensures name)
      ∙ c.names.invariant.1 name,
)

pub returns : goal.returns
returns c = λ name.
    sym (ap (λ t. if t then Some c.args.row.now else row_at c.names.rows name)
    (named-none c.names.rest.now name c.in_default.ensures))
    ∙ c.names.invariant.1 name

use Rattle.std.proofs.Common.{◌≡◌, ◌∙◌, true, false, Some, ap, rules, bytes_eq, if◌then◌else◌}
use Rattle.css_text.proofs.reading.EachLemmas.{took}
use Rattle.css_values.specs.Names.{longhands_in, part_before}
use Rattle.css_values.proofs.NameLemmas.{part_before-takes, longhands-none, longhands-some}
use Rattle.css_values.proofs.names.longhands_in.Goals as goal

pub rows-smaller : goal.rows-smaller
rows-smaller c =
    took (part_before 10) (part_before-takes 10) c.rows.rest.now c.in-Some.row.rest.now
    c.in-Some.row.front.now c.in-Some.ensures

pub returns : goal.returns
returns c = c.rows.invariant.1 ∙ longhands-none c.rows.rest.now c.args.name.now c.in_default.ensures

pub returns-then-eq : goal.returns-then-eq
returns-then-eq c =
    let same : bytes_eq c.cut-found.result.front.now c.args.name.now ≡ true = search rules in
    c.rows.invariant.1
    ∙ longhands-some c.rows.rest.now c.in-Some.row.front.now c.in-Some.row.rest.now c.args.name.now
    c.cut-found.result.front.now c.cut-found.result.rest.now c.in-Some.ensures c.cut-found.ensures
    ∙ ap (λ t. if t then Some c.cut-found.result.rest.now else longhands_in c.in-Some.row.rest.now c.args.name.now) same

pub rows-preserved : goal.rows-preserved
rows-preserved c =
    let other : bytes_eq c.cut-found.result.front.now c.args.name.now ≡ false = search rules in (
      search rules,
      c.rows.invariant.1
          ∙ longhands-some c.rows.rest.now c.in-Some.row.front.now c.in-Some.row.rest.now c.args.name.now
          c.cut-found.result.front.now c.cut-found.result.rest.now c.in-Some.ensures c.cut-found.ensures
          ∙ ap (λ t. if t then Some c.cut-found.result.rest.now else longhands_in c.in-Some.row.rest.now c.args.name.now) other,
    )

use Rattle.std.proofs.Common.{◌∙◌, ◌++◌, ◌∷◌, [], map, sym, ap, rules}
use Rattle.std.proofs.lemmas.List.{append-nil, append_assoc}
use Rattle.css_text.proofs.reading.EachLemmas.{took}
use Rattle.css_values.specs.Names.{part_before, rows_with, shorthands_in}
use Rattle.css_values.proofs.NameLemmas.{part_before-takes, shorthands-none, shorthands-some}
use Rattle.css_values.proofs.names.shorthands_in.Goals as goal

pub rows-smaller : goal.rows-smaller
rows-smaller c =
    took (part_before 10) (part_before-takes 10) c.rows.rest.now c.in-Some.row.rest.now
    c.in-Some.row.front.now c.in-Some.ensures

pub rows-preserved : goal.rows-preserved
rows-preserved c = (
  search rules,
  c.rows.invariant.1
      ∙ ap (λ more. map (λ text. text.now) c.rows.found.items ++ more)
      (shorthands-some c.rows.rest.now c.in-Some.row.front.now c.in-Some.row.rest.now c.args.name.now c.in-Some.ensures)
      ∙ sym (append_assoc (map (λ text. text.now) c.rows.found.items)
      (rows_with (c.in-Some.row.front.now ∷ []) c.args.name.now)
      (shorthands_in c.in-Some.row.rest.now c.args.name.now))
      ∙ ap (λ found. found ++ shorthands_in c.in-Some.row.rest.now c.args.name.now)
      (sym c.in_ok-push_row.ensures),
)

pub returns : goal.returns
returns c =
    sym (c.rows.invariant.1
    ∙ ap (λ more. map (λ text. text.now) c.rows.found.items ++ more)
    (shorthands-none c.rows.rest.now c.args.name.now c.in_default.ensures)
    ∙ append-nil (map (λ text. text.now) c.rows.found.items))

use Rattle.std.proofs.Common.{◌∙◌, ◌++◌, false, length, map, string_bytes, sym, ap, rules}
use Rattle.std.proofs.lemmas.List.{append-nil}
use Rattle.css_text.proofs.reading.EachLemmas.{took}
use Rattle.css_syntax.specs.Statements.{next_statement, statements, past_between}
use Rattle.css_syntax.specs.Placed.{placed_statements}
use Rattle.css_syntax.specs.Views.{sheet_part_of}
use Rattle.css_syntax.proofs.ItemLemmas.{next_statement-takes}
use Rattle.css_syntax.proofs.ListSteps.{statements-some, statements-none}
use Rattle.css_syntax.proofs.PlacedSteps.{placed-statements-some, placed-statements-none}
use Rattle.css_clean.specs.KeptSheets.{kept_statements, kept_statement, sheet_text}
use Rattle.css_clean.specs.DroppedSheets.{dropped_statements, dropped_statement}
use Rattle.css_clean.specs.Views.{sheet_policy_of, dropped_of}
use Rattle.css_clean.proofs.KeptLemmas.{sheet-more, front-more, place_at, placed-is}
use Rattle.css_clean.proofs.sheet.keep_statements.Goals as goal

pub parts-smaller : goal.parts-smaller
parts-smaller c =
    took (next_statement false) (next_statement-takes false) c.parts.rest.now c.in-Some.found.rest.now
    (sheet_part_of c.in-Some.found.part) c.in-Some.ensures.read

pub parts-preserved : goal.parts-preserved
parts-preserved c =
    let policy = sheet_policy_of c.args.policy in
    let part = sheet_part_of c.in-Some.found.part in
    let found = c.in-Some.found in
    let rest = found.rest.now in
    let place = place_at (length c.args.text.now) found.from.now found.inside.now part.text in (
      search rules,
      c.parts.invariant.1
          ∙ ap (λ parts. string_bytes c.parts.out ++ sheet_text (kept_statements policy parts))
          (statements-some false c.parts.rest.now rest part c.in-Some.ensures.read)
          ∙ sheet-more (string_bytes c.parts.out) (string_bytes c.keep_statement.new.out)
          (kept_statement policy part.statement) (kept_statements policy (statements false rest))
          c.in_ok-keep_statement.ensures.kept,
      c.parts.invariant.2
          ∙ ap (λ parts. map dropped_of c.parts.dropped.items ++ dropped_statements policy (length c.args.text.now) parts)
          (placed-statements-some false c.parts.rest.now rest part c.in-Some.ensures.read)
          ∙ ap (λ at. map dropped_of c.parts.dropped.items
          ++ (dropped_statement policy at part.statement
          ++ dropped_statements policy (length c.args.text.now) (placed_statements false rest)))
          (sym (placed-is false (length c.args.text.now) part found.from.now found.inside.now
          (past_between false c.parts.rest.now) rest c.in-Some.ensures.from c.in-Some.ensures.inside))
          ∙ front-more (map dropped_of c.parts.dropped.items)
          (map dropped_of c.keep_statement.new.dropped.items)
          (dropped_statement policy place part.statement)
          (dropped_statements policy (length c.args.text.now) (placed_statements false rest))
          c.in_ok-keep_statement.ensures.dropped,
    )

pub returns-clause-kept : goal.returns-clause-kept
returns-clause-kept c =
    sym (c.parts.invariant.1
    ∙ ap (λ parts. string_bytes c.parts.out ++ sheet_text (kept_statements (sheet_policy_of c.args.policy) parts))
    (statements-none false c.parts.rest.now c.in_default.ensures.read)
    ∙ append-nil (string_bytes c.parts.out))

pub returns-clause-dropped : goal.returns-clause-dropped
returns-clause-dropped c =
    sym (c.parts.invariant.2
    ∙ ap (λ parts. map dropped_of c.parts.dropped.items
    ++ dropped_statements (sheet_policy_of c.args.policy) (length c.args.text.now) parts)
    (placed-statements-none false c.parts.rest.now c.in_default.ensures.read)
    ∙ append-nil (map dropped_of c.parts.dropped.items))

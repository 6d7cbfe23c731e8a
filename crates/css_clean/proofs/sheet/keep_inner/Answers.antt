use Rattle.std.proofs.Common.{◌∙◌, ◌++◌, true, map, string_bytes, sym, ap, rules}
use Rattle.std.proofs.lemmas.List.{append-nil}
use Rattle.css_text.proofs.reading.EachLemmas.{took}
use Rattle.css_syntax.specs.Statements.{next_statement, statements, past_between}
use Rattle.css_syntax.specs.Placed.{placed_statements}
use Rattle.css_syntax.specs.Views.{sheet_part_of}
use Rattle.css_syntax.proofs.ItemLemmas.{next_statement-takes}
use Rattle.css_syntax.proofs.ListSteps.{statements-some, statements-none}
use Rattle.css_syntax.proofs.PlacedSteps.{placed-statements-some, placed-statements-none}
use Rattle.css_clean.specs.KeptSheets.{kept_inner, kept_inner_statement, rules_text}
use Rattle.css_clean.specs.DroppedSheets.{dropped_inner, dropped_inner_statement}
use Rattle.css_clean.specs.Views.{sheet_policy_of, dropped_of}
use Rattle.css_clean.proofs.KeptLemmas.{rules-more, front-more, place_at, placed-is}
use Rattle.css_clean.proofs.sheet.keep_inner.Goals as goal

pub parts-smaller : goal.parts-smaller
parts-smaller c =
    took (next_statement true) (next_statement-takes true) c.parts.rest.now c.in-Some.found.rest.now
    (sheet_part_of c.in-Some.found.part) c.in-Some.ensures.read

pub parts-preserved : goal.parts-preserved
parts-preserved c =
    let policy = sheet_policy_of c.args.policy in
    let part = sheet_part_of c.in-Some.found.part in
    let found = c.in-Some.found in
    let rest = found.rest.now in
    let place = place_at c.args.stop found.from.now found.inside.now part.text in (
      search rules,
      c.parts.invariant.1
          ∙ ap (λ parts. string_bytes c.parts.out ++ rules_text (kept_inner policy c.args.in_frames parts))
          (statements-some true c.parts.rest.now rest part c.in-Some.ensures.read)
          ∙ rules-more (string_bytes c.parts.out) (string_bytes c.keep_inner_statement.new.out)
          (kept_inner_statement policy c.args.in_frames part.statement) (kept_inner policy c.args.in_frames (statements true rest))
          c.in_ok-keep_inner_statement.ensures.kept,
      c.parts.invariant.2
          ∙ ap (λ parts. map dropped_of c.parts.dropped.items ++ dropped_inner policy c.args.in_frames c.args.stop parts)
          (placed-statements-some true c.parts.rest.now rest part c.in-Some.ensures.read)
          ∙ ap (λ at. map dropped_of c.parts.dropped.items
          ++ (dropped_inner_statement policy c.args.in_frames at part.statement
          ++ dropped_inner policy c.args.in_frames c.args.stop (placed_statements true rest)))
          (sym (placed-is true c.args.stop part found.from.now found.inside.now
          (past_between true c.parts.rest.now) rest c.in-Some.ensures.from c.in-Some.ensures.inside))
          ∙ front-more (map dropped_of c.parts.dropped.items)
          (map dropped_of c.keep_inner_statement.new.dropped.items)
          (dropped_inner_statement policy c.args.in_frames place part.statement)
          (dropped_inner policy c.args.in_frames c.args.stop (placed_statements true rest))
          c.in_ok-keep_inner_statement.ensures.dropped,
    )

pub returns-clause-kept : goal.returns-clause-kept
returns-clause-kept c =
    sym (c.parts.invariant.1
    ∙ ap (λ parts. string_bytes c.parts.out ++ rules_text (kept_inner (sheet_policy_of c.args.policy) c.args.in_frames parts))
    (statements-none true c.parts.rest.now c.in_default.ensures.read)
    ∙ append-nil (string_bytes c.parts.out))

pub returns-clause-dropped : goal.returns-clause-dropped
returns-clause-dropped c =
    sym (c.parts.invariant.2
    ∙ ap (λ parts. map dropped_of c.parts.dropped.items
    ++ dropped_inner (sheet_policy_of c.args.policy) c.args.in_frames c.args.stop parts)
    (placed-statements-none true c.parts.rest.now c.in_default.ensures.read)
    ∙ append-nil (map dropped_of c.parts.dropped.items))

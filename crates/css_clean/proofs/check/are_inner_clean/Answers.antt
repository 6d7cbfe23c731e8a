use Rattle.std.proofs.Common.{◌≡◌, ◌∙◌, ◌&&◌, true, false, sym, ap, rules}
use Rattle.css_text.proofs.reading.EachLemmas.{took}
use Rattle.css_syntax.specs.Statements.{next_statement, statements}
use Rattle.css_syntax.specs.Views.{sheet_part_of}
use Rattle.css_syntax.proofs.ItemLemmas.{next_statement-takes}
use Rattle.css_syntax.proofs.ListSteps.{statements-some, statements-none}
use Rattle.css_clean.specs.Sheets.{is_inner_clean, are_inner_clean}
use Rattle.css_clean.specs.Views.{sheet_policy_of}
use Rattle.css_clean.proofs.check.are_inner_clean.Goals as goal

pub parts-smaller : goal.parts-smaller
parts-smaller c =
    took (next_statement false) (next_statement-takes false) c.parts.rest.now c.in-Some.found.rest.now
    (sheet_part_of c.in-Some.found.part) c.in-Some.ensures.read

pub parts-preserved : goal.parts-preserved
parts-preserved c =
    let policy = sheet_policy_of c.args.policy in
    let part = sheet_part_of c.in-Some.found.part in
    let rest = c.in-Some.found.rest.now in
    let clean : is_inner_clean policy c.args.in_frames part.statement ≡ true = sym c.in_ok-is_inner_clean.ensures ∙ search rules in (
      search rules,
      c.parts.invariant.1
          ∙ ap (are_inner_clean policy c.args.in_frames)
          (statements-some false c.parts.rest.now rest part c.in-Some.ensures.read)
          ∙ ap (λ b. b && are_inner_clean policy c.args.in_frames (statements false rest)) clean,
    )

pub returns-then-not-branch : goal.returns-then-not-branch
returns-then-not-branch c =
    let policy = sheet_policy_of c.args.policy in
    let part = sheet_part_of c.in-Some.found.part in
    let rest = c.in-Some.found.rest.now in
    let unclean : is_inner_clean policy c.args.in_frames part.statement ≡ false = sym c.in_ok-is_inner_clean.ensures ∙ search rules in
    sym (c.parts.invariant.1
    ∙ ap (are_inner_clean policy c.args.in_frames) (statements-some false c.parts.rest.now rest part c.in-Some.ensures.read)
    ∙ ap (λ b. b && are_inner_clean policy c.args.in_frames (statements false rest)) unclean)

pub returns : goal.returns
returns c =
    sym (c.parts.invariant.1
    ∙ ap (are_inner_clean (sheet_policy_of c.args.policy) c.args.in_frames) (statements-none false c.parts.rest.now c.in_default.ensures.read))

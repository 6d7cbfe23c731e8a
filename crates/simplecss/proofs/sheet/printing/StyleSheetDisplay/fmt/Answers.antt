use Rattle.std.proofs.Common.{◌≡◌, ◌<◌, ◌∷◌, ◌++◌, [], ◌∙◌, ap, sym, length, map, refl, arith, rules}
use Rattle.std.specs.Fmt.{HasWrittenStyled, IsFlush}
use Rattle.std.specs.List.{flat_map}
use Rattle.std.proofs.Output.{has_written_styled_of_eq, has_written_styled_append}
use Rattle.std.proofs.lemmas.List.{take_all}
use Rattle.std.proofs.lemmas.List.Folds.{flat_map-map}
use Rattle.css_text.specs.AsciiBytes.{newline as newline_byte}
use Rattle.simplecss_grammar.specs.Printing.{rule_text, sheet_text}
use Rattle.css_text.proofs.round_trip.StyledWrites.{plain_of_styled, styled_step, styled_two}
use Rattle.simplecss.specs.RuleViews.{rule_of, rules_in}
use Rattle.simplecss.proofs.Joins.{join_first}
use Rattle.simplecss.proofs.sheet.printing.StyleSheetDisplay.fmt.Goals as goal

pub loop-rule-preserved : goal.loop-rule-preserved
loop-rule-preserved g c = λ plain.
    let so_far = c.loop-rule.invariant plain in
    let within : c.loop-rule.rule-index < length c.in-Some.rest.now = omega arith in
    let newline : HasWrittenStyled g.W.Write.write_str_gives c.loop-rule.f (newline_byte ∷ [])
    c.write_str.new.self = c.write_str.ensures.styled so_far.flush (search rules) in
    styled_step _
    (λ r. newline_byte ∷ rule_text (rule_of r)) _ _ _ _ _ _ within c.rule-item.is so_far
    (styled_two _ _ _ _ (newline_byte ∷ []) _ _ newline
    (c.fmt-in-loop-rule.ensures.styled newline.flush (search rules)) refl)

-- the first rule, and then the lines of the others
written : (g : _) (c : goal.After-loop-rule g) → IsFlush c.args.f.now
    → HasWrittenStyled g.W.Write.write_str_gives c.args.f.now
    (sheet_text (rules_in c.args.self.now)) c.loop-rule.f
written g c flush =
    let split : c.deref.result.now ≡ c.in-Some.first.now ∷ c.in-Some.rest.now = search rules in
    let first : HasWrittenStyled g.W.Write.write_str_gives c.args.f.now
    (rule_text (rule_of c.in-Some.first.now)) c.fmt.new.f = c.in_ok-fmt.ensures.styled flush refl in
    let lines : HasWrittenStyled g.W.Write.write_str_gives c.fmt.new.f
    (flat_map (λ r. newline_byte ∷ rule_text (rule_of r)) c.in-Some.rest.now) c.loop-rule.f =
    has_written_styled_of_eq _ _ _ _ _ (ap (flat_map (λ r. newline_byte ∷ rule_text (rule_of r)))
    (take_all c.loop-rule.rule-index c.in-Some.rest.now (omega arith)))
    (c.loop-rule.invariant first.flush) in
    has_written_styled_of_eq _ _ _ _ _
    (sym (join_first newline_byte rule_text (rule_of c.in-Some.first.now)
    (map rule_of c.in-Some.rest.now) ∙ ap (λ l. rule_text (rule_of c.in-Some.first.now) ++ l)
    (flat_map-map (λ r. newline_byte ∷ rule_text r) rule_of c.in-Some.rest.now))
    ∙ ap (λ l. sheet_text (map rule_of l)) (sym split ∙ c.deref.ensures.value))
    (has_written_styled_append _ _ _ _ _ _ first lines)

pub returns-clause-writes : goal.returns-clause-writes
returns-clause-writes g c = λ plain ok. plain_of_styled _ _ _ _ plain (written g c plain.flush)

pub returns-clause-styled : goal.returns-clause-styled
returns-clause-styled g c = λ flush ok. written g c flush

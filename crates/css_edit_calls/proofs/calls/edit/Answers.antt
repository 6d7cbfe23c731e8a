use Rattle.std.proofs.Common.{map, subst, string_bytes}
use Rattle.std.specs.Prelude.{IfSome}
use Rattle.css_edits.specs.Editing.{IsEdited}
use Rattle.css_edit_calls.specs.EditCalls.{ArePassed}
use Rattle.css_edit_calls.proofs.calls.edit.Goals as goal

pub returns-in-Some : goal.returns-in-Some
returns-in-Some c = record {
  edits = c.in-Some.edits.items;
  texts = map (λ text. text.now) c.in_ok-texts.texts.items;
  is_text = c.in_ok-sheet.ensures.1;
  has_texts = c.in_ok-texts.ensures;
  passed =
      subst
      (λ texts. ArePassed c.args.numbers.now (map (λ text. text.now) texts) c.in-Some.edits.items)
      c.as_slice.ensures.value
      (subst (λ found. IfSome found (λ edits. ArePassed c.args.numbers.now
      (map (λ text. text.now) c.as_slice.result.now) edits.items)) c.in-Some.is c.in_ok-edits.ensures);
  edited =
      subst (λ edits. IsEdited c.args.sheet.now edits (string_bytes c.in_ok-edited-in-Some.field-0))
      c.as_slice-in-Some.ensures.value
      (subst (λ sheet. IsEdited sheet c.as_slice-in-Some.result.now
      (string_bytes c.in_ok-edited-in-Some.field-0)) c.in_ok-sheet.ensures.0
      c.in_ok-edited-in-Some.ensures);
}

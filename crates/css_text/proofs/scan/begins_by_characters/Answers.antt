use Rattle.std.proofs.Common.{◌≡◌, ◌∷◌, [], ◌∙◌, sym, ap, chars}
use Rattle.css_text.specs.Names.{begins_name}
use Rattle.css_text.specs.ThisEdition.{this_edition}
use Rattle.css_text.proofs.bytes.NameLemmas.{chars-one, chars-two}
use Rattle.css_text.proofs.scan.begins_by_characters.Goals as goal

pub returns-in-Some-next : goal.returns-in-Some-next
returns-in-Some-next c =
    let whole = c.chars-chars.ensures.rest in
    let two : chars c.args.text.now
    ≡ c.in-Some-eq45.field-0 ∷ c.in-Some-next.c ∷ chars c.next-in-Some-eq45.new.self.rest.now
    = chars-two c.args.text.now c.next.new.self.rest.now c.next-in-Some-eq45.new.self.rest.now
    c.in-Some-eq45.field-0 c.in-Some-next.c c.utf8.text
    (sym whole ∙ c.in-Some-eq45.ensures.steps.0) c.in-Some-next.ensures.steps.0 in
    c.is_name_start.ensures
    ∙ sym (ap (begins_name this_edition) (two ∙ ap (λ x. x ∷ c.in-Some-next.c
    ∷ chars c.next-in-Some-eq45.new.self.rest.now) c.in-Some-eq45.field-0-test))

pub returns-in-None-next : goal.returns-in-None-next
returns-in-None-next c =
    let whole = c.chars-chars.ensures.rest in
    let one : chars c.args.text.now ≡ c.in-Some-eq45.field-0 ∷ []
    = chars-one c.args.text.now c.next.new.self.rest.now c.in-Some-eq45.field-0 c.utf8.text
    (sym whole ∙ c.in-Some-eq45.ensures.steps.0) c.in-None-next.ensures.steps.0.0 in
    sym (ap (begins_name this_edition) (one ∙ ap (λ x. x ∷ []) c.in-Some-eq45.field-0-test))

use Rattle.std.proofs.Common.{◌≡◌, ◌∙◌, sym, ap, true, ◌&&◌, ℕ, Bool}
use Rattle.css_text.specs.Bytes.{is_ascii, starts_by}
use Rattle.css_text.specs.Characters.{is_name_start}
use Rattle.css_text.specs.ThisEdition.{this_edition}
use Rattle.css_text.proofs.bytes.NameLemmas.{begins_name-ascii}
use Rattle.css_text.proofs.scan.name_len.Goals as goal

pub returns-then-starts_with_name_start-clause-some :
    goal.returns-then-starts_with_name_start-clause-some
returns-then-starts_with_name_start-clause-some c =
    let test : ℕ → Bool = λ b. is_ascii b && is_name_start this_edition b in
    let start : starts_by test c.args.text.now ≡ true
    = sym (c.starts_with_name_start.ensures ∙ ap (starts_by test) c.as_bytes.ensures.value)
    ∙ c.if-starts_with_name_start.true in
    (begins_name-ascii this_edition c.args.text.now c.utf8.text start, c.name_chars_len.ensures.len)

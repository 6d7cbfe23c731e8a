use Rattle.std.proofs.Common.{◌<◌, ◌∙◌, List, ℕ, ap, arith, length, get_or}
use Rattle.std.specs.List.{prefix_len}
use Rattle.css_text.specs.ThisEdition.{this_edition}
use Rattle.css_text.proofs.bytes.NameLemmas.{is_ascii_name_char, past_name_chars-at, boundary_past_ascii_name}
use Rattle.css_text.proofs.scan.name_chars_len.Goals as goal
use Rattle.css_text.proofs.scan.name_chars_len.Goals.{else-len-bytes-via-then-len-bytes+else-bytes-len-ge128, else-len-bytes-via-else-len-bytes}

-- after the ASCII name characters the text ends, or an ASCII byte follows
pub returns-else-len-bytes-clause-len : goal.returns-else-len-bytes-clause-len
returns-else-len-bytes-clause-len c =
    let value = c.as_bytes-bytes.ensures.value in
    let lengths = ap (λ (bytes : List ℕ). length bytes) value in
    let is = c.ascii_name_len-len.ensures ∙ ap (prefix_len (is_ascii_name_char this_edition)) value
    in
    let small : c.ascii_name_len-len.result < length c.args.text.now
    → get_or c.args.text.now c.ascii_name_len-len.result 0 < 128
    = λ h. elim c.else-len-bytes.branch [
      | else-len-bytes-via-then-len-bytes+else-bytes-len-ge128 w ↦ rw value at
          w.if-bytes-len-ge128.false
      | else-len-bytes-via-else-len-bytes w ↦ absurd (omega arith)
    ] in
    past_name_chars-at this_edition c.args.text.now c.ascii_name_len-len.result c.utf8.text is small

pub returns-else-len-bytes-clause-boundary : goal.returns-else-len-bytes-clause-boundary
returns-else-len-bytes-clause-boundary c =
    boundary_past_ascii_name this_edition c.args.text.now c.ascii_name_len-len.result c.utf8.text
    (c.ascii_name_len-len.ensures ∙ ap (prefix_len (is_ascii_name_char this_edition))
    c.as_bytes-bytes.ensures.value)

use Rattle.std.proofs.Common.{◌≡◌, ◌==◌, not, drop, ap, ◌∙◌, rules}
use Rattle.css_text.specs.AsciiBytes.{open_brace}
use Rattle.css_text.specs.Bytes.{past}
use Rattle.css_text.specs.Cursor.{text_of, offset_of, rest_of}
use Rattle.css_text.proofs.bytes.ByteLemmas.{past_run}
use Rattle.css_text.proofs.readers.from_brace.Goals as goal

pub returns : goal.returns
returns c =
    let start : rest_of c.new-s.result ≡ c.args.text.now =
    ap (λ n. drop n c.new-s.result.text.now) c.new-s.ensures.offset ∙ c.new-s.ensures.text in
    let run : rest_of c.skip_bytes.new.self
    ≡ past (λ b. not (b == open_brace)) (rest_of c.new-s.result) =
    ap (drop (offset_of c.skip_bytes.new.self)) c.skip_bytes.ensures.text
    ∙ past_run (λ b. not (b == open_brace)) (text_of c.new-s.result) (offset_of c.new-s.result)
    (offset_of c.skip_bytes.new.self) (λ b x answered. search rules) c.skip_bytes.ensures.run in
    c.slice_tail.ensures ∙ run ∙ ap (past (λ b. not (b == open_brace))) start

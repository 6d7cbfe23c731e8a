use Rattle.std.proofs.Common.{drop, ap, ◌∙◌, rules}
use Rattle.css_text.specs.Bytes.{is_hex_digit}
use Rattle.css_text.specs.Cursor.{text_of, offset_of}
use Rattle.css_text.proofs.bytes.ByteLemmas.{past_run}
use Rattle.simplecss_declaration.proofs.terms.skip_hex_digits.Goals as goal

pub returns-clause-rest : goal.returns-clause-rest
returns-clause-rest c =
    ap (drop (offset_of c.skip_bytes.new.self)) c.skip_bytes.ensures.text
    ∙ past_run is_hex_digit (text_of c.args.s.now) (offset_of c.args.s.now)
    (offset_of c.skip_bytes.new.self) (λ b x answered. search rules) c.skip_bytes.ensures.run

use Rattle.std.proofs.Common.{◌≡◌, drop, ap, ◌∙◌, arith, rules}
use Rattle.std.proofs.lemmas.Grind.{common_steps}
use Rattle.css_text.specs.AsciiBytes.{open_brace, semicolon}
use Rattle.css_text.specs.Bytes.{past, is_neither}
use Rattle.css_text.specs.Cursor.{text_of, offset_of, rest_of}
use Rattle.css_text.proofs.bytes.ByteLemmas.{past_run}
use Rattle.simplecss_declaration.proofs.blocks.skip_semicolon_or_block.Goals.{After-skip_bytes}
use Rattle.simplecss_declaration.proofs.blocks.skip_semicolon_or_block.Goals as goal

-- what the run leaves
left_is : (c : After-skip_bytes)
    → rest_of c.skip_bytes.new.self ≡ past (is_neither semicolon open_brace) (rest_of c.args.s.now)
left_is c =
    ap (drop (offset_of c.skip_bytes.new.self)) c.skip_bytes.ensures.text
    ∙ past_run (is_neither semicolon open_brace) (text_of c.args.s.now) (offset_of c.args.s.now)
    (offset_of c.skip_bytes.new.self) (λ b x answered. search rules) c.skip_bytes.ensures.run

pub returns-then-skip_byte-clause-rest : goal.returns-then-skip_byte-clause-rest
returns-then-skip_byte-clause-rest c =
    let left = left_is (goal.at.returns-then-skip_byte-clause-rest c).After-skip_bytes in
    grind (arith, common_steps)

pub returns-else-skip_byte-clause-rest : goal.returns-else-skip_byte-clause-rest
returns-else-skip_byte-clause-rest c =
    let left = left_is (goal.at.returns-else-skip_byte-clause-rest c).After-skip_bytes in
    grind (arith, common_steps)

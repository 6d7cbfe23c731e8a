use Rattle.std.proofs.Common.{◌∙◌, ◌++◌, ℕ, ap, sym, arith, length, rules, encode_utf8}
use Rattle.std.specs.String.{string_bytes}
use Rattle.css_syntax.specs.Tokens.{hex_number}
use Rattle.css_syntax.specs.Escapes.{character_of}
use Rattle.css_syntax.proofs.Shorter.{past_escape-within}
use Rattle.css_syntax.proofs.Decoding.{nothing-pushed, replacement-pushed, pushed-end, pushed-newline, pushed-joined, pushed-digits, pushed-byte, pushed-wide, past_one-within}
use Rattle.css_syntax.proofs.escapes.push_escape.Goals as goal

pub returns-then-in_string-clause-pushed : goal.returns-then-in_string-clause-pushed
returns-then-in_string-clause-pushed c =
    pushed-end c.args.in_string (string_bytes c.args.out.now) _ c.args.after.now
    (sym c.as_bytes-bytes.ensures.value ∙ c.in-None.ensures)
    (nothing-pushed c.args.in_string (string_bytes c.args.out.now) c.if-in_string.true)

pub returns-in_ok-push-in-None-clause-pushed : goal.returns-in_ok-push-in-None-clause-pushed
returns-in_ok-push-in-None-clause-pushed c =
    pushed-end c.args.in_string (string_bytes c.args.out.now) _ c.args.after.now
    (sym c.as_bytes-bytes.ensures.value ∙ c.in-None.ensures)
    (replacement-pushed c.args.in_string (string_bytes c.args.out.now) _ c.if-in_string.false
    c.in_ok-push-in-None.ensures.bytes)

pub returns-then-in_string-2-clause-pushed : goal.returns-then-in_string-2-clause-pushed
returns-then-in_string-2-clause-pushed c =
    pushed-joined c.args.in_string (string_bytes c.args.out.now) c.args.after.now
    c.in-Some.field-0-1.now c.past_escaped.result.now c.in-Some.byte
    c.if-in_string-2.true (sym c.as_bytes-bytes.ensures.value ∙ c.in-Some.ensures)
    (sym c.is_newline.ensures ∙ c.if-is_newline.true) c.past_escaped.ensures

pub returns-then-in_string-2-clause-within : goal.returns-then-in_string-2-clause-within
returns-then-in_string-2-clause-within c =
    omega (
      arith,
      ap length c.past_escaped.ensures,
      past_escape-within c.args.after.now,
    )

pub returns-in_ok-push-in-Some-clause-pushed : goal.returns-in_ok-push-in-Some-clause-pushed
returns-in_ok-push-in-Some-clause-pushed c =
    pushed-newline c.args.in_string (string_bytes c.args.out.now) _ c.args.after.now
    c.in-Some.field-0-1.now c.in-Some.byte c.if-in_string-2.false
    (sym c.as_bytes-bytes.ensures.value ∙ c.in-Some.ensures)
    (sym c.is_newline.ensures ∙ c.if-is_newline.true) c.in_ok-push-in-Some.ensures.bytes

pub returns-in_ok-push-in-Some-2-clause-pushed : goal.returns-in_ok-push-in-Some-2-clause-pushed
returns-in_ok-push-in-Some-2-clause-pushed c =
    pushed-digits c.args.in_string (string_bytes c.args.out.now) _ c.args.after.now c.in-Some.field-0-1.now
    c.past_escaped-then-is_hex_digit.result.now c.in-Some.byte
    (sym c.as_bytes-bytes.ensures.value ∙ c.in-Some.ensures)
    (sym c.is_newline.ensures ∙ c.if-is_newline.false)
    (sym c.is_hex_digit.ensures ∙ c.if-is_hex_digit.true)
    (c.in_ok-push-in-Some-2.ensures.bytes
    ∙ ap (λ (n : ℕ). string_bytes c.args.out.now ++ encode_utf8 n)
    (c.character_of.ensures ∙ ap character_of
    (c.hex_number.ensures ∙ ap (hex_number 6 0) c.as_bytes-bytes.ensures.value)))
    c.past_escaped-then-is_hex_digit.ensures

pub returns-in_ok-push-in-Some-2-clause-within : goal.returns-in_ok-push-in-Some-2-clause-within
returns-in_ok-push-in-Some-2-clause-within c =
    omega (arith, ap length c.past_escaped-then-is_hex_digit.ensures, past_escape-within c.args.after.now)

pub returns-in_ok-push-in-Some-3-clause-pushed : goal.returns-in_ok-push-in-Some-3-clause-pushed
returns-in_ok-push-in-Some-3-clause-pushed c =
    pushed-byte c.args.in_string (string_bytes c.args.out.now) _ c.args.after.now c.in-Some.field-0-1.now
    c.past_ascii.result.now c.in-Some.byte
    (sym c.as_bytes-bytes.ensures.value ∙ c.in-Some.ensures) c.if-byte-lt128.true
    (sym c.is_newline.ensures ∙ c.if-is_newline.false)
    (sym c.is_hex_digit.ensures ∙ c.if-is_hex_digit.false)
    (search rules) c.past_ascii.ensures

pub returns-in_ok-push-in-Some-3-clause-within : goal.returns-in_ok-push-in-Some-3-clause-within
returns-in_ok-push-in-Some-3-clause-within c =
    omega (arith, ap length c.past_ascii.ensures, past_one-within c.args.after.now)

pub returns-else-byte-lt128-clause-pushed : goal.returns-else-byte-lt128-clause-pushed
returns-else-byte-lt128-clause-pushed c =
    pushed-wide c.args.in_string (string_bytes c.args.out.now) c.args.after.now c.in-Some.field-0-1.now
    c.in-Some.byte (sym c.as_bytes-bytes.ensures.value ∙ c.in-Some.ensures) c.if-byte-lt128.false
    (sym c.is_newline.ensures ∙ c.if-is_newline.false)
    (sym c.is_hex_digit.ensures ∙ c.if-is_hex_digit.false)

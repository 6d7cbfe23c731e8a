use Rattle.std.proofs.Common.{◌≡◌, ◌≤◌, length, drop}
use Rattle.std.specs.Str.Iter.{chars_rest}
use Rattle.std.specs.Str.{IsUtf8}
use Rattle.css_text.specs.Names.{past_name_chars}
use Rattle.css_text.specs.ThisEdition.{this_edition}
use Rattle.css_text.proofs.scan.wide_name_chars_len.Given as goal

abbrev pub invariant-loop-c : goal.invariant-loop-c
invariant-loop-c l = record {
  within : l.len ≤ length l.text;
  rest : drop l.len l.text ≡ chars_rest l.c-iterator;
  utf8 : ∥ IsUtf8 (drop l.len l.text) ∥₁;
  run : past_name_chars this_edition l.text ≡ past_name_chars this_edition (drop l.len l.text);
}

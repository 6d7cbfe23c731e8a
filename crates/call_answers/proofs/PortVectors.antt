-- Worked texts of the port, computed with the definitions. Nothing cites them.
-- Computes `declaration_text`, `rule_text` and `skipped_text` of `specs/PortTexts`.
use Rattle.std.specs.Prelude.{◌≡◌, refl, [], ◌∷◌, codes, true, false, Some}
use Rattle.std.specs.Fmt.{digits}
use Rattle.std.specs.Str.{chars, trim_start, trim_end}
use lib.Utf8.{encode}
use Rattle.simplecss.specs.Components.Combinator.{none}
use Rattle.simplecss.specs.Components.Operator.{equals}
use Rattle.simplecss.specs.Components.Subselector.{attribute}
use Rattle.simplecss.specs.Positions.{position}
use Rattle.simplecss.specs.Skipped.{at_rule}
use Rattle.call_answers.specs.PortTexts.{counted_texts, rule_text, skipped_text}

-- a value may have a newline
pub declarations :
    (counted_texts [] ≡ codes "0\n")
    × (counted_texts (record { name = codes "a"; value = codes "b\nc"; important = true } ∷ [])
    ≡ codes "1\n1 3 1\nab\nc\n")
unfolding digits
declarations = (refl, refl)

-- `li#x { a: b }`
pub rule :
    rule_text (record {
      components = record {
        combinator = none;
        compound = record {
          name = Some (codes "li");
          subselectors = attribute (codes "id") (equals (codes "x")) ∷ [];
        };
      } ∷ [];
      declarations = record { name = codes "a"; value = codes "b"; important = false } ∷ [];
    })
    ≡ codes "1 0 1 10 1\nli[id='x']\n1 1 0\nab\n"
unfolding digits
rule = refl

-- an at-rule is quoted up to its block
pub media_rule :
    skipped_text (codes "a{b:c} @media print { a {} } d{}") (record {
      from = codes "@media print { a {} } d{}";
      after = codes " d{}";
      why = at_rule (Some (codes "media"));
    })
    ≡ codes "1 8 12 at-rule not supported\n@media print\n"
unfolding position digits chars trim_start trim_end encode
media_rule = refl

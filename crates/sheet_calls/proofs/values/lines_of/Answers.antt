use Rattle.std.proofs.Common.{Bor, List, ℕ, ◌≡◌, Some, None, map, subst}
use Rattle.std.specs.String.{string_bytes}
use Rattle.css_values.specs.Lines.{properties_in}
use Rattle.css_values.specs.Views.{stated_of}
use Rattle.call_answers.specs.Calls.{FailsFor}
use Rattle.sheet_calls.specs.Values.{AreLinesOf, AreValues, FailsPairs}
use Rattle.call_answers.proofs.Handing.{handed-match}
use Rattle.sheet_calls.proofs.ValueCalls.{texts-fail, pairs-fail}
use Rattle.sheet_calls.proofs.values.lines_of.Goals as goal

pub returns-in_err-pairs : goal.returns-in_err-pairs
returns-in_err-pairs c =
    handed-match (λ out. AreValues c.args.wanted c.args.registered c.args.limit c.args.texts.now c.args.ends.now (string_bytes out))
    (FailsPairs c.args.texts.now c.args.ends.now ⊥) c.from_residual.result c.in_err-pairs.field-0.0
    c.from_residual.ensures.1
    (texts-fail c.args.texts.now c.args.ends.now ⊥ c.in_err-pairs.field-0.0 c.in_err-pairs.ensures)

pub returns-in_err-properties : goal.returns-in_err-properties
returns-in_err-properties c =
    let texts = map (λ (text : Bor (List ℕ)). text.now) c.in_ok-pairs.pairs.items in
    handed-match (λ out. AreValues c.args.wanted c.args.registered c.args.limit c.args.texts.now c.args.ends.now (string_bytes out))
    (FailsPairs c.args.texts.now c.args.ends.now ⊥) c.from_residual-in_err-properties.result
    c.in_err-properties.field-0.0 c.from_residual-in_err-properties.ensures.1
    (pairs-fail c.args.texts.now c.args.ends.now ⊥ texts c.in_err-properties.field-0.0
    c.in_ok-pairs.ensures
    (subst (λ (ts : List (Bor (List ℕ))). FailsFor (properties_in (map (λ t. t.now) ts) ≡ None) (λ fault. ⊥) ⊥ c.in_err-properties.field-0.0)
    c.deref.ensures.value c.in_err-properties.ensures))

pub returns : goal.returns
returns c =
    let texts = map (λ (text : Bor (List ℕ)). text.now) c.in_ok-pairs.pairs.items in
    let stated = map stated_of c.in_ok-properties.properties.items in record {
      texts = texts;
      has_texts = c.in_ok-pairs.ensures;
      stated = stated;
      pairs = subst (λ (ts : List (Bor (List ℕ))). properties_in (map (λ t. t.now) ts) ≡ Some stated)
          c.deref.ensures.value c.in_ok-properties.ensures;
      are = subst (λ ps. AreLinesOf c.args.wanted c.args.registered c.args.limit (map stated_of ps) (string_bytes c.in_ok-out.out))
          c.deref-2.ensures.value c.in_ok-out.ensures;
    }

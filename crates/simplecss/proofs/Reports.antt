-- The state of a reporter after several calls, the last of which may have failed.
-- Serves `consume_rule_set`, `consume_statement` and `read_all` (what they report).
use Rattle.std.proofs.Common.{◌≡◌, ◌++◌, ◌∷◌, [], ◌∙◌, ℕ, List, ap, refl, sym, subst}
use Rattle.std.specs.Prelude.{Result, Ok, Err}
use Rattle.std.specs.Result.{OnOk, IfErr, IsErrAnd}
use Rattle.css_text.specs.Characters.{Edition}
use Rattle.simplecss_grammar.specs.Skipped.{Skip, add_each, skipped}
use Rattle.simplecss.specs.Readings.{reports_of}

pub on_ok : {X E P : Type 0} (r : Result X E) → P → OnOk r P
on_ok (Ok x) p = p
on_ok (Err e) p = tt

module _ {S : Type 0} (begun : S → List ℕ → S) (tell : S → Skip → S) (edition : Edition) where
  -- a text more at the end
  pub reports_of-push : (s : S) (texts : List (List ℕ)) (text : List ℕ)
      → reports_of begun tell edition s (texts ++ text ∷ [])
      ≡ add_each tell (begun (reports_of begun tell edition s texts) text) (skipped edition text)
  reports_of-push s [] text = refl
  reports_of-push s (t ∷ ts) text =
      reports_of-push (add_each tell (begun s t) (skipped edition t)) ts text

  -- by one more text
  pub add-more : (texts : List (List ℕ)) (text : List ℕ) (s0 s1 s2 : S)
      → s1 ≡ reports_of begun tell edition s0 texts
      → s2 ≡ add_each tell (begun s1 text) (skipped edition text)
      → s2 ≡ reports_of begun tell edition s0 (texts ++ text ∷ [])
  add-more texts text s0 s1 s2 a b =
      b
      ∙ ap (λ (s : S). add_each tell (begun s text) (skipped edition text)) a
      ∙ sym (reports_of-push s0 texts text)

-- what holds of an error holds of the result that passes it on
pub passed_on : {X E : Type 0} (P : E → Type 0) (r : Result X E) (error : E)
    → IsErrAnd r (λ e. e ≡ error) → P error → IfErr r P
passed_on P (Ok x) error is holds = tt
passed_on P (Err e) error is holds = subst P (sym is) holds

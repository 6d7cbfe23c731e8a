use Rattle.std.proofs.Common.{List, ℕ, map, refl, ap, ◌∙◌, string_bytes}
use Rattle.std.specs.Borrow.{Bor}
use Rattle.simplecss_calls.specs.internal.Held.{names_at}
use Rattle.simplecss_calls.proofs.WinnerSteps.{first-of, pair-held}
use Rattle.simplecss_calls.proofs.held.read_held.Goals as goal

pub pairs-preserved : goal.pairs-preserved
pairs-preserved c = λ keyword prelude.
    pair-held keyword prelude _ (string_bytes c.in_ok-prelude.prelude)
    (names_at c.pairs.held prelude) (names_at c.add_keyword.new.held prelude)
    (map (λ (text : Bor (List ℕ)). text.now) c.pairs.left.now) _
    (map (λ (text : Bor (List ℕ)). text.now) c.later_texts-left.result.now) _
    (c.in_ok-prelude.ensures.ok ∙ c.first_text.ensures) (c.in_ok-add_keyword.ensures prelude)
    c.later_texts-left.ensures
    (ap (map (λ (text : Bor (List ℕ)). text.now))
    (first-of c.pairs.left.now _ _ _ c.in-len1-up.len_at_least refl refl))
    (c.pairs.invariant keyword prelude)

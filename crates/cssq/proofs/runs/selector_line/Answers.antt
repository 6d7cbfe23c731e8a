use Rattle.std.proofs.Common.{◌≡◌, ℕ, ◌++◌, List, ◌∷◌, [], IfOk, string_bytes, get_or, append_assoc, sym, ap, ◌∙◌, subst}
use Rattle.std.specs.Prelude.{decimal}
use Rattle.std.specs.List.{join_with_byte}
use Rattle.simplecss.specs.AsciiBytes.{comma, newline, tab}
use Rattle.simplecss.specs.Printing.{selector_text}
use Rattle.cssq.proofs.runs.selector_line.Goals as goal

-- the texts that are printed one after another are the numbers with commas between them
joined : (s a b d end : List ℕ)
    → s ++ (tab ∷ (a ++ (comma ∷ (b ++ (comma ∷ (d ++ end))))))
    ≡ s ++ (tab ∷ (join_with_byte comma (a ∷ b ∷ d ∷ []) ++ end))
joined s a b d end = ap (λ l. s ++ (tab ∷ l)) (sym (append_assoc a (comma ∷ (b ++ (comma ∷ d))) end
    ∙ ap (λ l. a ++ (comma ∷ l)) (append_assoc b (comma ∷ d) end)))

pub returns : goal.returns
returns c =
    let r = c.specificity-specificity.result in
    let s = selector_text c.args.selector in
    let f : IfOk c.format.result (λ t. string_bytes t ≡ s ++ (tab ∷ (decimal (get_or r 0 0)
    ++ (comma ∷ (decimal (get_or r 1 0) ++ (comma ∷ (decimal (get_or r 2 0) ++ newline ∷ []))))))) =
    c.format.ensures.ok in
    let numbers : List ℕ → List ℕ = λ v. s ++ (tab ∷ (join_with_byte comma (decimal (get_or v 0 0)
    ∷ decimal (get_or v 1 0) ∷ decimal (get_or v 2 0) ∷ []) ++ newline ∷ [])) in
    let P : List ℕ → Type 0 = λ text. IfOk c.format.result (λ t. string_bytes t ≡ text) in
    subst P (joined s (decimal (get_or r 0 0)) (decimal (get_or r 1 0)) (decimal (get_or r 2 0))
    (newline ∷ []) ∙ ap numbers c.specificity-specificity.ensures) f

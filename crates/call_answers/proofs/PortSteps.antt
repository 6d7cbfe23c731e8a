-- Texts of the port that are written piece by piece.
-- Serves `port_texts::{push_declaration, push_rule, push_skipped}`.
use Rattle.std.proofs.Common.{◌≡◌, ℕ, List, ◌∷◌, ◌++◌, [], refl, ap, ◌∙◌, append_assoc, length, get_or}
use Rattle.std.specs.Prelude.{Bool, true, false, decimal}
use mir.Val.{bool_byte}
use Rattle.simplecss.specs.AsciiBytes.{newline, space}
use Rattle.simplecss.specs.Declarations.{StyleDeclaration}
use Rattle.simplecss.specs.Printing.{selector_text}
use Rattle.simplecss.specs.Specificity.{specificity}
use Rattle.simplecss.specs.Statements.{StyleRule}
use Rattle.css_text.specs.declared.TextPos.{TextPos}
use Rattle.call_answers.specs.Numbers.{number_if}
use Rattle.call_answers.specs.PortTexts.{declaration_text, declaration_texts, rule_text, piece_text}

-- ---- a declaration

byte-number : (is : Bool) → bool_byte is ≡ number_if is
byte-number true = refl
byte-number false = refl

declaration_joined : (out a b d name value : List ℕ)
    → out ++ (a ++ (space ∷ (b ++ (space ∷ (d ++ (newline ∷ (name ++ (value ++ newline ∷ []))))))))
    ≡ out
    ++ (((a ++ (space ∷ (b ++ (space ∷ d)))) ++ newline ∷ []) ++ ((name ++ value) ++ newline ∷ []))
declaration_joined out a b d name value = simp append_assoc

-- the lengths, the name and the value
pub declaration_written : (p : StyleDeclaration) (out new : List ℕ) (n m k : ℕ)
    → n ≡ length p.name → m ≡ length p.value → k ≡ bool_byte p.important
    → new ≡ out ++ (decimal n ++ (space ∷ (decimal m ++ (space ∷ (decimal k
    ++ (newline ∷ (p.name ++ (p.value ++ newline ∷ []))))))))
    → new ≡ out ++ declaration_text p
declaration_written p out new n m k name_is value_is important_is wrote =
    wrote ∙ declaration_joined out (decimal n) (decimal m) (decimal k) p.name p.value
    ∙ ap (λ n. text n m k) name_is ∙ ap (λ m. text (length p.name) m k) value_is
    ∙ ap (λ k. text (length p.name) (length p.value) k) (important_is ∙ byte-number p.important)
  where
    text : (n m k : ℕ) → List ℕ
    text n m k =
        out ++ (((decimal n ++ (space ∷ (decimal m ++ (space ∷ decimal k)))) ++ newline ∷ [])
        ++ ((p.name ++ p.value) ++ newline ∷ []))

-- ---- a rule

rule_joined : (out a b d e f text rest : List ℕ)
    → (out ++ (a ++ (space ∷ (b ++ (space ∷ (d ++ (space ∷ (e ++ (space ∷ (f
    ++ (newline ∷ (text ++ newline ∷ [])))))))))))) ++ rest
    ≡ out ++ (((a ++ (space ∷ (b ++ (space ∷ (d ++ (space ∷ (e ++ (space ∷ f))))))))
    ++ newline ∷ []) ++ ((text ++ newline ∷ []) ++ rest))
rule_joined out a b d e f text rest = simp append_assoc

-- the numbers, the selector and the declarations
pub rule_written : (rule : StyleRule) (out new all numbers selector : List ℕ) (size count : ℕ)
    → numbers ≡ specificity rule.components → selector ≡ selector_text rule.components
    → size ≡ length selector → count ≡ length rule.declarations
    → new ≡ out ++ (decimal (get_or numbers 0 0) ++ (space ∷ (decimal (get_or numbers 1 0)
    ++ (space ∷ (decimal (get_or numbers 2 0) ++ (space ∷ (decimal size
    ++ (space ∷ (decimal count ++ (newline ∷ (selector ++ newline ∷ [])))))))))))
    → all ≡ new ++ declaration_texts rule.declarations → all ≡ out ++ rule_text rule
rule_written rule out new all numbers selector size count numbers_are selector_is size_is count_is
    wrote more =
    more ∙ ap (λ t. t ++ declaration_texts rule.declarations) wrote
    ∙ rule_joined out (decimal (get_or numbers 0 0)) (decimal (get_or numbers 1 0))
    (decimal (get_or numbers 2 0)) (decimal size) (decimal count) selector
    (declaration_texts rule.declarations)
    ∙ ap (λ v. text v size selector count) numbers_are
    ∙ ap (λ n. text (specificity rule.components) n selector count) size_is
    ∙ ap (λ s. text (specificity rule.components) (length s) s count) selector_is
    ∙ ap (λ n. text (specificity rule.components) (length (selector_text rule.components))
    (selector_text rule.components) n) count_is
  where
    text : (numbers : List ℕ) (size : ℕ) (selector : List ℕ) (count : ℕ) → List ℕ
    text numbers size selector count =
        out ++ (((decimal (get_or numbers 0 0) ++ (space ∷ (decimal (get_or numbers 1 0)
        ++ (space ∷ (decimal (get_or numbers 2 0) ++ (space ∷ (decimal size
        ++ (space ∷ decimal count)))))))) ++ newline ∷ [])
        ++ ((selector ++ newline ∷ []) ++ declaration_texts rule.declarations))

-- ---- what is skipped

piece_joined : (out a b d reason quoted : List ℕ)
    → out ++ (a ++ (space ∷ (b ++ (space ∷ (d ++ (space ∷ (reason
    ++ (newline ∷ (quoted ++ newline ∷ [])))))))))
    ≡ out ++ (((a ++ (space ∷ (b ++ (space ∷ (d ++ (space ∷ reason)))))) ++ newline ∷ [])
    ++ (quoted ++ newline ∷ []))
piece_joined out a b d reason quoted = simp append_assoc

-- the position, the length, the reason and what is quoted
pub piece_written : (pos : TextPos) (quoted reason out new : List ℕ)
    → new ≡ out ++ (decimal pos.row ++ (space ∷ (decimal pos.col ++ (space ∷ (decimal (length quoted)
    ++ (space ∷ (reason ++ (newline ∷ (quoted ++ newline ∷ [])))))))))
    → new ≡ out ++ piece_text pos quoted reason
piece_written pos quoted reason out new wrote =
    wrote ∙ piece_joined out (decimal pos.row) (decimal pos.col) (decimal (length quoted)) reason quoted

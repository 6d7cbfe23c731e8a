-- What is before the first byte of a kind.
-- Serves `tokenizer::text_before` of `simplecss_selector` (the text up to a byte).
use Rattle.std.proofs.Common.{◌≡◌, ℕ, suc, ◌+◌, ◌-◌, ◌≤◌, List, [], ◌∷◌, Bool, true, false, if◌then◌else◌, not, ◌==◌, length, take, drop, Option, Some, None, arith, refl, sym, ap, ◌∙◌, length-drop}
use Rattle.std.specs.List.{prefix_len}
use Rattle.std.proofs.lemmas.List.Sums.{prefix_len-le-length}
use Rattle.css_text.specs.Reading.{got}
use Rattle.css_text.specs.Bytes.{past, after_byte, all_before}

-- after the first byte of a text, if there is one
abbrev after_first : List ℕ → Option (List ℕ)
after_first [] = None
after_first (b ∷ text) = Some text

-- what is left after the first such byte is what follows it
after_byte-past : (c : ℕ) (text : List ℕ)
    → after_byte c text ≡ after_first (past (λ b. not (b == c)) text)
after_byte-past c [] = refl
after_byte-past c (b ∷ text) = by (b == c) (after_byte-past c text)
  where
    by : (t : Bool) → after_byte c text ≡ after_first (past (λ b. not (b == c)) text)
        → (if t then Some text else after_byte c text)
        ≡ after_first (drop (if not t then 1 + prefix_len (λ b. not (b == c)) text else 0)
        (b ∷ text))
    by true more = refl
    by false more = let one : 1 + prefix_len (λ b. not (b == c)) text
        ≡ suc (prefix_len (λ b. not (b == c)) text) = omega arith in rw one more

after_first-length : (text rest : List ℕ) → after_first text ≡ Some rest
    → length text ≡ suc (length rest)
after_first-length [] rest e = absurd (cc)
after_first-length (b ∷ text) rest e = let same : text ≡ rest = cc in ap (λ t. suc (length t)) same

after_first-none : (text : List ℕ) → after_first text ≡ None → length text ≡ 0
after_first-none [] e = refl
after_first-none (b ∷ text) e = absurd (cc)

all_before-len : (c : ℕ) (text : List ℕ) (n : ℕ) → prefix_len (λ b. not (b == c)) text ≡ n
    → all_before c text ≡ got (take n text) (drop n text)
all_before-len c text n e =
    let k = prefix_len (λ b. not (b == c)) text in
    let len : length text - length (drop k text)
    ≡ k = omega (arith, length-drop k text, prefix_len-le-length (λ b. not (b == c)) text) in
    ap (λ m. got (take m text) (drop k text)) len ∙ ap (λ m. got (take m text) (drop m text)) e

-- all before the first such byte
pub all_before-found : (c : ℕ) (text : List ℕ) (n : ℕ)
    → after_byte c text ≡ Some (drop (n + 1) text) → n + 1 ≤ length text
    → all_before c text ≡ got (take n text) (drop n text)
all_before-found c text n e within =
    let k = prefix_len (λ b. not (b == c)) text in
    let len : length (drop k text) ≡ suc (length (drop (n + 1) text)) = after_first-length
    (drop k text) (drop (n + 1) text) (sym (after_byte-past c text) ∙ e) in
    all_before-len c text n (omega (
      arith,
      length-drop k text,
      length-drop (n + 1) text,
      prefix_len-le-length (λ b. not (b == c)) text,
    ))

-- without such a byte, all there is
pub all_before-none : (c : ℕ) (text : List ℕ) → after_byte c text ≡ None
    → all_before c text ≡ got (take (length text) text) (drop (length text) text)
all_before-none c text e =
    let k = prefix_len (λ b. not (b == c)) text in
    let len : length (drop k text) ≡ 0 = after_first-none (drop k text)
    (sym (after_byte-past c text) ∙ e) in
    all_before-len c text (length text) (omega
    (arith, length-drop k text, prefix_len-le-length (λ b. not (b == c)) text))

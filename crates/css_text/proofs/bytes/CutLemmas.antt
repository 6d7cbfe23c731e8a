-- Where a text may be cut between two characters.
-- Serves `Stream::skip_bytes`, `readers` and `scan` (an offset is between two characters).
use Rattle.std.proofs.Common.{◌≡◌, ℕ, zero, suc, ◌+◌, ◌-◌, ◌<◌, ◌≤◌, Bool, true, false, List, [], ◌∷◌, length, get_or, arith, refl, sym, subst, slice_index, inl, inr, drop, ltb-true, Option, Some, None, IfSome, ◌&&◌, ◌==◌, eqb-true}
use Rattle.std.specs.Str.{IsUtf8, IsCharBoundary}
use Rattle.std.specs.List.{prefix_len}
use Rattle.std.proofs.Math.Nat.{eq-or-lt_of_le}
use Rattle.std.proofs.lemmas.Bool.Decides.{nat_tests, leb_tells}
use Rattle.std.proofs.lemmas.Bool.{and_parts}
use Rattle.std.proofs.lemmas.List.Sums.{prefix_len-le-length, prefix_len_passes}
use Rattle.std.proofs.lemmas.Str.{IsUtf8-had, IsCharBoundary-after_ascii, IsCharBoundary-start, lead_after_ascii, IsUtf8-drop}
use Rattle.css_text.specs.AsciiBytes.{asterisk, slash}
use Rattle.css_text.specs.Bytes.{starts_by, starts_two, is_ascii}
use Rattle.css_text.specs.Characters.{is_space}
use Rattle.css_text.specs.ByteTests.{IsByteTest, PassesUpTo}

-- after an ASCII byte
IsCharBoundary-after : (text : List ℕ) (n : ℕ) → IsUtf8 text → 0 < n → n ≤ length text
    → slice_index text (n - 1) < 128 → IsCharBoundary text n
IsCharBoundary-after text n u pos h e =
    let back : n - 1 + 1 ≡ n = omega arith in
    subst (λ (i : ℕ). IsCharBoundary text i) back
    (IsCharBoundary-after_ascii text (n - 1) u (omega arith) e)

-- after a run of ASCII bytes
pub IsCharBoundary-prefix_len : (p : ℕ → Bool) → ((b : ℕ) → p b ≡ true → b < 128) → (text : List ℕ)
    → IsUtf8 text → IsCharBoundary text (prefix_len p text)
IsCharBoundary-prefix_len p ascii text u = by (prefix_len p text) refl
  where
    by : (n : ℕ) → n ≡ prefix_len p text → IsCharBoundary text (prefix_len p text)
    by zero e = subst (λ (i : ℕ). IsCharBoundary text i) e (IsCharBoundary-start text u)
    by (suc n) e =
        let le : prefix_len p text ≤ length text = prefix_len-le-length p text in
        let last : slice_index text (prefix_len p text - 1) < 128 =
        ascii _ (prefix_len_passes p text (prefix_len p text - 1) 0 (omega arith)) in
        IsCharBoundary-after text (prefix_len p text) u (omega arith) le last

pub is_space-ascii : (b : ℕ) → is_space b ≡ true → b < 128
is_space-ascii b e = grind (arith, nat_tests)

-- The run of bytes that a test passes ends between two characters.
pub IsCharBoundary-run : (pre : ℕ → Type 0) (post : ℕ → Bool → Type 0) (text : List ℕ) (p q : ℕ)
    → IsByteTest pre post text → PassesUpTo post text p q → IsUtf8 text → IsCharBoundary text p
    → IsCharBoundary text q
IsCharBoundary-run pre post text p q t run utf8 start = (
  run.within,
  λ l wide.
      elim (eq-or-lt_of_le run.from) [
        | inl e ↦ subst (λ (x : ℕ). x < length text → 128 ≤ get_or text x 0 → 192 ≤ get_or text x 0)
            e start.1 l wide
        | inr more ↦
            let before : q - 1 + 1 ≡ q = omega arith in
            elim (leb_tells 128 (get_or text (q - 1) 0)) [
              | inl high ↦
                  let same : true ≡ false =
                  t.alike (q - 1) q true false (omega arith) l high.1 wide
                  (run.passed (q - 1) (omega arith) (omega arith)) (run.stopped l) in
                  cc
              | inr low ↦ subst (λ (x : ℕ). x < length text → 128 ≤ get_or text x 0
                  → 192 ≤ get_or text x 0) before (lead_after_ascii text (q - 1) utf8 low.1) l wide
            ]
      ],
)

-- after a space byte at the front
pub IsCharBoundary-after_space : (text : List ℕ) → IsUtf8 text → true ≡ starts_by is_space text
    → IsCharBoundary text 1
IsCharBoundary-after_space [] u e = absurd (cc)
IsCharBoundary-after_space (b ∷ text) u e =
    IsCharBoundary-after_ascii (b ∷ text) 0 u (omega arith) (is_space-ascii b (sym e))

-- after an ASCII byte that is at an offset of a text
pub boundary_past_ascii : (text : List ℕ) (offset : ℕ) → ∥ IsUtf8 text ∥₁
    → IsCharBoundary text offset
    → starts_by is_ascii (drop offset text) ≡ true → IsCharBoundary (drop offset text) 1
boundary_past_ascii text offset u at e =
    front (drop offset text) (IsUtf8-drop text offset (IsUtf8-had text u) at) e
  where
    front : (rest : List ℕ) → IsUtf8 rest → starts_by is_ascii rest ≡ true → IsCharBoundary rest 1
    front [] v e = absurd (cc)
    front (b ∷ rest) v e =
        IsCharBoundary-after_ascii (b ∷ rest) 0 v (omega arith) (ltb-true b 128 e)

-- after an ASCII byte that a search may have found
pub IsCharBoundary-after_found : (text : List ℕ) (byte : ℕ) (r : Option ℕ) → IsUtf8 text
    → byte < 128 → IfSome r (λ n. (n < length text) × (slice_index text n ≡ byte))
    → IfSome r (λ n. IsCharBoundary text (n + 1))
IsCharBoundary-after_found text byte None u l h = tt
IsCharBoundary-after_found text byte (Some n) u l h =
    let small : slice_index text n < 128 = omega (arith, h.1) in
    IsCharBoundary-after_ascii text n u h.0 small

-- after two ASCII bytes at the front
pub IsCharBoundary-after_comment : (text : List ℕ) → IsUtf8 text
    → starts_two slash asterisk text ≡ true
    → IsCharBoundary text 2
IsCharBoundary-after_comment [] u e = absurd (cc)
IsCharBoundary-after_comment (a ∷ []) u e = absurd (false_and (a == slash) e)
  where
    false_and : (x : Bool) → (x && false) ≡ true → ⊥
    false_and true h = cc
    false_and false h = cc
IsCharBoundary-after_comment (a ∷ b ∷ text) u e =
    let star : b ≡ asterisk = eqb-true b asterisk (and_parts (a == slash) (b == asterisk) e).1 in
    IsCharBoundary-after_ascii (a ∷ b ∷ text) 1 u (omega arith) (omega (arith, star))

-- a text may be cut at its start
pub boundary_at_start : (text : List ℕ) → IsUtf8 text → IsCharBoundary text 0
boundary_at_start text u = IsCharBoundary-start text u

-- Bytes at the front of a text, and runs of them.
-- Serves `readers::from_brace`, and of simplecss_declaration `terms::{skip_digits, skip_hex_digits,
-- skip_number}` (numbers), `reader::{skip_semicolons, take_importance}`, and
-- `blocks::skip_semicolon_or_block` (what an at-rule has after its name).
use Rattle.std.proofs.Common.{◌≡◌, ◌+◌, ◌-◌, ℕ, Bool, List, [], ◌∷◌, drop, slice_index, true, false, refl, sym, ap, ◌∙◌, arith, length-drop}
use Rattle.std.specs.List.{prefix_len}
use Rattle.std.proofs.lemmas.List.{get_or-drop, drop-drop}
use Rattle.std.proofs.lemmas.List.Sums.{prefix_len_is}
use Rattle.css_text.specs.Bytes.{starts, past, past_one, past_byte}
use Rattle.css_text.specs.ByteTests.{PassesUpTo}

pub past_byte_there : (c : ℕ) (text : List ℕ) → starts c text ≡ true
    → past_byte c text ≡ past_one text
past_byte_there c [] e = refl
past_byte_there c (b ∷ text) e = rw e refl

pub past_byte_not : (c : ℕ) (text : List ℕ) → starts c text ≡ false → past_byte c text ≡ text
past_byte_not c [] e = refl
past_byte_not c (b ∷ text) e = rw e refl

-- after a run of bytes that pass the test
pub past_run : {post : ℕ → Bool → Type 0} (test : ℕ → Bool) (text : List ℕ) (p q : ℕ)
    → ((b : ℕ) (x : Bool) → post b x → x ≡ test b) → PassesUpTo post text p q
    → drop q text ≡ past test (drop p text)
past_run test text p q answers run =
    let at : p + (q - p) ≡ q = omega (arith, run.from) in
    let len : prefix_len test (drop p text) ≡ q - p =
    prefix_len_is test (drop p text) (q - p) 0
    (omega (arith, run.from, run.within, length-drop p text))
    (λ k h. ap test (get_or-drop p text k 0) ∙
    sym (answers (slice_index text (p + k)) true
    (run.passed (p + k) (omega arith) (omega arith))))
    (λ h. ap test (get_or-drop p text (q - p) 0 ∙ ap (slice_index text) at)
    ∙ sym (answers (slice_index text q) false
    (run.stopped (omega (arith, run.from, length-drop p text))))) in
    sym (ap (λ n. drop n (drop p text)) len ∙ drop-drop (q - p) p text ∙ ap (λ n. drop n text) at)

-- What `each` reads, step by step.
-- Serves every loop that reads: `scan::closed_part`, the tokenizers, `read_value`, `consume_parts`
-- and `read_rules`.
use Rattle.std.proofs.Common.{◌==◌, false, ◌≡◌, ℕ, zero, suc, ◌<◌, ◌≤◌, List, [], ◌∷◌, length, Option, Some, None, arith, refl, sym, ap, ◌∙◌, ◌⊎◌, inl, inr, subst, ◌++◌, append_assoc, append-nil}
use Rattle.css_text.specs.Reading.{followed_by, up_to, each}

-- a text with a byte is not empty
pub not_empty : (b : ℕ) (text : List ℕ) → (length (b ∷ text) == 0) ≡ false
not_empty b text = grind arith

-- if something was taken off the text, less is left
abbrev pub Shrinks : {A : Type 0} → List ℕ → Option (A × List ℕ) → Type 0
Shrinks text None = Unit {0}
Shrinks text (Some x) = length x.1 < length text

-- what `read` consumes is a byte or more
abbrev pub Takes : {A : Type 0} → (List ℕ → Option (A × List ℕ)) → Type 0
Takes read = (text : List ℕ) → Shrinks text (read text)

pub took : {A : Type 0} (read : List ℕ → Option (A × List ℕ)) → Takes read
    → (text rest : List ℕ) (x : A) → read text ≡ Some (x, rest) → length rest < length text
took {A = A} read takes text rest x e =
    let P : Option (A × List ℕ) → Type 0 = Shrinks text in subst P e (takes text)

pub option_cases : {A : Type 0} (o : Option A) → (o ≡ None) ⊎ ((x : A) × (o ≡ Some x))
option_cases None = inl refl
option_cases (Some x) = inr (x, refl)

up_to-none : {A : Type 0} (read : List ℕ → Option (A × List ℕ)) (n : ℕ) (text : List ℕ)
    → read text ≡ None → up_to n read text ≡ ([], text)
up_to-none read zero text e = refl
up_to-none read (suc n) text e = rw (e, up_to) refl

up_to-some : {A : Type 0} (read : List ℕ → Option (A × List ℕ)) (n : ℕ) (text rest : List ℕ) (x : A)
    → read text ≡ Some (x, rest) → up_to (suc n) read text ≡ followed_by x (up_to n read rest)
up_to-some read n text rest x e = rw (e, up_to) refl

-- where nothing more is found, more tries change nothing
up_to-enough : {A : Type 0} (read : List ℕ → Option (A × List ℕ)) → Takes read
    → (m n : ℕ) (text : List ℕ) → length text ≤ m → length text ≤ n
    → up_to m read text ≡ up_to n read text
up_to-enough read takes zero n text a b =
    elim (option_cases (read text)) [
      | inl e ↦ sym (up_to-none read n text e)
      | inr found ↦ absurd (omega (arith, took read takes text found.0.1 found.0.0 found.1))
    ]
up_to-enough read takes (suc m) zero text a b =
    elim (option_cases (read text)) [
      | inl e ↦ up_to-none read (suc m) text e
      | inr found ↦ absurd (omega (arith, took read takes text found.0.1 found.0.0 found.1))
    ]
up_to-enough read takes (suc m) (suc n) text a b =
    elim (option_cases (read text)) [
      | inl e ↦ up_to-none read (suc m) text e ∙ sym (up_to-none read (suc n) text e)
      | inr found ↦
          let less : length found.0.1 < length text =
          took read takes text found.0.1 found.0.0 found.1 in
          up_to-some read m text found.0.1 found.0.0 found.1
          ∙ ap (followed_by found.0.0)
          (up_to-enough read takes m n found.0.1 (omega arith) (omega arith))
          ∙ sym (up_to-some read n text found.0.1 found.0.0 found.1)
    ]

pub each-none : {A : Type 0} (read : List ℕ → Option (A × List ℕ)) (text : List ℕ)
    → read text ≡ None → each read text ≡ ([], text)
unfolding each
each-none read text e = up_to-none read (length text) text e

pub each-some : {A : Type 0} (read : List ℕ → Option (A × List ℕ)) → Takes read
    → (text rest : List ℕ) (x : A) → read text ≡ Some (x, rest)
    → each read text ≡ followed_by x (each read rest)
unfolding each
each-some read takes [] rest x e = absurd (omega (arith, took read takes [] rest x e))
each-some read takes (b ∷ text) rest x e =
    let less : length rest < length (b ∷ text) = took read takes (b ∷ text) rest x e in
    up_to-some read (length text) (b ∷ text) rest x e
    ∙ ap (followed_by x)
    (up_to-enough read takes (length text) (length rest) rest (omega arith) (omega arith))

-- what was read so far, and what is read from here on, is all that is read
pub record Done {A : Type 0} (read : List ℕ → Option (A × List ℕ)) (front : List A)
    (here text : List ℕ) : Type 0 where
  pub values : front ++ (each read here).0 ≡ (each read text).0
  pub left : (each read here).1 ≡ (each read text).1

pub done_start : {A : Type 0} (read : List ℕ → Option (A × List ℕ)) (text : List ℕ)
    → Done read [] text text
done_start read text = record { values = refl; left = refl }

pub done_step : {A : Type 0} (read : List ℕ → Option (A × List ℕ)) (front : List A)
    (here text next : List ℕ) (x : A) → each read here ≡ followed_by x (each read next)
    → Done read front here text → Done read (front ++ x ∷ []) next text
done_step read front here text next x e d = record {
  values =
      append_assoc front (x ∷ []) (each read next).0 ∙ ap (λ r. front ++ r.0) (sym e) ∙ d.values;
  left = ap (λ r. r.1) (sym e) ∙ d.left;
}

pub done_end : {A : Type 0} (read : List ℕ → Option (A × List ℕ)) (front : List A)
    (here text : List ℕ) → each read here ≡ ([], here) → Done read front here text
    → each read text ≡ (front, here)
done_end read front here text e d =
    let values : front ≡ (each read text).0 =
    sym (append-nil front) ∙ ap (λ r. front ++ r.0) (sym e) ∙ d.values in
    let rest : here ≡ (each read text).1 = ap (λ r. r.1) (sym e) ∙ d.left in
    rw (values, rest) refl

-- where `each` stops, nothing more is found
up_to-stops : {A : Type 0} (read : List ℕ → Option (A × List ℕ)) → Takes read
    → (n : ℕ) (text : List ℕ) → length text ≤ n → read (up_to n read text).1 ≡ None
up_to-stops read takes zero text h =
    elim (option_cases (read text)) [
      | inl e ↦ e
      | inr found ↦ absurd
          (omega (arith, took read takes text found.0.1 found.0.0 found.1))
    ]
up_to-stops read takes (suc n) text h =
    elim (option_cases (read text)) [
      | inl e ↦ rw (e, up_to) e
      | inr found ↦
          let less : length found.0.1 < length text =
          took read takes text found.0.1 found.0.0 found.1 in
          rw (found.1, up_to) (up_to-stops read takes n found.0.1 (omega arith))
    ]

pub each-stops : {A : Type 0} (read : List ℕ → Option (A × List ℕ)) → Takes read → (text : List ℕ)
    → read (each read text).1 ≡ None
unfolding each
each-stops read takes text = up_to-stops read takes (length text) text (omega arith)

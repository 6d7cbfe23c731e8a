-- Runs of bytes or characters that pass a test.
-- Serves `scan::find_gap`, `readers::take_name` and `Selector::parse` (gaps and names consumed at
-- once).
use Rattle.std.proofs.Common.{◌≡◌, ℕ, ◌+◌, suc, Bool, true, false, List, [], ◌∷◌, ◌++◌, length, take, arith, refl, sym, ap, ◌∙◌, one-add}
use Rattle.std.specs.List.{list_all, prefix_len, take_while}
use Rattle.std.proofs.lemmas.Bool.{and_parts}
use Rattle.std.proofs.lemmas.List.Folds.{list_all-append}
use Rattle.std.proofs.Math.Seq.{take-append_seam}
use Rattle.css_text.specs.Bytes.{past, starts_by}

-- a run of bytes that pass a test, a byte at a time
pub past-yes : (test : ℕ → Bool) (b : ℕ) (text : List ℕ) → test b ≡ true
    → past test (b ∷ text) ≡ past test text
past-yes test b text e =
    let one : 1 + prefix_len test text ≡ suc (prefix_len test text) = omega arith in rw (e, one)
    refl

pub past-no : (test : ℕ → Bool) (b : ℕ) (text : List ℕ) → test b ≡ false
    → past test (b ∷ text) ≡ b ∷ text
past-no test b text e = rw e refl

-- where a run of bytes or characters ends, the next one does not pass
pub starts_by-past : (test : ℕ → Bool) (text : List ℕ) → starts_by test (past test text) ≡ false
starts_by-past test [] = refl
starts_by-past test (b ∷ text) = by (test b) refl (starts_by-past test text)
  where
    by : (t : Bool) → test b ≡ t → starts_by test (past test text) ≡ false
        → starts_by test (past test (b ∷ text)) ≡ false
    by true e more = rw (past-yes test b text e) more
    by false e more = rw (past-no test b text e) e

-- a run that ends where the list continues with what does not pass
pub prefix_len-append : (p : ℕ → Bool) (cs ds : List ℕ) → list_all p cs ≡ true
    → starts_by p ds ≡ false → prefix_len p (cs ++ ds) ≡ length cs
prefix_len-append p [] [] a s = refl
prefix_len-append p [] (d ∷ ds) a s = rw s refl
prefix_len-append p (c ∷ cs) ds a s =
    let h = and_parts (p c) (list_all p cs) a in
    let more = prefix_len-append p cs ds h.1 s in
    rw (h.0, more) (omega arith)

-- it is taken whole
pub take_while-append : (p : ℕ → Bool) (cs ds : List ℕ) → list_all p cs ≡ true
    → starts_by p ds ≡ false → take_while p (cs ++ ds) ≡ cs
take_while-append p cs ds a s =
    ap (λ k. take k (cs ++ ds)) (prefix_len-append p cs ds a s) ∙ take-append_seam cs ds

-- both parts of a list that passes a test
pub list_all-parts : {A : Type 0} (test : A → Bool) (a b : List A) → list_all test (a ++ b) ≡ true
    → (list_all test a ≡ true) × (list_all test b ≡ true)
list_all-parts test a b h =
    and_parts (list_all test a) (list_all test b) (sym (list_all-append test a b) ∙ h)

-- a run of bytes that pass ends at one that does not
pub past-stops : (test : ℕ → Bool) (text : List ℕ) (b : ℕ) (rest : List ℕ)
    → past test text ≡ b ∷ rest
    → test b ≡ false
past-stops test [] b rest e = absurd (cc)
past-stops test (c ∷ text) b rest e = by (test c) refl (past-stops test text b rest) e
  where
    by : (k : Bool) → test c ≡ k → (past test text ≡ b ∷ rest → test b ≡ false)
        → past test (c ∷ text) ≡ b ∷ rest → test b ≡ false
    by true f ih h = ih (rw (f, one-add (prefix_len test text)) at h)
    by false f ih h = let same : c ≡ b = cc (rw f at h) in ap test (sym same) ∙ f

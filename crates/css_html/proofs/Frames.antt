-- What is read before a `<` does not depend on what follows that.
use Rattle.std.proofs.Common.{◌≡◌, ℕ, zero, suc, ◌<◌, ◌≤◌, ◌==◌, Bool, true, false, not, if◌then◌else◌, List, [], ◌∷◌, ◌++◌, length, drop, Option, Some, None, arith, refl, ◌∙◌, length-append, length-drop}
use Rattle.css_text.specs.AsciiBytes.{equals_sign, greater_than_sign}
use Rattle.css_text.specs.Reading.{each}
use Rattle.css_text.specs.Bytes.{past}
use Rattle.css_text.specs.Characters.{is_space}
use Rattle.css_text.specs.Strings.{is_quote}
use Rattle.css_html.specs.Marks.{less_than_sign, is_in_attribute_name, is_in_bare_value, is_between}
use Rattle.css_html.specs.Attributes.{PlacedAttribute, quoted_attribute, valued_attribute, named_attribute, attribute_from, attribute_at, next_attribute, past_attributes}
use Rattle.css_text.proofs.reading.EachLemmas.{took, each-none, each-some}
use Rattle.css_text.proofs.reading.EndsLemmas.{length-ends, ends-past}
use Rattle.css_text.proofs.bytes.RunLemmas.{past-yes, past-no}
use Rattle.css_html.proofs.Placed.{next_attribute-takes, valued-leaves, named-leaves, attribute-leaves, each_attributes-ends}

-- Two rests of pages that are alike up to a `<`: both are before it, or at it, or the first is beyond.
pub data Framed (m n : List ℕ) : List ℕ → List ℕ → Type 0 where
  within : (z : List ℕ) → Framed m n (z ++ (less_than_sign ∷ m)) (z ++ (less_than_sign ∷ n))
  beyond : (s t : List ℕ) → length s ≤ length m → Framed m n s t

-- one reader after another
pub then_framed : (m n : List ℕ) (g : List ℕ → List ℕ)
    → ((z : List ℕ) → Framed m n (g (z ++ (less_than_sign ∷ m))) (g (z ++ (less_than_sign ∷ n))))
    → ((s : List ℕ) → length (g s) ≤ length s) → (s t : List ℕ) → Framed m n s t
    → Framed m n (g s) (g t)
then_framed m n g inside less s t (within z) = inside z
then_framed m n g inside less s t (beyond _ _ h) = beyond (g s) (g t) (omega (arith, less s))

pub if-framed : (m n : List ℕ) (k : Bool) {a b c d : List ℕ} → Framed m n a b → Framed m n c d
    → Framed m n (if k then a else c) (if k then b else d)
if-framed m n true x y = x
if-framed m n false x y = y

pub length-past : (test : ℕ → Bool) (text : List ℕ) → length (past test text) ≤ length text
length-past test text = length-ends text (past test text) (ends-past test text)

-- a byte at a time
pub past-step : (test : ℕ → Bool) (b : ℕ) (text : List ℕ)
    → past test (b ∷ text) ≡ (if test b then past test text else b ∷ text)
past-step test b text = by (test b) refl
  where
    by : (k : Bool) → test b ≡ k → past test (b ∷ text) ≡ (if k then past test text else b ∷ text)
    by true e = past-yes test b text e
    by false e = past-no test b text e

pub past-framed : (m n : List ℕ) (test : ℕ → Bool) (z : List ℕ)
    → Framed m n (past test (z ++ (less_than_sign ∷ m))) (past test (z ++ (less_than_sign ∷ n)))
past-framed m n test [] =
    rw (past-step test less_than_sign m, past-step test less_than_sign n)
    (if-framed m n (test less_than_sign)
    (beyond (past test m) (past test n) (length-past test m)) (within []))
past-framed m n test (b ∷ z) =
    rw (past-step test b (z ++ (less_than_sign ∷ m)), past-step test b (z ++ (less_than_sign ∷ n)))
    (if-framed m n (test b) (past-framed m n test z) (within (b ∷ z)))

pub drop-framed : (m n : List ℕ) (k : ℕ) (z : List ℕ)
    → Framed m n (drop k (z ++ (less_than_sign ∷ m))) (drop k (z ++ (less_than_sign ∷ n)))
drop-framed m n zero z = within z
drop-framed m n (suc k) [] = beyond (drop k m) (drop k n) (omega (arith, length-drop k m))
drop-framed m n (suc k) (b ∷ z) = drop-framed m n k z

-- ---- attributes

-- what is left after an attribute
pub record LeavesFramed (m n : List ℕ) (a b : PlacedAttribute) : Type 0 where
  pub left : Framed m n a.rest b.rest

if-leaves : (m n : List ℕ) (k : Bool) {a b c d : PlacedAttribute} → LeavesFramed m n a b
    → LeavesFramed m n c d → LeavesFramed m n (if k then a else c) (if k then b else d)
if-leaves m n true x y = x
if-leaves m n false x y = y

quoted-framed : (m n f g p q v w s t : List ℕ) → Framed m n s t
    → LeavesFramed m n (quoted_attribute f p v s) (quoted_attribute g q w t)
quoted-framed m n f g p q v w s t (within []) = record { left = beyond m n (omega arith) }
quoted-framed m n f g p q v w s t (within (b ∷ z)) = record { left = within z }
quoted-framed m n f g p q v w [] t (beyond _ _ h) =
    record { left = beyond [] (quoted_attribute g q w t).rest h }
quoted-framed m n f g p q v w (b ∷ s) t (beyond _ _ h) =
    record { left = beyond s (quoted_attribute g q w t).rest (omega arith) }

valued-framed : (m n f g p q s t : List ℕ) → Framed m n s t
    → LeavesFramed m n (valued_attribute f p s) (valued_attribute g q t)
valued-framed m n f g p q s t (within []) = record {
  left = beyond (past is_in_bare_value (less_than_sign ∷ m)) (past is_in_bare_value (less_than_sign ∷ n))
      (rw (past-step is_in_bare_value less_than_sign m) (length-past is_in_bare_value m));
}
valued-framed m n f g p q s t (within (b ∷ z)) =
    if-leaves m n (is_quote b)
    (quoted-framed m n f g p q (z ++ (less_than_sign ∷ m)) (z ++ (less_than_sign ∷ n))
    (past (λ c. not (c == b)) (z ++ (less_than_sign ∷ m)))
    (past (λ c. not (c == b)) (z ++ (less_than_sign ∷ n)))
    (past-framed m n (λ c. not (c == b)) z))
    (record { left = past-framed m n is_in_bare_value (b ∷ z) })
valued-framed m n f g p q s t (beyond _ _ h) = record {
  left = beyond (valued_attribute f p s).rest (valued_attribute g q t).rest
      (omega (arith, h, length-ends s (valued_attribute f p s).rest (valued-leaves f p s)));
}

-- a run that stops at a `<`
past-within : (m n : List ℕ) (test : ℕ → Bool) (z : List ℕ) → test less_than_sign ≡ false
    → (y : List ℕ) × (past test (z ++ (less_than_sign ∷ m)) ≡ y ++ (less_than_sign ∷ m))
    × (past test (z ++ (less_than_sign ∷ n)) ≡ y ++ (less_than_sign ∷ n))
past-within m n test [] e =
    ([], past-no test less_than_sign m e, past-no test less_than_sign n e)
past-within m n test (b ∷ z) e = by (test b) refl (past-within m n test z e)
  where
    s : List ℕ
    s = z ++ (less_than_sign ∷ m)

    t : List ℕ
    t = z ++ (less_than_sign ∷ n)

    by : (k : Bool) → test b ≡ k
        → (y : List ℕ) × (past test s ≡ y ++ (less_than_sign ∷ m)) × (past test t ≡ y ++ (less_than_sign ∷ n))
        → (y : List ℕ) × (past test (b ∷ s) ≡ y ++ (less_than_sign ∷ m))
        × (past test (b ∷ t) ≡ y ++ (less_than_sign ∷ n))
    by true f (y, one, two) = (y, past-yes test b s f ∙ one, past-yes test b t f ∙ two)
    by false f h = (b ∷ z, past-no test b s f, past-no test b t f)

after-framed : (m n f g y p q : List ℕ) → Framed m n p q
    → LeavesFramed m n (named_attribute f p (y ++ (less_than_sign ∷ m)))
    (named_attribute g q (y ++ (less_than_sign ∷ n)))
after-framed m n f g [] p q names = record { left = names }
after-framed m n f g (b ∷ y) p q names =
    if-leaves m n (b == equals_sign)
    (valued-framed m n f g p q (past is_space (y ++ (less_than_sign ∷ m)))
    (past is_space (y ++ (less_than_sign ∷ n))) (past-framed m n is_space y))
    (record { left = names })

named-framed : (m n f g p q : List ℕ) → Framed m n p q
    → LeavesFramed m n (named_attribute f p (past is_space p)) (named_attribute g q (past is_space q))
named-framed m n f g p q (within z) =
    let y = past-within m n is_space z refl in
    rw (y.1, y.2) (after-framed m n f g y.0 (z ++ (less_than_sign ∷ m)) (z ++ (less_than_sign ∷ n))
    (within z))
named-framed m n f g p q (beyond _ _ h) =
    let one : PlacedAttribute = named_attribute f p (past is_space p) in
    record {
      left = beyond one.rest (named_attribute g q (past is_space q)).rest
          (omega (
            arith,
            h,
            length-ends p one.rest (named-leaves f p (past is_space p) (ends-past is_space p)),
          ));
    }

-- the next attribute of both, or of none; or the first is read beyond
pub data NextFramed (m n : List ℕ) :
    Option (PlacedAttribute × List ℕ) → Option (PlacedAttribute × List ℕ) → Type 0 where
  no_next : NextFramed m n None None
  both_next : (a b : PlacedAttribute) (s t : List ℕ) → Framed m n s t
      → NextFramed m n (Some (a, s)) (Some (b, t))
  next_beyond : (a : PlacedAttribute) (s : List ℕ) (o : Option (PlacedAttribute × List ℕ))
      → length s ≤ length m → NextFramed m n (Some (a, s)) o

at-framed : (m n z : List ℕ)
    → NextFramed m n (attribute_at (z ++ (less_than_sign ∷ m))) (attribute_at (z ++ (less_than_sign ∷ n)))
at-framed m n [] =
    let a : PlacedAttribute = attribute_from less_than_sign m in
    next_beyond a a.rest (attribute_at (less_than_sign ∷ n))
    (length-ends m a.rest (attribute-leaves less_than_sign m))
at-framed m n (b ∷ z) = by (b == greater_than_sign)
  where
    s : List ℕ
    s = z ++ (less_than_sign ∷ m)

    t : List ℕ
    t = z ++ (less_than_sign ∷ n)

    one : PlacedAttribute
    one = attribute_from b s

    two : PlacedAttribute
    two = attribute_from b t

    by : (k : Bool)
        → NextFramed m n (if k then None else Some (one, one.rest)) (if k then None else Some (two, two.rest))
    by true = no_next
    by false = both_next one two one.rest two.rest
        (named-framed m n (b ∷ s) (b ∷ t) (past is_in_attribute_name s) (past is_in_attribute_name t)
        (past-framed m n is_in_attribute_name z)).left

next-framed : (m n z : List ℕ)
    → NextFramed m n (next_attribute (z ++ (less_than_sign ∷ m))) (next_attribute (z ++ (less_than_sign ∷ n)))
unfolding next_attribute
next-framed m n z =
    let y = past-within m n is_between z refl in
    rw (y.1, y.2) (at-framed m n y.0)

pub each-within : (text : List ℕ) → length (each next_attribute text).1 ≤ length text
each-within text =
    length-ends text (each next_attribute text).1 (each_attributes-ends text)

attributes-framed : (m n : List ℕ) (k : ℕ) (s t : List ℕ) → length s ≤ k → Framed m n s t
    → Framed m n (each next_attribute s).1 (each next_attribute t).1
attributes-framed m n k s t l (beyond _ _ h) =
    beyond (each next_attribute s).1 (each next_attribute t).1 (omega (arith, each-within s))
attributes-framed m n zero s t l (within z) =
    absurd (omega (arith, length-append z (less_than_sign ∷ m)))
attributes-framed m n (suc k) s t l (within z) =
    by (λ v w x h. attributes-framed m n k v w x h) l
    (next_attribute (z ++ (less_than_sign ∷ m))) (next_attribute (z ++ (less_than_sign ∷ n))) refl refl
    (next-framed m n z)
  where
    p : List ℕ
    p = z ++ (less_than_sign ∷ m)

    q : List ℕ
    q = z ++ (less_than_sign ∷ n)

    by : ((v w : List ℕ) → length v ≤ k → Framed m n v w
        → Framed m n (each next_attribute v).1 (each next_attribute w).1) → length p ≤ suc k
        → (o u : Option (PlacedAttribute × List ℕ)) → next_attribute p ≡ o → next_attribute q ≡ u
        → NextFramed m n o u → Framed m n (each next_attribute p).1 (each next_attribute q).1
    by more few o u e f no_next =
        rw (each-none next_attribute p e, each-none next_attribute q f) (within z)
    by more few o u e f (both_next a b v w h) =
        let less : length v < length p = took next_attribute next_attribute-takes p v a e in
        rw (
          each-some next_attribute next_attribute-takes p v a e,
          each-some next_attribute next_attribute-takes q w b f,
        )
        (more v w (omega arith) h)
    by more few o u e f (next_beyond a v _ h) =
        beyond (each next_attribute p).1 (each next_attribute q).1
        (rw (each-some next_attribute next_attribute-takes p v a e) (omega (arith, h, each-within v)))

pub past_attributes-framed : (m n s t : List ℕ) → Framed m n s t
    → Framed m n (past_attributes s) (past_attributes t)
unfolding past_attributes
past_attributes-framed m n s t h =
    then_framed m n (past is_between) (past-framed m n is_between) (length-past is_between)
    (each next_attribute s).1 (each next_attribute t).1
    (attributes-framed m n (length s) s t (omega arith) h)

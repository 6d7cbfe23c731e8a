-- A tag that `>` closes does not depend on what follows it.
use Rattle.std.proofs.Common.{◌≡◌, ℕ, zero, suc, ◌<◌, ◌≤◌, ◌==◌, Bool, true, false, not, if◌then◌else◌, List, [], ◌∷◌, ◌++◌, length, Option, Some, None, arith, refl, ap, ◌∙◌, length-append, inl, inr}
use Rattle.css_text.specs.AsciiBytes.{equals_sign, greater_than_sign, slash}
use Rattle.css_text.specs.Reading.{each, before}
use Rattle.css_text.specs.Bytes.{past}
use Rattle.css_text.specs.Characters.{is_space}
use Rattle.css_text.specs.Strings.{is_quote}
use Rattle.css_html.specs.Marks.{is_in_name, is_in_attribute_name, is_in_bare_value, is_between}
use Rattle.css_html.specs.Attributes.{PlacedAttribute, bare_attribute, quoted_attribute, valued_attribute, named_attribute, attribute_from, attribute_at, next_attribute, past_attributes}
use Rattle.css_html.specs.Tokens.{PlacedToken, tag_end, tag_from}
use Rattle.css_html.specs.Locality.{said}
use Rattle.css_html.specs.declared.tokenizer.TokenKind.{TokenKind}
use Rattle.css_text.proofs.reading.EachLemmas.{option_cases, took, each-none, each-some}
use Rattle.css_text.proofs.reading.EndsLemmas.{length-ends, ends-past}
use Rattle.css_text.proofs.bytes.RunLemmas.{past-yes, past-no}
use Rattle.css_html.proofs.Placed.{TakesEnd, attribute_at-takes, next_attribute-takes, valued-leaves, named-leaves, past_attributes-ends}
use Rattle.css_html.proofs.Frames.{length-past, past-step, each-within}
use Rattle.css_html.proofs.TokenFrames.{before-same}

-- Two rests of pages that are alike up to a place: both are before it, or the first is at it or beyond.
pub data Kept (r s : List ℕ) : List ℕ → List ℕ → Type 0 where
  kept : (b : ℕ) (z : List ℕ) → Kept r s (b ∷ (z ++ r)) (b ∷ (z ++ s))
  lost : (p q : List ℕ) → length p ≤ length r → Kept r s p q

-- The same, or from the first on only what may stand between attributes is before the place.
pub data Loose (r s : List ℕ) : List ℕ → List ℕ → Type 0 where
  near : (b : ℕ) (z : List ℕ) → Loose r s (b ∷ (z ++ r)) (b ∷ (z ++ s))
  far : (p q : List ℕ) → length (past is_between p) ≤ length r → Loose r s p q

loosen : (r s p q : List ℕ) → Kept r s p q → Loose r s p q
loosen r s p q (kept b z) = near b z
loosen r s p q (lost _ _ h) = far p q (omega (arith, h, length-past is_between p))

if-kept : (r s : List ℕ) (k : Bool) {a b c d : List ℕ} → Kept r s a b → Kept r s c d
    → Kept r s (if k then a else c) (if k then b else d)
if-kept r s true x y = x
if-kept r s false x y = y

past-kept : (r s : List ℕ) (test : ℕ → Bool) (b : ℕ) (z : List ℕ)
    → Kept r s (past test (b ∷ (z ++ r))) (past test (b ∷ (z ++ s)))
past-kept r s test b [] =
    rw (past-step test b r, past-step test b s)
    (if-kept r s (test b) (lost (past test r) (past test s) (length-past test r)) (kept b []))
past-kept r s test b (c ∷ z) =
    rw (past-step test b (c ∷ (z ++ r)), past-step test b (c ∷ (z ++ s)))
    (if-kept r s (test b) (past-kept r s test c z) (kept b (c ∷ z)))

pub past-any : (r s : List ℕ) (test : ℕ → Bool) (z : List ℕ)
    → Kept r s (past test (z ++ r)) (past test (z ++ s))
past-any r s test [] = lost (past test r) (past test s) (length-past test r)
past-any r s test (b ∷ z) = past-kept r s test b z

-- ---- attributes

record LeavesKept (r s : List ℕ) (a b : PlacedAttribute) : Type 0 where
  pub left : Kept r s a.rest b.rest

record LeavesLoose (r s : List ℕ) (a b : PlacedAttribute) : Type 0 where
  pub left : Loose r s a.rest b.rest

if-leaves : (r s : List ℕ) (k : Bool) {a b c d : PlacedAttribute} → LeavesKept r s a b
    → LeavesKept r s c d → LeavesKept r s (if k then a else c) (if k then b else d)
if-leaves r s true x y = x
if-leaves r s false x y = y

if-loose : (r s : List ℕ) (k : Bool) {a b c d : PlacedAttribute} → LeavesLoose r s a b
    → LeavesLoose r s c d → LeavesLoose r s (if k then a else c) (if k then b else d)
if-loose r s true x y = x
if-loose r s false x y = y

quoted-kept : (r s f g p q v w d e : List ℕ) → Kept r s d e
    → LeavesKept r s (quoted_attribute f p v d) (quoted_attribute g q w e)
quoted-kept r s f g p q v w d e (kept b []) = record { left = lost r s (omega arith) }
quoted-kept r s f g p q v w d e (kept b (c ∷ z)) = record { left = kept c z }
quoted-kept r s f g p q v w [] e (lost _ _ h) =
    record { left = lost [] (quoted_attribute g q w e).rest (omega arith) }
quoted-kept r s f g p q v w (b ∷ d) e (lost _ _ h) =
    record { left = lost d (quoted_attribute g q w e).rest (omega arith) }

valued-kept : (r s f g p q v w : List ℕ) → Kept r s v w
    → LeavesKept r s (valued_attribute f p v) (valued_attribute g q w)
valued-kept r s f g p q v w (kept b z) =
    if-leaves r s (is_quote b)
    (quoted-kept r s f g p q (z ++ r) (z ++ s) (past (λ c. not (c == b)) (z ++ r))
    (past (λ c. not (c == b)) (z ++ s)) (past-any r s (λ c. not (c == b)) z))
    (record { left = past-kept r s is_in_bare_value b z })
valued-kept r s f g p q v w (lost _ _ h) = record {
  left = lost (valued_attribute f p v).rest (valued_attribute g q w).rest
      (omega (arith, h, length-ends v (valued_attribute f p v).rest (valued-leaves f p v)));
}

loose-of : (r s : List ℕ) {a b : PlacedAttribute} → LeavesKept r s a b → LeavesLoose r s a b
loose-of r s {a = a} {b = b} h = record { left = loosen r s a.rest b.rest h.left }

-- what may stand between is more than spaces
between-space : (p : List ℕ) → length (past is_between p) ≤ length (past is_space p)
between-space [] = omega arith
between-space (b ∷ p) = by (is_space b) (b == slash) refl refl (between-space p)
  where
    by : (k l : Bool) → is_space b ≡ k → (b == slash) ≡ l
        → length (past is_between p) ≤ length (past is_space p)
        → length (past is_between (b ∷ p)) ≤ length (past is_space (b ∷ p))
    by true l e f more =
        let between : is_between b ≡ true = rw e refl in
        rw (past-yes is_between b p between, past-yes is_space b p e) more
    by false l e f more =
        rw (past-no is_space b p e) (length-past is_between (b ∷ p))

named-far : (r f p after : List ℕ) → length (past is_between p) ≤ length r → length after ≤ length r
    → length (past is_between (named_attribute f p after).rest) ≤ length r
named-far r f p [] h l = h
named-far r f p (c ∷ t) h l = by (c == equals_sign)
  where
    value : List ℕ
    value = past is_space t

    one : PlacedAttribute
    one = valued_attribute f p value

    by : (k : Bool)
        → length (past is_between (if k then one else bare_attribute f p).rest) ≤ length r
    by true = omega (
      arith,
      l,
      length-past is_between one.rest,
      length-ends value one.rest (valued-leaves f p value),
      length-past is_space t,
    )
    by false = h

named-by : (r s f g p q after other : List ℕ) → Kept r s p q
    → length (past is_between p) ≤ length after → Kept r s after other
    → LeavesLoose r s (named_attribute f p after) (named_attribute g q other)
named-by r s f g p q after other names l (kept c y) =
    if-loose r s (c == equals_sign)
    (loose-of r s (valued-kept r s f g p q (past is_space (y ++ r)) (past is_space (y ++ s))
    (past-any r s is_space y)))
    (record { left = loosen r s p q names })
named-by r s f g p q after other names l (lost _ _ h) = record {
  left = far (named_attribute f p after).rest (named_attribute g q other).rest
      (named-far r f p after (omega (arith, l, h)) h);
}

named-loose : (r s f g p q : List ℕ) → Kept r s p q
    → LeavesLoose r s (named_attribute f p (past is_space p)) (named_attribute g q (past is_space q))
named-loose r s f g p q (kept b z) =
    named-by r s f g (b ∷ (z ++ r)) (b ∷ (z ++ s)) (past is_space (b ∷ (z ++ r)))
    (past is_space (b ∷ (z ++ s))) (kept b z) (between-space (b ∷ (z ++ r))) (past-kept r s is_space b z)
named-loose r s f g p q (lost _ _ h) =
    let one : PlacedAttribute = named_attribute f p (past is_space p) in
    record {
      left = far one.rest (named_attribute g q (past is_space q)).rest
          (omega (
            arith,
            h,
            length-past is_between one.rest,
            length-ends p one.rest (named-leaves f p (past is_space p) (ends-past is_space p)),
          ));
    }

-- the next attribute of both, or of none
pub data NextLoose (r s : List ℕ) :
    Option (PlacedAttribute × List ℕ) → Option (PlacedAttribute × List ℕ) → Type 0 where
  no_next : NextLoose r s None None
  both_next : (a b : PlacedAttribute) (v w : List ℕ) → Loose r s v w
      → NextLoose r s (Some (a, v)) (Some (b, w))

at-loose : (r s : List ℕ) (b : ℕ) (z : List ℕ)
    → NextLoose r s (attribute_at (b ∷ (z ++ r))) (attribute_at (b ∷ (z ++ s)))
at-loose r s b z = by (b == greater_than_sign)
  where
    one : PlacedAttribute
    one = attribute_from b (z ++ r)

    two : PlacedAttribute
    two = attribute_from b (z ++ s)

    by : (k : Bool)
        → NextLoose r s (if k then None else Some (one, one.rest)) (if k then None else Some (two, two.rest))
    by true = no_next
    by false = both_next one two one.rest two.rest
        (named-loose r s (b ∷ (z ++ r)) (b ∷ (z ++ s)) (past is_in_attribute_name (z ++ r))
        (past is_in_attribute_name (z ++ s)) (past-any r s is_in_attribute_name z)).left

some-less : (text : List ℕ) (a : PlacedAttribute) (v : List ℕ) (o : Option (PlacedAttribute × List ℕ))
    → o ≡ Some (a, v) → TakesEnd text o → length v ≤ length text
some-less text a v o e h = by (rw e at h)
  where
    by : TakesEnd text (Some (a, v)) → length v ≤ length text
    by k = omega (arith, k.1)

next-less : (p : List ℕ) (a : PlacedAttribute) (v : List ℕ) → next_attribute p ≡ Some (a, v)
    → length v ≤ length (past is_between p)
unfolding next_attribute
next-less p a v e =
    some-less (past is_between p) a v (attribute_at (past is_between p)) e
    (attribute_at-takes (past is_between p))

far-each : (r p : List ℕ) → length (past is_between p) ≤ length r
    → length (past is_between (each next_attribute p).1) ≤ length r
far-each r p h =
    elim (option_cases (next_attribute p)) [
      | inl e ↦ rw (each-none next_attribute p e) h
      | inr found ↦
          let v : List ℕ = found.0.1 in
          let less : length v ≤ length (past is_between p) = next-less p found.0.0 v found.1 in
          rw (each-some next_attribute next_attribute-takes p v found.0.0 found.1)
          (omega (arith, h, less, length-past is_between (each next_attribute v).1, each-within v))
    ]

next-is : (p : List ℕ) → next_attribute p ≡ attribute_at (past is_between p)
unfolding next_attribute
next-is p = refl

attributes-loose : (r s : List ℕ) (k : ℕ) (p q : List ℕ) → length p ≤ k → Loose r s p q
    → Loose r s (each next_attribute p).1 (each next_attribute q).1
attributes-loose r s k p q l (far _ _ h) =
    far (each next_attribute p).1 (each next_attribute q).1 (far-each r p h)
attributes-loose r s zero p q l (near b z) = absurd (omega arith)
attributes-loose r s (suc k) p q l (near b z) =
    by (λ v w x h. attributes-loose r s k v w x h) l (past is_between one) (past is_between two)
    refl refl (past-kept r s is_between b z)
  where
    one : List ℕ
    one = b ∷ (z ++ r)

    two : List ℕ
    two = b ∷ (z ++ s)

    to : ((v w : List ℕ) → length v ≤ k → Loose r s v w
        → Loose r s (each next_attribute v).1 (each next_attribute w).1) → length one ≤ suc k
        → (o u : Option (PlacedAttribute × List ℕ)) → next_attribute one ≡ o → next_attribute two ≡ u
        → NextLoose r s o u → Loose r s (each next_attribute one).1 (each next_attribute two).1
    to more few o u e f no_next =
        rw (each-none next_attribute one e, each-none next_attribute two f) (near b z)
    to more few o u e f (both_next a c v w h) =
        let less : length v < length one = took next_attribute next_attribute-takes one v a e in
        rw (
          each-some next_attribute next_attribute-takes one v a e,
          each-some next_attribute next_attribute-takes two w c f,
        )
        (more v w (omega arith) h)

    by : ((v w : List ℕ) → length v ≤ k → Loose r s v w
        → Loose r s (each next_attribute v).1 (each next_attribute w).1) → length one ≤ suc k
        → (v w : List ℕ) → past is_between one ≡ v → past is_between two ≡ w → Kept r s v w
        → Loose r s (each next_attribute one).1 (each next_attribute two).1
    by more few v w e f (kept c y) =
        to more few (attribute_at (c ∷ (y ++ r))) (attribute_at (c ∷ (y ++ s)))
        (next-is one ∙ ap attribute_at e) (next-is two ∙ ap attribute_at f) (at-loose r s c y)
    by more few v w e f (lost _ _ h) =
        far (each next_attribute one).1 (each next_attribute two).1
        (far-each r one (rw e h))

between-kept : (r s p q : List ℕ) → Loose r s p q → Kept r s (past is_between p) (past is_between q)
between-kept r s p q (near b z) = past-kept r s is_between b z
between-kept r s p q (far _ _ h) = lost (past is_between p) (past is_between q) h

pub past_attributes-kept : (r s p q : List ℕ) → Kept r s p q
    → Kept r s (past_attributes p) (past_attributes q)
unfolding past_attributes
past_attributes-kept r s p q h =
    between-kept r s (each next_attribute p).1 (each next_attribute q).1
    (attributes-loose r s (length p) p q (omega arith) (loosen r s p q h))

-- ---- tags

pub tag_end-lost : (kind : TokenKind) (f p v end r : List ℕ) → length end ≤ length r → 0 < length r
    → length (tag_end kind f p v end).rest < length r
tag_end-lost kind f p v [] r h l = l
tag_end-lost kind f p v (b ∷ end) r h l = omega arith

-- what a closed tag says and leaves
pub record SameTag (r s : List ℕ) (t u : PlacedToken) : Type 0 where
  pub says : said t ≡ said u
  pub left : u.rest ≡ s

end-closed : (r s : List ℕ) (kind : TokenKind) (w i : List ℕ) (c : ℕ) (y d e : List ℕ) → 0 < length r
    → Kept r s d e
    → (tag_end kind (w ++ r) (i ++ r) (c ∷ (y ++ r)) d).rest ≡ r
    → SameTag r s (tag_end kind (w ++ r) (i ++ r) (c ∷ (y ++ r)) d)
    (tag_end kind (w ++ s) (i ++ s) (c ∷ (y ++ s)) e)
end-closed r s kind w i c y d e l (kept b []) h = record {
  says = ap (λ (x : List ℕ). record {
    kind = kind;
    text = x;
    inside = before (i ++ r) (c ∷ (y ++ r));
  }) (before-same w [] r s)
      ∙ ap (λ (x : List ℕ). record { kind = kind; text = before (w ++ s) s; inside = x })
      (before-same i (c ∷ y) r s);
  left = refl;
}
end-closed r s kind w i c y d e l (kept b (a ∷ z)) h =
    absurd (omega (arith, ap length h, length-append z r))
end-closed r s kind w i c y d e l (lost _ _ k) h =
    absurd (omega (
      arith,
      ap length h,
      tag_end-lost kind (w ++ r) (i ++ r) (c ∷ (y ++ r)) d r k l,
    ))

name-closed : (r s : List ℕ) (kind : TokenKind) (w i d e : List ℕ) → 0 < length r → Kept r s d e
    → (tag_end kind (w ++ r) (i ++ r) d (past_attributes d)).rest ≡ r
    → SameTag r s (tag_end kind (w ++ r) (i ++ r) d (past_attributes d))
    (tag_end kind (w ++ s) (i ++ s) e (past_attributes e))
name-closed r s kind w i d e l (kept c y) h =
    end-closed r s kind w i c y (past_attributes (c ∷ (y ++ r))) (past_attributes (c ∷ (y ++ s))) l
    (past_attributes-kept r s (c ∷ (y ++ r)) (c ∷ (y ++ s)) (kept c y)) h
name-closed r s kind w i d e l (lost _ _ k) h =
    let less : length (past_attributes d) ≤ length r =
    omega (arith, k, length-ends d (past_attributes d) (past_attributes-ends d)) in
    absurd (omega (
      arith,
      ap length h,
      tag_end-lost kind (w ++ r) (i ++ r) d (past_attributes d) r less l,
    ))

-- A tag that leaves what was put after it leaves, and says the same of, anything else that is put there.
pub tag-closed : (r s : List ℕ) (kind : TokenKind) (w i : List ℕ) → 0 < length r
    → (tag_from kind (w ++ r) (i ++ r)).rest ≡ r
    → SameTag r s (tag_from kind (w ++ r) (i ++ r)) (tag_from kind (w ++ s) (i ++ s))
unfolding tag_from
tag-closed r s kind w i l h =
    name-closed r s kind w i (past is_in_name (i ++ r)) (past is_in_name (i ++ s)) l
    (past-any r s is_in_name i) h

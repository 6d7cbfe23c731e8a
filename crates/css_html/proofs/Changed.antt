-- An attribute put in, replaced or taken out anywhere in a tag changes no other token.
use Rattle.std.proofs.Common.{◌≡◌, ℕ, ◌<◌, ◌≤◌, ◌==◌, ◌&&◌, ◌||◌, Bool, true, false, not, if◌then◌else◌, List, [], ◌∷◌, ◌++◌, length, Option, Some, None, arith, refl, sym, ap, ◌∙◌, length-append, inl, inr}
use Rattle.std.specs.List.{list_all}
use Rattle.std.proofs.lemmas.Bool.{and_parts}
use Rattle.css_text.specs.AsciiBytes.{equals_sign, greater_than_sign, slash, space, double_quote}
use Rattle.css_text.specs.Reading.{each}
use Rattle.css_text.specs.Bytes.{past, starts, starts_by}
use Rattle.css_text.specs.Characters.{is_letter, is_space}
use Rattle.css_text.specs.Strings.{is_quote}
use Rattle.css_text.proofs.reading.EachLemmas.{option_cases, took, each-none, each-some}
use Rattle.css_text.proofs.reading.EndsLemmas.{length-ends, ends-past}
use Rattle.css_text.proofs.bytes.RunLemmas.{past-yes, past-no}
use Rattle.css_html.specs.Marks.{less_than_sign, is_in_name, is_in_attribute_name, is_in_bare_value, is_between}
use Rattle.css_html.specs.Attributes.{PlacedAttribute, bare_attribute, quoted_attribute, valued_attribute, named_attribute, attribute_from, attribute_at, with_rest, next_attribute, attributes, past_attributes, name_of, value_of}
use Rattle.css_html.specs.Tokens.{tag_end, tag_from}
use Rattle.css_html.specs.Written.{written, escaped_value, IsAttributeName}
use Rattle.css_html.specs.Locality.{Said, said, TextDriver, Reads, tag_at, is_missing, ReadsAttributes, no_attributes, one_attribute, ends_value, MayFollow, names_and_values, ChangedFrom, put_in, replaced, taken_out}
use Rattle.css_html.specs.declared.modes.Mode.TheVariants.{Data}
use Rattle.css_html.specs.declared.tokenizer.TokenKind.{TokenKind}
use Rattle.css_html.specs.declared.tokenizer.TokenKind.TheVariants as kinds
use Rattle.css_html.proofs.Placed.{attribute-leaves, next_attribute-takes, valued-leaves, named-leaves}
use Rattle.css_html.proofs.Frames.{length-past, past-step}
use Rattle.css_html.proofs.TokenFrames.{before-same}
use Rattle.css_html.proofs.Closed.{Kept, kept, lost, past-any}
use Rattle.css_html.proofs.Written.{past-over, reads-back}
use Rattle.css_html.proofs.Inserted.{replaced-local, letter-append}

-- Two rests of texts that are alike up to a place: both are before it or at it, or the first is beyond.
data At (r s : List ℕ) : List ℕ → List ℕ → Type 0 where
  within : (z : List ℕ) → At r s (z ++ r) (z ++ s)
  beyond : (p q : List ℕ) → length p < length r → At r s p q

if-at : (r s : List ℕ) (k : Bool) {a b c d : List ℕ} → At r s a b → At r s c d
    → At r s (if k then a else c) (if k then b else d)
if-at r s true x y = x
if-at r s false x y = y

-- a run that stops where the second text goes on
past-at : (r s : List ℕ) (test : ℕ → Bool) (z : List ℕ) → past test s ≡ s
    → At r s (past test (z ++ r)) (past test (z ++ s))
past-at [] s test [] e = rw e (within [])
past-at (c ∷ r) s test [] e = rw (e, past-step test c r) (by (test c))
  where
    by : (k : Bool) → At (c ∷ r) s (if k then past test r else c ∷ r) s
    by true = beyond (past test r) s (omega (arith, length-past test r))
    by false = within []
past-at r s test (b ∷ z) e =
    rw (past-step test b (z ++ r), past-step test b (z ++ s))
    (if-at r s (test b) (past-at r s test z e) (within (b ∷ z)))

-- spaces up to a place, or less
data Spaces (r s : List ℕ) : List ℕ → List ℕ → Type 0 where
  some_left : (b : ℕ) (z : List ℕ) → Spaces r s (b ∷ (z ++ r)) (b ∷ (z ++ s))
  all_over : Spaces r s (past is_space r) (past is_space s)

if-spaces : (r s : List ℕ) (k : Bool) {a b c d : List ℕ} → Spaces r s a b → Spaces r s c d
    → Spaces r s (if k then a else c) (if k then b else d)
if-spaces r s true x y = x
if-spaces r s false x y = y

past-spaces : (r s z : List ℕ) → Spaces r s (past is_space (z ++ r)) (past is_space (z ++ s))
past-spaces r s [] = all_over
past-spaces r s (b ∷ z) =
    rw (past-step is_space b (z ++ r), past-step is_space b (z ++ s))
    (if-spaces r s (is_space b) (past-spaces r s z) (some_left b z))

-- Two attributes of texts that are alike up to a place: they end before it or at it, and say the same; or the
-- first ends beyond, or it has no value after its `=`.
data Alike (r s : List ℕ) : PlacedAttribute → PlacedAttribute → Type 0 where
  alike : (f p v e y : List ℕ) → Alike r s
      (record { from = f ++ r; name_end = p ++ r; value = v ++ r; value_end = e ++ r; rest = y ++ r })
      (record { from = f ++ s; name_end = p ++ s; value = v ++ s; value_end = e ++ s; rest = y ++ s })
  over : (a b : PlacedAttribute) → length a.rest < length r → Alike r s a b
  missing : (a b : PlacedAttribute) → is_missing a ≡ true → Alike r s a b

if-alike : (r s : List ℕ) (k : Bool) {a b c d : PlacedAttribute} → Alike r s a b → Alike r s c d
    → Alike r s (if k then a else c) (if k then b else d)
if-alike r s true x y = x
if-alike r s false x y = y

quoted-less : (f p v e : List ℕ) (n : ℕ) → length e ≤ n → 0 < n
    → length (quoted_attribute f p v e).rest < n
quoted-less f p v [] n h l = l
quoted-less f p v (b ∷ e) n h l = omega arith

quoted-alike : (r s f p v d e : List ℕ) → Kept r s d e → 0 < length r
    → Alike r s (quoted_attribute (f ++ r) (p ++ r) (v ++ r) d) (quoted_attribute (f ++ s) (p ++ s) (v ++ s) e)
quoted-alike r s f p v d e (kept b z) l = alike f p v (b ∷ z) z
quoted-alike r s f p v d e (lost _ _ h) l =
    over _ _ (quoted-less (f ++ r) (p ++ r) (v ++ r) d (length r) h l)

-- a value without quotes
abbrev bare_value : (f p v end : List ℕ) → PlacedAttribute
bare_value f p v end =
    record { from = f; name_end = p; value = v; value_end = end; rest = end }

bare-alike : (r s f p v d e : List ℕ) → At r s d e
    → Alike r s (bare_value (f ++ r) (p ++ r) (v ++ r) d) (bare_value (f ++ s) (p ++ s) (v ++ s) e)
bare-alike r s f p v d e (within z) = alike f p v z z
bare-alike r s f p v d e (beyond _ _ h) = over _ _ h

missing-is : (n v : List ℕ) → length v < length n
    → (length v == length v && not (length n == length v)) ≡ true
missing-is n v h =
    let same : (length v == length v) ≡ true = grind arith in
    let other : (length n == length v) ≡ false = grind arith in
    rw (same, other) refl

-- a value that begins beyond the place, or at it
value-over : (r s f n v : List ℕ) (b : PlacedAttribute) → length v ≤ length r → length v < length n
    → 0 < length r → Alike r s (valued_attribute f n v) b
value-over r s f n [] b h k l = over _ _ l
value-over r s f n (c ∷ v) b h k l = rw (past-step is_in_bare_value c v) (by (is_quote c) (is_in_bare_value c))
  where
    end : List ℕ
    end = past (λ x. not (x == c)) v

    by : (q i : Bool) → Alike r s
        (if q then quoted_attribute f n v end
        else bare_value f n (c ∷ v) (if i then past is_in_bare_value v else c ∷ v)) b
    by true i =
        over _ _ (omega (
          arith,
          h,
          quoted-less f n v end (length r)
              (omega (arith, h, length-past (λ x. not (x == c)) v)) l,
        ))
    by false true = over _ _ (omega (arith, h, length-past is_in_bare_value v))
    by false false = missing _ _ (missing-is n (c ∷ v) k)

valued-alike : (r s f p v w : List ℕ) → Kept r s v w → past is_in_bare_value s ≡ s
    → length v < length (p ++ r) → 0 < length r
    → Alike r s (valued_attribute (f ++ r) (p ++ r) v) (valued_attribute (f ++ s) (p ++ s) w)
valued-alike r s f p v w (kept d z) e k l =
    if-alike r s (is_quote d)
    (quoted-alike r s f p z (past (λ c. not (c == d)) (z ++ r)) (past (λ c. not (c == d)) (z ++ s))
    (past-any r s (λ c. not (c == d)) z) l)
    (bare-alike r s f p (d ∷ z) (past is_in_bare_value (d ∷ (z ++ r)))
    (past is_in_bare_value (d ∷ (z ++ s))) (past-at r s is_in_bare_value (d ∷ z) e))
valued-alike r s f p v w (lost _ _ h) e k l =
    value-over r s (f ++ r) (p ++ r) v (valued_attribute (f ++ s) (p ++ s) w) h k l

named-bare : (f n after : List ℕ) → starts equals_sign after ≡ false
    → named_attribute f n after ≡ bare_attribute f n
named-bare f n [] h = refl
named-bare f n (b ∷ after) h = rw h refl

-- a name with nothing but spaces between it and the place
spaced-alike : (r s f p after : List ℕ) → length after ≤ length r
    → Alike r s (named_attribute (f ++ r) (p ++ r) after) (bare_attribute (f ++ s) (p ++ s))
spaced-alike r s f p [] h = alike f p p p p
spaced-alike r s f p (b ∷ after) h = by (b == equals_sign)
  where
    value : List ℕ
    value = past is_space after

    one : PlacedAttribute
    one = valued_attribute (f ++ r) (p ++ r) value

    by : (k : Bool) → Alike r s (if k then one else bare_attribute (f ++ r) (p ++ r))
        (bare_attribute (f ++ s) (p ++ s))
    by true = over _ _ (omega (
      arith,
      h,
      length-ends value one.rest (valued-leaves (f ++ r) (p ++ r) value),
      length-past is_space after,
    ))
    by false = alike f p p p p

after-alike : (r s f p v w : List ℕ) → Spaces r s v w → past is_in_bare_value s ≡ s
    → starts equals_sign (past is_space s) ≡ false → length v ≤ length (p ++ r) → 0 < length r
    → Alike r s (named_attribute (f ++ r) (p ++ r) v) (named_attribute (f ++ s) (p ++ s) w)
after-alike r s f p v w (some_left b z) e g k l =
    if-alike r s (b == equals_sign)
    (valued-alike r s f p (past is_space (z ++ r)) (past is_space (z ++ s)) (past-any r s is_space z) e
    (omega (arith, k, length-past is_space (z ++ r))) l)
    (alike f p p p p)
after-alike r s f p v w all_over e g k l =
    rw (named-bare (f ++ s) (p ++ s) (past is_space s) g)
    (spaced-alike r s f p (past is_space r) (length-past is_space r))

named-alike : (r s f p q : List ℕ) → At r s p q → past is_in_bare_value s ≡ s
    → starts equals_sign (past is_space s) ≡ false → 0 < length r
    → Alike r s (named_attribute (f ++ r) p (past is_space p)) (named_attribute (f ++ s) q (past is_space q))
named-alike r s f p q (within z) e g l =
    after-alike r s f z (past is_space (z ++ r)) (past is_space (z ++ s)) (past-spaces r s z) e g
    (length-past is_space (z ++ r)) l
named-alike r s f p q (beyond _ _ h) e g l =
    let one : PlacedAttribute = named_attribute (f ++ r) p (past is_space p) in
    over _ _ (omega (
      arith,
      h,
      length-ends p one.rest (named-leaves (f ++ r) p (past is_space p) (ends-past is_space p)),
    ))

-- the next attribute of both, or of none, or the first is beyond
data NextAlike (r s : List ℕ) :
    Option (PlacedAttribute × List ℕ) → Option (PlacedAttribute × List ℕ) → Type 0 where
  no_next : NextAlike r s None None
  both_next : (a b : PlacedAttribute) → Alike r s a b → NextAlike r s (Some (a, a.rest)) (Some (b, b.rest))
  next_over : (o u : Option (PlacedAttribute × List ℕ))
      → ((a : PlacedAttribute) → o ≡ Some (a, a.rest) → length a.rest < length r) → NextAlike r s o u

-- what may follow each attribute ends each name and each value
record Stops (s : List ℕ) : Type 0 where
  pub value : past is_in_bare_value s ≡ s
  pub name : past is_in_attribute_name s ≡ s
  pub plain : starts equals_sign (past is_space s) ≡ false

byte-stops : (b : ℕ) → ends_value b ≡ true → (is_in_bare_value b ≡ false) × (is_in_attribute_name b ≡ false)
byte-stops b h = by (is_space b) (b == slash) (b == greater_than_sign) (b == equals_sign) h
  where
    by : (i j g e : Bool) → not (not (i || g)) ≡ true
        → (not (i || g) ≡ false) × (not ((i || j || g) || e) ≡ false)
    by true j g e f = (refl, refl)
    by false true true e f = (refl, refl)
    by false false true e f = (refl, refl)
    by false true false e f = absurd (cc f)
    by false false false e f = absurd (cc f)

stops-of : (s : List ℕ) → MayFollow s → Stops s
stops-of [] h = absurd (cc h.ends)
stops-of (b ∷ s) h =
    let k = byte-stops b h.ends in record {
      value = past-no is_in_bare_value b s k.0;
      name = past-no is_in_attribute_name b s k.1;
      plain = h.no_value;
    }

at-alike : (r s : List ℕ) (b : ℕ) (z : List ℕ) → Stops s → 0 < length r
    → NextAlike r s (attribute_at (b ∷ (z ++ r))) (attribute_at (b ∷ (z ++ s)))
at-alike r s b z h l = by (b == greater_than_sign)
  where
    one : PlacedAttribute
    one = attribute_from b (z ++ r)

    two : PlacedAttribute
    two = attribute_from b (z ++ s)

    by : (k : Bool)
        → NextAlike r s (if k then None else Some (one, one.rest)) (if k then None else Some (two, two.rest))
    by true = no_next
    by false = both_next one two
        (named-alike r s (b ∷ z) (past is_in_attribute_name (z ++ r))
        (past is_in_attribute_name (z ++ s)) (past-at r s is_in_attribute_name z h.name) h.value h.plain l)

-- the attribute that was found, or another
abbrev first_or : PlacedAttribute → Option (PlacedAttribute × List ℕ) → PlacedAttribute
first_or a None = a
first_or a (Some x) = x.0

at-less : (n : ℕ) (text : List ℕ) (a : PlacedAttribute) → length text ≤ n → 0 < n
    → attribute_at text ≡ Some (a, a.rest) → length a.rest < n
at-less n [] a h l e = absurd (cc e)
at-less n (b ∷ text) a h l e = by (b == greater_than_sign) e
  where
    one : PlacedAttribute
    one = attribute_from b text

    by : (k : Bool) → (if k then None else Some (with_rest one)) ≡ Some (with_rest a) → length a.rest < n
    by true f = absurd (cc f)
    by false f =
        let same : one.rest ≡ a.rest = ap (λ (x : PlacedAttribute). x.rest) (ap (first_or one) f) in
        omega (arith, h, ap length same, length-ends text one.rest (attribute-leaves b text))

kept-alike : (r s p q : List ℕ) → Kept r s p q → Stops s → 0 < length r
    → NextAlike r s (attribute_at p) (attribute_at q)
kept-alike r s p q (kept b z) h l = at-alike r s b z h l
kept-alike r s p q (lost _ _ k) h l =
    next_over (attribute_at p) (attribute_at q) (λ a e. at-less (length r) p a k l e)

next-alike : (r s z : List ℕ) → Stops s → 0 < length r
    → NextAlike r s (next_attribute (z ++ r)) (next_attribute (z ++ s))
unfolding next_attribute
next-alike r s z h l =
    kept-alike r s (past is_between (z ++ r)) (past is_between (z ++ s)) (past-any r s is_between z) h l

-- An attribute that ends before the place or at it is read before the other text too.
record Follows (r s : List ℕ) (text : List ℕ) (a : PlacedAttribute) : Type 0 where
  pub other : PlacedAttribute
  pub between : List ℕ
  pub found : next_attribute text ≡ Some (other, between ++ s)
  pub rest : a.rest ≡ between ++ r
  pub name : name_of other ≡ name_of a
  pub value : value_of other ≡ value_of a

alike-follows : (r s text : List ℕ) (a b : PlacedAttribute) → Alike r s a b
    → next_attribute text ≡ Some (b, b.rest) → length r ≤ length a.rest → is_missing a ≡ false
    → Follows r s text a
alike-follows r s text a b (alike f p v e y) found h k = record {
  other = b;
  between = y;
  found = found;
  rest = refl;
  name = before-same f p s r;
  value = before-same v e s r;
}
alike-follows r s text a b (over _ _ g) found h k = absurd (omega (arith, g, h))
alike-follows r s text a b (missing _ _ g) found h k = absurd (cc (g, k))

next-follows : (r s text : List ℕ) (a : PlacedAttribute) (o u : Option (PlacedAttribute × List ℕ))
    → NextAlike r s o u → o ≡ Some (a, a.rest) → next_attribute text ≡ u → length r ≤ length a.rest
    → is_missing a ≡ false → Follows r s text a
next-follows r s text a o u no_next e f h k = absurd (cc e)
next-follows r s text a o u (next_over _ _ less) e f h k = absurd (omega (arith, less a e, h))
next-follows r s text a o u (both_next c b g) e f h k =
    let same : c ≡ a = ap (first_or c) e in
    alike-follows r s text a b (rw (← same) g) f h k

-- ---- all that is read before the place

reads-within : (text rest : List ℕ) (found : List PlacedAttribute) → ReadsAttributes text found rest
    → length rest ≤ length text
reads-within text rest found (no_attributes _) = omega arith
reads-within text rest found (one_attribute _ _ more a e m r) =
    omega (arith, reads-within a.rest rest more r, took next_attribute next_attribute-takes text a.rest a e)

reads-each : (text rest : List ℕ) (found : List PlacedAttribute) → ReadsAttributes text found rest
    → each next_attribute text
    ≡ (found ++ (each next_attribute rest).0, (each next_attribute rest).1)
reads-each text rest found (no_attributes _) = refl
reads-each text rest found (one_attribute _ _ more a e m r) =
    each-some next_attribute next_attribute-takes text a.rest a e
    ∙ ap (λ (x : List PlacedAttribute × List ℕ). (a ∷ x.0, x.1)) (reads-each a.rest rest more r)

-- the attributes that are read before the other text
record KeptBefore (s text : List ℕ) (found : List PlacedAttribute) : Type 0 where
  pub list : List PlacedAttribute
  pub same : names_and_values list ≡ names_and_values found
  pub each_of : each next_attribute text
      ≡ (list ++ (each next_attribute s).0, (each next_attribute s).1)

kept-before : (r s z text rest : List ℕ) (found : List PlacedAttribute) → Stops s → 0 < length r
    → ReadsAttributes text found rest → text ≡ z ++ r → rest ≡ r → KeptBefore s (z ++ s) found
kept-before r s [] text rest found h l (no_attributes _) p q =
    record { list = []; same = refl; each_of = refl }
kept-before r s (b ∷ z) text rest found h l (no_attributes _) p q =
    absurd (omega (arith, ap length p, ap length q, length-append z r))
kept-before r s z text rest found h l (one_attribute _ _ more a e m g) p q =
    let few : length rest ≤ length a.rest = reads-within a.rest rest more g in
    let next : next_attribute (z ++ r) ≡ Some (a, a.rest) = rw (← p) e in
    let one : Follows r s (z ++ s) a =
    next-follows r s (z ++ s) a (next_attribute (z ++ r)) (next_attribute (z ++ s)) (next-alike r s z h l)
    next refl (omega (arith, few, ap length q)) m in
    let others : KeptBefore s (one.between ++ s) more =
    kept-before r s one.between a.rest rest more h l g one.rest q in
    record {
      list = one.other ∷ others.list;
      same = rw (one.name, one.value, others.same) refl;
      each_of = each-some next_attribute next_attribute-takes (z ++ s) (one.between ++ s) one.other one.found
          ∙ ap (λ (x : List PlacedAttribute × List ℕ). (one.other ∷ x.0, x.1)) others.each_of;
    }

pub attributes-before : (front old new : List ℕ) (found : List PlacedAttribute) → 0 < length old
    → ReadsAttributes (front ++ old) found old → MayFollow new
    → (kept : List PlacedAttribute) × (names_and_values kept ≡ names_and_values found)
    × (attributes (front ++ old) ≡ found ++ attributes old)
    × (attributes (front ++ new) ≡ kept ++ attributes new)
attributes-before front old new found l r h =
    let one : KeptBefore new (front ++ new) found =
    kept-before old new front (front ++ old) old found (stops-of new h) l r refl refl in (
      one.list,
      one.same,
      ap (λ (x : List PlacedAttribute × List ℕ). x.0) (reads-each (front ++ old) old found r),
      ap (λ (x : List PlacedAttribute × List ℕ). x.0) one.each_of,
    )

past-before : (front old new : List ℕ) (found : List PlacedAttribute) → 0 < length old
    → ReadsAttributes (front ++ old) found old → MayFollow new
    → (past_attributes (front ++ old) ≡ past_attributes old)
    × (past_attributes (front ++ new) ≡ past_attributes new)
unfolding past_attributes
past-before front old new found l r h =
    let one : KeptBefore new (front ++ new) found =
    kept-before old new front (front ++ old) old found (stops-of new h) l r refl refl in
    let past_each = λ (x : List PlacedAttribute × List ℕ). past is_between x.1 in
    (ap past_each (reads-each (front ++ old) old found r), ap past_each one.each_of)

-- ---- what becomes of the tag

past-next : (text rest : List ℕ) (a : PlacedAttribute) → next_attribute text ≡ Some (a, rest)
    → past_attributes text ≡ past_attributes rest
unfolding past_attributes
past-next text rest a e =
    ap (λ (x : List PlacedAttribute × List ℕ). past is_between x.1)
    (each-some next_attribute next_attribute-takes text rest a e)

next-between : (one other : List ℕ) → past is_between one ≡ past is_between other
    → next_attribute one ≡ next_attribute other
unfolding next_attribute
next-between one other e = ap attribute_at e

past-between : (one other : List ℕ) → past is_between one ≡ past is_between other
    → past_attributes one ≡ past_attributes other
unfolding past_attributes
past-between one other e =
    let same : next_attribute other ≡ next_attribute one = sym (next-between one other e) in
    elim (option_cases (next_attribute one)) [
      | inl f ↦
          rw (each-none next_attribute one f, each-none next_attribute other (same ∙ f)) e
      | inr found ↦
          let a : PlacedAttribute = found.0.0 in
          let v : List ℕ = found.0.1 in
          rw (
            each-some next_attribute next_attribute-takes one v a found.1,
            each-some next_attribute next_attribute-takes other v a (same ∙ found.1),
          )
          refl
    ]

-- a byte of a name is no space and no `=`
name-plain : (b : ℕ) → is_in_attribute_name b ≡ true → (is_space b ≡ false) × ((b == equals_sign) ≡ false)
name-plain b h = by (is_space b) (b == slash) (b == greater_than_sign) (b == equals_sign) h
  where
    by : (i j g e : Bool) → not ((i || j || g) || e) ≡ true → (i ≡ false) × (e ≡ false)
    by true j g e f = absurd (cc f)
    by false true g e f = absurd (cc f)
    by false false true e f = absurd (cc f)
    by false false false true f = absurd (cc f)
    by false false false false f = (refl, refl)

written-follows : (name value rest : List ℕ) → IsAttributeName name → MayFollow (written name value ++ rest)
written-follows [] value rest h = absurd (omega (arith, h.has_byte))
written-follows (n ∷ name) value rest h =
    let tail : List ℕ = (name ++ (equals_sign ∷ double_quote ∷ escaped_value value ++ (double_quote ∷ []))) ++ rest in
    let k = and_parts (is_in_attribute_name n) (list_all is_in_attribute_name name) h.plain in
    let plain = name-plain n k.0 in
    let over : past is_space (space ∷ n ∷ tail) ≡ n ∷ tail =
    past-yes is_space space (n ∷ tail) refl ∙ past-no is_space n tail plain.0 in
    record { ends = refl; no_value = rw over plain.1 }

changed-follows : (old new : List ℕ) → ChangedFrom old new
    → MayFollow new × (past_attributes new ≡ past_attributes old)
changed-follows old new (put_in _ name value h) =
    let back = reads-back name value old h in
    (written-follows name value old h, past-next (written name value ++ old) old back.0 back.1.found)
changed-follows old new (replaced _ rest name value a e h) =
    let back = reads-back name value rest h in (
      written-follows name value rest h,
      past-next (written name value ++ rest) rest back.0 back.1.found ∙ sym (past-next old rest a e),
    )
changed-follows old new (taken_out _ rest _ a e same h) =
    (h, past-between new rest same ∙ sym (past-next old rest a e))

tag-ends : (kind : TokenKind) (from tag text : List ℕ) → list_all is_in_name tag ≡ true
    → starts_by is_in_name text ≡ false
    → tag_from kind from (tag ++ text) ≡ tag_end kind from (tag ++ text) text (past_attributes text)
unfolding tag_from
tag-ends kind from tag text plain ends = rw (past-over is_in_name tag text plain ends) refl

rest-same : (kind : TokenKind) (f g n m p q one other : List ℕ) → one ≡ other
    → (tag_end kind f n p one).rest ≡ (tag_end kind g m q other).rest
rest-same kind f g n m p q [] other e = rw (← e) refl
rest-same kind f g n m p q (b ∷ one) other e = rw (← e) refl

-- what follows the place does not go on with the name of the tag
name-stops : (place old new : List ℕ) → starts_by is_in_name (place ++ old) ≡ false → MayFollow new
    → starts_by is_in_name (place ++ new) ≡ false
name-stops [] old [] e h = refl
name-stops [] old (b ∷ new) e h = by (is_space b) (b == slash) (b == greater_than_sign) h.ends
  where
    by : (i j g : Bool) → not (not (i || g)) ≡ true → not (i || j || g) ≡ false
    by true j g f = refl
    by false true g f = refl
    by false false true f = refl
    by false false false f = absurd (cc f)
name-stops (b ∷ place) old new e h = e

pub changed-local : (drive : TextDriver) (front tag place old new rest : List ℕ)
    (attributes : List PlacedAttribute) (found more : List Said) → starts_by is_letter tag ≡ true
    → list_all is_in_name tag ≡ true → starts_by is_in_name (place ++ old) ≡ false → 0 < length old
    → ReadsAttributes (place ++ old) attributes old → ChangedFrom old new → drive found ≡ Data
    → Reads drive [] (front ++ (less_than_sign ∷ (tag ++ (place ++ old)))) found
    (less_than_sign ∷ (tag ++ (place ++ old)))
    → Reads drive (found ++ said (tag_at (tag ++ (place ++ old))) ∷ []) (tag_at (tag ++ (place ++ old))).rest
    more rest
    → ((later : List Said) → drive ((found ++ said (tag_at (tag ++ (place ++ old))) ∷ []) ++ later)
    ≡ drive ((found ++ said (tag_at (tag ++ (place ++ new))) ∷ []) ++ later))
    → Reads drive [] (front ++ (less_than_sign ∷ (tag ++ (place ++ new))))
    (found ++ (said (tag_at (tag ++ (place ++ new))) ∷ more)) rest
changed-local drive front tag place old new rest list found more letter plain ends l reads change data_mode first after blind =
    let k = changed-follows old new change in
    let past = past-before place old new list l reads k.0 in
    let one : List ℕ = place ++ old in
    let two : List ℕ = place ++ new in
    let same : past_attributes two ≡ past_attributes one = past.1 ∙ k.1 ∙ sym past.0 in
    let of_old = tag-ends kinds.StartTag (less_than_sign ∷ (tag ++ one)) tag one plain ends in
    let of_new = tag-ends kinds.StartTag (less_than_sign ∷ (tag ++ two)) tag two plain
    (name-stops place old new ends k.0) in
    let rests : (tag_at (tag ++ two)).rest ≡ (tag_at (tag ++ one)).rest =
    rw (of_old, of_new) (rest-same kinds.StartTag (less_than_sign ∷ (tag ++ two))
    (less_than_sign ∷ (tag ++ one)) (tag ++ two) (tag ++ one) two one (past_attributes two)
    (past_attributes one) same) in
    replaced-local drive front (tag ++ one) (tag ++ two) rest found more (letter-append tag one letter)
    (letter-append tag two letter) data_mode rests first after blind

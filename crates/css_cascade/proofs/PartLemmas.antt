-- Names of layers, part by part.
-- Serves `names::{read_name, read_layer_names, past_name}`.
use Rattle.std.proofs.Common.{◌≡◌, ◌≤◌, ◌<◌, ℕ, Bool, true, false, if◌then◌else◌, List, [], ◌∷◌, ◌++◌, length, Option, Some, None, arith, refl, sym, ap, ◌∙◌, append_assoc, append-nil}
use Rattle.std.specs.Prelude.{option_map, is_some, map}
use Rattle.std.proofs.lemmas.List.{map-append}
use Rattle.css_text.specs.AsciiBytes.{comma}
use Rattle.css_text.specs.Reading.{before, followed_by, each}
use Rattle.css_text.specs.Bytes.{past_byte, starts}
use Rattle.css_text.proofs.reading.EachLemmas.{Takes, Shrinks, took, each-some, each-none}
use Rattle.css_text.proofs.reading.TakesLemmas.{each-within}
use Rattle.css_syntax.specs.Tokens.{past_comments, past_gap, past_word}
use Rattle.css_syntax.specs.Statements.{begins_ident}
use Rattle.css_syntax.proofs.CommentLemmas.{past_comments-within}
use Rattle.css_syntax.proofs.Shorter.{past_word_within}
use Rattle.css_syntax.proofs.PartLemmas.{past_gap-within}
use Rattle.css_syntax.specs.Escapes.{decoded}
use Rattle.css_cascade.specs.Layers.{LayerPart, named}
use Rattle.css_cascade.specs.LayerNames.{dot, after_dot, if_ended, if_whole, is_empty, name_part, dotted_part, layer_name, further_name, then_dotted}

-- what `read` found after these, and the rest
abbrev pub with_each : {A : Type 0} → (List ℕ → Option (A × List ℕ)) → List A → List ℕ
    → List A × List ℕ
with_each read before text = (before ++ (each read text).0, (each read text).1)

pub each-next : {A : Type 0} (read : List ℕ → Option (A × List ℕ)) → Takes read
    → (before after : List A) (text rest : List ℕ) (x : A) → Some (x, rest) ≡ read text
    → after ≡ before ++ x ∷ []
    → with_each read after rest ≡ with_each read before text
each-next {A = A} read takes before after text rest x e f =
    let found : each read text ≡ followed_by x (each read rest) =
    each-some read takes text rest x (sym e) in
    ap (λ (xs : List A). (xs ++ (each read rest).0, (each read rest).1)) f
    ∙ ap (λ (xs : List A). (xs, (each read rest).1))
    (append_assoc before (x ∷ []) (each read rest).0)
    ∙ ap (λ (r : List A × List ℕ). (before ++ r.0, r.1)) (sym found)

pub each-end : {A : Type 0} (read : List ℕ → Option (A × List ℕ)) (before : List A) (text : List ℕ)
    → None ≡ read text → (before, text) ≡ with_each read before text
each-end {A = A} read before text e =
    ap (λ (xs : List A). (xs, text)) (sym (append-nil before))
    ∙ ap (λ (r : List A × List ℕ). (before ++ r.0, r.1)) (sym (each-none read text (sym e)))

-- the names before a text that no further one begins are all
pub names-end : (before : List (List LayerPart)) (text : List ℕ) (all : Option (List (List LayerPart)))
    → None ≡ further_name text
    → if_ended (with_each further_name before text).0 (with_each further_name before text).1 ≡ all
    → if_ended before text ≡ all
names-end before text all e h =
    ap (λ (r : List (List LayerPart) × List ℕ). if_ended r.0 r.1) (each-end further_name before text e)
    ∙ h

-- ---- each takes a byte or more

past-less : (byte : ℕ) (text : List ℕ) → starts byte text ≡ true
    → length (past_byte byte text) < length text
past-less byte [] e = absurd (cc)
past-less byte (b ∷ text) e = rw e (omega arith)

-- what was found, if anything, leaves no more than this
abbrev Leaves : {A : Type 0} → ℕ → Option (A × List ℕ) → Type 0
Leaves n None = Unit {0}
Leaves n (Some x) = length x.1 ≤ n

to-shrinks : {A : Type 0} (text : List ℕ) (n : ℕ) (o : Option (A × List ℕ)) → n < length text
    → Leaves n o → Shrinks text o
to-shrinks text n None h l = tt
to-shrinks text n (Some x) h l = omega (arith, h, l)

more-left : {A : Type 0} (m n : ℕ) (o : Option (A × List ℕ)) → m ≤ n → Leaves m o → Leaves n o
more-left m n None h l = tt
more-left m n (Some x) h l = omega (arith, h, l)

name_part-within : (text : List ℕ) → Leaves (length text) (name_part text)
unfolding name_part
name_part-within text =
    by (begins_ident text) (named (decoded (before text (past_word text))))
  where
    by : (t : Bool) (part : LayerPart)
        → Leaves (length text) (if t then Some (part, past_word text) else None)
    by true part = past_word_within text
    by false part = tt

after_dot-shrinks : (text at : List ℕ) → length at ≤ length text → Shrinks text (after_dot at)
after_dot-shrinks text at within = by (starts dot at) refl
  where
    by : (t : Bool) → starts dot at ≡ t
        → Shrinks text (if t then name_part (past_comments (past_byte dot at)) else None)
    by true e =
        let rest = past_comments (past_byte dot at) in
        to-shrinks text (length rest) (name_part rest)
        (omega (arith, past-less dot at e, past_comments-within (past_byte dot at), within))
        (name_part-within rest)
    by false e = tt

pub dotted-takes : Takes dotted_part
unfolding dotted_part
dotted-takes text = after_dot-shrinks text (past_comments text) (past_comments-within text)

then-within : (n : ℕ) (o : Option (LayerPart × List ℕ)) → Leaves n o → Leaves n (then_dotted o)
then-within n None l = tt
then-within n (Some x) l = omega (arith, l, each-within dotted_part dotted-takes x.1)

layer_name-within : (text : List ℕ) → Leaves (length text) (layer_name text)
unfolding layer_name
layer_name-within text = then-within (length text) (name_part text) (name_part-within text)

pub further-takes : Takes further_name
unfolding further_name
further-takes text = by (starts comma (past_gap text)) refl
  where
    by : (t : Bool) → starts comma (past_gap text) ≡ t
        → Shrinks text
        (if t then layer_name (past_gap (past_byte comma (past_gap text))) else None)
    by true e =
        let at = past_byte comma (past_gap text) in
        to-shrinks text (length (past_gap at)) (layer_name (past_gap at))
        (omega (
          arith,
          past-less comma (past_gap text) e,
          past_gap-within at,
          past_gap-within text,
        )) (layer_name-within (past_gap at))
    by false e = tt

-- ---- by the rests alone

abbrev rest_of : {A : Type 0} → Option (A × List ℕ) → Option (List ℕ)
rest_of o = option_map (λ found. found.1) o

pub rest-some : {A : Type 0} (read : List ℕ → Option (A × List ℕ)) → Takes read
    → (text next : List ℕ) → Some next ≡ rest_of (read text)
    → ((each read next).1 ≡ (each read text).1) × (length next < length text)
rest-some {A = A} read takes text next e = by (read text) refl e
  where
    by : (o : Option (A × List ℕ)) → read text ≡ o → Some next ≡ rest_of o
        → ((each read next).1 ≡ (each read text).1) × (length next < length text)
    by None h k = absurd (cc)
    by (Some x) h k =
        let same : next ≡ x.1 = cc in (
          ap (λ (l : List ℕ). (each read l).1) same
              ∙ sym (ap (λ (r : List A × List ℕ). r.1) (each-some read takes text x.1 x.0 h)),
          omega (arith, ap length same, took read takes text x.1 x.0 h),
        )

pub rest_none : {A : Type 0} (read : List ℕ → Option (A × List ℕ)) (text : List ℕ)
    → None ≡ rest_of (read text) → text ≡ (each read text).1
rest_none {A = A} read text e = by (read text) refl e
  where
    by : (o : Option (A × List ℕ)) → read text ≡ o → None ≡ rest_of o → text ≡ (each read text).1
    by None h k = sym (ap (λ (r : List A × List ℕ). r.1) (each-none read text h))
    by (Some x) h k = absurd (cc)

pub first_rest : (text rest : List ℕ) → Some rest ≡ rest_of (name_part text)
    → Some (each dotted_part rest).1 ≡ rest_of (layer_name text)
unfolding layer_name
first_rest text rest e = by (name_part text) e
  where
    by : (o : Option (LayerPart × List ℕ)) → Some rest ≡ rest_of o
        → Some (each dotted_part rest).1 ≡ rest_of (then_dotted o)
    by None k = absurd (cc)
    by (Some x) k =
        let same : rest ≡ x.1 = cc in ap (λ (l : List ℕ). Some (each dotted_part l).1) same

pub no_rest : (text : List ℕ) → None ≡ rest_of (name_part text) → None ≡ rest_of (layer_name text)
unfolding layer_name
no_rest text e = by (name_part text) e
  where
    by : (o : Option (LayerPart × List ℕ)) → None ≡ rest_of o → None ≡ rest_of (then_dotted o)
    by None k = refl
    by (Some x) k = absurd (cc)

-- whether one name is all there is
pub whole_some : (text rest : List ℕ) → Some rest ≡ rest_of (layer_name text)
    → is_empty (past_gap rest) ≡ is_some (if_whole (layer_name text))
whole_some text rest e = by (layer_name text) e
  where
    shown : (t : Bool) (name : List LayerPart) → t ≡ is_some (if t then Some name else None)
    shown true name = refl
    shown false name = refl

    by : (o : Option (List LayerPart × List ℕ)) → Some rest ≡ rest_of o
        → is_empty (past_gap rest) ≡ is_some (if_whole o)
    by None k = absurd (cc)
    by (Some x) k =
        let same : rest ≡ x.1 = cc in
        ap (λ (l : List ℕ). is_empty (past_gap l)) same ∙ shown (is_empty (past_gap x.1)) x.0

pub whole_none : (text : List ℕ) → None ≡ rest_of (layer_name text)
    → false ≡ is_some (if_whole (layer_name text))
whole_none text e = by (layer_name text) e
  where
    by : (o : Option (List LayerPart × List ℕ)) → None ≡ rest_of o → false ≡ is_some (if_whole o)
    by None k = refl
    by (Some x) k = absurd (cc)

-- ---- with what is found

pub found-next : {A B : Type 0} (f : B → A) (read : List ℕ → Option (A × List ℕ)) → Takes read
    → (before after : List B) (text rest : List ℕ) (x : B) → Some (f x, rest) ≡ read text
    → after ≡ before ++ x ∷ []
    → (with_each read (map f after) rest ≡ with_each read (map f before) text)
    × (length rest < length text)
found-next f read takes before after text rest x e g = (
  each-next read takes (map f before) (map f after) text rest (f x) e
      (ap (map f) g ∙ map-append f before (x ∷ [])),
  took read takes text rest (f x) (sym e),
)

-- Ends of a text, and texts that are in what reading consumes.
-- Serves `next` of both tokenizers (slices in order), `StyleSheet::parse_more`, `laws::cutting_law`
-- and `laws::edition_law`.
use Rattle.std.proofs.Common.{◌≡◌, ℕ, zero, suc, ◌≤◌, List, [], ◌∷◌, ◌++◌, Bool, true, false, if◌then◌else◌, length, take, drop, ◌-◌, ◌==◌, Option, Some, None, arith, refl, ap, ◌∙◌, subst, append_assoc, append-nil, length-append}
use Rattle.std.proofs.Math.Seq.{take-append_seam}
use Rattle.std.proofs.lemmas.List.{take-append-drop}
use Rattle.css_text.specs.Reading.{Fault, Reading, got, fails, Reader, follow, left_after, and_then, up_to, each, before, Ends}
use Rattle.css_text.specs.Bytes.{past_one, past_byte, past}
use Rattle.std.specs.List.{prefix_len}
use Rattle.css_text.specs.Slices.{OccurBetween}

-- what is before a rest is the front that was put there
pub before-append : (front rest : List ℕ) → before (front ++ rest) rest ≡ front
before-append front rest =
    let n : length (front ++ rest) - length rest ≡ length front =
    omega (arith, length-append front rest) in
    ap (λ n. take n (front ++ rest)) n ∙ take-append_seam front rest

-- a text is an end of itself after any front
pub ends-append : (front rest : List ℕ) → Ends (front ++ rest) rest
ends-append front rest = ap (λ f. f ++ rest) (before-append front rest)

pub ends-by : (text front rest : List ℕ) → front ++ rest ≡ text → Ends text rest
ends-by text front rest e = subst (λ (t : List ℕ). Ends t rest) e (ends-append front rest)

pub ends-same : (text : List ℕ) → Ends text text
ends-same text = ends-append [] text

pub ends-nil : (text : List ℕ) → Ends text []
ends-nil text = ends-by text text [] (append-nil text)

pub ends-drop : (n : ℕ) (text : List ℕ) → Ends text (drop n text)
ends-drop n text = ends-by text (take n text) (drop n text) (take-append-drop n text)

-- an end of an end is an end
pub ends-ends : (text middle rest : List ℕ) → Ends text middle → Ends middle rest → Ends text rest
ends-ends text middle rest e f =
    ends-by text (before text middle ++ before middle rest) rest
    (append_assoc (before text middle) (before middle rest) rest
    ∙ ap (λ t. before text middle ++ t) f ∙ e)

-- one byte more in front
pub ends-cons : (b : ℕ) (text rest : List ℕ) → Ends text rest → Ends (b ∷ text) rest
ends-cons b text rest e = ends-by (b ∷ text) (b ∷ before text rest) rest (ap (λ t. b ∷ t) e)

pub ends-tail : (b : ℕ) (text : List ℕ) → Ends (b ∷ text) text
ends-tail b text = ends-append (b ∷ []) text

-- an end is no longer than the text
pub length-ends : (text rest : List ℕ) → Ends text rest → length rest ≤ length text
length-ends text rest e = omega (arith, ap length e, length-append (before text rest) rest)

pub ends-past_one : (text : List ℕ) → Ends text (past_one text)
ends-past_one [] = ends-same []
ends-past_one (b ∷ text) = ends-tail b text

pub ends-past_byte : (c : ℕ) (text : List ℕ) → Ends text (past_byte c text)
ends-past_byte c [] = ends-same []
ends-past_byte c (b ∷ text) = by (b == c)
  where
    by : (t : Bool) → Ends (b ∷ text) (if t then text else b ∷ text)
    by true = ends-tail b text
    by false = ends-same (b ∷ text)

pub ends-past : (test : ℕ → Bool) (text : List ℕ) → Ends text (past test text)
ends-past test text = ends-drop (prefix_len test text) text

-- what is left, if anything is reported to be, is an end of the text
abbrev pub EndsSome : List ℕ → Option (List ℕ) → Type 0
EndsSome text None = Unit {0}
EndsSome text (Some rest) = Ends text rest

pub ends_some-if : (text : List ℕ) (t : Bool) (x y : Option (List ℕ)) → EndsSome text x
    → EndsSome text y → EndsSome text (if t then x else y)
ends_some-if text true x y a b = a
ends_some-if text false x y a b = b

-- more text in front
pub ends_some-ends : (text middle : List ℕ) (o : Option (List ℕ)) → Ends text middle
    → EndsSome middle o → EndsSome text o
ends_some-ends text middle None e h = tt
ends_some-ends text middle (Some rest) e h = ends-ends text middle rest e h

-- what is left after something that was taken off the text is an end of it
abbrev pub EndsFound : {A : Type 0} → List ℕ → Option (A × List ℕ) → Type 0
EndsFound text None = Unit {0}
EndsFound text (Some x) = Ends text x.1

up_to-ends : {A : Type 0} (read : List ℕ → Option (A × List ℕ))
    → ((text : List ℕ) → EndsFound text (read text)) → (n : ℕ) (text : List ℕ)
    → Ends text (up_to n read text).1
up_to-ends read ends zero text = ends-same text
up_to-ends {A = A} read ends (suc n) text =
    by (λ t. up_to-ends read ends n t) (read text) (ends text)
  where
    by : ((t : List ℕ) → Ends t (up_to n read t).1) → (o : Option (A × List ℕ)) → EndsFound text o
        → Ends text (and_then text o (up_to n read)).1
    by more None h = ends-same text
    by more (Some x) h = ends-ends text x.1 (up_to n read x.1).1 h (more x.1)

-- what `each` leaves is an end of the text
pub each-ends : {A : Type 0} (read : List ℕ → Option (A × List ℕ))
    → ((text : List ℕ) → EndsFound text (read text)) → (text : List ℕ)
    → Ends text (each read text).1
unfolding each
each-ends read ends text = up_to-ends read ends (length text) text

-- texts between two rests are between an earlier and a later one too
pub occur-from : (from middle to : List ℕ) (texts : List (List ℕ)) → Ends from middle
    → OccurBetween middle to texts → OccurBetween from to texts
occur-from from middle to [] e h = ends-ends from middle to e h
occur-from from middle to (s ∷ ss) e (start, end, a, b, c, d) =
    (start, end, ends-ends from middle start e a, b, c, d)

pub occur-to : (from middle to : List ℕ) (texts : List (List ℕ)) → OccurBetween from middle texts
    → Ends middle to → OccurBetween from to texts
occur-to from middle to [] h e = ends-ends from middle to h e
occur-to from middle to (s ∷ ss) (start, end, a, b, c, d) e =
    (start, end, a, b, c, occur-to end middle to ss d e)

-- texts, and then others
pub occur-append : (from middle to : List ℕ) (ss ts : List (List ℕ)) → OccurBetween from middle ss
    → OccurBetween middle to ts → OccurBetween from to (ss ++ ts)
occur-append from middle to [] ts h k = occur-from from middle to ts h k
occur-append from middle to (s ∷ ss) ts (start, end, a, b, c, d) k =
    (start, end, a, b, c, occur-append end middle to ss ts d k)

-- where texts are between two rests, the later one is an end of the earlier one
pub occur-ends : (from to : List ℕ) (texts : List (List ℕ)) → OccurBetween from to texts
    → Ends from to
occur-ends from to [] h = h
occur-ends from to (s ∷ ss) (start, end, a, b, c, d) =
    ends-ends from start to a (ends-ends start end to b (occur-ends end to ss d))

-- what is before a rest is between the text and that rest
pub occur-before : (text rest : List ℕ) → Ends text rest
    → OccurBetween text rest (before text rest ∷ [])
occur-before text rest e = (text, rest, ends-same text, e, refl, ends-same rest)

-- After a reading an end of the text is left, and the texts of the value that it yields are before
-- it.
abbrev pub OccursIn : {A : Type 0} → List ℕ → (A → List (List ℕ)) → Reading A → Type 0
OccursIn text texts (got x rest) = OccurBetween text rest (texts x)
OccursIn text texts (fails fault rest) = Ends text rest

pub record Occurs {A : Type 0} (text : List ℕ) (texts : A → List (List ℕ)) (r : Reading A) : Type 0
  where
    pub at : OccursIn text texts r

-- a value without texts
abbrev pub no_texts : {A : Type 0} → A → List (List ℕ)
no_texts x = []

-- a value that is a text
abbrev pub itself : List ℕ → List (List ℕ)
itself s = s ∷ []

pub occurs-ends : {A : Type 0} (text : List ℕ) (texts : A → List (List ℕ)) (r : Reading A)
    → Occurs text texts r → Ends text (left_after r)
occurs-ends text texts (got x rest) h = occur-ends text rest (texts x) h.at
occurs-ends text texts (fails fault rest) h = h.at

-- a reading whose texts are not seen, by what it leaves
pub occurs-none : {A : Type 0} (text : List ℕ) (r : Reading A) → Ends text (left_after r)
    → Occurs text no_texts r
occurs-none text (got x rest) h = record { at = h }
occurs-none text (fails fault rest) h = record { at = h }

-- the texts need not be seen
pub occurs-unseen : {A : Type 0} (text : List ℕ) (texts : A → List (List ℕ)) (r : Reading A)
    → Occurs text texts r → Occurs text no_texts r
occurs-unseen text texts (got x rest) h = record { at = occur-ends text rest (texts x) h.at }
occurs-unseen text texts (fails fault rest) h = record { at = h.at }

pub occurs-got : {A : Type 0} (text : List ℕ) (texts : A → List (List ℕ)) (r : Reading A) (x : A)
    (rest : List ℕ) → Occurs text texts r → r ≡ got x rest → OccurBetween text rest (texts x)
occurs-got text texts r x rest h e = subst (OccursIn text texts) e h.at

pub ends-got : {A : Type 0} (text : List ℕ) (texts : A → List (List ℕ)) (r : Reading A) (x : A)
    (rest : List ℕ) → Occurs text texts r → r ≡ got x rest → Ends text rest
ends-got text texts r x rest h e =
    occur-ends text rest (texts x) (occurs-got _ _ _ _ _ h e)

pub ends-fails : {A : Type 0} (text : List ℕ) (texts : A → List (List ℕ)) (r : Reading A)
    (fault : Fault) (rest : List ℕ) → Occurs text texts r → r ≡ fails fault rest → Ends text rest
ends-fails text texts r fault rest h e = subst (OccursIn text texts) e h.at

-- more text in front
pub occurs-from : {A : Type 0} (text middle : List ℕ) (texts : A → List (List ℕ)) (r : Reading A)
    → Ends text middle → Occurs middle texts r → Occurs text texts r
occurs-from text middle texts (got x rest) e h =
    record { at = occur-from text middle rest (texts x) e h.at }
occurs-from text middle texts (fails fault rest) e h =
    record { at = ends-ends text middle rest e h.at }

pub occurs-if : {A : Type 0} {text : List ℕ} {texts : A → List (List ℕ)} (t : Bool)
    {x y : Reading A} → Occurs text texts x → Occurs text texts y
    → Occurs text texts (if t then x else y)
occurs-if true a b = a
occurs-if false a b = b

-- one thing after another, where texts were consumed before the first
pub occurs-then : {A B : Type 0} (from text : List ℕ) (front : List (List ℕ))
    (seen : A → List (List ℕ)) (texts : B → List (List ℕ)) (r : Reading A) (next : A → Reader B)
    → OccurBetween from text front → Occurs text seen r
    → ((x : A) (rest : List ℕ) → r ≡ got x rest → OccurBetween from rest (front ++ seen x)
    → Occurs from texts (next x rest)) → Occurs from texts (follow r next)
occurs-then from text front seen texts (got x rest) next f h more =
    more x rest refl (occur-append from text rest front (seen x) f h.at)
occurs-then from text front seen texts (fails fault rest) next f h more =
    record { at = ends-ends from text rest (occur-ends from text front f) h.at }

pub occurs-follow : {A B : Type 0} (text : List ℕ) (seen : A → List (List ℕ))
    (texts : B → List (List ℕ)) (r : Reading A) (next : A → Reader B) → Occurs text seen r
    → ((x : A) (rest : List ℕ) → r ≡ got x rest → OccurBetween text rest (seen x)
    → Occurs text texts (next x rest)) → Occurs text texts (follow r next)
occurs-follow text seen texts r next h more =
    occurs-then text text [] seen texts r next (ends-same text) h more

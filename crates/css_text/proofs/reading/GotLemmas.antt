-- What holds of what was read, reader by reader.
-- Serves `Selector::{parse, parse_front}` and `StyleSheet::parse` (a selector printed and read
-- again).
use Rattle.std.proofs.Common.{◌&&◌, ◌<◌, ◌≡◌, ℕ, zero, suc, List, [], ◌∷◌, ◌++◌, Bool, true, false, if◌then◌else◌, ◌==◌, length, Option, Some, None, refl, ap, subst, IsUtf8, eqb-true}
use Rattle.std.proofs.lemmas.Bool.{and_parts}
use Rattle.std.specs.List.{AllByRecursion}
use Rattle.css_text.specs.AsciiBytes.{asterisk, slash}
use Rattle.css_text.specs.Reading.{Reading, got, fails, Reader, follow, and_then, up_to, each, Ends}
use Rattle.css_text.specs.Bytes.{byte, past_one, starts, starts_two, after_byte}
use Rattle.css_text.specs.Comments.{after_close, opens_comment}
use Rattle.css_text.proofs.bytes.Utf8Lemmas.{utf8-after}

-- where a value was read, this holds of it and of what is left
abbrev pub IfGot : {A : Type 0} → (A → List ℕ → Type 0) → Reading A → Type 0
IfGot P (got x rest) = P x rest
IfGot P (fails fault rest) = Unit {0}

-- by the value and what is left, where there is one
pub if_got : {A : Type 0} (P : A → List ℕ → Type 0) (r : Reading A)
    → ((x : A) (rest : List ℕ) → r ≡ got x rest → P x rest) → IfGot P r
if_got P (got x rest) h = h x rest refl
if_got P (fails fault rest) h = tt

-- where a value was read
pub got-holds : {A : Type 0} (P : A → List ℕ → Type 0) (r : Reading A) (x : A) (rest : List ℕ)
    → IfGot P r → r ≡ got x rest → P x rest
got-holds {A = A} P r x rest h e = let Q : Reading A → Type 0 = IfGot P in subst Q e h

-- one thing after another
pub if_got-follow : {A B : Type 0} (P : A → List ℕ → Type 0) (Q : B → List ℕ → Type 0)
    (r : Reading A) (next : A → Reader B) → IfGot P r
    → ((x : A) (rest : List ℕ) → P x rest → IfGot Q (next x rest)) → IfGot Q (follow r next)
if_got-follow P Q (got x rest) next h n = n x rest h
if_got-follow P Q (fails fault rest) next h n = tt

-- on both sides of a test
pub if_got-if : {A : Type 0} (P : A → List ℕ → Type 0) (t : Bool) (x y : Reading A)
    → (t ≡ true → IfGot P x) → (t ≡ false → IfGot P y) → IfGot P (if t then x else y)
if_got-if P true x y a b = a refl
if_got-if P false x y a b = b refl

-- something that follows
pub if_got-weaker : {A : Type 0} (P Q : A → List ℕ → Type 0) (r : Reading A)
    → ((x : A) (rest : List ℕ) → P x rest → Q x rest) → IfGot P r → IfGot Q r
if_got-weaker P Q (got x rest) n h = n x rest h
if_got-weaker P Q (fails fault rest) n h = tt

-- the byte that must be there is there
pub byte-is : (c : ℕ) (text : List ℕ) → IfGot (λ u rest. text ≡ c ∷ rest) (byte c text)
byte-is c [] = tt
byte-is c (b ∷ text) =
    if_got-if (λ u rest. b ∷ text ≡ c ∷ rest) (b == c) _ _
    (λ e. ap (λ k. k ∷ text) (eqb-true b c e))
    (λ e. tt)

-- where something is left, it follows this byte of the text
abbrev pub IfAfter : ℕ → List ℕ → Option (List ℕ) → Type 0
IfAfter c text None = Unit {0}
IfAfter c text (Some rest) = (front : List ℕ) × (text ≡ front ++ (c ∷ rest))

-- one byte more in front
follows-later : (c b : ℕ) (text : List ℕ) (o : Option (List ℕ)) → IfAfter c text o
    → IfAfter c (b ∷ text) o
follows-later c b text None h = tt
follows-later c b text (Some rest) h = (b ∷ h.0, ap (λ l. b ∷ l) h.1)

-- what is left after the byte follows it
pub after_byte-after : (c : ℕ) (text : List ℕ) → IfAfter c text (after_byte c text)
after_byte-after c [] = tt
after_byte-after c (b ∷ text) = by (b == c) refl (after_byte-after c text)
  where
    by : (t : Bool) → (b == c) ≡ t → IfAfter c text (after_byte c text)
        → IfAfter c (b ∷ text) (if t then Some text else after_byte c text)
    by true e more = ([], ap (λ k. k ∷ text) (eqb-true b c e))
    by false e more = follows-later c b text (after_byte c text) more

-- a byte that begins a text
pub starts-cons : (c : ℕ) (text : List ℕ) → starts c text ≡ true → text ≡ c ∷ past_one text
starts-cons c [] e = absurd (cc)
starts-cons c (b ∷ text) e = ap (λ k. k ∷ text) (eqb-true b c e)

-- the two bytes that open a comment
pub opens_comment-two : (b : ℕ) (text : List ℕ) → opens_comment (b ∷ text) ≡ true
    → (b ≡ slash) × (text ≡ asterisk ∷ past_one text)
opens_comment-two b text e = by (b == slash) refl e
  where
    by : (t : Bool) → (b == slash) ≡ t → (t && starts asterisk text) ≡ true
        → (b ≡ slash) × (text ≡ asterisk ∷ past_one text)
    by true h k = (eqb-true b slash h, starts-cons asterisk text k)
    by false h k = absurd (cc)

-- after a byte that is there, in a text
pub utf8-past_one : (whole text : List ℕ) (c : ℕ) → c < 128 → IsUtf8 whole → Ends whole text
    → starts c text ≡ true → IsUtf8 (past_one text)
utf8-past_one whole text c low u e s =
    utf8-after whole (past_one text) c low u
    (subst (λ (t : List ℕ). Ends whole t) (starts-cons c text s) e)

-- what is left after `*/` follows its `/`
pub after_close-after : (text : List ℕ) → IfAfter slash text (after_close text)
after_close-after [] = tt
after_close-after (b ∷ text) =
    by (starts_two asterisk slash (b ∷ text)) refl (after_close-after text)
  where
    by : (t : Bool) → starts_two asterisk slash (b ∷ text) ≡ t
        → IfAfter slash text (after_close text)
        → IfAfter slash (b ∷ text) (if t then Some (past_one text) else after_close text)
    by true e more = (
      b ∷ [],
      ap (λ l. b ∷ l) (starts-cons slash text (and_parts (b == asterisk) (starts slash text) e).1),
    )
    by false e more = follows-later slash b text (after_close text) more

-- where something was taken off a text, this holds of it, and that of what is left
abbrev pub IfTaken : {A : Type 0} → (A → Type 0) → (List ℕ → Type 0) → Option (A × List ℕ) → Type 0
IfTaken P Q None = Unit {0}
IfTaken P Q (Some x) = P x.0 × Q x.1

up_to-all : {A : Type 0} (P : A → Type 0) (Q : List ℕ → Type 0)
    (read : List ℕ → Option (A × List ℕ)) → ((text : List ℕ) → Q text → IfTaken P Q (read text))
    → (n : ℕ) (text : List ℕ) → Q text
    → AllByRecursion P (up_to n read text).0 × Q (up_to n read text).1
up_to-all P Q read keeps zero text h = (tt, h)
up_to-all {A = A} P Q read keeps (suc n) text h =
    by (λ t k. up_to-all P Q read keeps n t k) (read text) (keeps text h)
  where
    by : ((t : List ℕ) → Q t → AllByRecursion P (up_to n read t).0 × Q (up_to n read t).1)
        → (o : Option (A × List ℕ)) → IfTaken P Q o
        → AllByRecursion P (and_then text o (up_to n read)).0 × Q (and_then text o (up_to n read)).1
    by more None k = (tt, h)
    by more (Some x) k = let rest = more x.1 k.1 in ((k.0, rest.0), rest.1)

-- of all that was taken one after another, and of what is left at last
pub each-all : {A : Type 0} (P : A → Type 0) (Q : List ℕ → Type 0)
    (read : List ℕ → Option (A × List ℕ)) → ((text : List ℕ) → Q text → IfTaken P Q (read text))
    → (text : List ℕ) → Q text → AllByRecursion P (each read text).0 × Q (each read text).1
unfolding each
each-all P Q read keeps text h = up_to-all P Q read keeps (length text) text h

-- where what is taken does not matter
abbrev pub Anything : {A : Type 0} → A → Type 0
Anything x = Unit {0}

-- the byte that a test has found
pub same_begins : (b c : ℕ) (text : List ℕ) → (b == c) ≡ true → IsUtf8 (b ∷ text)
    → IsUtf8 (c ∷ text)
same_begins b c text e u = subst IsUtf8 (ap (λ k. k ∷ text) (eqb-true b c e)) u

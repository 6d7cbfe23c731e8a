-- What parts leave of a text, and where their own text ends, as slices of the text.
-- Serves `parts::read_parts` and `texts`.
use Rattle.std.proofs.Common.{slice_range, ◌≡◌, ℕ, zero, suc, ◌<◌, ◌≤◌, Bool, true, false, List, [], ◌∷◌, length, drop, Option, Some, None, arith, refl, sym, ap, ◌∙◌, subst, if◌then◌else◌, IsUtf8, map, ◌-◌, take, length-take-le, ltb-true, lt-ltb, eqb-true}
use Rattle.std.specs.Str.{IsCharBoundary}
use Rattle.std.proofs.Math.Seq.{take-append_seam, drop-append_seam}
use Rattle.std.proofs.lemmas.Str.{IsCharBoundary-at_seam, IsCharBoundary-after_ascii}
use Rattle.css_text.specs.Reading.{each, before, Ends, and_then, up_to, last_or}
use Rattle.css_text.specs.Bytes.{past_byte, past_one, starts, starts_by, is_ascii}
use Rattle.css_text.proofs.reading.EndsLemmas.{length-ends}
use Rattle.css_text.proofs.reading.WellLemmas.{EndsWell, WellFound, each-well, well-same, well-then}
use Rattle.css_syntax.specs.declared.quality.Quality.{Quality}
use Rattle.css_syntax.specs.declared.parts.Stops.{Stops}
use Rattle.css_syntax.specs.Tokens.{past_gap, past_word}
use Rattle.css_syntax.specs.ComponentValues.{deepest, component_value}
use Rattle.css_syntax.specs.Parts.{Stated, ends_at, with_gap, part, parts}
use Rattle.css_syntax.proofs.Utf8Ends.{gap-well, word-well, value-leaves_text}

-- what is left after parts
part_found-well : (stops : Stops) (text : List ℕ) → WellFound text (part stops text)
part_found-well stops text = by (ends_at stops text)
  where
    by : (t : Bool) → WellFound text
        (if t then None else Some (with_gap (component_value deepest text)))
    by true = tt
    by false =
        let rest = (component_value deepest text).1 in
        well-then text rest (past_gap rest) (value-leaves_text deepest text) (gap-well rest)

pub parts-well : (stops : Stops) (text : List ℕ) → EndsWell text (parts stops text).1
unfolding parts
parts-well stops text = each-well (part stops) (part_found-well stops) text

pub parts-ends : (stops : Stops) (text : List ℕ) → Ends text (parts stops text).1
parts-ends stops text = (parts-well stops text).0

-- ---- the end of their own text

PartWell : List ℕ → Option ((Quality × List ℕ) × List ℕ) → Type 0
PartWell text None = Unit {0}
PartWell text (Some x) = EndsWell text x.0.1 × EndsWell text x.1

part-well : (stops : Stops) (text : List ℕ) → PartWell text (part stops text)
unfolding PartWell
part-well stops text = by (ends_at stops text)
  where
    by : (t : Bool) → PartWell text
        (if t then None else Some (with_gap (component_value deepest text)))
    by true = tt
    by false =
        let rest = (component_value deepest text).1 in
        let first = value-leaves_text deepest text in
        (first, well-then text rest (past_gap rest) first (gap-well rest))

last-well : (stops : Stops) (all : List ℕ) (n : ℕ) (text end : List ℕ) → EndsWell all text
    → EndsWell all end
    → EndsWell all (last_or end (map (λ one. one.1) (up_to n (part stops) text).0))
unfolding PartWell
last-well stops all zero text end h k = k
last-well stops all (suc n) text end h k =
    by (λ t e g l. last-well stops all n t e g l) (part stops text) (part-well stops text)
  where
    by : ((t e : List ℕ) → EndsWell all t → EndsWell all e
        → EndsWell all (last_or e (map (λ one. one.1) (up_to n (part stops) t).0)))
        → (o : Option ((Quality × List ℕ) × List ℕ)) → PartWell text o
        → EndsWell all (last_or end (map (λ one. one.1) (and_then text o (up_to n (part stops))).0))
    by more None p = k
    by more (Some x) p =
        more x.1 x.0.1 (well-then all text x.1 h p.1) (well-then all text x.0.1 h p.0)

-- where the text of parts ends
pub end-well : (stops : Stops) (text : List ℕ)
    → EndsWell text (last_or text (map (λ one. one.1) (each (part stops) text).0))
unfolding each
end-well stops text =
    last-well stops text (length text) text text (well-same text) (well-same text)

-- ---- slices of a text

pub boundary-after : (text rest : List ℕ) → IsUtf8 text → EndsWell text rest
    → IsCharBoundary text (length text - length rest)
boundary-after text rest u h =
    let n : length (before text rest) ≡ length text - length rest =
    length-take-le _ text (omega arith) in
    subst (λ (i : ℕ). IsCharBoundary text i) n
    (IsCharBoundary-at_seam text (before text rest) rest (sym h.0) (h.1 u))

-- before a rest that is a text
pub boundary-front : (text rest : List ℕ) → IsUtf8 rest → Ends text rest
    → IsCharBoundary text (length text - length rest)
boundary-front text rest u e =
    let n : length (before text rest) ≡ length text - length rest =
    length-take-le _ text (omega arith) in
    subst (λ (i : ℕ). IsCharBoundary text i) n
    (IsCharBoundary-at_seam text (before text rest) rest (sym e) u)

pub from-drop : (text rest : List ℕ) → Ends text rest → drop (length text - length rest) text ≡ rest
from-drop text rest e =
    let n : length (before text rest) ≡ length text - length rest =
    length-take-le _ text (omega arith) in
    ap (λ (k : ℕ). drop k text) (sym n) ∙ ap (drop (length (before text rest))) (sym e)
    ∙ drop-append_seam (before text rest) rest

-- parts as slices
pub text-boundary : (stops : Stops) (text v : List ℕ) → IsUtf8 text
    → (parts stops text).0.text ≡ v → IsCharBoundary text (length v)
unfolding parts
text-boundary stops text v u e =
    let end = last_or text (map (λ one. one.1) (each (part stops) text).0) in
    subst (λ (t : List ℕ). IsCharBoundary text (length t)) e
    (IsCharBoundary-at_seam text (before text end) end (sym (end-well stops text).0)
    ((end-well stops text).1 u))

text-front : (stops : Stops) (text v : List ℕ) → (parts stops text).0.text ≡ v
    → take (length v) text ≡ v
unfolding parts
text-front stops text v e =
    let end = last_or text (map (λ one. one.1) (each (part stops) text).0) in
    subst (λ (t : List ℕ). take (length t) text ≡ t) e
    (ap (take (length (before text end))) (sym (end-well stops text).0)
    ∙ take-append_seam (before text end) end)

pub rest-boundary : (stops : Stops) (text r : List ℕ) → IsUtf8 text → (parts stops text).1 ≡ r
    → IsCharBoundary text (length text - length r)
rest-boundary stops text r u e =
    boundary-after text r u (subst (EndsWell text) e (parts-well stops text))

rest-drop : (stops : Stops) (text r : List ℕ) → (parts stops text).1 ≡ r
    → drop (length text - length r) text ≡ r
rest-drop stops text r e = from-drop text r (subst (EndsWell text) e (parts-well stops text)).0

pub rest-within : (stops : Stops) (text r : List ℕ) → (parts stops text).1 ≡ r
    → length r ≤ length text
rest-within stops text r e =
    length-ends text r (subst (EndsWell text) e (parts-well stops text)).0

-- parts and the rest
abbrev pub stated : List ℕ → Quality → List ℕ → Stated × List ℕ
stated text quality rest = (record { text = text; quality = quality }, rest)

-- what was read of the bytes of a text
pub read-parts : (stops : Stops) (bytes text v rest : List ℕ) (quality : Quality) → bytes ≡ text
    → parts stops bytes ≡ stated v quality rest
    → ((parts stops text).0.text ≡ v) × ((parts stops text).1 ≡ rest)
read-parts stops bytes text v rest quality e h =
    let read : parts stops text ≡ stated v quality rest = ap (parts stops) (sym e) ∙ h in
    (ap (λ (r : Stated × List ℕ). r.0.text) read, ap (λ (r : Stated × List ℕ). r.1) read)

pub read-slices : (stops : Stops) (bytes text v rest front back : List ℕ) (quality : Quality)
    → bytes ≡ text → parts stops bytes ≡ stated v quality rest
    → front ≡ slice_range text 0 (length v) → back ≡ drop (length text - length rest) text
    → parts stops text ≡ stated front quality back
read-slices stops bytes text v rest front back quality e h f b =
    let parted = read-parts stops bytes text v rest quality e h in
    let same : front ≡ v =
    f ∙ ap (λ (n : ℕ). take n text) (omega arith) ∙ text-front stops text v parted.0 in
    let left : back ≡ rest = b ∙ rest-drop stops text rest parted.1 in
    ap (parts stops) (sym e) ∙ h ∙ ap (λ (t : List ℕ). stated t quality rest) (sym same)
    ∙ ap (λ (t : List ℕ). stated front quality t) (sym left)

-- ---- what is left of a text after a reader of its bytes

-- what a reader leaves is an end of the text, and a text
abbrev pub LeavesEnd : (List ℕ → List ℕ) → Type 0
LeavesEnd read = (text : List ℕ) → EndsWell text (read text)

left-well : (read : List ℕ → List ℕ) → LeavesEnd read → (bytes text rest : List ℕ)
    → bytes ≡ text → rest ≡ read bytes → EndsWell text rest
left-well read well bytes text rest e h =
    subst (EndsWell text) (ap read (sym e) ∙ sym h) (well text)

pub left-within : (read : List ℕ → List ℕ) → LeavesEnd read → (bytes text rest : List ℕ)
    → bytes ≡ text → rest ≡ read bytes → length rest ≤ length text
left-within read well bytes text rest e h =
    length-ends text rest (left-well read well bytes text rest e h).0

pub left-boundary : (read : List ℕ → List ℕ) → LeavesEnd read → (bytes text rest : List ℕ)
    → IsUtf8 text → bytes ≡ text → rest ≡ read bytes
    → IsCharBoundary text (length text - length rest)
left-boundary read well bytes text rest u e h =
    boundary-after text rest u (left-well read well bytes text rest e h)

pub left-slice : (read : List ℕ → List ℕ) → LeavesEnd read → (bytes text rest back : List ℕ)
    → bytes ≡ text → rest ≡ read bytes → back ≡ drop (length text - length rest) text
    → back ≡ read text
left-slice read well bytes text rest back e h b =
    b ∙ from-drop text rest (left-well read well bytes text rest e h).0 ∙ h ∙ ap read e

-- after a first byte that is ASCII
pub boundary-one : (text : List ℕ) → IsUtf8 text → starts_by is_ascii text ≡ true
    → IsCharBoundary text 1
boundary-one [] u e = absurd (cc)
boundary-one (b ∷ text) u e =
    IsCharBoundary-after_ascii (b ∷ text) 0 u (omega arith) (ltb-true b 128 e)

-- a text that begins with a byte, and one that does not
pub starts_past : (byte : ℕ) (text : List ℕ) → starts byte text ≡ true
    → past_one text ≡ past_byte byte text
starts_past byte [] e = refl
starts_past byte (b ∷ text) e = rw e refl

pub starts_not : (byte : ℕ) (text : List ℕ) → starts byte text ≡ false
    → text ≡ past_byte byte text
starts_not byte [] e = refl
starts_not byte (b ∷ text) e = rw e refl

pub starts_ascii : (byte : ℕ) (text : List ℕ) → byte < 128 → starts byte text ≡ true
    → starts_by is_ascii text ≡ true
starts_ascii byte [] h e = e
starts_ascii byte (b ∷ text) h e = lt-ltb b 128 (omega (arith, eqb-true b byte e))

pub word_ends : (text : List ℕ) → Ends text (past_word text)
word_ends text = (word-well text).0

-- the same for a reader that also returns a quality
abbrev pub rest_by : (List ℕ → Quality × List ℕ) → List ℕ → List ℕ
rest_by read text = (read text).1

pub pair-slice : (read : List ℕ → Quality × List ℕ) → LeavesEnd (rest_by read)
    → (bytes text rest back : List ℕ) (quality : Quality) → bytes ≡ text
    → read bytes ≡ (quality, rest) → back ≡ drop (length text - length rest) text
    → read text ≡ (quality, back)
pair-slice read well bytes text rest back quality e h b =
    let left : rest ≡ rest_by read bytes = sym (ap (λ (r : Quality × List ℕ). r.1) h) in
    let same : rest ≡ back =
    left ∙ ap (rest_by read) e
    ∙ sym (left-slice (rest_by read) well bytes text rest back e left b) in
    ap read (sym e) ∙ h ∙ ap (λ (t : List ℕ). (quality, t)) same

-- Places of a text, and their positions.
-- Serves `place::position_from` and `Place::find`, and what callers count by places.
use Rattle.std.proofs.Common.{◌≡◌, ℕ, ◌+◌, ◌-◌, ◌≤◌, ◌<◌, List, map, get_or, take, drop, length, refl, sym, ap, ◌∙◌, subst, arith}
use Rattle.std.specs.Str.{IsCharBoundary, IsUtf8}
use Rattle.std.proofs.lemmas.List.{get_or-map, length-map}
use Rattle.std.proofs.lemmas.Str.{chars-nil, IsUtf8-take}
use Rattle.std.proofs.Math.Seq.{take-length}
use Rattle.css_text.specs.declared.text_pos.TextPos.{TextPos}
use Rattle.css_text.specs.Positions.{in_whole, position}
use Rattle.simplecss_grammar.specs.declared.report.Skipped.{Skipped}
use Rattle.simplecss_grammar.specs.SkipViews.{skip_of}
use Rattle.simplecss_grammar.specs.Skipped.{skipped}
use Rattle.simplecss_grammar.specs.SkipOffsets.{IsWithin}
use Rattle.css_text.specs.ThisEdition.{this_edition}
use Rattle.simplecss_grammar.proofs.bytes.PositionSums.{position-add}
use Rattle.simplecss_grammar.proofs.cutting.RestBoundaries.{boundary_at_start}
use Rattle.simplecss_grammar.proofs.cutting.SkipEnds.{AllWithin, skipped-within, within-at}
use Rattle.simplecss.specs.Places.{IsPlace}

-- the position of the start
position-start : (text : List ℕ)
    → ◌≡◌ {A = TextPos} (record { row = 1; col = 1 }) (position text 0)
unfolding position
position-start text = rw chars-nil refl

-- `Place::START` is a place of every text
pub place-start : (text : List ℕ) → IsUtf8 text
    → IsPlace text (record { offset = 0; pos = record { row = 1; col = 1 } })
place-start text utf8 = (boundary_at_start text utf8, position-start text)

-- the position of a text's end is that of the offset in a longer one
position-taken : (text : List ℕ) (n : ℕ)
    → position (take n text) (length (take n text)) ≡ position text n
unfolding position
position-taken text n = rw (take-length (take n text)) refl

-- a position that is counted on from an earlier one
pub offset-from : (text between : List ℕ) (start offset : ℕ) (pos : TextPos) → IsUtf8 text
    → IsCharBoundary text start → pos ≡ position text start → start ≤ offset
    → between ≡ take (offset - start) (drop start text)
    → in_whole pos (position between (length between)) ≡ position text offset
offset-from text between start offset pos utf8 boundary e later b =
    let at : start + (offset - start) ≡ offset = omega (arith, later) in
    ap (λ (p : TextPos). in_whole p (position between (length between))) e
    ∙ ap (λ (t : List ℕ). in_whole (position text start) (position t (length t))) b
    ∙ ap (in_whole (position text start)) (position-taken (drop start text) (offset - start))
    ∙ position-add text start (offset - start) (IsUtf8-take text start utf8 boundary)
    ∙ ap (position text) at

-- each part that reading skips is in the text
pub part-within : (text : List ℕ) (parts : List Skipped) (i : ℕ) (d : Skipped)
    → map skip_of parts ≡ skipped this_edition text → i < length parts
    → IsWithin text (skip_of (get_or parts i d))
part-within text parts i d e less =
    let within : i < length (map skip_of parts) = omega (arith, less, length-map parts skip_of) in
    subst (IsWithin text) (get_or-map skip_of parts i d (skip_of d) less)
    (within-at text (map skip_of parts) i (skip_of d)
    (subst (AllWithin text) (sym e) (skipped-within this_edition text)) within)

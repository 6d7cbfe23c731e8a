-- The offset of a cursor, by what is left to read.
-- Serves `next` of both tokenizers (the offset never falls).
use Rattle.std.proofs.Common.{◌≡◌, ◌≤◌, List, ℕ, length, arith, ap, length-drop}
use Rattle.css_text.specs.Reading.{Ends}
use Rattle.css_text.specs.Cursor.{text_of, offset_of, rest_of}
use Rattle.css_text.specs.declared.stream.Stream.{Stream}
use Rattle.css_text.proofs.reading.EndsLemmas.{length-ends}

-- where no more is left to read of the same text, the offset has not fallen
offset-forward : (old new : Stream) → text_of new ≡ text_of old
    → length (rest_of new) ≤ length (rest_of old) → offset_of old ≤ offset_of new
offset-forward old new same less =
    let within = old.boundary.0 in
    let long : length (text_of new) ≡ length (text_of old) = ap (λ (t : List ℕ). length t) same in
    omega (
      arith,
      within,
      long,
      length-drop (offset_of old) (text_of old),
      length-drop (offset_of new)
          (text_of new),
    )

pub offset-ends : (old new : Stream) → text_of new ≡ text_of old → Ends (rest_of old) (rest_of new)
    → offset_of old ≤ offset_of new
offset-ends old new same ends = offset-forward old new same
    (length-ends (rest_of old) (rest_of new) ends)

-- Strings that are cut from a buffer one after another.
-- Serves `cut_strings` (which strings there are, and whether they are all of the buffer).
use Rattle.std.proofs.Common.{◌≡◌, ℕ, Bool, true, false, List, [], ◌∷◌, ◌++◌, length, ap, ◌∙◌, sym, append_assoc, append-nil}
use Rattle.std.specs.Prelude.{if◌then◌else◌, ◌==◌}
use Rattle.std.specs.List.{slice_range}
use Rattle.std.specs.Str.{IsCharBoundary}
use Rattle.call_answers.specs.Elements.{Strings, may_end, with_string, strings_from, strings_in}

-- the strings that were cut, and then more
abbrev pub with_strings : List (List ℕ) → Strings → Strings
with_strings before more = record { strings = before ++ more.strings; are_all = more.are_all }

-- what was cut so far, up to an offset, and the ends that are left
pub record StringsSoFar (buffer ends : List ℕ) (start : ℕ) (rest : List ℕ)
    (strings : List (List ℕ)) : Type 0 where
  pub whole : strings_in buffer ends ≡ with_strings strings (strings_from buffer start rest)
  pub boundary : IsCharBoundary buffer start

-- what the first end makes of the strings
first_end : (buffer : List ℕ) (start end : ℕ) (ends : List ℕ) (b : Bool)
    → may_end buffer start end ≡ b
    → strings_from buffer start (end ∷ ends)
    ≡ (if b then with_string (slice_range buffer start end) (strings_from buffer end ends)
    else record { strings = []; are_all = false })
first_end buffer start end ends b is =
    ap (λ b. if b then with_string (slice_range buffer start end) (strings_from buffer end ends)
    else record { strings = []; are_all = false }) is

module _ {buffer ends : List ℕ} {start : ℕ} {rest : List ℕ} {strings : List (List ℕ)}
    (so_far : StringsSoFar buffer ends start rest strings) where
  from_here : (here : List ℕ) → rest ≡ here
      → strings_in buffer ends ≡ with_strings strings (strings_from buffer start here)
  from_here here next =
      so_far.whole ∙ ap (λ r. with_strings strings (strings_from buffer start r)) next

  -- one more string
  pub strings_more : (end : ℕ) (later : List ℕ) → rest ≡ end ∷ later
      → may_end buffer start end ≡ true → IsCharBoundary buffer end
      → (string : List ℕ) → string ≡ slice_range buffer start end → (all : List (List ℕ))
      → all ≡ strings ++ string ∷ []
      → StringsSoFar buffer ends end later all
  strings_more end later next may boundary string is all are = record {
    whole = from_here (end ∷ later) next
        ∙ ap (with_strings strings) (first_end buffer start end later true may)
        ∙ ap (λ s. with_strings strings (with_string s (strings_from buffer end later))) (sym is)
        ∙ ap (λ ss. record { strings = ss; are_all = (strings_from buffer end later).are_all })
        (sym (append_assoc strings (string ∷ []) (strings_from buffer end later).strings))
        ∙ ap (λ ss. with_strings ss (strings_from buffer end later)) (sym are);
    boundary = boundary;
  }

  -- no string has this end
  pub strings_stop : (end : ℕ) (later : List ℕ) → rest ≡ end ∷ later
      → may_end buffer start end ≡ false
      → strings_in buffer ends ≡ record { strings = strings; are_all = false }
  strings_stop end later next may =
      from_here (end ∷ later) next
      ∙ ap (with_strings strings) (first_end buffer start end later false may)
      ∙ ap (λ ss. record { strings = ss; are_all = false }) (append-nil strings)

  -- no end is left
  pub strings_all : rest ≡ []
      → strings_in buffer ends ≡ record { strings = strings; are_all = start == length buffer }
  strings_all none =
      from_here [] none
      ∙ ap (λ ss. record { strings = ss; are_all = start == length buffer }) (append-nil strings)

-- Texts that are cut from a buffer one after another.
-- Serves `texts_of` (which texts it has, and why it has none).
use Rattle.std.proofs.Common.{◌≡◌, ◌≢◌, ℕ, ◌≤◌, List, [], ◌∷◌, ◌++◌, length, Option, None, Some, refl, sym, ap, subst, ◌∙◌, append_assoc, arith, inl, inr}
use Rattle.std.proofs.lemmas.Grind.{common_steps}
use Rattle.std.proofs.lemmas.List.Elements.{All-append, All-cons, All-nil}
use Rattle.std.specs.Prelude.{Result, Ok, Err, MatchResult}
use Rattle.std.specs.Result.{IsErrAnd}
use Rattle.std.specs.Option.{option_map}
use Rattle.std.specs.List.{All, slice_range}
use Rattle.std.specs.Str.{IsUtf8}
use Rattle.call_answers.specs.declared.answer.CallError.{CallError}
use Rattle.call_answers.specs.declared.answer.CallError.TheVariants.{NotUtf8}
use Rattle.call_answers.specs.Texts.{texts_from, texts_in}
use Rattle.call_answers.specs.Calls.{HasBadEndsFrom, HasBadEnds, IsBrokenFrom, IsBrokenUtf8, FailsFor}

-- what was cut so far, up to an offset, and the ends that are left
pub record CutSoFar (buffer ends : List ℕ) (start : ℕ) (rest : List ℕ)
    (texts : List (List ℕ)) : Type 0 where
  pub whole : texts_in buffer ends
      ≡ option_map (λ more. texts ++ more) (texts_from buffer start rest)
  pub utf8 : All IsUtf8 texts
  -- a fault in what is left is the first of all
  pub breaks : IsBrokenFrom buffer start rest → IsBrokenUtf8 buffer ends
  pub bad : HasBadEndsFrom buffer start rest → HasBadEnds buffer ends

-- what follows the first text of a cut, where the cut can be made
cut_first : (buffer : List ℕ) (start end : ℕ) (ends : List ℕ) → start ≤ end → end ≤ length buffer
    → texts_from buffer start (end ∷ ends)
    ≡ option_map (λ texts. slice_range buffer start end ∷ texts) (texts_from buffer end ends)
cut_first buffer start end ends rising within = grind (arith, common_steps)

-- what was cut, one text more
moved : (texts : List (List ℕ)) (text : List ℕ) (o : Option (List (List ℕ)))
    → option_map (λ more. texts ++ more) (option_map (λ more. text ∷ more) o)
    ≡ option_map (λ more. (texts ++ text ∷ []) ++ more) o
moved texts text None = refl
moved texts text (Some more) = ap Some (sym (append_assoc texts (text ∷ []) more))

whole_more : {buffer ends : List ℕ} {start : ℕ} {rest : List ℕ} {texts : List (List ℕ)}
    → CutSoFar buffer ends start rest texts
    → (end : ℕ) (later : List ℕ) → rest ≡ end ∷ later → start ≤ end → end ≤ length buffer
    → texts_in buffer ends ≡ option_map
    (λ more. (texts ++ slice_range buffer start end ∷ []) ++ more) (texts_from buffer end later)
whole_more {buffer} {ends} {start} {rest} {texts} so_far end later next rising within =
    so_far.whole ∙ ap (λ r. option_map (λ more. texts ++ more) (texts_from buffer start r)) next
    ∙ ap (option_map (λ more. texts ++ more)) (cut_first buffer start end later rising within)
    ∙ moved texts (slice_range buffer start end) (texts_from buffer end later)

-- one more text
pub cut_more : {buffer ends : List ℕ} {start : ℕ} {rest : List ℕ} {texts : List (List ℕ)}
    → CutSoFar buffer ends start rest texts
    → (end : ℕ) (later : List ℕ) → rest ≡ end ∷ later → start ≤ end → end ≤ length buffer
    → (text : List ℕ) → text ≡ slice_range buffer start end → IsUtf8 text
    → (all : List (List ℕ)) → all ≡ texts ++ text ∷ [] → CutSoFar buffer ends end later all
cut_more {buffer} {ends} {start} {rest}
    {texts} so_far end later next rising within text is utf8 all are = record {
      whole = whole_more so_far end later next rising within
          ∙ ap (λ ts. option_map (λ more. ts ++ more) (texts_from buffer end later))
          (ap (λ t. texts ++ t ∷ []) (sym is) ∙ sym are);
      utf8 = subst (All IsUtf8) (sym are) (All-append IsUtf8 texts (text ∷ []) so_far.utf8
          (All-cons IsUtf8 text [] utf8 (All-nil IsUtf8)));
      breaks = λ later_breaks. so_far.breaks (subst (IsBrokenFrom buffer start) (sym next)
          (rising, within, inr (subst IsUtf8 is utf8, later_breaks)));
      bad = λ later_bad. so_far.bad (subst (HasBadEndsFrom buffer start) (sym next)
          (inr (subst IsUtf8 is utf8, later_bad)));
    }

-- the text there is not UTF-8
pub cut_broken : {buffer ends : List ℕ} {start : ℕ} {rest : List ℕ} {texts : List (List ℕ)}
    → CutSoFar buffer ends start rest texts
    → (end : ℕ) (later : List ℕ) → rest ≡ end ∷ later → start ≤ end → end ≤ length buffer
    → (text : List ℕ) → text ≡ slice_range buffer start end → ¬ (IsUtf8 text)
    → IsBrokenUtf8 buffer ends
cut_broken {buffer} {ends} {start} {rest}
    {texts} so_far end later next rising within text is broken =
    so_far.breaks (subst (IsBrokenFrom buffer start) (sym next)
    (rising, within, inl (λ utf8. broken (subst IsUtf8 (sym is) utf8))))

-- no text is there
pub cut_bad : {buffer ends : List ℕ} {start : ℕ} {rest : List ℕ} {texts : List (List ℕ)}
    → CutSoFar buffer ends start rest texts
    → (end : ℕ) (later : List ℕ) → rest ≡ end ∷ later
    → ¬ ((start ≤ end) × (end ≤ length buffer)) → HasBadEnds buffer ends
cut_bad {buffer} {ends} {start} {rest} {texts} so_far end later next none =
    so_far.bad (subst (HasBadEndsFrom buffer start) (sym next) (inl none))

-- the buffer does not end with the last text
pub cut_left : {buffer ends : List ℕ} {start : ℕ} {rest : List ℕ} {texts : List (List ℕ)}
    → CutSoFar buffer ends start rest texts → rest ≡ [] → start ≢ length buffer
    → HasBadEnds buffer ends
cut_left {buffer} {ends} {start} {rest} {texts} so_far none other =
    so_far.bad (subst (HasBadEndsFrom buffer start) (sym none) other)

-- a failure that is handed on is due for its own reason
pub broken_due : {V : Type 0} (P : V → Type 0) (r : Result V CallError) (failure : CallError)
    (IsRefused IsBroken : Type 0) → IsErrAnd r (λ reported. reported ≡ failure) → failure ≡ NotUtf8
    → IsBroken
    → MatchResult r P (FailsFor IsRefused (λ fault. ⊥) IsBroken)
broken_due P (Ok x) failure IsRefused IsBroken is same broken = absurd is
broken_due P (Err reported) failure IsRefused IsBroken is same broken =
    subst (FailsFor IsRefused (λ fault. ⊥) IsBroken) (sym (is ∙ same)) broken

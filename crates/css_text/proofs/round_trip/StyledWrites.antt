-- Writes that follow one another, whatever the formatter's options.
-- Serves Display of `Error`, `TextPos`, selectors, declarations, rules and sheets (byte for byte,
-- under every formatter).
use Rattle.std.proofs.Common.{◌≡◌, ℕ, ◌+◌, ◌<◌, List, [], ◌∷◌, ◌++◌, length, get_or, take, subst, sym, ap, ◌∙◌, append-nil, append_assoc, flat_map, Result, Ok, Err}
use Rattle.std.proofs.lemmas.List.{take_more}
use Rattle.std.proofs.lemmas.Grind.{flat_map-append}
use Rattle.std.specs.Fmt.{HasWritten, HasWrittenStyled, IsPlainFormatter, IsDefaultSpec, WritesInCalls}
use Rattle.std.specs.declared.fmt.Error.{Error}
use Rattle.std.specs.declared.fmt.Formatter.{Formatter}
use Rattle.std.specs.List.{concat, FoldsTo}
use Rattle.std.specs.Result.{IsOk, OnOk}
use Rattle.std.specs.Fmt.InlineText.{inline_text, IsIntact, AppendsIfIntact}
use Rattle.std.specs.declared.fmt.InlineText.{InlineText}
use Rattle.std.proofs.Output.{has_written_styled_append, has_written_styled_of_eq}

pub styled_two : {W : Type 0} (took : W → List ℕ → W → Type 0) (f g h : Formatter W)
    (a b all : List ℕ) → HasWrittenStyled took f a g → HasWrittenStyled took g b h → a ++ b ≡ all
    → HasWrittenStyled took f all h
styled_two took f g h a b all p q e =
    has_written_styled_of_eq took f (a ++ b) all h e (has_written_styled_append took f a g b h p q)

pub styled_three : {W : Type 0} (took : W → List ℕ → W → Type 0) (f g h k : Formatter W)
    (a b c all : List ℕ) → HasWrittenStyled took f a g → HasWrittenStyled took g b h
    → HasWrittenStyled took h c k → (a ++ b) ++ c ≡ all → HasWrittenStyled took f all k
styled_three took f g h k a b c all p q r e =
    styled_two took f h k (a ++ b) c all (has_written_styled_append took f a g b h p q) r e

pub styled_four : {W : Type 0} (took : W → List ℕ → W → Type 0) (f g h k l : Formatter W)
    (a b c d all : List ℕ) → HasWrittenStyled took f a g → HasWrittenStyled took g b h
    → HasWrittenStyled took h c k → HasWrittenStyled took k d l → ((a ++ b) ++ c) ++ d ≡ all
    → HasWrittenStyled took f all l
styled_four took f g h k l a b c d all p q r s e = styled_two took f k l ((a ++ b) ++ c) d all
    (styled_three took f g h k a b c ((a ++ b) ++ c) p q r (λ i. (a ++ b) ++ c)) s e

-- what is written whatever the options is written at the plain ones
pub plain_of_styled : {W : Type 0} (took : W → List ℕ → W → Type 0) (f g : Formatter W)
    (bs : List ℕ) → IsPlainFormatter f → HasWrittenStyled took f bs g → HasWritten took f bs g
plain_of_styled took f g bs plain h = record {
  wrote = h.wrote;
  plain = record { bare = subst IsDefaultSpec (sym h.spec) plain.bare; flush = h.flush };
}

-- a loop's step: the text of the element at i follows that of those before it
pub styled_step : {A W : Type 0} (took : W → List ℕ → W → Type 0) (F : A → List ℕ) (xs : List A)
    (i : ℕ) (x : A) (f g h : Formatter W) → i < length xs → x ≡ get_or xs i x
    → HasWrittenStyled took f (flat_map F (take i xs)) g → HasWrittenStyled took g (F x) h
    → HasWrittenStyled took f (flat_map F (take (i + 1) xs)) h
styled_step took F xs i x f g h within is p q =
    styled_two took f g h (flat_map F (take i xs)) (F x) (flat_map F (take (i + 1) xs)) p q
    (ap (λ z. flat_map F (take i xs) ++ F z) is
    ∙ ap (λ l. flat_map F (take i xs) ++ l) (sym (append-nil (F (get_or xs i x))))
    ∙ sym (flat_map-append F (take i xs) (get_or xs i x ∷ []))
    ∙ ap (flat_map F) (sym (take_more xs i x within)))

-- the same for elements that are copied
pub styled_step_at : {A W : Type 0} (took : W → List ℕ → W → Type 0) (F : A → List ℕ) (xs : List A)
    (i : ℕ) (d : A) (f g h : Formatter W) → i < length xs
    → HasWrittenStyled took f (flat_map F (take i xs)) g
    → HasWrittenStyled took g (F (get_or xs i d)) h
    → HasWrittenStyled took f (flat_map F (take (i + 1) xs)) h
styled_step_at took F xs i d f g h within p q =
    styled_two took f g h (flat_map F (take i xs)) (F (get_or xs i d))
    (flat_map F (take (i + 1) xs)) p q
    (ap (λ l. flat_map F (take i xs) ++ l) (sym (append-nil (F (get_or xs i d))))
    ∙ sym (flat_map-append F (take i xs) (get_or xs i d ∷ []))
    ∙ ap (flat_map F) (sym (take_more xs i d within)))

-- ---- writes into a short text

-- several writes append what they wrote together
appends_all : {n : ℕ} (s : InlineText n) (parts : List (List ℕ)) (t : InlineText n)
    → FoldsTo AppendsIfIntact s parts t → AppendsIfIntact s (concat parts) t
appends_all s [] t same intact =
    (subst IsIntact same intact, ap inline_text (sym same) ∙ sym (append-nil (inline_text s)))
appends_all s (part ∷ parts) t calls intact =
    let first = calls.1 intact in
    let rest = appends_all calls.0 parts t calls.2 first.0 in (
      rest.0,
      rest.1 ∙ ap (λ l. l ++ concat parts) first.1
          ∙ append_assoc (inline_text s) part (concat parts),
    )

-- the same of what was written in calls
pub appends_written : {n : ℕ} (s : InlineText n) (bs : List ℕ) (t : InlineText n)
    → WritesInCalls AppendsIfIntact s bs t → AppendsIfIntact s bs t
appends_written s bs t wrote =
    subst (λ l. AppendsIfIntact s l t) wrote.whole (appends_all s wrote.parts t wrote.calls)

-- the same of a call of `write!`, where it was `Ok`
pub appends_on_ok : {n : ℕ} (s : InlineText n) (bs all : List ℕ) (t : InlineText n)
    (r : Result (Unit {0}) Error) → OnOk r (WritesInCalls AppendsIfIntact s bs t) → bs ≡ all
    → IsOk r → AppendsIfIntact s all t
appends_on_ok s bs all t (Ok u) wrote e ok =
    subst (λ l. AppendsIfIntact s l t) e (appends_written s bs t wrote)
appends_on_ok s bs all t (Err error) wrote e ok = absurd (cc)

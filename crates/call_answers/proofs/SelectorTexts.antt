-- Texts that are selectors, one after another.
-- Serves `calls::read_selectors` and `modern::lists::read_selectors`.
use Rattle.std.proofs.Common.{◌≡◌, ◌≢◌, ℕ, zero, suc, ◌+◌, ◌<◌, List, [], ◌∷◌, ◌++◌, length, take, get_or, map, Option, None, Some, inl, inr, ap, sym, ◌∙◌, arith}
use Rattle.std.proofs.lemmas.List.{take_more, map-append}
use Rattle.call_answers.specs.Calls.{HasNoSelector}

module _ {S : Type 0} where
  pub not-none : (o : Option S) (selector : S) → o ≡ Some selector → o ≢ None
  not-none o selector e = λ none. absurd (cc)

  head-of : (o : Option S) (os : List (Option S)) (selector : S) (selectors : List S)
      → o ∷ os ≡ map Some (selector ∷ selectors) → (o ≡ Some selector) × (os ≡ map Some selectors)
  head-of o os selector selectors e = (cc, cc)

  none-of : (o : Option S) (os : List (Option S)) → o ∷ os ≢ []
  none-of o os = λ e. absurd (cc)

  -- one selector more
  pub selector-more : {D : Type 0} (selector_in : List ℕ → Option S) (g : D → List ℕ) (ds : List D)
      (i : ℕ) (d : D) (selectors : List S) (selector : S) → i < length ds
      → map selector_in (map g (take i ds)) ≡ map Some selectors
      → selector_in (g (get_or ds i d)) ≡ Some selector
      → map selector_in (map g (take (i + 1) ds)) ≡ map Some (selectors ++ selector ∷ [])
  selector-more selector_in g ds i d selectors selector less so_far one =
      ap (λ xs. map selector_in (map g xs)) (take_more ds i d less)
      ∙ ap (map selector_in) (map-append g (take i ds) (get_or ds i d ∷ []))
      ∙ map-append selector_in (map g (take i ds)) (g (get_or ds i d) ∷ [])
      ∙ ap (λ (os : List (Option S)). os ++ selector_in (g (get_or ds i d)) ∷ []) so_far
      ∙ ap (λ (o : Option S). map Some selectors ++ o ∷ []) one
      ∙ sym (map-append Some selectors (selector ∷ []))

  -- the first text that is no selector
  pub no-selector : {D : Type 0} (selector_in : List ℕ → Option S) (g : D → List ℕ) (ds : List D)
      (i : ℕ) (d : D) (selectors : List S) → i < length ds
      → map selector_in (map g (take i ds)) ≡ map Some selectors
      → selector_in (g (get_or ds i d)) ≡ None → HasNoSelector selector_in (map g ds)
  no-selector selector_in g [] i d selectors less so_far none = absurd (omega arith)
  no-selector selector_in g (x ∷ ds) zero d selectors less so_far none = inl none
  no-selector selector_in g (x ∷ ds) (suc i) d [] less so_far none = absurd (none-of _ _ so_far)
  no-selector selector_in g (x ∷ ds) (suc i) d (s ∷ selectors) less so_far none =
      let split = head-of (selector_in (g x)) (map selector_in (map g (take i ds))) s selectors so_far in
      inr (
        not-none (selector_in (g x)) s split.0,
        no-selector selector_in g ds i d selectors (omega arith) split.1 none,
      )

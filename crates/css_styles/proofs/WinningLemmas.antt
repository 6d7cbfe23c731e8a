-- The declarations of one property, and the one that wins.
-- Serves the functions of `asked` and `gathering`.
use Rattle.std.proofs.Common.{◌≡◌, ℕ, ◌+◌, Bool, true, false, cond, List, [], ◌∷◌, ◌++◌, Option, None, Some, refl, sym, ap, ◌∙◌, filter, map, option_map}
use Rattle.std.specs.Option.{is_some}
use Rattle.css_syntax.specs.DeclarationLists.{DeclarationText}
use Rattle.css_cascade.specs.Cascade.{winner_from}
use Rattle.std.proofs.lemmas.List.Elements.{filter-append}
use Rattle.css_cascade.proofs.WinnerLemmas.{wins, found-some}
use Rattle.css_styles.specs.Contenders.{Contender, in_turn, is_declared, of_names, placed}
use Rattle.css_styles.specs.Winners.{AreWinners, IsUnbeaten, IsWinner, as_winner, counting}
use Rattle.css_styles.specs.internal.Stepping.{best_named, decided, seen}

pub none-found : (all : List Contender) → winner_from seen None all ≡ None → all ≡ []
none-found [] e = refl
none-found (one ∷ more) e = absurd (found-some seen one more e)

unbeaten-is : (all : List Contender) (best : Option Contender) → winner_from seen None all ≡ best
    → IsUnbeaten all (option_map as_winner best)
unbeaten-is all None e = none-found all e
unbeaten-is all (Some one) e = (one, (wins seen all one e, refl))

pub decided-is : (found : List Contender) (best : Option Contender) → best ≡ decided found
    → IsWinner found (option_map as_winner best)
decided-is found best e = unbeaten-is (counting found) best (sym e)

-- ---- filters

none-first : {X : Type 0} (t : Bool) (x : X) (rest : List X) → cond t (x ∷ rest) rest ≡ []
    → (t ≡ false) × (rest ≡ [])
none-first true x rest e = absurd (cc)
none-first false x rest e = (refl, e)

none-kept : {X : Type 0} (p : X → Bool) (t : Bool) (x : X) (rest : List X) → p x ≡ false
    → filter p rest ≡ [] → filter p (cond t (x ∷ rest) rest) ≡ []
none-kept p true x rest fails none =
    ap (λ s. cond s (x ∷ filter p rest) (filter p rest)) fails ∙ none
none-kept p false x rest fails none = none

-- none of some of these passes a test that none of these passes
pub filtered-none : {X : Type 0} (p q : X → Bool) (xs : List X) → filter p xs ≡ []
    → filter p (filter q xs) ≡ []
filtered-none p q [] e = refl
filtered-none p q (x ∷ xs) e =
    let h = none-first (p x) x (filter p xs) e in
    none-kept p (q x) x (filter q xs) h.0 (filtered-none p q xs h.1)

-- ---- declarations one after another

-- the first declaration, if it is one at all, and those after it
pub turn-first : (contends : (place : ℕ) → DeclarationText → Contender) (place : ℕ)
    (one : DeclarationText) (after : List DeclarationText)
    → in_turn contends place (one ∷ after)
    ≡ filter is_declared (contends place one ∷ []) ++ in_turn contends (place + 1) after
turn-first contends place one after =
    filter-append is_declared (contends place one ∷ []) (placed contends (place + 1) after)

pub some-mapped : {X Y : Type 0} (f : X → Y) (o : Option X) → is_some (option_map f o) ≡ is_some o
some-mapped f None = refl
some-mapped f (Some x) = refl

-- the winners of several properties
pub are-winners : (all : List Contender) (asked : List (List (List ℕ)))
    → AreWinners all asked (map (best_named all) asked)
are-winners all [] = tt
are-winners all (names ∷ asked) =
    (decided-is (of_names names all) (decided (of_names names all)) refl, are-winners all asked)

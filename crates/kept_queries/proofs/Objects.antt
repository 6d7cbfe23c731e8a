-- The lifetime of an object: begun and ended. Assumes `Logic`.
-- Serves `Kept::{of_parts, visit, into_parts}`.
use Rattle.std.proofs.Common.{ℕ, [], ◌∷◌}
use seplogic.Ra.Ura.{Ura}
use base.Fraction.{full_share}
use base.Logic.{ent, sep}
use base.Fml.{Fml, Incl-refl, fsep, fex, flft, flent}
use types.Logic.{Logic, sem}
use types.Kit.{‵, ◌⊛◌, later, ◌$◌, ◌∵◌, !, qed, move, split, fjoin, fpack, use2, await, updating, now, done}
use types.Tokens.{lft_new, lft_end, bor_new, lent_back}
use denote.RawPtr.{Ptr, lies_at}
use denote.Param.Laws.{Laws}
use denote.Struct.Lending.{lent_at, Lends-lies}
use Rattle.kept_queries.proofs.arrays.QueryArrays.TheLaws as arrays
use Rattle.kept_queries.specs.declared.arrays.QueryArrays.{QueryArrays}
use Rattle.kept_queries.specs.Kept.{arrays_row}

pub arrays_laws : Laws arrays_row
arrays_laws = arrays.the_row_laws

module _ {M : Type 1} {𝓤 : Ura M} (𝓛 : Logic 𝓤) where
  open 𝓛 use {H}

  -- a copy that is lent for the lifetime a, of which the whole token is here
  abbrev pub Begun : Ptr → QueryArrays → ℕ → Fml
  Begun p s a = fsep (lent_at arrays_row p s (a ∷ [])) (fsep (flft (a ∷ []) full_share) (flent (a ∷ []) (lies_at arrays_row full_share p s)))

  pub begins : (p : Ptr) (s : QueryArrays) → ent 𝓤 (sem 𝓛 (lies_at arrays_row full_share p s)) (H.⇛ (sem 𝓛 (fex ℕ (Begun p s))))
  begins p s = qed 𝓛 (‵ (lies_at arrays_row full_share p s) ∷ []) ∵ updating ! $ lft_new ! tt (λ a. move ! (1 ∷ []) $ bor_new ! tt (a ∷ []) $ move ! (0 ∷ 2 ∷ []) $
      use2 𝓛 (later (‵ (lent_at arrays_row p s (a ∷ [])) ⊛ ‵ (flft (a ∷ []) full_share))) (Lends-lies 𝓛 arrays_row arrays_row.lives p s (arrays_laws.shares 𝓛 s) (a ∷ []) ((a ∷ [], full_share) ∷ []) (arrays.the_within (a ∷ [])) (Incl-refl (a ∷ []))) $
      await ! tt $ split ! $ move ! (1 ∷ 2 ∷ []) $ fjoin ! $ move ! (1 ∷ 0 ∷ []) $ fjoin ! $ fpack ! ℕ (Begun p s) a $ now ! $ done !)

  pub ends : (p : Ptr) (s : QueryArrays) (a : ℕ) → ent 𝓤 (sep 𝓤 (sem 𝓛 (flft (a ∷ []) full_share)) (sem 𝓛 (flent (a ∷ []) (lies_at arrays_row full_share p s)))) (H.⇛ (sem 𝓛 (lies_at arrays_row full_share p s)))
  ends p s a = qed 𝓛 (‵ (flft (a ∷ []) full_share) ∷ ‵ (flent (a ∷ []) (lies_at arrays_row full_share p s)) ∷ []) ∵ updating ! $ lft_end ! tt $ lent_back ! tt $ now ! $ done !

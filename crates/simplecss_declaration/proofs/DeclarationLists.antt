-- The declarations of a text, one at a time.
-- Serves `next` of `DeclarationTokenizer` (the first declaration and the others).
use Rattle.std.proofs.Common.{◌≡◌, ℕ, List, [], ◌∷◌, None, refl, ap}
use Rattle.css_text.specs.Reading.{Reading, got, fails, found, each}
use Rattle.css_text.specs.Characters.{Edition}
use Rattle.simplecss_grammar.specs.Declarations.{StyleDeclaration, declaration, next_declaration, declarations}
use Rattle.css_text.proofs.reading.EachLemmas.{each-none, each-some}
use Rattle.simplecss_grammar.proofs.reading.DeclarationLemmas.{next_declaration-takes}
use Rattle.simplecss_declaration.specs.internal.UnreportedFaults.{FailsAt}

pub declarations-some : (edition : Edition) (text rest : List ℕ) (p : StyleDeclaration)
    → declaration edition text ≡ got p rest
    → declarations edition text ≡ p ∷ declarations edition rest
unfolding declarations
declarations-some edition text rest p e = ap (λ r. r.0)
    (each-some (next_declaration edition) (next_declaration-takes edition) text rest p (ap found e))

-- no value is found where a reading fails
pub found-none : {A : Type 0} (r : Reading A) (left : List ℕ) → FailsAt r left → found r ≡ None
found-none (got x rest) left h = absurd h
found-none (fails fault rest) left h = refl

pub declarations-none : (edition : Edition) (text left : List ℕ)
    → FailsAt (declaration edition text) left → declarations edition text ≡ []
unfolding declarations
declarations-none edition text left h = ap (λ r. r.0)
    (each-none (next_declaration edition) text (found-none (declaration edition text) left h))

pub declarations-nil : (edition : Edition) → declarations edition [] ≡ []
unfolding declarations each
declarations-nil edition = refl

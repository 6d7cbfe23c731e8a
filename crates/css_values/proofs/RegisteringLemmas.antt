-- Registrations, one after another, and values without references.
use Rattle.std.proofs.Common.{◌≡◌, ◌∙◌, ◌<◌, ◌+◌, ◌++◌, ◌&&◌, Bool, true, ℕ, List, [], ◌∷◌, Option, Some, None, reverse, length, get_or, take, arith, refl, sym, ap}
use Rattle.std.specs.List.{filter_map}
use Rattle.std.specs.Option.{option_to_list}
use Rattle.std.proofs.lemmas.List.{append_assoc, reverse-append, take_more}
use Rattle.std.proofs.lemmas.List.Elements.{filter_map-append}
use Rattle.css_text.proofs.reading.EachLemmas.{each-none, each-some}
use Rattle.css_values.specs.Pieces.{Piece, piece, pieces}
use Rattle.css_values.specs.Registrations.{Stated, Registration, is_plain, registration_of, registrations_of}
use Rattle.css_values.specs.Validity.{all_valid}
use Rattle.css_values.proofs.PieceLemmas.{piece-takes}

-- ---- references

pub plain-none : (rest : List ℕ) → piece rest ≡ None → all_valid is_plain (pieces rest) ≡ true
plain-none rest e = ap (λ (r : List Piece × List ℕ). all_valid is_plain r.0) (each-none piece rest e)

pub plain-some : (rest left : List ℕ) (p : Piece) (b : Bool) → piece rest ≡ Some (p, left)
    → b ≡ is_plain p
    → all_valid is_plain (pieces rest) ≡ (b && all_valid is_plain (pieces left))
plain-some rest left p b e h =
    ap (λ (r : List Piece × List ℕ). all_valid is_plain r.0) (each-some piece piece-takes rest left p e)
    ∙ ap (λ (x : Bool). x && all_valid is_plain (pieces left)) (sym h)

-- ---- registrations

reverse-option : (o : Option Registration) → reverse (option_to_list o) ≡ option_to_list o
reverse-option None = refl
reverse-option (Some r) = refl

one-rule : (rule : Stated) → filter_map registration_of (rule ∷ []) ≡ option_to_list (registration_of rule)
one-rule rule = by (registration_of rule) refl
  where
    by : (o : Option Registration) → registration_of rule ≡ o
        → filter_map registration_of (rule ∷ []) ≡ option_to_list (registration_of rule)
    by None e = grind arith
    by (Some r) e = grind arith

-- no rule, as that of a number that none has
abbrev pub no_rule : Stated
no_rule = record { name = []; text = [] }

-- the last rule has the first registration
pub registrations-last : (rules : List Stated) (last : Stated)
    → registrations_of (rules ++ last ∷ [])
    ≡ option_to_list (registration_of last) ++ registrations_of rules
registrations-last rules last =
    ap reverse (filter_map-append registration_of rules (last ∷ []))
    ∙ reverse-append (filter_map registration_of rules) (filter_map registration_of (last ∷ []))
    ∙ ap (λ (rs : List Registration). reverse rs ++ registrations_of rules) (one-rule last)
    ∙ ap (λ (rs : List Registration). rs ++ registrations_of rules) (reverse-option (registration_of last))

-- one more rule is read, before those that are
pub registrations-more : (rules : List Stated) (n : ℕ) (so_far after : List Registration)
    → n < length rules
    → after ≡ so_far ++ option_to_list (registration_of (get_or rules n no_rule))
    → after ++ registrations_of (take n rules) ≡ so_far ++ registrations_of (take (n + 1) rules)
registrations-more rules n so_far after l e =
    ap (λ (rs : List Registration). rs ++ registrations_of (take n rules)) e
    ∙ append_assoc so_far (option_to_list (registration_of (get_or rules n no_rule))) (registrations_of (take n rules))
    ∙ ap (λ (rs : List Registration). so_far ++ rs)
    (sym (registrations-last (take n rules) (get_or rules n no_rule)))
    ∙ ap (λ (rs : List Stated). so_far ++ registrations_of rs) (sym (take_more rules n no_rule l))

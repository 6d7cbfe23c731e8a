-- The rules that are left.
-- Serves `OpenParents::leave` and `ReadRules::push_sheet`.
use Rattle.std.proofs.Common.{◌≡◌, suc, ◌-◌, List, [], ◌∷◌, ◌++◌, Option, length, map, take, slice_get, arith, refl, ap, ◌∙◌}
use Rattle.std.proofs.lemmas.List.{map-append}
use Rattle.std.specs.Option.{option_map}
use Rattle.css_sheet.specs.declared.parents.Parent.{Parent}
use Rattle.css_sheet.specs.declared.parents.OpenParents.{OpenParents}
use Rattle.css_sheet.specs.OpenParents.{ParentsText, left_innermost, left_last, or_same}
use Rattle.css_sheet.specs.OpenParents.{Parent as ParentText}
use Rattle.css_sheet.specs.ParentViews.{parent_of, parents_of}
use Rattle.css_sheet.proofs.OpenLemmas.{last-append, one-more}

take-front : {X : Type 0} (xs : List X) (x : X) → take (length xs) (xs ++ x ∷ []) ≡ xs
take-front [] x = refl
take-front (y ∷ xs) x = ap (λ more. y ∷ more) (take-front xs x)

-- all but the last
pub take-append : {X : Type 0} (xs : List X) (x : X)
    → take (length (xs ++ x ∷ []) - 1) (xs ++ x ∷ []) ≡ xs
take-append {X = X} xs x =
    let h : length (xs ++ x ∷ []) ≡ suc (length xs) = one-more xs x in
    let at : length (xs ++ x ∷ []) - 1 ≡ length xs = omega (arith, h) in
    ap (λ n. take n (xs ++ x ∷ [])) at ∙ take-front xs x

pub left-some : (p : ParentsText) (front : List (Option ParentText)) (last : Option ParentText)
    → p.outer ≡ front ++ last ∷ []
    → left_innermost p
    ≡ record { innermost = or_same p.innermost last; outer = front; lists = p.lists }
left-some p front last e =
    ap (left_last p)
    (ap (λ (o : List (Option ParentText)). slice_get o (length o - 1)) e ∙ last-append front last)
    ∙ ap (λ (o : List (Option ParentText)).
    record { innermost = or_same p.innermost last; outer = o; lists = p.lists })
    (ap (λ (o : List (Option ParentText)). take (length o - 1) o) e ∙ take-append front last)

-- one rule was open
pub leaves-some : (o : OpenParents) (front : List (Option Parent)) (last : Option Parent)
    → o.outer.items ≡ front ++ last ∷ []
    → left_innermost (parents_of o)
    ≡ record {
      innermost = or_same (parent_of o.innermost) (option_map parent_of last);
      outer = map (option_map parent_of) front;
      lists = map (λ list. list.items) o.lists.items;
    }
leaves-some o front last e =
    left-some (parents_of o) (map (option_map parent_of) front) (option_map parent_of last)
    (ap (map (option_map parent_of)) e ∙ map-append (option_map parent_of) front (last ∷ []))

-- none was open
pub leaves-none : (o : OpenParents) → o.outer.items ≡ [] → left_innermost (parents_of o) ≡ parents_of o
leaves-none o e =
    ap (left_last (parents_of o))
    (ap (λ (os : List (Option Parent)).
    slice_get (map (option_map parent_of) os) (length (map (option_map parent_of) os) - 1)) e)

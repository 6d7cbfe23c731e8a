-- The values of attributes by their names, from the last attribute on.
-- Serves `attributes`.
use Rattle.std.proofs.Common.{◌≡◌, ℕ, suc, ◌+◌, ◌-◌, ◌<◌, Bool, true, false, cond, List, [], ◌∷◌, length, drop, get_or, Option, None, Some, refl, sym, ap, subst, ◌∙◌, arith, Bor}
use Rattle.std.specs.Prelude.{bytes_eq, if◌then◌else◌, IfSome, ◌==◌}
use Rattle.std.specs.BTreeMap.{BTreeMap, get}
use Rattle.std.specs.Cmp.{unsigned_tied}
use Rattle.std.specs.Cmp.Lexicographic.{slice_cmp}
use Rattle.std.specs.List.{slice_get}
use Rattle.std.specs.Option.{option_map, option_map_or, option_and_then}
use Rattle.std.specs.Ordering.{is_eq, nat_cmp}
use Rattle.std.proofs.Math.Seq.{drop-cons}
use Rattle.std.proofs.lemmas.Bool.Decides.{Decides-eqb}
use Rattle.std.proofs.lemmas.Map.Text.{is_eq-slice_cmp}
use Rattle.css_elements.specs.Rows.{Row}
use Rattle.css_elements.specs.TreeNodes.{value_in, attribute_at, attributes_at}
use Rattle.css_tree.specs.Attributes.{Values, AreNamed, AreFound}

pub attribute-value : (rows : List Row) (i : ℕ) (name : List ℕ)
    → value_in (attributes_at rows i) name ≡ attribute_at rows i name
attribute-value rows i name = of (slice_get rows i)
  where
    of : (r : Option Row) → value_in (option_map_or (λ row. row.attributes) r []) name
        ≡ option_and_then (λ row. value_in row.attributes name) r
    of None = refl
    of (Some row) = refl

-- one more name
pub named-more : (name value : Bor (List ℕ)) (rest : List (List ℕ × List ℕ)) (old new : Values)
    → AreNamed old rest
    → ((q : Bor (List ℕ)) → get (λ x y. slice_cmp nat_cmp x.now y.now) new q
    ≡ cond (is_eq (slice_cmp nat_cmp name.now q.now)) (Some value)
    (get (λ x y. slice_cmp nat_cmp x.now y.now) old q))
    → AreNamed new ((name.now, value.now) ∷ rest)
named-more name value rest old new are updates other =
    ap (option_map (λ v. v.now)) (updates asked
    ∙ ap (λ b. cond b (Some value) (get (λ x y. slice_cmp nat_cmp x.now y.now) old asked))
    (is_eq-slice_cmp name.now other))
    ∙ of (bytes_eq name.now other)
  where
    asked : Bor (List ℕ)
    asked = record { ref_ptr = name.ref_ptr; now = other }

    of : (same : Bool)
        → option_map (λ v. v.now)
        (cond same (Some value) (get (λ x y. slice_cmp nat_cmp x.now y.now) old asked))
        ≡ (if same then Some value.now else value_in rest other)
    of true = refl
    of false = are other

-- the item before the last ones
pub drop-one : {X : Type 0} (xs : List X) (after : ℕ) (d : X) → after < length xs
    → drop (length xs - (after + 1)) xs
    ≡ get_or xs (length xs - 1 - after) d ∷ drop (length xs - after) xs
drop-one xs after d more =
    ap (λ k. drop k xs) first
    ∙ drop-cons xs (length xs - 1 - after) d (omega (arith, more))
    ∙ ap (λ k. get_or xs (length xs - 1 - after) d ∷ drop k xs) next
  where
    first : length xs - (after + 1) ≡ length xs - 1 - after
    first = omega (arith, more)

    next : suc (length xs - 1 - after) ≡ length xs - after
    next = omega (arith, more)

-- the attributes of one more element
pub found-more : (rows : List Row) (n : ℕ) (values : Values) (old new : BTreeMap ℕ Values)
    → AreNamed values (attributes_at rows n) → AreFound rows old
    → ((i : ℕ) → get nat_cmp new i ≡ cond (is_eq (nat_cmp n i)) (Some values) (get nat_cmp old i))
    → AreFound rows new
found-more rows n values old new named are updates i =
    subst (λ r. IfSome r (λ values. AreNamed values (attributes_at rows i)))
    (sym (updates i ∙ ap (λ b. cond b (Some values) (get nat_cmp old i)) (unsigned_tied n i)))
    (of (n == i) (Decides-eqb n i).0)
  where
    of : (same : Bool) → (same ≡ true → n ≡ i)
        → IfSome (cond same (Some values) (get nat_cmp old i))
        (λ values. AreNamed values (attributes_at rows i))
    of true is = subst (λ j. AreNamed values (attributes_at rows j)) (is refl) named
    of false is = are i

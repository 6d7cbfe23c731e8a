-- Components of values, and rows of the table, step by step.
use Rattle.std.proofs.Common.{◌≡◌, ◌∙◌, ℕ, ◌≤◌, ◌+◌, ◌||◌, ◌++◌, not, Bool, true, false, List, [], Option, Some, None, length, arith, refl, sym, ap, if◌then◌else◌, bytes_eq}
use Rattle.std.specs.Borrow.{Bor}
use Rattle.std.specs.List.{flat_map, list_any}
use Rattle.std.specs.Option.{option_map}
use Rattle.std.proofs.Math.Bool.{or_assoc, or-false}
use Rattle.std.proofs.lemmas.List.{length-append}
use Rattle.std.proofs.lemmas.List.Folds.{list_any-append}
use Rattle.css_syntax.specs.TokenLists.{PlacedToken, next_token}
use Rattle.css_syntax.specs.Tokens.{spells}
use Rattle.css_syntax.proofs.TokenSteps.{tokens-none, tokens-some}
use Rattle.css_values.specs.Names.{cut, is_named_in, part_before, parts_between}
use Rattle.css_values.specs.Refused.{Component, Found, Sorts, class_in, components, fits, found_in, has_unfit, is_foreign, is_listed, is_other, is_replaced, is_sign, letter_of, listed_component, of_token, row_after, unmarked}
use Rattle.css_values.specs.internal.Joined.{joined}
use Rattle.css_values.proofs.NameLemmas.{named-some, parts-none, parts-some}

-- ---- lists of words

pub listed-none : (rest word : List ℕ) → part_before 32 rest ≡ None → is_listed rest word ≡ false
listed-none rest word e = ap (list_any (λ one. spells (unmarked one) word)) (parts-none 32 rest e)

pub listed-some : (rest front left word : List ℕ) → part_before 32 rest ≡ Some (front, left)
    → is_listed rest word ≡ (spells (unmarked front) word || is_listed left word)
listed-some rest front left word e =
    ap (list_any (λ one. spells (unmarked one) word)) (parts-some 32 rest front left e)

abbrev pub class_from : List ℕ → List ℕ → Option ℕ
class_from rest unit = class_in (parts_between 10 rest) unit

pub class-none : (rest unit : List ℕ) → part_before 10 rest ≡ None → class_from rest unit ≡ None
class-none rest unit e = ap (λ (lines : List (List ℕ)). class_in lines unit) (parts-none 10 rest e)

pub class-some : (rest line left unit front units : List ℕ) → part_before 10 rest ≡ Some (line, left)
    → cut 32 line ≡ (front, units)
    → class_from rest unit ≡ (if is_listed units unit then letter_of front else class_from left unit)
class-some rest line left unit front units e h =
    ap (λ (lines : List (List ℕ)). class_in lines unit) (parts-some 10 rest line left e)
    ∙ ap (λ (found : List ℕ × List ℕ). if is_listed found.1 unit then letter_of found.0 else class_from left unit) h

-- ---- rows

abbrev pub row_from : Option (List ℕ) → List ℕ → List ℕ → Option (List ℕ)
row_from found rest name = row_after found (parts_between 10 rest) name

pub row-none : (found : Option (List ℕ)) (rest name : List ℕ) → part_before 10 rest ≡ None
    → row_from found rest name ≡ found
row-none found rest name e = ap (λ (lines : List (List ℕ)). row_after found lines name) (parts-none 10 rest e)

pub row-some : (found : Option (List ℕ)) (rest line left name front row : List ℕ)
    → part_before 10 rest ≡ Some (line, left) → cut 124 line ≡ (front, row)
    → row_from found rest name
    ≡ row_from (if is_named_in front name then Some row else found) left name
row-some found rest line left name front row e h =
    ap (λ (lines : List (List ℕ)). row_after found lines name) (parts-some 10 rest line left e)
    ∙ ap (λ (it : List ℕ × List ℕ). row_from (if is_named_in it.0 name then Some it.1 else found) left name) h

-- the text of one of two
pub text_if : (t : Bool) (row : Bor (List ℕ)) (other : Option (Bor (List ℕ)))
    → option_map (λ text. text.now) (if t then Some row else other)
    ≡ (if t then Some row.now else option_map (λ text. text.now) other)
text_if true row other = refl
text_if false row other = refl

either_if : (s t : Bool) (row : List ℕ) (old : Option (List ℕ))
    → (if s then Some row else (if t then Some row else old)) ≡ (if t || s then Some row else old)
either_if true true row old = refl
either_if true false row old = refl
either_if false true row old = refl
either_if false false row old = refl

-- a row is given to one more name
pub added-some : (rest front left name row : List ℕ) (old now : Option (List ℕ))
    → part_before 32 rest ≡ Some (front, left) → now ≡ (if bytes_eq front name then Some row else old)
    → (if is_named_in left name then Some row else now) ≡ (if is_named_in rest name then Some row else old)
added-some rest front left name row old now e h =
    ap (λ found. if is_named_in left name then Some row else found) h
    ∙ either_if (is_named_in left name) (bytes_eq front name) row old
    ∙ ap (λ t. if t then Some row else old) (sym (named-some rest front left name e))

-- ---- components

pub components-none : (rest : List ℕ) → next_token rest ≡ None → components rest ≡ []
components-none rest e = ap (flat_map of_token) (tokens-none rest e)

pub components-some : (rest left : List ℕ) (t : PlacedToken) → next_token rest ≡ Some (t, left)
    → components rest ≡ of_token t ++ components left
components-some rest left t e = ap (flat_map of_token) (tokens-some rest left t e)

pub one_component : (o : Option Component) → length (listed_component o) ≤ 1
one_component None = omega arith
one_component (Some one) = omega arith

-- the parts of what is found
abbrev pub of_parts : ℕ → Bool → Bool → Bool → Bool → Found
of_parts count sign foreign substituted other = record {
  count = count;
  sign = sign;
  foreign = foreign;
  substituted = substituted;
  other = other;
}

same_parts : (c d : ℕ) (s t f g r q o p : Bool) → c ≡ d → s ≡ t → f ≡ g → r ≡ q → o ≡ p
    → of_parts c s f r o ≡ of_parts d t g q p
same_parts c d s t f g r q o p ec es ef er eo =
    ap (λ x. of_parts x s f r o) ec ∙ ap (λ x. of_parts d x f r o) es
    ∙ ap (λ x. of_parts d t x r o) ef ∙ ap (λ x. of_parts d t g x o) er
    ∙ ap (λ x. of_parts d t g q x) eo

pub found-append : (xs ys : List Component) → found_in (xs ++ ys) ≡ joined (found_in xs) (found_in ys)
found-append xs ys =
    same_parts _ _ _ _ _ _ _ _ _ _ (length-append xs ys) (list_any-append is_sign xs ys)
    (list_any-append is_foreign xs ys) (list_any-append is_replaced xs ys) (list_any-append is_other xs ys)

plus_assoc : (a b c : ℕ) → a + b + c ≡ a + (b + c)
plus_assoc a b c = omega arith

pub joined-assoc : (a b c : Found) → joined (joined a b) c ≡ joined a (joined b c)
joined-assoc a b c =
    same_parts _ _ _ _ _ _ _ _ _ _ (plus_assoc a.count b.count c.count) (or_assoc a.sign b.sign c.sign)
    (or_assoc a.foreign b.foreign c.foreign) (or_assoc a.substituted b.substituted c.substituted)
    (or_assoc a.other b.other c.other)

plus_none : (a : ℕ) → a + 0 ≡ a
plus_none a = omega arith

pub joined-none : (a : Found) → joined a (found_in []) ≡ a
joined-none a =
    same_parts _ _ _ _ _ _ _ _ _ _ (plus_none a.count) (or-false a.sign) (or-false a.foreign)
    (or-false a.substituted) (or-false a.other)

-- what is found up to a token, and then from it on
pub found-some : (f g : Found) (rest left : List ℕ) (t : PlacedToken) → next_token rest ≡ Some (t, left)
    → g ≡ joined f (found_in (of_token t))
    → joined f (found_in (components rest)) ≡ joined g (found_in (components left))
found-some f g rest left t e h =
    ap (λ all. joined f (found_in all)) (components-some rest left t e)
    ∙ ap (joined f) (found-append (of_token t) (components left))
    ∙ sym (joined-assoc f (found_in (of_token t)) (found_in (components left)))
    ∙ ap (λ x. joined x (found_in (components left))) (sym h)

pub found-none : (f : Found) (rest : List ℕ) → next_token rest ≡ None
    → joined f (found_in (components rest)) ≡ f
found-none f rest e = ap (λ all. joined f (found_in all)) (components-none rest e) ∙ joined-none f

pub unfit-none : (sorts : Sorts) (rest : List ℕ) → next_token rest ≡ None
    → has_unfit sorts (components rest) ≡ false
unfit-none sorts rest e = ap (has_unfit sorts) (components-none rest e)

pub unfit-some : (sorts : Sorts) (rest left : List ℕ) (t : PlacedToken) → next_token rest ≡ Some (t, left)
    → has_unfit sorts (components rest) ≡ (has_unfit sorts (of_token t) || has_unfit sorts (components left))
unfit-some sorts rest left t e =
    ap (has_unfit sorts) (components-some rest left t e)
    ∙ list_any-append (λ one. not (fits sorts one)) (of_token t) (components left)

-- How the logic stores a condition: as a list of marks, each before what it makes of what follows.
use Rattle.std.specs.Prelude.{◌≡◌, ℕ, ◌==◌, if◌then◌else◌, List, [], ◌∷◌, refl}
use Rattle.std.specs.Coded.{Coded, code_by, coded_list, coded⊎, coded_ℕ}
use Rattle.std.proofs.Common.{◌⊎◌, inl, inr, ap, ◌∙◌}
use Rattle.css_matching.specs.declared.Combinator.{Combinator}
use Rattle.css_matching.specs.declared.Combinator.TheVariants.{Descendant, Child, Adjacent, Sibling}
use Rattle.css_selector_text.specs.Components.{Progression, Simple, ListTest, Condition, Conditions, Parts, Selectors}
use Rattle.css_selector_text.specs.Components.ListTest.{has, nth_child, nth_last_child}
use Rattle.css_selector_text.specs.Components.Structure.{nth_child as counted_by}
use Rattle.css_selector_text.specs.Components.Simple.{universal, structure}
use Rattle.css_selector_text.specs.Components.Condition.{simple, negation, any_of, where_any, tested}
use Rattle.css_selector_text.specs.Components.Conditions.{end_of_compound, with_condition}
use Rattle.css_selector_text.specs.Components.Parts.{end_of_selector, with_part}
use Rattle.css_selector_text.specs.Components.Selectors.{end_of_list, with_selector}

-- a simple selector, or the number of another constructor
abbrev pub Mark : Type 0
Mark = Simple ⊎ ℕ

abbrev joined_mark : Combinator → Mark
joined_mark Descendant = inr 7
joined_mark Child = inr 8
joined_mark Adjacent = inr 9
joined_mark Sibling = inr 10

-- a test without its `An+B`
abbrev test_mark : ListTest → Mark
test_mark (nth_child p) = inr 12
test_mark (nth_last_child p) = inr 13
test_mark has = inr 14

-- the `An+B` of a test, as a condition before the list to which it belongs
abbrev counted : ListTest → Simple
counted (nth_child p) = structure (counted_by p)
counted (nth_last_child p) = structure (counted_by p)
counted has = universal

abbrev mutual
  marks_of : Condition → List Mark → List Mark
  marks_of (simple s) rest = inl s ∷ rest
  marks_of (negation selectors) rest = inr 0 ∷ list_marks selectors rest
  marks_of (any_of selectors) rest = inr 1 ∷ list_marks selectors rest
  marks_of (where_any selectors) rest = inr 2 ∷ list_marks selectors rest
  marks_of (tested test selectors) rest =
      test_mark test ∷ inl (counted test) ∷ list_marks selectors rest

  compound_marks : Conditions → List Mark → List Mark
  compound_marks end_of_compound rest = inr 3 ∷ rest
  compound_marks (with_condition c conditions) rest =
      inr 4 ∷ marks_of c (compound_marks conditions rest)

  parts_marks : Parts → List Mark → List Mark
  parts_marks end_of_selector rest = inr 11 ∷ rest
  parts_marks (with_part k c parts) rest =
      joined_mark k ∷ compound_marks c (parts_marks parts rest)

  list_marks : Selectors → List Mark → List Mark
  list_marks end_of_list rest = inr 5 ∷ rest
  list_marks (with_selector s selectors) rest =
      inr 6 ∷ parts_marks s (list_marks selectors rest)

-- what was made so far, the last first
abbrev Made : Type 0
Made = List Condition × (List Conditions × (List Parts × List Selectors))

abbrev made : List Condition → List Conditions → List Parts → List Selectors → Made
made a b c d = (a, (b, (c, d)))

abbrev make_listed
    : (Selectors → Condition) → List Condition → List Conditions → List Parts → List Selectors → Made
make_listed kind a b c [] = made a b c []
make_listed kind a b c (l ∷ d) = made (kind l ∷ a) b c d

-- the test of this kind, with the `An+B` that was made
abbrev test_by : (Progression → ListTest) → Simple → ListTest
test_by kind (structure (counted_by p)) = kind p
test_by kind s = has

abbrev make_test
    : (Progression → ListTest) → List Condition → List Conditions → List Parts → List Selectors → Made
make_test kind (simple s ∷ a) b c (l ∷ d) = made (tested (test_by kind s) l ∷ a) b c d
make_test kind a b c d = made a b c d

abbrev make_condition : List Condition → List Conditions → List Parts → List Selectors → Made
make_condition (x ∷ a) (y ∷ b) c d = made a (with_condition x y ∷ b) c d
make_condition a b c d = made a b c d

abbrev make_part : Combinator → List Condition → List Conditions → List Parts → List Selectors → Made
make_part k a (y ∷ b) (z ∷ c) d = made a b (with_part k y z ∷ c) d
make_part k a b c d = made a b c d

abbrev make_selector : List Condition → List Conditions → List Parts → List Selectors → Made
make_selector a b (y ∷ c) (z ∷ d) = made a b c (with_selector y z ∷ d)
make_selector a b c d = made a b c d

-- what a mark makes of what was made
abbrev make_by : ℕ → List Condition → List Conditions → List Parts → List Selectors → Made
make_by n a b c d =
    if n == 0 then make_listed negation a b c d
    else (if n == 1 then make_listed any_of a b c d
    else (if n == 2 then make_listed where_any a b c d
    else (if n == 3 then made a (end_of_compound ∷ b) c d
    else (if n == 4 then make_condition a b c d
    else (if n == 5 then made a b c (end_of_list ∷ d)
    else (if n == 6 then make_selector a b c d
    else (if n == 7 then make_part Descendant a b c d
    else (if n == 8 then make_part Child a b c d
    else (if n == 9 then make_part Adjacent a b c d
    else (if n == 10 then make_part Sibling a b c d
    else (if n == 11 then made a b (end_of_selector ∷ c) d
    else (if n == 12 then make_test nth_child a b c d
    else (if n == 13 then make_test nth_last_child a b c d
    else make_test (λ p. has) a b c d)))))))))))))

abbrev make : Mark → Made → Made
make (inl s) m = made (simple s ∷ m.0) m.1.0 m.1.1.0 m.1.1.1
make (inr n) m = make_by n m.0 m.1.0 m.1.1.0 m.1.1.1

abbrev made_of : List Mark → Made
made_of [] = made [] [] [] []
made_of (m ∷ marks) = make m (made_of marks)

abbrev first_of_all : List Condition → Condition
first_of_all [] = simple universal
first_of_all (c ∷ conditions) = c

abbrev more_condition : Condition → Made → Made
more_condition c m = made (c ∷ m.0) m.1.0 m.1.1.0 m.1.1.1

abbrev more_compound : Conditions → Made → Made
more_compound c m = made m.0 (c ∷ m.1.0) m.1.1.0 m.1.1.1

abbrev more_parts : Parts → Made → Made
more_parts c m = made m.0 m.1.0 (c ∷ m.1.1.0) m.1.1.1

abbrev more_list : Selectors → Made → Made
more_list c m = made m.0 m.1.0 m.1.1.0 (c ∷ m.1.1.1)

made_joined : (k : Combinator) (c : Conditions) (parts : Parts) (m : Made)
    → make (joined_mark k) (more_compound c (more_parts parts m)) ≡ more_parts (with_part k c parts) m
made_joined Descendant c parts m = refl
made_joined Child c parts m = refl
made_joined Adjacent c parts m = refl
made_joined Sibling c parts m = refl

made_test : (test : ListTest) (l : Selectors) (m : Made)
    → make (test_mark test) (make (inl (counted test)) (more_list l m))
    ≡ more_condition (tested test l) m
made_test (nth_child p) l m = refl
made_test (nth_last_child p) l m = refl
made_test has l m = refl

mutual
  made_condition : (c : Condition) (rest : List Mark)
      → made_of (marks_of c rest) ≡ more_condition c (made_of rest)
  made_condition (simple s) rest = refl
  made_condition (negation selectors) rest = ap (make (inr 0)) (made_list selectors rest)
  made_condition (any_of selectors) rest = ap (make (inr 1)) (made_list selectors rest)
  made_condition (where_any selectors) rest = ap (make (inr 2)) (made_list selectors rest)
  made_condition (tested test selectors) rest =
      ap (λ m. make (test_mark test) (make (inl (counted test)) m)) (made_list selectors rest)
      ∙ made_test test selectors (made_of rest)

  made_compound : (c : Conditions) (rest : List Mark)
      → made_of (compound_marks c rest) ≡ more_compound c (made_of rest)
  made_compound end_of_compound rest = refl
  made_compound (with_condition c conditions) rest =
      ap (make (inr 4))
      (made_condition c (compound_marks conditions rest)
      ∙ ap (more_condition c) (made_compound conditions rest))

  made_parts : (c : Parts) (rest : List Mark)
      → made_of (parts_marks c rest) ≡ more_parts c (made_of rest)
  made_parts end_of_selector rest = refl
  made_parts (with_part k c parts) rest =
      ap (make (joined_mark k))
      (made_compound c (parts_marks parts rest)
      ∙ ap (more_compound c) (made_parts parts rest))
      ∙ made_joined k c parts (made_of rest)

  made_list : (c : Selectors) (rest : List Mark)
      → made_of (list_marks c rest) ≡ more_list c (made_of rest)
  made_list end_of_list rest = refl
  made_list (with_selector s selectors) rest =
      ap (make (inr 6))
      (made_parts s (list_marks selectors rest)
      ∙ ap (more_parts s) (made_list selectors rest))

abbrev to_marks : Condition → List Mark
to_marks c = marks_of c []

abbrev from_marks : List Mark → Condition
from_marks marks = first_of_all (made_of marks).0

pub from_marks-to_marks : (c : Condition) → from_marks (to_marks c) ≡ c
from_marks-to_marks c = ap (λ m. first_of_all m.0) (made_condition c [])

-- the code of conditions, given that of simple selectors
abbrev pub condition_code : Coded Simple → Coded Condition
condition_code code =
    code_by (List Mark) (coded_list (coded⊎ code coded_ℕ)) to_marks from_marks from_marks-to_marks

abbrev list_of_negation : Condition → Selectors
list_of_negation (negation selectors) = selectors
list_of_negation c = end_of_list

-- the code of lists: a list is stored as the `:not()` of it
abbrev pub selectors_code : Coded Simple → Coded Selectors
selectors_code code =
    code_by Condition (condition_code code) (λ selectors. negation selectors) list_of_negation (λ _. refl)

-- The attribute fields of a line, one after the other.
-- Serves `Page::read` (the first fault of a line) and the answers of `Node` (the value of a key).
use Rattle.std.proofs.Common.{◌≡◌, ℕ, suc, ◌+◌, ◌<◌, ◌≤◌, Bool, true, false, cond, List, [], ◌∷◌, ◌++◌, length, take, get_or, refl, sym, ap, ◌∙◌, subst, arith, Option, None, Some, IfSome, Bor, append_assoc, Result, Ok, Err, IfErr}
use Rattle.std.specs.Prelude.{bytes_eq, ◌||◌, not}
use Rattle.std.specs.List.{slice_get, filter_map, cons_option, range_with_len}
use Rattle.std.proofs.lemmas.Grind.{common_steps}
use Rattle.std.proofs.lemmas.List.{length-append}
use Rattle.std.proofs.Math.Seq.{take-append_seam}
use Rattle.cssq_tree.specs.declared.tree.TreeFault.{TreeFault}
use Rattle.cssq_tree.specs.declared.tree.TreeFault.TheVariants.{BadDepth, EmptyName, NoEquals, RepeatedKey, Memory}
use Rattle.cssq_tree.specs.TreeText.{key_of, has_key, has_equals, field_fault, fault_of_field, field_faults}
use Rattle.cssq_tree.specs.internal.EntryLines.{IsReportedFor}

-- the bytes that are left, and one more where there are fields
abbrev pub left : Option (Bor (List ℕ)) → ℕ
left None = 0
left (Some text) = length text.now + 1

pub left_less : (text : Bor (List ℕ)) (others : Option (Bor (List ℕ)))
    → IfSome others (λ others. length others.now < length text.now) → left others ≤ length text.now
left_less text None shorter = omega arith
left_less text (Some others) shorter = omega arith

key_apart : (key : List ℕ) (n m : ℕ) (field : List ℕ) (others : List (List ℕ)) → n ≡ suc m
    → bytes_eq (key_of field) key ≡ false
    → has_key (take n (field ∷ others)) key ≡ has_key (take m others) key
key_apart key n m field others e apart =
    subst (λ n. has_key (take n (field ∷ others)) key ≡ has_key (take m others) key) (sym e)
    (ap (λ b. b || has_key (take m others) key) apart)

pub has_key_more : (key : List ℕ) (n m : ℕ) (fields : List (List ℕ)) (field : List ℕ)
    (others : List (List ℕ)) → fields ≡ field ∷ others → n ≡ suc m
    → bytes_eq (key_of field) key ≡ false
    → has_key (take n fields) key ≡ has_key (take m others) key
has_key_more key n m fields field others is e apart =
    ap (λ l. has_key (take n l) key) is ∙ key_apart key n m field others e apart

-- the faults of fields that follow others
abbrev pub faults_after : ℕ → List (List ℕ) → List (List ℕ) → List TreeFault
faults_after number before [] = []
faults_after number before (field ∷ fields) = cons_option (field_fault number before field)
    (faults_after number (before ++ field ∷ []) fields)

fault_here : (number : ℕ) (before : List (List ℕ)) (field : List ℕ) (fields : List (List ℕ))
    → fault_of_field number (before ++ field ∷ fields) (length before)
    ≡ field_fault number before field
fault_here number before field fields =
    let front : take (length before) (before ++ field ∷ fields) ≡ before =
    grind (arith, common_steps) in
    let here : get_or (before ++ field ∷ fields) (length before) [] ≡ field =
    grind (arith, common_steps) in
    λ k. field_fault number (front k) (here k)

each_after : (number : ℕ) (before fields : List (List ℕ))
    → filter_map (fault_of_field number (before ++ fields))
    (range_with_len (length before) (length fields)) ≡ faults_after number before fields
each_after number before [] = refl
each_after number before (field ∷ fields) =
    let regrouped : before ++ field ∷ fields ≡ (before ++ field ∷ []) ++ fields =
    sym (append_assoc before (field ∷ []) fields) in
    let longer : length before + 1 ≡ length (before ++ field ∷ []) =
    sym (length-append before (field ∷ [])) in
    (λ k. cons_option (fault_here number before field fields k)
    (filter_map (fault_of_field number (regrouped k)) (range_with_len (longer k) (length fields))))
    ∙ ap (cons_option (field_fault number before field))
    (each_after number (before ++ field ∷ []) fields)

-- the faults of fields that were examined, and of those that are left
pub record Passed (number : ℕ) (all rest : List (List ℕ)) (before : List (List ℕ)) : Type 0 where
  pub whole : all ≡ before ++ rest
  pub same : field_faults number all ≡ faults_after number before rest

pub passed_none : (number : ℕ) (all : List (List ℕ)) → Passed number all all []
passed_none number all = record { whole = refl; same = each_after number [] all }

first_of : (number : ℕ) (before : List (List ℕ)) (field : List ℕ) (others : List (List ℕ))
    (fault : TreeFault) (faults : List TreeFault) → field_fault number before field ≡ Some fault
    → slice_get (cons_option (field_fault number before field) faults) 0 ≡ Some fault
first_of number before field others fault faults e = ap (λ o. slice_get (cons_option o faults) 0) e

module _ {number : ℕ} {all rest before : List (List ℕ)} (passed : Passed number all rest before)
    (field : List ℕ) (others : List (List ℕ)) (is : rest ≡ field ∷ others) where
  reported : (fault : TreeFault) → field_fault number before field ≡ Some fault
      → Some fault ≡ slice_get (field_faults number all) 0
  reported fault e = sym (ap (λ l. slice_get l 0) (passed.same ∙ ap (faults_after number before) is)
      ∙ first_of number before field others fault _ e)

  pub repeated : has_equals field ≡ true → has_key before (key_of field) ≡ true
      → Some (RepeatedKey number) ≡ slice_get (field_faults number all) 0
  repeated some there = reported (RepeatedKey number) (grind (arith, some, there))

  pub passed_more : has_equals field ≡ true → has_key before (key_of field) ≡ false
      → Passed number all others (before ++ field ∷ [])
  passed_more some new =
      let none : field_fault number before field ≡ None = grind (arith, some, new) in
      record {
        whole =
            passed.whole ∙ ap (λ l. before ++ l) is ∙ sym (append_assoc before (field ∷ []) others);
        same = passed.same ∙ ap (faults_after number before) is
            ∙ ap (λ o. cons_option o (faults_after number (before ++ field ∷ []) others)) none;
      }

-- ---- with a count of the fields that were examined

pub record Counted (number : ℕ) (all rest : List (List ℕ)) (count : ℕ) : Type 0 where
  pub before : List (List ℕ)
  pub passed : Passed number all rest before
  pub counted : length before ≡ count

pub counted_none : (number : ℕ) (all : List (List ℕ)) → Counted number all all 0
counted_none number all = record { before = []; passed = passed_none number all; counted = refl }

pub front_is : {number : ℕ} {all rest : List (List ℕ)} {count : ℕ}
    (c : Counted number all rest count) → take count all ≡ c.before
front_is c = let e = c.counted in let w = c.passed.whole in rw w (grind (arith, common_steps))

module _ {number : ℕ} {all rest : List (List ℕ)} {count : ℕ} (c : Counted number all rest count)
    (field : List ℕ) (others : List (List ℕ)) (is : rest ≡ field ∷ others) where
  pub repeated_at : has_equals field ≡ true → has_key (take count all) (key_of field) ≡ true
      → Some (RepeatedKey number) ≡ slice_get (field_faults number all) 0
  repeated_at some there = repeated c.passed field others is some
      (ap (λ l. has_key l (key_of field)) (sym (front_is c)) ∙ there)

  -- no fault, so no key twice
  pub new_if_sound : has_equals field ≡ true → field_faults number all ≡ []
      → has_key (take count all) (key_of field) ≡ false
  new_if_sound some sound = by_answer (has_key (take count all) (key_of field)) refl
    where
      by_answer : (b : Bool) → has_key (take count all) (key_of field) ≡ b → b ≡ false
      by_answer false e = refl
      by_answer true e =
          let there : Some (RepeatedKey number) ≡ None =
          repeated_at some e ∙ ap (λ l. slice_get l 0) sound in
          absurd (cc)

  pub counted_more : has_equals field ≡ true → has_key (take count all) (key_of field) ≡ false
      → Counted number all others (count + 1)
  counted_more some new = record {
    before = c.before ++ field ∷ [];
    passed = passed_more c.passed field others is some
        (ap (λ l. has_key l (key_of field)) (sym (front_is c)) ∙ new);
    counted = length-append c.before (field ∷ []) ∙ ap (λ n. n + 1) c.counted;
  }

  -- the fields that were examined, with one more
  pub front_more : take (count + 1) all ≡ take count all ++ field ∷ []
  front_more =
      let longer : length (c.before ++ field ∷ []) ≡ count + 1 =
      length-append c.before (field ∷ []) ∙ ap (λ n. n + 1) c.counted in
      let whole : all ≡ (c.before ++ field ∷ []) ++ others =
      c.passed.whole ∙ ap (λ l. c.before ++ l) is ∙ sym (append_assoc c.before (field ∷ []) others) in
      ap (take (count + 1)) whole
      ∙ ap (λ n. take n ((c.before ++ field ∷ []) ++ others)) (sym longer)
      ∙ take-append_seam (c.before ++ field ∷ []) others
      ∙ ap (λ l. l ++ field ∷ []) (sym (front_is c))

-- ---- what is reported of the fields

no_memory : (number line : ℕ) (bare repeats : Bool)
    → cond bare (Some (NoEquals number)) (cond repeats (Some (RepeatedKey number)) None)
    ≡ Some (Memory line) → ⊥
no_memory number line true repeats is = cc
no_memory number line false true is = cc
no_memory number line false false is = cc

first_memory : (number line : ℕ) (fields : List (List ℕ)) (indices : List ℕ)
    → slice_get (filter_map (fault_of_field number fields) indices) 0 ≡ Some (Memory line) → ⊥
first_memory number line fields [] is = cc
first_memory number line fields (index ∷ indices) is =
    from (first_memory number line fields indices) (fault_of_field number fields index) refl is
  where
    from :
        (slice_get (filter_map (fault_of_field number fields) indices) 0 ≡ Some (Memory line) → ⊥)
        → (o : Option TreeFault) → fault_of_field number fields index ≡ o
        → slice_get (cons_option o (filter_map (fault_of_field number fields) indices)) 0
        ≡ Some (Memory line) → ⊥
    from later None e is = later is
    from later (Some fault) e is = no_memory number line (not (has_equals (get_or fields index [])))
        (has_key (take index fields) (key_of (get_or fields index []))) (e ∙ is)

-- the first fault of the fields is reported as such
pub fields_reported : (number : ℕ) (fields : List (List ℕ)) (fault : TreeFault)
    → Some fault ≡ slice_get (field_faults number fields) 0
    → IsReportedFor number (field_faults number fields) fault
fields_reported number fields (Memory line) is =
    absurd (first_memory number line fields (range_with_len 0 (length fields)) (sym is))
fields_reported number fields (BadDepth line) is = sym is
fields_reported number fields (EmptyName line) is = sym is
fields_reported number fields (NoEquals line) is = sym is
fields_reported number fields (RepeatedKey line) is = sym is

pub no_first : (faults : List TreeFault) → None ≡ slice_get faults 0 → faults ≡ []
no_first [] is = refl
no_first (fault ∷ faults) is = absurd (cc)

-- the fault of a reader of the fields is reported as such
pub each_reported : {A : Type 0} (number : ℕ) (fields : List (List ℕ)) (r : Result A TreeFault)
    → IfErr r (λ fault. Some fault ≡ slice_get (field_faults number fields) 0)
    → IfErr r (IsReportedFor number (field_faults number fields))
each_reported number fields (Ok a) is = tt
each_reported number fields (Err fault) is = fields_reported number fields fault is

-- Where the value of an attribute is in the text of a line's attribute fields.
-- Serves `tree::read_each` (the offsets that a line keeps).
use Rattle.std.proofs.Common.{◌≡◌, ℕ, ◌+◌, ◌-◌, ◌<◌, ◌≤◌, true, List, length, take, drop, get_or, sym, ap, ◌∙◌, subst, arith, eqb-true, Option, None, Some, Bor, ltb-true}
use Rattle.std.specs.Str.{IsUtf8, IsCharBoundary}
use Rattle.std.specs.List.{position_or_len, before_first}
use Rattle.std.proofs.lemmas.List.{length-take-le, length-drop, get_or-take, drop-take}
use Rattle.std.proofs.lemmas.List.Sums.{passes_at_first, prefix_len-le-length}
use Rattle.std.proofs.lemmas.Grind.{common_steps}
use Rattle.std.proofs.lemmas.Str.{IsCharBoundary-after_ascii}
use Rattle.css_text.specs.AsciiBytes.{equals_sign, tab as tab_byte}
use Rattle.cssq_tree.specs.TreeText.{is_tab, is_equals, key_of, value_of, has_equals}
use Rattle.cssq_tree.specs.internal.Spans.{IsAt, IsCut, IsEnd}

drop_add : (n m : ℕ) (xs : List ℕ) → drop m (drop n xs) ≡ drop (n + m) xs
drop_add n m xs = grind (arith, common_steps)

get_or_drop : (n i : ℕ) (xs : List ℕ) → get_or (drop n xs) i 0 ≡ get_or xs (n + i) 0
get_or_drop n i xs = grind (arith, common_steps)

take_of_drop : (len n m : ℕ) (xs : List ℕ) → len + n ≡ m → take len (drop n xs) ≡ drop n (take m xs)
take_of_drop len n m xs is =
    let whole : m ≡ n + len = omega (arith, is) in
    sym (ap (λ k. drop n (take k xs)) whole ∙ drop-take n len xs)

module _ (all t field : List ℕ) (shorter : length t ≤ length all)
    (end : drop (length all - length t) all ≡ t) (cut : field ≡ before_first is_tab t)
    (some : has_equals field ≡ true) where
  abbrev tab : ℕ
  tab = position_or_len is_tab t

  abbrev equals : ℕ
  equals = position_or_len is_equals field

  tab_within : tab ≤ length t
  tab_within = prefix_len-le-length _ t

  field_len : length field ≡ tab
  field_len = ap length cut ∙ length-take-le tab t tab_within

  equals_within : equals < length field
  equals_within = ltb-true equals (length field) some

  key_len : length (key_of field) ≡ equals
  key_len =
      let le : equals ≤ length field = omega (arith, equals_within) in
      length-take-le equals field le

  index : length all - length t + length (key_of field) + 1 ≡ length all - length t + (equals + 1)
  index = omega (arith, key_len)

  rest_is : drop (length all - length t + length (key_of field) + 1) all ≡ drop (equals + 1) t
  rest_is =
      ap (λ n. drop n all) index
      ∙ sym (drop_add (length all - length t) (equals + 1) all)
      ∙ ap (drop (equals + 1)) end

  value_len : length (value_of field) + (equals + 1) ≡ tab
  value_len = omega (arith, length-drop (equals + 1) field, field_len, equals_within)

  value_is : value_of field ≡ take (length (value_of field)) (drop (equals + 1) t)
  value_is =
      ap (drop (equals + 1)) cut
      ∙ sym (take_of_drop (length (value_of field)) (equals + 1) tab t value_len)

  equals_there : get_or all (length all - length t + equals) 0 < 128
  equals_there =
      let found = passes_at_first is_equals field 0 equals_within in
      let byte : get_or field equals 0 ≡ equals_sign =
      eqb-true (get_or field equals 0) equals_sign found in
      let inside : equals < tab = omega (arith, equals_within, field_len) in
      let front : get_or field equals 0 ≡ get_or t equals 0 =
      ap (λ f. get_or f equals 0) cut ∙ get_or-take tab t equals 0 inside in
      let whole : get_or t equals 0 ≡ get_or all (length all - length t + equals) 0 =
      ap (λ l. get_or l equals 0) (sym end) ∙ get_or_drop (length all - length t) equals all in
      omega (arith, byte, front, whole)

  starts : IsUtf8 all → IsCharBoundary all (length all - length t + length (key_of field) + 1)
  starts u = subst (λ k. IsCharBoundary all (length all - length t + k + 1)) (sym key_len)
      (IsCharBoundary-after_ascii all (length all - length t + equals) u
      (omega (arith, shorter, equals_within, field_len, tab_within)) equals_there)

  tab_there : (n : ℕ) → n ≡ tab → n < length t → get_or t n 0 < 128
  tab_there n is lt =
      let found = passes_at_first is_tab t 0 (omega (arith, is)) in
      omega (arith, eqb-true (get_or t tab 0) tab_byte found, ap (λ k. get_or t k 0) is)

  ends : IsCharBoundary (drop (equals + 1) t) (length (value_of field))
  ends = (
    omega (arith, length-drop (equals + 1) t, value_len, tab_within),
    λ lt wide. absurd (omega (
      arith,
      wide,
      get_or_drop (equals + 1) (length (value_of field)) t,
      tab_there (equals + 1 + length (value_of field)) (omega (arith, value_len))
          (omega (arith, lt, length-drop (equals + 1) t)),
    )),
  )

  pub value_at_offset : IsUtf8 all
      → IsAt all (length all - length t + length (key_of field) + 1) (length (value_of field))
      (Some (value_of field))
  value_at_offset u = record {
    starts = starts u;
    ends = subst (λ r. IsCharBoundary r (length (value_of field))) (sym rest_is) ends;
    is = ap Some (value_is ∙ ap (take (length (value_of field))) (sym rest_is));
  }

pub value_here : (all t field : List ℕ) → length t ≤ length all
    → drop (length all - length t) all ≡ t → field ≡ before_first is_tab t → has_equals field ≡ true
    → (key value : List ℕ) → key ≡ key_of field → value ≡ value_of field → IsUtf8 all
    → IsAt all (length all - length t + length key + 1) (length value) (Some value)
value_here all t field shorter end cut some key value key_is value_is u =
    subst (λ k. IsAt all (length all - length t + length k + 1) (length value) (Some value))
    (sym key_is)
    (subst (λ v. IsAt all (length all - length t + length (key_of field) + 1) (length v) (Some v))
    (sym value_is) (value_at_offset all t field shorter end cut some u))

-- what is left of a text is its end
pub end_all : (all : List ℕ)
    → (length all ≤ length all) × (drop (length all - length all) all ≡ all)
end_all all = (
  omega arith,
  ap (λ n. drop n all) (let none : length all - length all ≡ 0 = omega arith in none),
)

pub end_more : (all : List ℕ) (t : Bor (List ℕ)) (others : Option (Bor (List ℕ))) (field : List ℕ)
    → length t.now ≤ length all → drop (length all - length t.now) all ≡ t.now
    → IsCut t.now field others → IsEnd all others
end_more all t None field shorter end cut = tt
end_more all t (Some o) field shorter end cut =
    let len : length o.now + (position_or_len is_tab t.now + 1) ≡ length t.now = omega (
      arith,
      ap length cut.after.0,
      length-drop (position_or_len is_tab t.now + 1) t.now,
      cut.after.1,
    ) in
    let from : length all - length o.now ≡ length all - length t.now
    + (position_or_len is_tab t.now + 1) = omega (arith, len, shorter) in (
      omega (arith, len, shorter),
      ap (λ n. drop n all) from
          ∙ sym (drop_add (length all - length t.now) (position_or_len is_tab t.now + 1) all)
          ∙ ap (drop (position_or_len is_tab t.now + 1)) end ∙ sym cut.after.0,
    )

-- What is to come after each step of the reader.
-- Serves `SheetReader::{leave, step}`.
use Rattle.std.proofs.Common.{◌≡◌, ℕ, zero, suc, ◌+◌, ◌-◌, ◌<◌, ◌≤◌, Bool, true, false, List, [], ◌∷◌, ◌++◌, length, map, Option, Some, None, arith, refl, sym, ap, ◌∙◌, append_assoc, append-nil, length-append, not, ◌==◌, eqb-true}
use Rattle.css_syntax.specs.Statements.{SheetText, past_between}
use Rattle.css_syntax.specs.Contents.{statement_contents}
use Rattle.css_sheet.specs.Places.{PlacesText, places_by}
use Rattle.css_sheet.specs.SheetItems.{ConditionText, SheetItemText, GroupText, group_of, condition_of, next_part, placed_parts, part_items, all_items, each_alone, items_in}
use Rattle.css_sheet.specs.declared.state.Level.{Level}
use Rattle.css_sheet.specs.declared.state.SheetReader.{SheetReader}
use Rattle.css_sheet.specs.declared.reader.Step.{Step}
use Rattle.css_sheet.specs.declared.reader.Step.TheVariants as steps
use Rattle.css_sheet.specs.ReaderViews.{LevelText, level_of, levels_of, left_of, end_of, is_inside, condition_at, is_some_open, still, size_after, Leaves, Steps}
use Rattle.css_sheet.proofs.NextParts.{placed-parts-some, placed-parts-none}
use Rattle.css_sheet.proofs.Sizes.{next-fits}

-- in a block, if a group rule is open
abbrev pub inside : List LevelText → Bool → Bool
inside [] in_block = in_block
inside (l ∷ more) in_block = true

-- the places of the next statement of a text that ends at this offset
abbrev pub place : (end : ℕ) → Bool → List ℕ → SheetText → PlacesText
place end in_block text part =
    places_by end part.statement (past_between in_block text)
    (statement_contents in_block (past_between in_block text))

-- an item
abbrev pub an_item : List ConditionText → SheetText → PlacesText → SheetItemText
an_item conditions part places =
    record { conditions = conditions; part = part; places = places }

-- a group rule that is open, in a text that ends at this offset, and after which this is left
abbrev pub a_level : GroupText → PlacesText → (end : ℕ) → List ℕ → LevelText
a_level group places end rest = record {
  condition = condition_of group places (end - length rest);
  after = rest;
  after_end = end;
}

-- ---- the innermost text

pub items-none : (n : ℕ) (in_block : Bool) (conditions : List ConditionText) (end : ℕ) (text : List ℕ)
    → next_part in_block text ≡ None → items_in n in_block conditions end text ≡ []
unfolding items_in
items-none zero in_block conditions end text e =
    ap (each_alone in_block conditions end) (placed-parts-none in_block text e)
items-none (suc n) in_block conditions end text e =
    ap (all_items (items_in n true) in_block conditions end)
    (placed-parts-none in_block text e)

pub items-alone : (in_block : Bool) (conditions : List ConditionText) (end : ℕ) (text rest : List ℕ)
    (part : SheetText) → next_part in_block text ≡ Some (part, rest)
    → items_in zero in_block conditions end text
    ≡ an_item conditions part (place end in_block text part)
    ∷ items_in zero in_block conditions end rest
unfolding items_in
items-alone in_block conditions end text rest part e =
    ap (each_alone in_block conditions end) (placed-parts-some in_block text rest part e)

pub items-plain : (n : ℕ) (in_block : Bool) (conditions : List ConditionText) (end : ℕ)
    (text rest : List ℕ) (part : SheetText) → next_part in_block text ≡ Some (part, rest)
    → group_of part.statement ≡ None
    → items_in n in_block conditions end text
    ≡ an_item conditions part (place end in_block text part)
    ∷ items_in n in_block conditions end rest
unfolding items_in
items-plain zero in_block conditions end text rest part e g =
    ap (each_alone in_block conditions end) (placed-parts-some in_block text rest part e)
items-plain (suc n) in_block conditions end text rest part e g =
    let more = all_items (items_in n true) in_block conditions end
    (placed_parts in_block rest) in
    ap (all_items (items_in n true) in_block conditions end)
    (placed-parts-some in_block text rest part e)
    ∙ ap (λ (o : Option GroupText). part_items (items_in n true) conditions part
    (place end in_block text part) (end - length rest) o ++ more) g

pub items-group : (n : ℕ) (in_block : Bool) (conditions : List ConditionText) (end : ℕ)
    (text rest : List ℕ) (part : SheetText) (group : GroupText)
    → next_part in_block text ≡ Some (part, rest) → group_of part.statement ≡ Some group
    → items_in (suc n) in_block conditions end text
    ≡ items_in n true
    (conditions ++ condition_of group (place end in_block text part) (end - length rest) ∷ [])
    ((place end in_block text part).block + length group.text) group.text
    ++ items_in (suc n) in_block conditions end rest
unfolding items_in
items-group n in_block conditions end text rest part group e g =
    let more = all_items (items_in n true) in_block conditions end
    (placed_parts in_block rest) in
    ap (all_items (items_in n true) in_block conditions end)
    (placed-parts-some in_block text rest part e)
    ∙ ap (λ (o : Option GroupText). part_items (items_in n true) conditions part
    (place end in_block text part) (end - length rest) o ++ more) g

-- ---- with the group rules that are open

-- in a group rule, whatever is open in it
within : (more : List LevelText) (text rest : List ℕ) (part : SheetText)
    → next_part true text ≡ Some (part, rest)
    → next_part (inside more true) text ≡ Some (part, rest)
within [] text rest part f = f
within (m ∷ others) text rest part f = f

inside-true : (more : List LevelText) → inside more true ≡ true
inside-true [] = refl
inside-true (m ∷ others) = refl

pub still-enter : (levels : List LevelText) (n : ℕ) (in_block : Bool)
    (conditions : List ConditionText) (end : ℕ) (text rest : List ℕ) (part : SheetText)
    (group : GroupText)
    → length levels < n → next_part (inside levels in_block) text ≡ Some (part, rest)
    → group_of part.statement ≡ Some group → (places : PlacesText)
    → places ≡ place end (inside levels in_block) text part
    → still (levels ++ a_level group places end rest ∷ []) n in_block conditions
    (places.block + length group.text) group.text
    ≡ still levels n in_block conditions end text
still-enter [] zero in_block conditions end text rest part group h e g places p =
    absurd (omega arith)
still-enter [] (suc n) in_block conditions end text rest part group h e g places p =
    ap (λ (q : PlacesText). items_in n true
    (conditions ++ condition_of group q (end - length rest) ∷ []) (q.block + length group.text)
    group.text ++ items_in (suc n) in_block conditions end rest) p
    ∙ sym (items-group n in_block conditions end text rest part group e g)
still-enter (l ∷ more) zero in_block conditions end text rest part group h e g places p =
    absurd (omega arith)
still-enter (l ∷ more) (suc n) in_block conditions end text rest part group h e g places p =
    ap (λ (items : List SheetItemText).
    items ++ items_in (suc n) in_block conditions l.after_end l.after)
    (still-enter more n true (conditions ++ l.condition ∷ []) end text rest part group
    (omega arith) (within more text rest part e) g places
    (p ∙ ap (λ (b : Bool). place end b text part) (sym (inside-true more))))

pub still-leave : (levels : List LevelText) (l : LevelText) (n : ℕ) (in_block : Bool)
    (conditions : List ConditionText) (end : ℕ) (text : List ℕ) → length levels < n
    → next_part true text ≡ None
    → still (levels ++ l ∷ []) n in_block conditions end text
    ≡ still levels n in_block conditions l.after_end l.after
still-leave [] l zero in_block conditions end text h e = absurd (omega arith)
still-leave [] l (suc n) in_block conditions end text h e =
    ap (λ (items : List SheetItemText).
    items ++ items_in (suc n) in_block conditions l.after_end l.after)
    (items-none n true (conditions ++ l.condition ∷ []) end text e)
still-leave (k ∷ more) l zero in_block conditions end text h e = absurd (omega arith)
still-leave (k ∷ more) l (suc n) in_block conditions end text h e =
    ap (λ (items : List SheetItemText).
    items ++ items_in (suc n) in_block conditions k.after_end k.after)
    (still-leave more l n true (conditions ++ k.condition ∷ []) end text (omega arith) e)

pub still-ends : (n : ℕ) (in_block : Bool) (conditions : List ConditionText) (end : ℕ)
    (text : List ℕ) → next_part in_block text ≡ None
    → still [] n in_block conditions end text ≡ []
still-ends n in_block conditions end text e = items-none n in_block conditions end text e

-- the conditions of an item, a level at a time
further : (conditions : List ConditionText) (l : LevelText) (more : List LevelText)
    (part : SheetText) (places : PlacesText)
    → an_item ((conditions ++ l.condition ∷ []) ++ map condition_at more) part places
    ≡ an_item (conditions ++ (l.condition ∷ map condition_at more)) part places
further conditions l more part places =
    ap (λ (cs : List ConditionText). an_item cs part places)
    (append_assoc conditions (l.condition ∷ []) (map condition_at more))

pub still-plain : (levels : List LevelText) (n : ℕ) (in_block : Bool)
    (conditions : List ConditionText) (end : ℕ) (text rest : List ℕ) (part : SheetText)
    → length levels ≤ n
    → next_part (inside levels in_block) text ≡ Some (part, rest)
    → group_of part.statement ≡ None → (places : PlacesText)
    → places ≡ place end (inside levels in_block) text part
    → still levels n in_block conditions end text
    ≡ an_item (conditions ++ map condition_at levels) part places
    ∷ still levels n in_block conditions end rest
still-plain [] n in_block conditions end text rest part h e g places p =
    items-plain n in_block conditions end text rest part e g
    ∙ ap (λ (q : PlacesText). an_item conditions part q ∷ items_in n in_block conditions end rest)
    (sym p)
    ∙ ap (λ (cs : List ConditionText). an_item cs part places
    ∷ items_in n in_block conditions end rest) (sym (append-nil conditions))
still-plain (l ∷ more) zero in_block conditions end text rest part h e g places p =
    absurd (omega arith)
still-plain (l ∷ more) (suc n) in_block conditions end text rest part h e g places p =
    let after = items_in (suc n) in_block conditions l.after_end l.after in
    let deeper = conditions ++ l.condition ∷ [] in
    ap (λ (items : List SheetItemText). items ++ after)
    (still-plain more n true deeper end text rest part (omega arith)
    (within more text rest part e) g places
    (p ∙ ap (λ (b : Bool). place end b text part) (sym (inside-true more))))
    ∙ ap (λ (item : SheetItemText). item ∷ (still more n true deeper end rest ++ after))
    (further conditions l more part places)

-- a statement in as many group rules as may be open
pub still-alone : (levels : List LevelText) (n : ℕ) (in_block : Bool)
    (conditions : List ConditionText) (end : ℕ) (text rest : List ℕ) (part : SheetText)
    → length levels ≡ n
    → next_part (inside levels in_block) text ≡ Some (part, rest) → (places : PlacesText)
    → places ≡ place end (inside levels in_block) text part
    → still levels n in_block conditions end text
    ≡ an_item (conditions ++ map condition_at levels) part places
    ∷ still levels n in_block conditions end rest
still-alone [] zero in_block conditions end text rest part h e places p =
    items-alone in_block conditions end text rest part e
    ∙ ap (λ (q : PlacesText). an_item conditions part q ∷ items_in zero in_block conditions end rest)
    (sym p)
    ∙ ap (λ (cs : List ConditionText). an_item cs part places
    ∷ items_in zero in_block conditions end rest) (sym (append-nil conditions))
still-alone [] (suc n) in_block conditions end text rest part h e places p = absurd (omega arith)
still-alone (l ∷ more) zero in_block conditions end text rest part h e places p =
    absurd (omega arith)
still-alone (l ∷ more) (suc n) in_block conditions end text rest part h e places p =
    let after = items_in (suc n) in_block conditions l.after_end l.after in
    let deeper = conditions ++ l.condition ∷ [] in
    ap (λ (items : List SheetItemText). items ++ after)
    (still-alone more n true deeper end text rest part (omega arith)
    (within more text rest part e) places
    (p ∙ ap (λ (b : Bool). place end b text part) (sym (inside-true more))))
    ∙ ap (λ (item : SheetItemText). item ∷ (still more n true deeper end rest ++ after))
    (further conditions l more part places)

-- ---- the group rules as a list

pub inside-open : (levels : List LevelText) → inside levels false ≡ is_some_open levels
inside-open [] = refl
inside-open (l ∷ more) = refl

pub map-last : {A B : Type 0} (f : A → B) (xs : List A) (x : A)
    → map f (xs ++ x ∷ []) ≡ map f xs ++ f x ∷ []
map-last f [] x = refl
map-last f (y ∷ xs) x = ap (λ ys. f y ∷ ys) (map-last f xs x)

pub length-map : {A B : Type 0} (f : A → B) (xs : List A) → length (map f xs) ≡ length xs
length-map f [] = refl
length-map f (x ∷ xs) = ap suc (length-map f xs)

pub open-last : (levels : List LevelText) (l : LevelText) → is_some_open (levels ++ l ∷ []) ≡ true
open-last [] l = refl
open-last (k ∷ more) l = refl

pub size-last : (levels : List LevelText) (l : LevelText)
    → size_after (levels ++ l ∷ []) ≡ size_after levels + suc (length l.after)
size-last [] l = omega arith
size-last (k ∷ more) l = omega (arith, size-last more l)

-- ---- a step, by the list that the reader keeps

abbrev pub texts : List Level → List LevelText
texts levels = map level_of levels

pub is_open_by : (levels : List Level) (len : ℕ) (t : Bool) → t ≡ (len == 0) → len ≡ length levels
    → not t ≡ is_some_open (texts levels)
is_open_by [] len t e h = rw (e, h) refl
is_open_by (l ∷ more) len t e h = by (len == 0) refl
  where
    by : (k : Bool) → (len == 0) ≡ k → not t ≡ true
    by true f = absurd (omega (arith, h, eqb-true len 0 f))
    by false f = rw (e, f) refl

leave-some : (before after : List LevelText) (l : LevelText) (end : ℕ) (text : List ℕ)
    → before ≡ after ++ l ∷ [] → length before ≤ 64
    → next_part (is_some_open before) text ≡ None
    → (still after 64 false [] l.after_end l.after ≡ still before 64 false [] end text)
    × (size_after after + length l.after < size_after before + length text)
leave-some before after l end text e h none =
    let few : length after < 64 = omega (arith, h, ap length e, length-append after (l ∷ [])) in
    let at_end : next_part true text ≡ None =
    ap (λ (b : Bool). next_part b text) (sym (ap is_some_open e ∙ open-last after l)) ∙ none in
    let size : size_after before ≡ size_after after + suc (length l.after) =
    ap size_after e ∙ size-last after l in (
      sym (ap (λ (ls : List LevelText). still ls 64 false [] end text) e
          ∙ still-leave after l 64 false [] end text few at_end),
      omega (arith, size),
    )

leave-none : (before : List LevelText) (end : ℕ) (text : List ℕ) → before ≡ []
    → next_part (is_some_open before) text ≡ None
    → still before 64 false [] end text ≡ []
leave-none before end text e none =
    ap (λ (ls : List LevelText). still ls 64 false [] end text) e
    ∙ still-ends 64 false [] end text
    (ap (λ (ls : List LevelText). next_part (is_some_open ls) text) (sym e) ∙ none)

-- leaving a group rule at its end is a step
pub leaves-step : (before : SheetReader) (step : Step) (after : SheetReader)
    → length (levels_of before) ≤ 64
    → next_part (is_inside before) (left_of before) ≡ None → Leaves before step after
    → Steps before step after
leaves-step before (steps.Found part) after few none h = absurd h
leaves-step before (steps.Entered level) after few none h = absurd h
leaves-step before steps.Left after few none h =
    let l = h.level in
    let s = leave-some (levels_of before) (levels_of after) l (end_of before) (left_of before)
    h.levels few none in (
      ap (λ (end : ℕ). still (levels_of after) 64 false [] end (left_of after)) h.ends
          ∙ ap (λ (text : List ℕ). still (levels_of after) 64 false [] l.after_end text) h.text
          ∙ s.0,
      h,
      omega (arith, s.1, ap length h.text),
    )
leaves-step before steps.Ended after few none h =
    let nothing = leave-none (levels_of before) (end_of before) (left_of before) h.0 none in (
      nothing,
      ap (λ (ls : List LevelText). still ls 64 false [] (end_of after) (left_of after))
          (h.1 ∙ sym h.0)
          ∙ ap (λ (text : List ℕ). still (levels_of before) 64 false [] (end_of after) text) h.2
          ∙ ap (λ (end : ℕ). still (levels_of before) 64 false [] end (left_of before)) h.3
          ∙ nothing,
    )

-- where a statement of the innermost text is
place-open : (levels : List Level) (end : ℕ) (text : List ℕ) (part : SheetText) (places : PlacesText)
    → places ≡ place end (is_some_open (texts levels)) text part
    → places ≡ place end (inside (texts levels) false) text part
place-open levels end text part places p =
    p ∙ ap (λ (b : Bool). place end b text part) (sym (inside-open (texts levels)))

pub enter-some : (before after : List Level) (level : Level) (end : ℕ) (text rest : List ℕ)
    (part : SheetText) (group : GroupText) (places : PlacesText) → after ≡ before ++ level ∷ []
    → length before < 64
    → next_part (is_some_open (texts before)) text ≡ Some (part, rest)
    → group_of part.statement ≡ Some group
    → places ≡ place end (is_some_open (texts before)) text part
    → level_of level ≡ a_level group places end rest
    → (still (texts after) 64 false [] (places.block + length group.text) group.text
    ≡ still (texts before) 64 false [] end text)
    × (size_after (texts after) + length group.text < size_after (texts before) + length text)
enter-some before after level end text rest part group places e h some g p same =
    let l : LevelText = a_level group places end rest in
    let all : texts after ≡ texts before ++ l ∷ [] =
    ap texts e ∙ map-last level_of before level
    ∙ ap (λ (k : LevelText). texts before ++ k ∷ []) same in
    let few : length (texts before) < 64 = omega (arith, h, length-map level_of before) in
    let here : next_part (inside (texts before) false) text ≡ Some (part, rest) =
    ap (λ (b : Bool). next_part b text) (inside-open (texts before)) ∙ some in
    let size : size_after (texts after) ≡ size_after (texts before) + suc (length rest) =
    ap size_after all ∙ size-last (texts before) l in (
      ap (λ (ls : List LevelText). still ls 64 false [] (places.block + length group.text)
          group.text) all
          ∙ still-enter (texts before) 64 false [] end text rest part group few here g places
          (place-open before end text part places p),
      omega (
        arith,
        size,
        next-fits (is_some_open (texts before)) text rest part some group g,
      ),
    )

pub found-plain : (levels : List Level) (end : ℕ) (text rest : List ℕ) (part : SheetText)
    (places : PlacesText) → length levels ≤ 64
    → next_part (is_some_open (texts levels)) text ≡ Some (part, rest)
    → group_of part.statement ≡ None
    → places ≡ place end (is_some_open (texts levels)) text part
    → still (texts levels) 64 false [] end text
    ≡ an_item (map condition_at (texts levels)) part places
    ∷ still (texts levels) 64 false [] end rest
found-plain levels end text rest part places h some g p =
    still-plain (texts levels) 64 false [] end text rest part (omega
    (arith, h, length-map level_of levels))
    (ap (λ (b : Bool). next_part b text) (inside-open (texts levels)) ∙ some) g places
    (place-open levels end text part places p)

pub found-alone : (levels : List Level) (end : ℕ) (text rest : List ℕ) (part : SheetText)
    (places : PlacesText) → length levels ≡ 64
    → next_part (is_some_open (texts levels)) text ≡ Some (part, rest)
    → places ≡ place end (is_some_open (texts levels)) text part
    → still (texts levels) 64 false [] end text
    ≡ an_item (map condition_at (texts levels)) part places
    ∷ still (texts levels) 64 false [] end rest
found-alone levels end text rest part places h some p =
    still-alone (texts levels) 64 false [] end text rest part (length-map level_of levels ∙ h)
    (ap (λ (b : Bool). next_part b text) (inside-open (texts levels)) ∙ some) places
    (place-open levels end text part places p)

pub levels-conditions : (levels : List Level)
    → map (λ level. condition_at (level_of level)) levels ≡ map condition_at (texts levels)
levels-conditions [] = refl
levels-conditions (l ∷ more) =
    ap (λ (cs : List ConditionText). condition_at (level_of l) ∷ cs) (levels-conditions more)

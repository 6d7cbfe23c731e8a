-- What is kept of a list of declarations reads back, has nothing but bytes that may be written, and is
-- kept again. Serves `read_kept`, `clean_style` and the law.
use Rattle.std.proofs.Common.{◌≡◌, ◌∙◌, ◌<◌, ◌≤◌, ℕ, Bool, true, false, not, ◌&&◌, ◌||◌, if◌then◌else◌, List, [], ◌∷◌, ◌++◌, map, length, codes, refl, sym, subst, ap, arith, rules, Option, Some, None, Result, Ok, Err, IfOk, bytes_eq, ◌==◌, eqb-true}
use Rattle.std.proofs.lemmas.Bool.Decides.{nat_tests}
use Rattle.std.proofs.lemmas.List.{append_assoc}
use Rattle.std.specs.List.{All}
use Rattle.std.proofs.lemmas.List.Elements.{All-append, All-cons, All-nil, All-head, All-tail}
use Rattle.css_text.specs.AsciiBytes.{space, backslash}
use Rattle.css_syntax.specs.DeclarationLists.{DeclarationText, ItemText, declared, at_rule_item, skipped_item, ListText, items}
use Rattle.css_syntax.specs.Printing.{ends_lone, lone_end, important_text, stated_text, declaration_text, list_text, DeclarationReadsBack, ItemReadsBack, ItemsReadBack, ListReadsBack, printed_part}
use Rattle.css_clean.specs.Policies.{PolicyText, is_allowed, are_safe, is_safe_byte, is_property, value_allowed}
use Rattle.std.proofs.lemmas.Slice.Eq.{bytes_eq-Decides}
use Rattle.css_syntax.specs.DeclarationLists.{next_item}
use Rattle.css_syntax.proofs.ListSteps.{items-some, items-none}
use Rattle.clean_values.specs.Limits.{is_within_limit}
use Rattle.clean_values.specs.Values.{has_backslash, written_value}
use Rattle.clean_values.specs.Plain.{plain_name, plain_value}
use Rattle.clean_values.specs.Checks.{changes_nothing}
use Rattle.css_clean.specs.Cleaning.{has_escape, without_escapes, is_new, renamed, revalued, written, is_same, is_item, is_first, reads_back, is_kept, kept_written}
use Rattle.css_clean.specs.Cleaning.{kept, kept_item, cleaned, read_of, is_short, IsCleanedOnce, DroppedText, item_dropped, dropped}
use Rattle.css_syntax.specs.Placed.{PlacedItem}
use Rattle.css_text.specs.Reading.{each as each_of}

-- ---- tests that hold

pub both-left : (a b : Bool) → (a && b) ≡ true → a ≡ true
both-left true b e = refl
both-left false b e = e

pub both-right : (a b : Bool) → (a && b) ≡ true → b ≡ true
both-right true b e = e
both-right false true e = refl
both-right false false e = e

pub both : (a b : Bool) → a ≡ true → b ≡ true → (a && b) ≡ true
both true b e f = f
both false b e f = e

pub not-true : (a : Bool) → not a ≡ true → a ≡ false
not-true true e = sym e
not-true false e = refl

not-false : (a : Bool) → not a ≡ false → a ≡ true
not-false true e = refl
not-false false e = sym e

neither-left : (a b : Bool) → (a || b) ≡ false → a ≡ false
neither-left true b e = e
neither-left false b e = refl

neither-right : (a b : Bool) → (a || b) ≡ false → b ≡ false
neither-right true b e = absurd (search rules)
neither-right false b e = e

-- ---- what reads back

abbrev made : (name value : List ℕ) → (important closed : Bool) → DeclarationText
made name value important closed =
    record { name = name; value = value; important = important; closed = closed }

allowed-closed : (p : PolicyText) (d : DeclarationText) → is_allowed p d ≡ true → d.closed ≡ true
allowed-closed p d e =
    both-left _ (not (ends_lone d.value))
    (both-left _ (p.important || not d.important)
    (both-left _ (is_property p d.name)
    (both-left _ (are_safe d.name)
    (both-left _ (are_safe d.value)
    (both-left _ (value_allowed p d.name d.value)
    (both-left _ (is_within_limit p.limits d.name d.value) e))))))

pub allowed-lone : (p : PolicyText) (d : DeclarationText) → is_allowed p d ≡ true → ends_lone d.value ≡ false
allowed-lone p d e =
    not-true (ends_lone d.value) (both-right d.closed (not (ends_lone d.value))
    (both-left _ (p.important || not d.important)
    (both-left _ (is_property p d.name)
    (both-left _ (are_safe d.name)
    (both-left _ (are_safe d.value)
    (both-left _ (value_allowed p d.name d.value)
    (both-left _ (is_within_limit p.limits d.name d.value) e)))))))

allowed-name : (p : PolicyText) (d : DeclarationText) → is_allowed p d ≡ true → are_safe d.name ≡ true
allowed-name p d e =
    both-right _ (are_safe d.name)
    (both-left _ (are_safe d.value)
    (both-left _ (value_allowed p d.name d.value)
    (both-left _ (is_within_limit p.limits d.name d.value) e)))

allowed-value : (p : PolicyText) (d : DeclarationText) → is_allowed p d ≡ true → are_safe d.value ≡ true
allowed-value p d e =
    both-right _ (are_safe d.value)
    (both-left _ (value_allowed p d.name d.value)
    (both-left _ (is_within_limit p.limits d.name d.value) e))

-- what holds of a declaration that is allowed holds of each that is kept of an item
kept-each : (P : DeclarationText → Type 0) (b : Bool) (d : DeclarationText) → (b ≡ true → P d)
    → All P (if b then d ∷ [] else [])
kept-each P true d h = All-cons P d [] (h refl) (All-nil P)
kept-each P false d h = All-nil P

-- what holds of what is written and kept holds of what is kept of it
kept-all : (P : DeclarationText → Type 0) (p : PolicyText) (new : Bool) (w : Option DeclarationText)
    → ((d : DeclarationText) → is_kept p new d ≡ true → P d) → All P (kept_written p new w)
kept-all P p new None h = All-nil P
kept-all P p new (Some d) h = kept-each P (is_kept p new d) d (h d)

kept-allows : (p : PolicyText) (new : Bool) (d : DeclarationText) → is_kept p new d ≡ true → is_allowed p d ≡ true
kept-allows p new d e = both-left (is_allowed p d) (not new || reads_back d) e

-- where nothing is changed, a declaration is written as it is
written-same : (p : PolicyText) (d : DeclarationText) → changes_nothing p.changes ≡ true
    → written p.changes d ≡ Some d
written-same p d e =
    ap (λ (b : Bool). if b then Some d
    else revalued (renamed p.changes d) (written_value p.changes d.name d.value)) e

-- without escapes it is itself
escapes-none : (d : DeclarationText) → has_escape d ≡ false → without_escapes d ≡ d
escapes-none d e =
    ap (λ (b : Bool). if b then made (plain_name d.name) (plain_value d.value) d.important d.closed else d) e

-- what is not new is written as it is
old-same : (p : PolicyText) (d : DeclarationText) → has_escape d ≡ false → changes_nothing p.changes ≡ true
    → written p.changes (without_escapes d) ≡ Some d
old-same p d e n = ap (written p.changes) (escapes-none d e) ∙ written-same p d n

old-escapes : (p : PolicyText) (d : DeclarationText) → is_new p.changes d ≡ false → has_escape d ≡ false
old-escapes p d e = neither-left (has_escape d) (not (changes_nothing p.changes)) e

old-changes : (p : PolicyText) (d : DeclarationText) → is_new p.changes d ≡ false → changes_nothing p.changes ≡ true
old-changes p d e =
    not-false (changes_nothing p.changes) (neither-right (has_escape d) (not (changes_nothing p.changes)) e)

-- what is new reads back
kept-reads-back : (p : PolicyText) (d : DeclarationText) → is_kept p true d ≡ true → reads_back d ≡ true
kept-reads-back p d e = both-right (is_allowed p d) (reads_back d) e

abbrev part-back : ListText → Type 0
part-back part = ItemReadsBack part.item

same-is : (a b : Bool) → is_same a b ≡ true → a ≡ b
same-is true b e = sym e
same-is false b e = sym (not-true b e)

made-same : (n m v w : List ℕ) (i j c k : Bool) → n ≡ m → v ≡ w → i ≡ j → c ≡ k
    → made n v i c ≡ made m w j k
made-same n m v w i j c k e f g h =
    ap (λ (x : List ℕ). made x v i c) e ∙ ap (λ (x : List ℕ). made m x i c) f
    ∙ ap (λ (x : Bool). made m w x c) g ∙ ap (λ (x : Bool). made m w j x) h

-- an item that is a declaration
item-is : (d e : DeclarationText) → is_item d (declared e) ≡ true → e ≡ d
item-is d e t =
    let name = bytes_eq e.name d.name in
    let value = bytes_eq e.value d.value in
    let important = is_same e.important d.important in
    let closed = is_same e.closed d.closed in
    let front : (name && value && important) ≡ true = both-left (name && value && important) closed t in
    let both-texts : (name && value) ≡ true = both-left (name && value) important front in
    made-same e.name d.name e.value d.value e.important d.important e.closed d.closed
    ((bytes_eq-Decides e.name d.name).0 (both-left name value both-texts))
    ((bytes_eq-Decides e.value d.value).0 (both-right name value both-texts))
    (same-is e.important d.important (both-right (name && value) important front))
    (same-is e.closed d.closed (both-right (name && value && important) closed t))

item-reads : (d : DeclarationText) (i : ItemText) → ItemReadsBack i → d.closed ≡ true
    → ends_lone d.value ≡ false → is_item d i ≡ true → DeclarationReadsBack d
item-reads d (declared e) h c l t =
    let same : e ≡ d = item-is d e t in
    subst DeclarationReadsBack same
    (h (ap (λ (x : DeclarationText). x.closed) same ∙ c)
    (ap (λ (x : DeclarationText). ends_lone x.value) same ∙ l))
item-reads d (at_rule_item a) h c l t = absurd (search rules)
item-reads d (skipped_item fault) h c l t = absurd (search rules)

first-reads : (d : DeclarationText) (parts : List ListText) → All part-back parts → d.closed ≡ true
    → ends_lone d.value ≡ false → is_first d parts ≡ true → DeclarationReadsBack d
first-reads d [] all c l t = absurd (search rules)
first-reads d (part ∷ more) all c l t =
    item-reads d part.item (All-head part-back part more all) c l t

-- the first item of a text, by its reader
pub first_some : (d : DeclarationText) (text rest : List ℕ) (part : ListText)
    → next_item false text ≡ Some (part, rest) → is_first d (items false text) ≡ is_item d part.item
first_some d text rest part e = ap (is_first d) (items-some false text rest part e)

pub first_none : (d : DeclarationText) (text : List ℕ) → next_item false text ≡ None
    → is_first d (items false text) ≡ false
first_none d text e = ap (is_first d) (items-none false text e)

-- what is kept of a declaration that reads back reads back
written-back : (p : PolicyText) (d : DeclarationText) (new : Bool) → is_new p.changes d ≡ new
    → ((bs : List ℕ) → ItemsReadBack false bs) → ItemReadsBack (declared d)
    → All DeclarationReadsBack (kept_written p new (written p.changes (without_escapes d)))
written-back p d false n each h =
    subst (λ w. All DeclarationReadsBack (kept_written p false w))
    (sym (old-same p d (old-escapes p d n) (old-changes p d n)))
    (kept-each DeclarationReadsBack (is_kept p false d) d
    (λ e. h (allowed-closed p d (kept-allows p false d e)) (allowed-lone p d (kept-allows p false d e))))
written-back p d true n each h =
    kept-all DeclarationReadsBack p true (written p.changes (without_escapes d))
    (λ x e. first-reads x (items false (declaration_text x)) (each (declaration_text x))
    (allowed-closed p x (kept-allows p true x e)) (allowed-lone p x (kept-allows p true x e))
    (kept-reads-back p x e))

item-back : (p : PolicyText) (i : ItemText) → ((bs : List ℕ) → ItemsReadBack false bs) → ItemReadsBack i
    → All DeclarationReadsBack (kept_item p i)
item-back p (declared d) each h = written-back p d (is_new p.changes d) refl each h
item-back p (at_rule_item a) each h = All-nil DeclarationReadsBack
item-back p (skipped_item fault) each h = All-nil DeclarationReadsBack

pub kept-back : (p : PolicyText) → ((bs : List ℕ) → ItemsReadBack false bs) → (parts : List ListText)
    → All (λ part. ItemReadsBack part.item) parts → All DeclarationReadsBack (kept p parts)
kept-back p each [] all = All-nil DeclarationReadsBack
kept-back p each (part ∷ more) all =
    All-append DeclarationReadsBack (kept_item p part.item) (kept p more)
    (item-back p part.item each (All-head part-back part more all))
    (kept-back p each more (All-tail part-back part more all))

-- ---- bytes

pub safe-append : (xs ys : List ℕ) → are_safe xs ≡ true → are_safe ys ≡ true → are_safe (xs ++ ys) ≡ true
safe-append [] ys e f = f
safe-append (x ∷ xs) ys e f =
    both (is_safe_byte x) (are_safe (xs ++ ys)) (both-left (is_safe_byte x) (are_safe xs) e)
    (safe-append xs ys (both-right (is_safe_byte x) (are_safe xs) e) f)

lone-safe : (v : List ℕ) → ends_lone v ≡ false → are_safe (lone_end v) ≡ true
lone-safe v e = ap (λ (b : Bool). are_safe (if b then 239 ∷ 191 ∷ 189 ∷ [] else [])) e

important-safe : (b : Bool) → are_safe (important_text b) ≡ true
important-safe true = refl
important-safe false = refl

abbrev SafeText : DeclarationText → Type 0
SafeText d = are_safe (declaration_text d) ≡ true

text-safe : (d : DeclarationText) → are_safe d.name ≡ true → are_safe d.value ≡ true
    → ends_lone d.value ≡ false → SafeText d
text-safe d n v l =
    safe-append (stated_text d) (codes ";")
    (safe-append (d.name ++ codes ": " ++ d.value ++ lone_end d.value) (important_text d.important)
    (safe-append (d.name ++ codes ": " ++ d.value) (lone_end d.value)
    (safe-append (d.name ++ codes ": ") d.value (safe-append d.name (codes ": ") n refl) v)
    (lone-safe d.value l)) (important-safe d.important)) refl

item-safe : (p : PolicyText) (i : ItemText) → All SafeText (kept_item p i)
item-safe p (declared d) =
    let new = is_new p.changes d in
    kept-all SafeText p new (written p.changes (without_escapes d))
    (λ x e. text-safe x (allowed-name p x (kept-allows p new x e)) (allowed-value p x (kept-allows p new x e))
    (allowed-lone p x (kept-allows p new x e)))
item-safe p (at_rule_item a) = All-nil SafeText
item-safe p (skipped_item fault) = All-nil SafeText

kept-safe : (p : PolicyText) (parts : List ListText) → All SafeText (kept p parts)
kept-safe p [] = All-nil SafeText
kept-safe p (part ∷ more) =
    All-append SafeText (kept_item p part.item) (kept p more) (item-safe p part.item) (kept-safe p more)

list-safe : (ds : List DeclarationText) → All SafeText ds → are_safe (list_text ds) ≡ true
list-safe [] all = refl
list-safe (d ∷ []) all = All-head SafeText d [] all
list-safe (d ∷ e ∷ more) all =
    safe-append (declaration_text d) (space ∷ list_text (e ∷ more)) (All-head SafeText d (e ∷ more) all)
    (list-safe (e ∷ more) (All-tail SafeText d (e ∷ more) all))

pub kept-list-safe : (p : PolicyText) (parts : List ListText) → are_safe (list_text (kept p parts)) ≡ true
kept-list-safe p parts = list-safe (kept p parts) (kept-safe p parts)

-- ---- the whole

-- where a limit is met: what follows from what holds of an `Ok`
pub if_ok : {A E : Type 0} (r : Result A E) (P Q : A → Type 0) → IfOk r P → ((x : A) → P x → Q x)
    → IfOk r Q
if_ok (Ok x) P Q h f = f x h
if_ok (Err e) P Q h f = tt

pub not-short : (p : PolicyText) (text : List ℕ) → p.longest < length text → is_short p text ≡ false
not-short p text h = grind (arith, nat_tests)

pub long-is : (p : PolicyText) (text : List ℕ) → p.longest < length text → read_of p text ≡ []
long-is p text h = ap (λ (b : Bool). if b then text else []) (not-short p text h)

pub is-short : (p : PolicyText) (text : List ℕ) → length text ≤ p.longest → is_short p text ≡ true
is-short p text h = grind (arith, nat_tests)

pub short-is : (p : PolicyText) (text : List ℕ) → length text ≤ p.longest → read_of p text ≡ text
short-is p text h = ap (λ (b : Bool). if b then text else []) (is-short p text h)

items-nil : items false [] ≡ []
unfolding items each_of
items-nil = refl

pub cleaned-nil : (p : PolicyText) (text : List ℕ) → read_of p text ≡ [] → cleaned p (read_of p text) ≡ []
cleaned-nil p text e = rw e (ap (λ parts. list_text (kept p parts)) items-nil)

pub reads-nil : (p : PolicyText) (text out : List ℕ) → out ≡ [] → read_of p text ≡ []
    → items false out ≡ map printed_part (kept p (items false (read_of p text)))
reads-nil p text out e f =
    ap (items false) e ∙ items-nil
    ∙ sym (rw f (ap (λ parts. map printed_part (kept p parts)) items-nil))

-- What is printed of what is kept, read again.
kept-reads : (p : PolicyText) (text : List ℕ) → ((bs : List ℕ) → ItemsReadBack false bs)
    → ((xs : List DeclarationText) → ListReadsBack xs)
    → items false (cleaned p text) ≡ map printed_part (kept p (items false text))
kept-reads p text each lists =
    lists (kept p (items false text)) (kept-back p each (items false text) (each text)) false

pub reads-kept : (p : PolicyText) (text out : List ℕ)
    → ((bs : List ℕ) → ItemsReadBack false bs) → ((xs : List DeclarationText) → ListReadsBack xs)
    → out ≡ cleaned p text → read_of p text ≡ text
    → items false out ≡ map printed_part (kept p (items false (read_of p text)))
reads-kept p text out each lists e f =
    ap (items false) e ∙ kept-reads p text each lists
    ∙ ap (λ t. map printed_part (kept p (items false t))) (sym f)

pub safe-kept : (p : PolicyText) (text out : List ℕ) → out ≡ cleaned p text → are_safe out ≡ true
safe-kept p text out e = ap are_safe e ∙ kept-list-safe p (items false text)

-- ---- cleaned again

abbrev Allowed : PolicyText → DeclarationText → Type 0
Allowed p d = is_allowed p d ≡ true

kept-allowed-item : (p : PolicyText) (i : ItemText) → All (Allowed p) (kept_item p i)
kept-allowed-item p (declared d) =
    let new = is_new p.changes d in
    kept-all (Allowed p) p new (written p.changes (without_escapes d)) (λ x e. kept-allows p new x e)
kept-allowed-item p (at_rule_item a) = All-nil (Allowed p)
kept-allowed-item p (skipped_item fault) = All-nil (Allowed p)

kept-allowed : (p : PolicyText) (parts : List ListText) → All (Allowed p) (kept p parts)
kept-allowed p [] = All-nil (Allowed p)
kept-allowed p (part ∷ more) =
    All-append (Allowed p) (kept_item p part.item) (kept p more) (kept-allowed-item p part.item)
    (kept-allowed p more)

-- a byte that may be written is no backslash
byte-plain : (b : ℕ) → is_safe_byte b ≡ true → (b == backslash) ≡ false
byte-plain b e = by (b == backslash) refl
  where
    by : (k : Bool) → (b == backslash) ≡ k → (b == backslash) ≡ false
    by true f =
        absurd
        (let wrong : is_safe_byte backslash ≡ true = subst (λ (x : ℕ). is_safe_byte x ≡ true) (eqb-true b backslash f) e
        in search rules)
    by false f = f

safe-plain : (text : List ℕ) → are_safe text ≡ true → has_backslash text ≡ false
safe-plain [] e = refl
safe-plain (b ∷ text) e =
    ap (λ (k : Bool). k || has_backslash text) (byte-plain b (both-left (is_safe_byte b) (are_safe text) e))
    ∙ safe-plain text (both-right (is_safe_byte b) (are_safe text) e)

allowed-plain : (p : PolicyText) (d : DeclarationText) → is_allowed p d ≡ true → has_escape d ≡ false
allowed-plain p d e =
    ap (λ (k : Bool). k || has_backslash d.value) (safe-plain d.name (allowed-name p d e))
    ∙ safe-plain d.value (allowed-value p d e)

one-kept : (p : PolicyText) (d : DeclarationText) → changes_nothing p.changes ≡ true → is_allowed p d ≡ true
    → kept_item p (declared d) ≡ d ∷ []
one-kept p d n a =
    let plain = allowed-plain p d a in
    let old : is_new p.changes d ≡ false =
    ap (λ (k : Bool). k || not (changes_nothing p.changes)) plain ∙ ap not n in
    ap (λ (k : Bool). kept_written p k (written p.changes (without_escapes d))) old
    ∙ ap (kept_written p false) (old-same p d plain n)
    ∙ ap (λ (k : Bool). if k then d ∷ [] else []) (both (is_allowed p d) true a refl)

kept-printed : (p : PolicyText) → changes_nothing p.changes ≡ true → (ds : List DeclarationText)
    → All (Allowed p) ds → kept p (map printed_part ds) ≡ ds
kept-printed p n [] all = refl
kept-printed p n (d ∷ more) all =
    ap (λ ds. ds ++ kept p (map printed_part more)) (one-kept p d n (All-head (Allowed p) d more all))
    ∙ ap (λ ds. d ∷ ds) (kept-printed p n more (All-tail (Allowed p) d more all))

pub clean-again : (p : PolicyText) (text : List ℕ) → ((bs : List ℕ) → ItemsReadBack false bs)
    → ((xs : List DeclarationText) → ListReadsBack xs) → IsCleanedOnce p text
clean-again p text each lists n =
    ap (λ parts. list_text (kept p parts)) (kept-reads p text each lists)
    ∙ ap list_text (kept-printed p n (kept p (items false text)) (kept-allowed p (items false text)))

-- ---- what is dropped

-- an item in its place, and those that follow it
pub left-at : (p : PolicyText) (stop : ℕ) (front : List DroppedText) (part : ListText)
    (from found : List ℕ) (more : List PlacedItem) → found ≡ from
    → front ++ dropped p stop (record { part = part; from = from } ∷ more)
    ≡ (front ++ item_dropped p stop found part.text part.item) ++ dropped p stop more
left-at p stop front part from found more e =
    rw e (sym (append_assoc front (item_dropped p stop from part.text part.item) (dropped p stop more)))

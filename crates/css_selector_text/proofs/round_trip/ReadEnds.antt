-- What is left after reading is an end of the text.
-- Serves `reading_laws::places_law`.
use Rattle.std.proofs.Common.{◌≡◌, ℕ, zero, suc, ◌==◌, ◌||◌, ◌&&◌, not, Bool, true, false, List, [], ◌∷◌, Option, None, Some, All, length, refl, subst}
use Rattle.std.proofs.lemmas.List.Elements.{All-nil, All-cons}
use Rattle.std.specs.Prelude.{codes, if◌then◌else◌}
use Rattle.css_text.specs.AsciiBytes.{asterisk, close_bracket, close_parenthesis, colon, comma, equals_sign, full_stop, hyphen, number_sign, open_bracket, open_parenthesis, plus_sign}
use Rattle.css_text.specs.Bytes.{is_digit, past_byte, past_one, starts, starts_by}
use Rattle.css_text.specs.Comments.{opens_comment, gap as gap_before}
use Rattle.css_text.specs.Reading.{Ends, Reading as TextReading, got as text_got, fails as text_fails, left_after}
use Rattle.css_text.specs.Strings.{is_quote}
use Rattle.css_text.proofs.reading.EndsLemmas.{EndsFound, each-ends, ends-cons, ends-ends, ends-nil, ends-past_byte, ends-past_one, ends-same, ends-tail}
use Rattle.css_text.proofs.reading.WellLemmas.{well-gap}
use Rattle.css_syntax.specs.ComponentValues.{component_value, deepest as deepest_brackets}
use Rattle.css_syntax.specs.Parts.{parts as parts_stated}
use Rattle.css_syntax.specs.Statements.{begins_cdc}
use Rattle.css_syntax.specs.Tokens.{past_comment, past_gap, past_string_parts, past_word}
use Rattle.css_syntax.proofs.PartTexts.{parts-ends}
use Rattle.css_syntax.proofs.Utf8Ends.{comment-well, gap-well, string_parts_ends, value-leaves_text, word-well}
use Rattle.css_matching.specs.declared.Combinator.{Combinator}
use Rattle.css_matching.specs.declared.Combinator.TheVariants.{Descendant}
use Rattle.css_selector_text.specs.declared.components.Function.{Function}
use Rattle.css_selector_text.specs.declared.components.Function.TheVariants.{Numbered, Language}
use Rattle.css_selector_text.specs.declared.components.ListKind.{ListKind}
use Rattle.css_selector_text.specs.declared.components.ListKind.TheVariants.{Not}
use Rattle.css_selector_text.specs.declared.components.Numbering.{Numbering}
use Rattle.css_selector_text.specs.declared.reading.Start.{Start}
use Rattle.css_selector_text.specs.declared.reading.Start.TheVariants.{Plain, Relative}
use Rattle.css_selector_text.specs.declared.refusal.Why.{Why}
use Rattle.css_selector_text.specs.declared.refusal.Why.TheVariants.{Unexpected}
use Rattle.css_selector_text.specs.Components.{Comparison, Condition, ListTest, Namespace, Part, Placed, Progression, PseudoElement, Signed, Simple, Structure, outermost}
use Rattle.css_selector_text.specs.Components.Simple.{class, id, nesting, state}
use Rattle.css_selector_text.specs.Components.Condition.{simple}
use Rattle.css_selector_text.specs.reading.Readings.{Reading, got, refused, Reader, follow, give, ◌>>=◌, ◌>>◌, Step, item, none, stop, step_after, as_item, with_first, go_on, items, items_up_to}
use Rattle.css_selector_text.specs.reading.KnownNames.{element_functions, functions, is_element, is_one_of, states}
use Rattle.css_selector_text.specs.reading.Grammar
use Rattle.css_selector_text.specs.reading.Defaults.{in_default}
use Rattle.css_selector_text.specs.Names.{Names}

-- ---- readers

-- what a reading leaves is an end of the text
abbrev pub Leaves : {A : Type 0} → List ℕ → Reading A → Type 0
Leaves text (got x rest) = Ends text rest
Leaves text (refused why rest) = Unit {0}

-- the same of an item
abbrev pub LeavesAfter : {A : Type 0} → List ℕ → Step A → Type 0
LeavesAfter text (item x rest) = Ends text rest
LeavesAfter text none = Unit {0}
LeavesAfter text (stop why rest) = Unit {0}

pub through : {A : Type 0} (text middle : List ℕ) (r : Reading A) → Ends text middle
    → Leaves middle r → Leaves text r
through text middle (got x rest) e h = ends-ends text middle rest e h
through text middle (refused why rest) e h = tt

through_step : {A : Type 0} (text middle : List ℕ) (s : Step A) → Ends text middle
    → LeavesAfter middle s → LeavesAfter text s
through_step text middle (item x rest) e h = ends-ends text middle rest e h
through_step text middle none e h = tt
through_step text middle (stop why rest) e h = tt

pub follow-leaves : {A B : Type 0} (text : List ℕ) (r : Reading A) (next : A → Reader B)
    → Leaves text r → ((x : A) (middle : List ℕ) → Leaves middle (next x middle))
    → Leaves text (follow r next)
follow-leaves text (got x middle) next h more =
    through text middle (next x middle) h (more x middle)
follow-leaves text (refused why middle) next h more = tt

pub if-leaves : {A : Type 0} (text : List ℕ) (k : Bool) (r s : Reading A) → Leaves text r
    → Leaves text s → Leaves text (if k then r else s)
if-leaves text true r s h l = h
if-leaves text false r s h l = l

step_if-leaves : {A : Type 0} (text : List ℕ) (k : Bool) (r s : Step A) → LeavesAfter text r
    → LeavesAfter text s → LeavesAfter text (if k then r else s)
step_if-leaves text true r s h l = h
step_if-leaves text false r s h l = l

step_after-leaves : {A B : Type 0} (text : List ℕ) (r : Reading A) (next : A → List ℕ → Step B)
    → Leaves text r → ((x : A) (middle : List ℕ) → LeavesAfter middle (next x middle))
    → LeavesAfter text (step_after r next)
step_after-leaves text (got x middle) next h more =
    through_step text middle (next x middle) h (more x middle)
step_after-leaves text (refused why middle) next h more = tt

as_item-leaves : {A B : Type 0} (text : List ℕ) (make : A → B) (r : Reading A) → Leaves text r
    → LeavesAfter text (as_item make r)
as_item-leaves text make (got x rest) h = h
as_item-leaves text make (refused why rest) h = tt

first-leaves : {A : Type 0} (text : List ℕ) (x : A) (r : Reading (List A)) → Leaves text r
    → Leaves text (with_first x r)
first-leaves text x (got xs rest) h = h
first-leaves text x (refused why rest) h = tt

go_on-leaves : {A : Type 0} (text : List ℕ) (s : Step A) (next : Reader (List A))
    → LeavesAfter text s → ((rest : List ℕ) → Leaves rest (next rest))
    → Leaves text (go_on text s next)
go_on-leaves text (item x rest) next h more =
    first-leaves text x (next rest) (through text rest (next rest) h (more rest))
go_on-leaves text none next h more = ends-same text
go_on-leaves text (stop why rest) next h more = tt

module _ {A : Type 0} (read : List ℕ → Step A)
    (each : (text : List ℕ) → LeavesAfter text (read text)) where
  up_to-leaves : (n : ℕ) (text : List ℕ) → Leaves text (items_up_to n read text)
  up_to-leaves zero text = ends-same text
  up_to-leaves (suc n) text = go_on-leaves text (read text) (items_up_to n read) (each text)
      (up_to-leaves n)

  pub items-leaves : (text : List ℕ) → Leaves text (items read text)
  items-leaves text = up_to-leaves (length text) text

-- ---- gaps, names, strings

pub gap-leaves : (text : List ℕ) → Leaves text (Grammar.gap text)
unfolding Grammar.gap
gap-leaves text = by (gap_before text) (well-gap text).0
  where
    by : (r : TextReading Bool) → Ends text (left_after r) → Leaves text (Grammar.closed_gap r)
    by (text_got spaced rest) h = h
    by (text_fails fault rest) h = ends-nil text

comment-ends : (text : List ℕ) → EndsFound text (Grammar.comment_part text)
comment-ends text = by (opens_comment text)
  where
    by : (k : Bool) → EndsFound text (if k then Some (tt {0}, past_comment text) else None)
    by true = (comment-well text).0
    by false = tt

pub past_comments-ends : (text : List ℕ) → Ends text (Grammar.past_comments text)
past_comments-ends text = each-ends Grammar.comment_part comment-ends text

-- comments after an end of the text
comments_after : (text middle : List ℕ) → Ends text middle
    → Ends text (Grammar.past_comments middle)
comments_after text middle e =
    ends-ends text middle (Grammar.past_comments middle) e (past_comments-ends middle)

-- comments after a byte
after_sign-ends : (text : List ℕ) → Ends text (Grammar.past_comments (past_one text))
after_sign-ends text = comments_after text (past_one text) (ends-past_one text)

word-ends : (text : List ℕ) → Ends text (past_word text)
word-ends text = (word-well text).0

ident-leaves : (text : List ℕ) → Leaves text (Grammar.ident_sequence text)
unfolding Grammar.ident_sequence
ident-leaves text =
    if-leaves text (Grammar.begins_name text) (Grammar.word_here text) _ (word-ends text) tt

name-leaves : (text : List ℕ) → Leaves text (Grammar.name text)
unfolding Grammar.name
name-leaves text =
    if-leaves text (begins_cdc text) _ (Grammar.ident_sequence text) tt (ident-leaves text)

closed-leaves : (text opened : List ℕ) (quote : ℕ) (value rest : List ℕ) → Ends text rest
    → Leaves text (Grammar.closed_string opened quote value rest)
closed-leaves text opened quote value [] e = e
closed-leaves text opened quote value (b ∷ rest) e =
    if-leaves text (b == quote) (got value rest) _
    (ends-ends text (b ∷ rest) rest e (ends-tail b rest)) tt

string-leaves : (opened : List ℕ) (quote : ℕ) (text : List ℕ)
    → Leaves text (Grammar.string opened quote text)
unfolding Grammar.string
string-leaves opened quote text =
    closed-leaves text opened quote _ (past_string_parts quote text) (string_parts_ends quote text)

closing-leaves : (byte : ℕ) (text : List ℕ) → Leaves text (Grammar.closing byte text)
closing-leaves byte [] = ends-same []
closing-leaves byte (b ∷ text) =
    if-leaves (b ∷ text) (b == byte) (got (tt {0}) text) _ (ends-tail b text) tt

-- what closes, and then a value
closed_with : {A : Type 0} (byte : ℕ) (x : A) (text : List ℕ)
    → Leaves text (follow (Grammar.closing byte text) (λ closed. got x))
closed_with byte x text =
    follow-leaves text (Grammar.closing byte text) (λ closed. got x) (closing-leaves byte text)
    (λ closed rest. ends-same rest)

-- a gap, and then what `next` reads
after_gap : {A : Type 0} (text : List ℕ) (next : Reader A)
    → ((rest : List ℕ) → Leaves rest (next rest))
    → Leaves text (follow (Grammar.gap text) (λ spaced. next))
after_gap text next more =
    follow-leaves text (Grammar.gap text) (λ spaced. next) (gap-leaves text) (λ spaced. more)

-- ---- namespaces and attributes

any_name-ends : (text : List ℕ) → Ends text (Grammar.past_any_name text)
any_name-ends text = by (starts asterisk text) (Grammar.begins_name text)
  where
    by : (k m : Bool)
        → Ends text (if k then past_one text else (if m then past_word text else text))
    by true m = ends-past_one text
    by false true = word-ends text
    by false false = ends-same text

bar-ends : (text : List ℕ) → Ends text (Grammar.at_bar text)
unfolding Grammar.at_bar
bar-ends text = comments_after text (Grammar.past_any_name text) (any_name-ends text)

declared-leaves : (text : List ℕ) (o : Option Namespace) (rest : List ℕ) → Ends text rest
    → Leaves text (Grammar.if_declared text o rest)
declared-leaves text None rest e = tt
declared-leaves text (Some n) rest e = e

namespace-leaves : (names : Names) (text : List ℕ) → Leaves text (Grammar.namespace names text)
unfolding Grammar.namespace
namespace-leaves names text =
    if-leaves text (Grammar.is_bar (Grammar.at_bar text)) _ _
    (declared-leaves text (Grammar.prefix names text) _
    (ends-ends text (Grammar.at_bar text) _ (bar-ends text) (after_sign-ends (Grammar.at_bar text))))
    (ends-same text)

compared_by-leaves : (text : List ℕ) (o : Option Comparison)
    → Leaves text (Grammar.compared_by text o)
compared_by-leaves text None = tt
compared_by-leaves text (Some c) =
    if-leaves text (starts equals_sign (past_one text)) (got (Some c) (past_one (past_one text))) _
    (ends-ends text (past_one text) _ (ends-past_one text) (ends-past_one (past_one text))) tt

comparison-leaves : (text : List ℕ) → Leaves text (Grammar.comparison text)
unfolding Grammar.comparison
comparison-leaves [] = ends-same []
comparison-leaves (b ∷ text) =
    if-leaves (b ∷ text) (b == close_bracket) _ _ (ends-same (b ∷ text))
    (if-leaves (b ∷ text) (b == equals_sign) _
    (Grammar.compared_by (b ∷ text) (Grammar.two_bytes b))
    (if-leaves (b ∷ text) (starts_by Grammar.is_sign_byte text) _ _ tt (ends-tail b text))
    (compared_by-leaves (b ∷ text) (Grammar.two_bytes b)))

value-leaves : (text : List ℕ) → Leaves text (Grammar.value text)
unfolding Grammar.value
value-leaves [] = tt
value-leaves (b ∷ text) =
    if-leaves (b ∷ text) (is_quote b) (Grammar.string (b ∷ text) b text) (Grammar.name (b ∷ text))
    (through (b ∷ text) text (Grammar.string (b ∷ text) b text) (ends-tail b text)
    (string-leaves (b ∷ text) b text))
    (name-leaves (b ∷ text))

flag_named-leaves : (start word rest : List ℕ) → Leaves rest (Grammar.flag_named start word rest)
flag_named-leaves start word rest =
    if-leaves rest (Grammar.is_word (codes "i") word) _ _ (ends-same rest)
    (if-leaves rest (Grammar.is_word (codes "s") word) _ _ (ends-same rest) tt)

flag-leaves : (text : List ℕ) → Leaves text (Grammar.flag text)
unfolding Grammar.flag
flag-leaves [] = ends-same []
flag-leaves (b ∷ text) =
    if-leaves (b ∷ text) (b == close_bracket) _ _ (ends-same (b ∷ text))
    (follow-leaves (b ∷ text) (Grammar.name (b ∷ text)) (Grammar.flag_named (b ∷ text))
    (name-leaves (b ∷ text)) (flag_named-leaves (b ∷ text)))

compared-leaves : (n : List ℕ) (c : Comparison) (text : List ℕ)
    → Leaves text (Grammar.compared n c text)
unfolding Grammar.compared
compared-leaves n c text =
    after_gap text _ (λ t. follow-leaves t (Grammar.value t) _ (value-leaves t) (λ v t2.
    after_gap t2 _ (λ t3. follow-leaves t3 (Grammar.flag t3) _ (flag-leaves t3) (λ i t4.
    after_gap t4 _ (closed_with close_bracket _)))))

by_comparison-leaves : (n : List ℕ) (o : Option Comparison) (text : List ℕ)
    → Leaves text (Grammar.by_comparison n o text)
by_comparison-leaves n None text = closed_with close_bracket _ text
by_comparison-leaves n (Some c) text = compared-leaves n c text

attribute_name-leaves : (text : List ℕ) → Leaves text (Grammar.attribute_from_name text)
unfolding Grammar.attribute_from_name
attribute_name-leaves text =
    follow-leaves text (Grammar.name text) _ (name-leaves text) (λ n t. after_gap t _ (λ t2.
    follow-leaves t2 (Grammar.comparison t2) _ (comparison-leaves t2) (by_comparison-leaves n)))

attribute-leaves : (names : Names) (text : List ℕ) → Leaves text (Grammar.attribute_selector names text)
unfolding Grammar.attribute_selector
attribute-leaves names text =
    after_gap text _ (λ t. follow-leaves t (Grammar.namespace names t) _ (namespace-leaves names t) (λ n t2.
    follow-leaves t2 (Grammar.attribute_from_name t2) _ (attribute_name-leaves t2)
    (λ local. ends-same)))

-- ---- An+B

digits-ends : (so_far : ℕ) (text : List ℕ) → Ends text (Grammar.digits so_far text).1
digits-ends so_far [] = ends-same []
digits-ends so_far (b ∷ text) = by (is_digit b) (digits-ends (Grammar.with_digit so_far b) text)
  where
    by : (k : Bool) → Ends text (Grammar.digits (Grammar.with_digit so_far b) text).1
        → Ends (b ∷ text) (if k then Grammar.digits (Grammar.with_digit so_far b) text
        else (so_far, b ∷ text)).1
    by true h = ends-cons b text _ h
    by false h = ends-same (b ∷ text)

-- what the sign leaves, by whether the byte is a hyphen or a plus
abbrev after_sign_byte : (k m : Bool) → ℕ → List ℕ → Bool × List ℕ
after_sign_byte k m b text =
    if k then (true, text) else (if m then (false, text) else (false, b ∷ text))

sign-ends : (text : List ℕ) → Ends text (Grammar.sign text).1
sign-ends [] = ends-same []
sign-ends (b ∷ text) = by (b == hyphen) (b == plus_sign)
  where
    by : (k m : Bool) → Ends (b ∷ text) (after_sign_byte k m b text).1
    by true m = ends-tail b text
    by false true = ends-tail b text
    by false false = ends-same (b ∷ text)

offset_after-leaves : (step : Signed) (is_negative : Bool) (text : List ℕ)
    → Leaves text (Grammar.offset_after step is_negative text)
offset_after-leaves step is_negative text =
    if-leaves text
    (starts_by is_digit text && not (Grammar.begins_name (Grammar.digits 0 text).1)) (got _ _) _
    (digits-ends 0 text) tt

offset_or_none-leaves : (step : Signed) (text : List ℕ)
    → Leaves text (Grammar.offset_or_none step text)
unfolding Grammar.offset_or_none
offset_or_none-leaves step text =
    let rest = (Grammar.sign text).1 in
    if-leaves text (starts_by Grammar.is_sign text)
    (follow (Grammar.gap rest) (λ spaced. Grammar.offset_after step (Grammar.sign text).0)) _
    (through text rest _ (sign-ends text)
    (after_gap rest _ (offset_after-leaves step (Grammar.sign text).0)))
    (ends-same text)

with_offset-leaves : (step : Signed) (text : List ℕ) → Leaves text (Grammar.with_offset step text)
unfolding Grammar.with_offset
with_offset-leaves step text = after_gap text _ (offset_or_none-leaves step)

subtracted-leaves : (start : List ℕ) (step : Signed) (tail text : List ℕ)
    → Leaves text (Grammar.subtracted start step tail text)
unfolding Grammar.subtracted
subtracted-leaves start step [] text = after_gap text _ (offset_after-leaves step true)
subtracted-leaves start step (b ∷ number) text =
    if-leaves text (Grammar.is_number (b ∷ number)) _ _ (ends-same text) tt

by_tail-leaves : (start : List ℕ) (step : Signed) (tail text : List ℕ)
    → Leaves text (Grammar.by_tail start step tail text)
unfolding Grammar.by_tail
by_tail-leaves start step [] text = with_offset-leaves step text
by_tail-leaves start step (b ∷ tail) text =
    if-leaves text (b == hyphen) (Grammar.subtracted start step tail text) _
    (subtracted-leaves start step tail text) tt

n_word-leaves : (start : List ℕ) (step : Signed) (word text : List ℕ)
    → Leaves text (Grammar.n_word start step word text)
unfolding Grammar.n_word
n_word-leaves start step word text =
    if-leaves text (starts_by Grammar.is_n word) (Grammar.by_tail start step (past_one word) text) _
    (by_tail-leaves start step (past_one word) text) tt

word_progression-leaves : (start word text : List ℕ)
    → Leaves text (Grammar.word_progression start word text)
word_progression-leaves start word text =
    if-leaves text (starts hyphen word)
    (Grammar.n_word start (Grammar.signed true 1) (past_one word) text) _
    (n_word-leaves start (Grammar.signed true 1) (past_one word) text)
    (if-leaves text (starts_by Grammar.is_n word)
    (Grammar.n_word start (Grammar.signed false 1) word text)
    (Grammar.odd_or_even start word text)
    (n_word-leaves start (Grammar.signed false 1) word text)
    (if-leaves text (Grammar.is_word (codes "odd") word) _ _ (ends-same text)
    (if-leaves text (Grammar.is_word (codes "even") word) _ _ (ends-same text) tt)))

numbered-leaves : (start : List ℕ) (is_negative : Bool) (size : ℕ) (text : List ℕ)
    → Leaves text (Grammar.numbered start is_negative size text)
numbered-leaves start is_negative size text =
    if-leaves text (Grammar.begins_name text) (follow (Grammar.ident_sequence text) _) _
    (follow-leaves text (Grammar.ident_sequence text)
    (Grammar.n_word start (Grammar.signed is_negative size)) (ident-leaves text)
    (n_word-leaves start (Grammar.signed is_negative size)))
    (ends-same text)

unsigned-leaves : (start : List ℕ) (is_negative : Bool) (text : List ℕ) → Ends start text
    → Leaves start (Grammar.unsigned start is_negative text)
unsigned-leaves start is_negative text e =
    let digits = Grammar.digits 0 text in
    if-leaves start (starts_by is_digit text)
    (Grammar.numbered start is_negative digits.0 digits.1)
    (follow (Grammar.name start) (Grammar.word_progression start))
    (through start digits.1 (Grammar.numbered start is_negative digits.0 digits.1)
    (ends-ends start text digits.1 e (digits-ends 0 text))
    (numbered-leaves start is_negative digits.0 digits.1))
    (follow-leaves start (Grammar.name start) (Grammar.word_progression start) (name-leaves start)
    (word_progression-leaves start))

progression-leaves : (text : List ℕ) → Leaves text (Grammar.progression text)
unfolding Grammar.progression
progression-leaves text =
    let word = Grammar.past_comments (past_one text) in
    if-leaves text (Grammar.is_lone_plus text)
    (follow (Grammar.name word) (Grammar.n_word text (Grammar.signed false 1))) _
    (through text word _ (after_sign-ends text)
    (follow-leaves word (Grammar.name word) _ (name-leaves word)
    (n_word-leaves text (Grammar.signed false 1))))
    (unsigned-leaves text (Grammar.sign text).0 (Grammar.sign text).1 (sign-ends text))

-- ---- pseudo-classes

next_range-leaves : (text : List ℕ) → LeavesAfter text (Grammar.next_range text)
unfolding Grammar.next_range
next_range-leaves text = by (Grammar.gap text) (gap-leaves text)
  where
    by : (r : Reading Bool) → Leaves text r → LeavesAfter text (Grammar.range_after r)
    by (refused why rest) h = tt
    by (got spaced rest) h =
        let after = past_one rest in
        through_step text rest (Grammar.range_after (got spaced rest)) h
        (step_if-leaves rest (starts comma rest)
        (as_item (λ r. r) (follow (Grammar.gap after) (λ x. Grammar.value))) _
        (as_item-leaves rest (λ r. r) (follow (Grammar.gap after) (λ x. Grammar.value))
        (through rest after (follow (Grammar.gap after) (λ x. Grammar.value)) (ends-past_one rest)
        (after_gap after Grammar.value value-leaves)))
        tt)

language_ranges-leaves : (text : List ℕ) → Leaves text (Grammar.language_ranges text)
unfolding Grammar.language_ranges
language_ranges-leaves text =
    after_gap text _ (λ t. follow-leaves t (Grammar.value t) _ (value-leaves t) (λ first t2.
    follow-leaves t2 (Grammar.one_more first (items Grammar.next_range) t2) _
    (first-leaves t2 first (items Grammar.next_range t2)
    (items-leaves Grammar.next_range next_range-leaves t2))
    (λ ranges t3. after_gap t3 _ (closed_with close_parenthesis ranges))))

argument-leaves : (text : List ℕ) → Leaves text (Grammar.argument text)
unfolding Grammar.argument
argument-leaves text =
    let start = past_gap text in
    let read = parts_stated Grammar.argument_ends start in
    follow-leaves text (Grammar.values_read start read) _
    (through text start (Grammar.values_read start read) (gap-well text).0
    (if-leaves start (Grammar.is_argument read.0) (got read.0.text read.1) _
    (parts-ends Grammar.argument_ends start) tt))
    (λ a t. follow-leaves t (Grammar.parenthesis t) (λ closed. got a)
    (if-leaves t (starts close_parenthesis t) (got (tt {0}) (past_one t)) _ (ends-past_one t) tt)
    (λ closed. ends-same))

argument_of-leaves : (names : List (List ℕ)) (opened n text : List ℕ)
    → Leaves text (Grammar.argument_of names opened n text)
argument_of-leaves names opened n text =
    if-leaves text (is_one_of names n) (Grammar.argument text) _ (argument-leaves text) tt

plain_pseudo-leaves : (names : Names) (opened n : List ℕ) (o : Option Structure) (text : List ℕ)
    → Leaves text (Grammar.plain_pseudo names opened n o text)
plain_pseudo-leaves names opened n (Some s) text = ends-same text
plain_pseudo-leaves names opened n None text =
    if-leaves text (is_one_of (states names) n) (got (state n) text) _ (ends-same text) tt

named_pseudo-leaves : (names : Names) (opened n text : List ℕ)
    → LeavesAfter text (Grammar.named_pseudo names opened n text)
named_pseudo-leaves names opened n text =
    let read = Grammar.plain_pseudo names opened n (Grammar.plain_structure n) text in
    step_if-leaves text (Grammar.is_old_element n) none (as_item (λ s. s) read) tt
    (as_item-leaves text (λ s. s) read
    (plain_pseudo-leaves names opened n (Grammar.plain_structure n) text))

-- ---- type selectors and the like

any_or_name-leaves : (text : List ℕ) → Leaves text (Grammar.any_or_name text)
unfolding Grammar.any_or_name
any_or_name-leaves text =
    if-leaves text (starts asterisk text) _ (follow (Grammar.name text) _) (ends-past_one text)
    (follow-leaves text (Grammar.name text) _ (name-leaves text) (λ n. ends-same))

type_after-leaves : (n : Option Namespace) (text : List ℕ)
    → LeavesAfter text (Grammar.type_after n text)
type_after-leaves None text =
    step_if-leaves text (starts asterisk text || Grammar.begins_name text)
    (as_item (Grammar.in_namespace None) (Grammar.any_or_name text)) _
    (as_item-leaves text (Grammar.in_namespace None) (Grammar.any_or_name text)
    (any_or_name-leaves text)) tt
type_after-leaves (Some n) text =
    as_item-leaves text (Grammar.in_namespace (Some n)) (Grammar.any_or_name text)
    (any_or_name-leaves text)

type-leaves : (names : Names) (text : List ℕ) → LeavesAfter text (Grammar.type_selector names text)
unfolding Grammar.type_selector
type-leaves names text =
    step_after-leaves text (Grammar.namespace names text) Grammar.type_after (namespace-leaves names text)
    type_after-leaves

-- an item that is read after the first byte
item_after : {A B : Type 0} (b : ℕ) (text rest : List ℕ) (make : A → B) (r : Reading A)
    → Ends text rest → Leaves rest r → LeavesAfter (b ∷ text) (as_item make r)
item_after b text rest make r e h =
    as_item-leaves (b ∷ text) make r (through (b ∷ text) rest r (ends-cons b text rest e) h)

next_simple-leaves : (names : Names) (text : List ℕ) → LeavesAfter text (Grammar.next_simple names text)
unfolding Grammar.next_simple
next_simple-leaves names [] = tt
next_simple-leaves names (b ∷ text) =
    let after = Grammar.past_comments text in
    step_if-leaves (b ∷ text) (b == full_stop) (as_item class (Grammar.name after)) _
    (item_after b text after class (Grammar.name after) (past_comments-ends text)
    (name-leaves after))
    (step_if-leaves (b ∷ text) (b == number_sign) (as_item id (Grammar.ident_sequence text)) _
    (item_after b text text id (Grammar.ident_sequence text) (ends-same text) (ident-leaves text))
    (step_if-leaves (b ∷ text) (b == open_bracket)
    (as_item (λ s. s) (Grammar.attribute_selector names text)) _
    (item_after b text text (λ s. s) (Grammar.attribute_selector names text) (ends-same text)
    (attribute-leaves names text))
    (step_if-leaves (b ∷ text) (b == Grammar.ampersand) (item (nesting outermost) text) none
    (ends-tail b text) tt)))

-- ---- compound selectors, by what finds a condition

abbrev FinderLeaves : Grammar.Finder → Type 0
FinderLeaves next = (text : List ℕ) → LeavesAfter text (next text)

some-leaves : {A : Type 0} (start text : List ℕ) (r : Reading (List A)) → Leaves text r
    → Leaves text (Grammar.some_of start r)
some-leaves start text (got [] rest) h = tt
some-leaves start text (got (x ∷ xs) rest) h = h
some-leaves start text (refused why rest) h = tt

compound-leaves : (names : Names) (next : Grammar.Finder) → FinderLeaves next → (text : List ℕ)
    → Leaves text (Grammar.compound names next text)
unfolding Grammar.compound
compound-leaves names next each text = by (Grammar.type_selector names text) (type-leaves names text)
  where
    by : (s : Step Simple) → LeavesAfter text s → Leaves text (Grammar.after_type next text s)
    by (item s rest) h =
        through text rest (with_first (simple s) (items next rest)) h
        (first-leaves rest (simple s) (items next rest) (items-leaves next each rest))
    by none h = some-leaves text text (items next text) (items-leaves next each text)
    by (stop why rest) h = tt

part-leaves : (one : Grammar.CompoundReader) → ((text : List ℕ) → Leaves text (one text))
    → (text : List ℕ) → LeavesAfter text (Grammar.part_after one (Grammar.gap text))
part-leaves one each text = by (Grammar.gap text) (gap-leaves text)
  where
    signed : (rest : List ℕ) (o : Option Combinator) (spaced : Bool)
        → LeavesAfter rest (Grammar.by_sign one spaced rest o)
    signed rest (Some c) spaced =
        as_item-leaves rest (Grammar.joined_by c) (Grammar.signed_part one (past_one rest))
        (through rest (past_one rest) (Grammar.signed_part one (past_one rest)) (ends-past_one rest)
        (after_gap (past_one rest) one each))
    signed rest None spaced =
        step_if-leaves rest (spaced && starts_by Grammar.begins_compound rest)
        (as_item (Grammar.joined_by Descendant) (one rest)) none
        (as_item-leaves rest (Grammar.joined_by Descendant) (one rest) (each rest)) tt

    by : (r : Reading Bool) → Leaves text r → LeavesAfter text (Grammar.part_after one r)
    by (refused why rest) h = tt
    by (got spaced rest) h =
        through_step text rest (Grammar.by_sign one spaced rest (Grammar.first_sign rest)) h
        (signed rest (Grammar.first_sign rest) spaced)

module _ (names : Names) (next : Grammar.Finder) (each : FinderLeaves next) where
  next_part_in-leaves : (text : List ℕ) → LeavesAfter text (Grammar.next_part_in names next text)
  unfolding Grammar.next_part_in
  next_part_in-leaves text = part-leaves (Grammar.compound names next) (compound-leaves names next each) text

  complex_by-leaves : (k : Combinator) (text : List ℕ) → Leaves text (Grammar.complex_by names k next text)
  unfolding Grammar.complex_by
  complex_by-leaves k text =
      follow-leaves text (Grammar.compound names next text) _ (compound-leaves names next each text) (λ first t.
      first-leaves t (Grammar.joined_by k first) (items (Grammar.next_part_in names next) t)
      (items-leaves (Grammar.next_part_in names next) next_part_in-leaves t))

  complex-leaves : (kind : ListKind) (text : List ℕ) → Leaves text (Grammar.complex names kind next text)
  unfolding Grammar.complex
  complex-leaves kind text = by (Grammar.leading_sign kind text)
    where
      by : (o : Option Combinator) → Leaves text (Grammar.after_leading names next text o)
      by None = complex_by-leaves Descendant text
      by (Some k) =
          through text (past_one text) (follow (Grammar.gap (past_one text))
          (λ spaced. Grammar.complex_by names k next)) (ends-past_one text)
          (after_gap (past_one text) (Grammar.complex_by names k next) (complex_by-leaves k))

-- ---- lists

past_part-ends : (text : List ℕ) → Ends text (Grammar.past_part text)
unfolding Grammar.past_part
past_part-ends text = each-ends Grammar.part_value one text
  where
    one : (text : List ℕ) → EndsFound text (Grammar.part_value text)
    one text = by (Grammar.ends_part text)
      where
        by : (k : Bool) → EndsFound text
            (if k then None else Some (tt {0}, (component_value deepest_brackets text).1))
        by true = tt
        by false = (value-leaves_text deepest_brackets text).0

no_selector-leaves : (forgiving : Bool) (text : List ℕ) (why : Why) (rest : List ℕ)
    → Leaves text (Grammar.no_selector forgiving text why rest)
no_selector-leaves forgiving text why rest =
    if-leaves text (forgiving && not (Grammar.is_lasting why)) (got _ (Grammar.past_part text)) _
    (past_part-ends text) tt

module _ (names : Names) (kind : ListKind) (next : Grammar.Finder) (each : FinderLeaves next) where
  listed_part-leaves : (text : List ℕ) → Leaves text (Grammar.listed_part names kind next text)
  unfolding Grammar.listed_part
  listed_part-leaves text =
      by (follow (Grammar.gap text) (λ spaced. Grammar.complex names kind next))
      (after_gap text (Grammar.complex names kind next) (complex-leaves names next each kind))
    where
      ended : (s : List Part) (t : List ℕ) (r : Reading Bool) → Leaves text r
          → Leaves text (Grammar.part_end (Grammar.is_forgiving kind) text s r)
      ended s t (refused why rest) h = tt
      ended s t (got spaced rest) h =
          if-leaves text (Grammar.ends_part rest) (got (Some s) rest)
          (Grammar.no_selector (Grammar.is_forgiving kind) text Unexpected rest) h
          (no_selector-leaves (Grammar.is_forgiving kind) text Unexpected rest)

      by : (r : Reading (List Part)) → Leaves text r
          → Leaves text (Grammar.judged (Grammar.is_forgiving kind) text r)
      by (got s rest) h =
          ended s rest (Grammar.gap rest) (through text rest (Grammar.gap rest) h (gap-leaves rest))
      by (refused why rest) h = no_selector-leaves (Grammar.is_forgiving kind) text why rest

  next_listed-leaves : (text : List ℕ)
      → LeavesAfter text (Grammar.next_listed names kind next text)
  unfolding Grammar.next_listed
  next_listed-leaves text =
      let part = Grammar.listed_part names kind next (past_one text) in
      step_if-leaves text (starts comma text) (as_item (λ s. s) part) none
      (as_item-leaves text (λ s. s) part
      (through text (past_one text) part (ends-past_one text) (listed_part-leaves (past_one text))))
      tt

  keep-leaves : (text : List ℕ) (r : Reading (List (Option (List Part)))) → Leaves text r
      → Leaves text (Grammar.keep r)
  keep-leaves text (got all rest) h = h
  keep-leaves text (refused why rest) h = tt

  complex_list-leaves : (text : List ℕ) → Leaves text (Grammar.complex_list names kind next text)
  unfolding Grammar.complex_list
  complex_list-leaves text =
      follow-leaves text (Grammar.listed_part names kind next text) _ (listed_part-leaves text)
      (λ first t. follow-leaves t (Grammar.selectors_after names kind next first t) _
      (keep-leaves t (with_first first (items (Grammar.next_listed names kind next) t))
      (first-leaves t first (items (Grammar.next_listed names kind next) t)
      (items-leaves (Grammar.next_listed names kind next) next_listed-leaves t)))
      (closed_with close_parenthesis))

-- ---- functional pseudo-classes, by what reads a list

abbrev ListLeaves : Grammar.ListReader → Type 0
ListLeaves list = (kind : ListKind) (opened text : List ℕ) → Leaves text (list kind opened text)

module _ (names : Names) (list : Grammar.ListReader) (lists : ListLeaves list) (opened : List ℕ) where
  of_list-leaves : (test : ListTest) (text : List ℕ)
      → Leaves text (Grammar.of_list list test opened text)
  of_list-leaves test text =
      follow-leaves text (list Not opened text) _ (lists Not opened text) (λ selectors. ends-same)

  after_progression-leaves : (kind : Numbering) (p : Progression) (o : Option ListTest) (text : List ℕ)
      → Leaves text (Grammar.after_progression list opened kind p o text)
  after_progression-leaves kind p None text = closed_with close_parenthesis _ text
  after_progression-leaves kind p (Some test) text =
      if-leaves text (Grammar.begins_name text)
      (follow (Grammar.name text) (Grammar.after_word list opened test text))
      (Grammar.without_list kind p text)
      (follow-leaves text (Grammar.name text) (Grammar.after_word list opened test text)
      (name-leaves text)
      (λ word t. if-leaves t (Grammar.is_word (codes "of") word) (Grammar.of_list list test opened t) _
      (of_list-leaves test t) tt))
      (closed_with close_parenthesis _ text)

  functional-leaves : (n : List ℕ) (kind : Option Function) (text : List ℕ)
      → Leaves text (Grammar.functional names list opened n kind text)
  functional-leaves n None text =
      follow-leaves text (Grammar.argument_of (functions names) opened n text) _
      (argument_of-leaves (functions names) opened n text) (λ a. ends-same)
  functional-leaves n (Some Language) text =
      follow-leaves text (Grammar.language_ranges text) _ (language_ranges-leaves text)
      (λ ranges. ends-same)
  functional-leaves n (Some (Numbered kind)) text =
      after_gap text _ (λ t. follow-leaves t (Grammar.progression t) _ (progression-leaves t)
      (λ p t2. after_gap t2 _ (after_progression-leaves kind p (Grammar.list_test kind p))))

module _ (names : Names) (list : Grammar.ListReader) (lists : ListLeaves list) where
  with_argument-leaves : (opened n : List ℕ) (kind : Option ListKind) (other : Option Function)
      (text : List ℕ) → Leaves text (Grammar.with_argument names list opened n kind other text)
  with_argument-leaves opened n None other text =
      functional-leaves names list lists opened n other text
  with_argument-leaves opened n (Some kind) other text =
      follow-leaves text (list kind opened text) _ (lists kind opened text) (λ selectors. ends-same)

  simple_item-leaves : (text : List ℕ) (s : Step Simple) → LeavesAfter text s
      → LeavesAfter text (Grammar.simple_item s)
  simple_item-leaves text (item s rest) h = h
  simple_item-leaves text none h = tt
  simple_item-leaves text (stop why rest) h = tt

  pseudo_condition-leaves : (opened n text : List ℕ)
      → LeavesAfter text (Grammar.pseudo_condition names list opened n text)
  pseudo_condition-leaves opened n text =
      let kind = Grammar.list_kind n in
      let other = Grammar.function_named n in
      let read = Grammar.with_argument names list opened n kind other (past_one text) in
      step_if-leaves text (starts open_parenthesis text) (as_item (λ c. c) read)
      (Grammar.simple_item (Grammar.named_pseudo names opened n text))
      (as_item-leaves text (λ c. c) read
      (through text (past_one text) read (ends-past_one text)
      (with_argument-leaves opened n kind other (past_one text))))
      (simple_item-leaves text (Grammar.named_pseudo names opened n text)
      (named_pseudo-leaves names opened n text))

  condition_by-leaves : (text : List ℕ) → LeavesAfter text (Grammar.condition_by names list text)
  condition_by-leaves text =
      let start = Grammar.past_comments text in
      let after = Grammar.past_comments (past_one start) in
      through_step text start (Grammar.condition_here names list start) (past_comments-ends text)
      (step_if-leaves start (Grammar.begins_pseudo_class start)
      (step_after (Grammar.name after) (Grammar.pseudo_condition names list start)) _
      (step_after-leaves start (Grammar.name after) (Grammar.pseudo_condition names list start)
      (through start after (Grammar.name after) (after_sign-ends start) (name-leaves after))
      (pseudo_condition-leaves start))
      (simple_item-leaves start (Grammar.next_simple names start) (next_simple-leaves names start)))

condition_at-leaves : (names : Names) (n : ℕ) (in_has : Bool) → FinderLeaves (Grammar.condition_at names n in_has)
unfolding Grammar.condition_at
condition_at-leaves names zero in_has text =
    condition_by-leaves names Grammar.too_deep (λ kind opened rest. tt) text
condition_at-leaves names (suc n) in_has text =
    condition_by-leaves names (Grammar.list_by names in_has (Grammar.condition_at names n))
    (λ kind opened rest. if-leaves rest (Grammar.may_open kind in_has)
    (Grammar.complex_list names kind (Grammar.condition_at names n (Grammar.is_relative kind || in_has)) rest)
    (refused Unexpected opened)
    (complex_list-leaves names kind (Grammar.condition_at names n (Grammar.is_relative kind || in_has))
    (condition_at-leaves names n (Grammar.is_relative kind || in_has)) rest) tt)
    text

-- ---- selectors

each_condition : (names : Names) → FinderLeaves (Grammar.next_condition (Grammar.outside names))
each_condition names = condition_at-leaves names Grammar.deepest false

conditions-leaves : (names : Names) (text : List ℕ) → Leaves text (Grammar.conditions names text)
unfolding Grammar.conditions
conditions-leaves names text = by (Grammar.type_selector names text) (type-leaves names text)
  where
    more : (text : List ℕ) → Leaves text (items (Grammar.next_condition (Grammar.outside names)) text)
    more text = items-leaves (Grammar.next_condition (Grammar.outside names)) (each_condition names) text

    by : (s : Step Simple) → LeavesAfter text s → Leaves text (Grammar.after_type_name names text s)
    by (item s rest) h =
        through text rest
        (with_first (simple s) (items (Grammar.next_condition (Grammar.outside names)) rest)) h
        (first-leaves rest (simple s) (items (Grammar.next_condition (Grammar.outside names)) rest)
        (more rest))
    by none h =
        let read = items (Grammar.next_condition (Grammar.outside names)) text in
        if-leaves text (starts colon text) read (Grammar.some_of text read) (more text)
        (some-leaves text text read (more text))
    by (stop why rest) h = tt

next_part-leaves : (names : Names) (text : List ℕ) → LeavesAfter text (Grammar.next_part names text)
unfolding Grammar.next_part
next_part-leaves names text = part-leaves (Grammar.conditions names) (conditions-leaves names) text

-- a first part, and those after it
more-leaves : (names : Names) (first : Part) (text : List ℕ)
    → Leaves text (Grammar.one_more first (items (Grammar.next_part names)) text)
more-leaves names first text =
    first-leaves text first (items (Grammar.next_part names) text)
    (items-leaves (Grammar.next_part names) (next_part-leaves names) text)

parts-leaves : (names : Names) (text : List ℕ) → Leaves text (Grammar.parts names text)
unfolding Grammar.parts
parts-leaves names text =
    after_gap text _ (λ t. follow-leaves t (Grammar.conditions names t) _ (conditions-leaves names t)
    (λ first. more-leaves names (Grammar.joined_by Descendant first)))

pub start-leaves : (names : Names) (start : Start) (text : List ℕ) → Leaves text (Grammar.start_parts names start text)
unfolding Grammar.relative_parts
start-leaves names Plain text = parts-leaves names text
start-leaves names Relative text = by (Grammar.first_sign text)
  where
    by : (o : Option Combinator) → Leaves text (Grammar.after_sign names text o)
    by None = parts-leaves names text
    by (Some c) = more-leaves names (Grammar.nesting_part outermost) text

-- ---- pseudo-elements

element_argument-leaves : (names : Names) (opened n text : List ℕ)
    → Leaves text (Grammar.element_argument names opened n text)
unfolding Grammar.element_argument
element_argument-leaves names opened n text =
    let read = Grammar.argument_of (element_functions names) opened n (past_one text) in
    if-leaves text (starts open_parenthesis text) (follow read (λ a. got (Some a))) _
    (follow-leaves text read (λ a. got (Some a))
    (through text (past_one text) read (ends-past_one text)
    (argument_of-leaves (element_functions names) opened n (past_one text)))
    (λ a. ends-same))
    (if-leaves text (is_element names n) (got None text) _ (ends-same text) tt)

element_name-leaves : (names : Names) (opened text : List ℕ) → Leaves text (Grammar.element_name names opened text)
unfolding Grammar.element_name
element_name-leaves names opened text =
    let after = past_byte colon (Grammar.past_comments text) in
    let start = Grammar.past_comments after in
    follow-leaves text (Grammar.name start) _
    (through text start (Grammar.name start)
    (comments_after text after (ends-ends text (Grammar.past_comments text) after
    (past_comments-ends text) (ends-past_byte colon (Grammar.past_comments text))))
    (name-leaves start))
    (λ n t. follow-leaves t (Grammar.element_argument names opened n t) _
    (element_argument-leaves names opened n t) (λ a. ends-same))

after_element-leaves : (names : Names) (text : List ℕ) → LeavesAfter text (Grammar.after_element names text)
unfolding Grammar.after_element
after_element-leaves names text =
    let start = Grammar.past_comments text in
    through_step text start (Grammar.after_element_here names start) (past_comments-ends text)
    (step_if-leaves start (starts colon start)
    (Grammar.class_or_element names start (Grammar.next_condition (Grammar.outside names) start)) none
    (by start (Grammar.next_condition (Grammar.outside names) start) (each_condition names start)) tt)
  where
    by : (text : List ℕ) (s : Step Condition) → LeavesAfter text s
        → LeavesAfter text (Grammar.class_or_element names text s)
    by text (item c rest) h = h
    by text none h =
        let read = Grammar.element_name names text (past_one text) in
        as_item-leaves text Grammar.named_condition read
        (through text (past_one text) read (ends-past_one text)
        (element_name-leaves names text (past_one text)))
    by text (stop why rest) h = tt

pub pseudo_element-leaves : (names : Names) (text : List ℕ) → Leaves text (Grammar.pseudo_element names text)
unfolding Grammar.pseudo_element
pseudo_element-leaves names text =
    let name = Grammar.element_name names text (past_one text) in
    if-leaves text (starts colon text) (follow name (Grammar.with_after names)) (got None text)
    (follow-leaves text name (Grammar.with_after names)
    (through text (past_one text) name (ends-past_one text)
    (element_name-leaves names text (past_one text)))
    (λ e t. follow-leaves t (items (Grammar.after_element names) t) _
    (items-leaves (Grammar.after_element names) (after_element-leaves names) t) (λ after. ends-same)))
    (ends-same text)

-- ---- selectors with where they are

-- a selector is in a text: it begins there, then its pseudo-element does, and then it ends
abbrev pub IsIn : List ℕ → Placed → Type 0
IsIn text p = Ends text p.from × Ends p.from p.element × Ends p.element p.to

-- the selector that was read is in the text, and ends before what is left
abbrev pub LeavesPlaced : List ℕ → Reading Placed → Type 0
LeavesPlaced text (got p rest) = IsIn text p × Ends p.to rest
LeavesPlaced text (refused why rest) = Unit {0}

-- what holds after a value and where nothing was read holds of both
pub follow-holds : {A B : Type 0} (P : Reading B → Type 0) (text : List ℕ) (r : Reading A)
    (next : A → Reader B) → ((why : Why) (rest : List ℕ) → P (refused why rest)) → Leaves text r
    → ((x : A) (middle : List ℕ) → Ends text middle → P (next x middle)) → P (follow r next)
follow-holds P text (got x middle) next stopped h more = more x middle h
follow-holds P text (refused why middle) next stopped h more = stopped why middle

pub placed-leaves : (names : Names) (start : Start) (text : List ℕ)
    → LeavesPlaced text (Grammar.placed_by names start text)
unfolding Grammar.placed_by
placed-leaves names start text =
    let P = LeavesPlaced text in
    let stopped : (why : Why) (rest : List ℕ) → P (refused why rest) = λ why rest. tt in
    follow-holds P text (Grammar.gap text) _ stopped (gap-leaves text) (λ spaced from e.
    follow-holds P from (Grammar.start_parts names start from) _ stopped (start-leaves names start from)
    (λ all end f. follow-holds P (Grammar.past_comments end)
    (Grammar.pseudo_element names (Grammar.past_comments end)) _ stopped
    (pseudo_element-leaves names (Grammar.past_comments end)) (λ element after g.
    follow-holds P after (Grammar.gap after) _ stopped (gap-leaves after) (λ spaced_after rest k.
    by (in_default names.default_namespace all) element from end (Grammar.past_comments end) after rest e f (past_comments-ends end) g
    k))))
  where
    by : (all : List Part) (element : Option PseudoElement) (from end at after rest : List ℕ)
        → Ends text from → Ends from end → Ends end at → Ends at after → Ends after rest
        → LeavesPlaced text (got (Grammar.placed_as all element from end at after) rest)
    by all None from end at after rest e f c g k =
        ((e, f, ends-same end), ends-ends end at rest c (ends-ends at after rest g k))
    by all (Some element) from end at after rest e f c g k =
        ((e, ends-ends from end at f c, g), k)

-- all selectors that were read are in the text
abbrev pub LeavesAll : List ℕ → Reading (List Placed) → Type 0
LeavesAll text (got all rest) = All (IsIn text) all
LeavesAll text (refused why rest) = Unit {0}

-- what is in an end of a text is in the text
is_in-longer : (text middle : List ℕ) (p : Placed) → Ends text middle → IsIn middle p → IsIn text p
is_in-longer text middle p e h = (ends-ends text middle p.from e h.0, h.1, h.2)

first_is_in : (text : List ℕ) (p : Placed) (r : Reading (List Placed)) → IsIn text p
    → LeavesAll text r → LeavesAll text (with_first p r)
first_is_in text p (got all rest) h more = All-cons (IsIn text) p all h more
first_is_in text p (refused why rest) h more = tt

module _ (names : Names) (start : Start) (text : List ℕ) where
  more_in : (rest : List ℕ) (s : Step Placed) (next : Reader (List Placed)) → Ends text rest
      → Grammar.next_placed names start rest ≡ s
      → ((after : List ℕ) → Ends text after → LeavesAll text (next after))
      → LeavesAll text (go_on rest s next)
  unfolding Grammar.next_placed
  more_in rest s next e is more =
      subst (λ (s : Step Placed). LeavesAll text (go_on rest s next)) is
      (by (starts comma rest) (Grammar.placed_by names start (past_one rest))
      (placed-leaves names start (past_one rest)))
    where
      by : (k : Bool) (r : Reading Placed) → LeavesPlaced (past_one rest) r
          → LeavesAll text (go_on rest (if k then as_item (λ p. p) r else none) next)
      by true (got p after) h =
          let f = ends-ends text rest (past_one rest) e (ends-past_one rest) in
          let in_text = is_in-longer text (past_one rest) p f h.0 in
          let there = ends-ends text p.from after in_text.0
          (ends-ends p.from p.element after in_text.1
          (ends-ends p.element p.to after in_text.2 h.1)) in
          first_is_in text p (next after) in_text (more after there)
      by true (refused why after) h = tt
      by false r h = All-nil (IsIn text)

  others_in : (n : ℕ) (rest : List ℕ) → Ends text rest
      → LeavesAll text (items_up_to n (Grammar.next_placed names start) rest)
  others_in zero rest e = All-nil (IsIn text)
  others_in (suc n) rest e =
      more_in rest (Grammar.next_placed names start rest) (items_up_to n (Grammar.next_placed names start)) e
      refl (others_in n)

-- a list that was read is in the text
pub all_in : (names : Names) (start : Start) (text rest : List ℕ) (all : List Placed)
    → Grammar.placed_list_by names start text ≡ got all rest → All (IsIn text) all
unfolding Grammar.placed_list_by
all_in names start text rest all h =
    subst (LeavesAll text) h (by (Grammar.placed_by names start text) (placed-leaves names start text))
  where
    ended : (r : Reading (List Placed)) → LeavesAll text r
        → LeavesAll text (follow r (λ all. Grammar.at_end >> give all))
    ended (got all []) h = h
    ended (got all (b ∷ rest)) h = tt
    ended (refused why rest) h = tt

    by : (r : Reading Placed) → LeavesPlaced text r → LeavesAll text (follow r (λ first.
        Grammar.one_more first (items (Grammar.next_placed names start)) >>= λ all.
        Grammar.at_end >> give all))
    by (got p after) h =
        let e = ends-ends text p.from after h.0.0 (ends-ends p.from p.element after h.0.1
        (ends-ends p.element p.to after h.0.2 h.1)) in
        let others = items (Grammar.next_placed names start) after in
        ended (with_first p others)
        (first_is_in text p others h.0 (others_in names start text (length after) after e))
    by (refused why after) h = tt

-- Reading a selector from the start of a text. As in `css_text`, a reader is a function of the
-- rest, which is what is left to read.
use Rattle.std.specs.Prelude.{ℕ, zero, suc, List, [], ◌∷◌, length}
use Rattle.css_selector_text.specs.declared.refusal.Why.{Why}

-- What reading returns: a value and the rest after it, or why the text is refused and the rest from
-- there.
pub data Reading (A : Type 0) : Type 0 where
  got : A → List ℕ → Reading A
  refused : Why → List ℕ → Reading A

abbrev pub Reader : Type 0 → Type 0
Reader A = List ℕ → Reading A

-- after a value, what `next` reads; a refusal stays
abbrev pub follow : {A B : Type 0} → Reading A → (A → Reader B) → Reading B
follow (got x rest) next = next x rest
follow (refused why rest) next = refused why rest

infixl 10 ◌>>=◌
abbrev pub ◌>>=◌ : {A B : Type 0} → Reader A → (A → Reader B) → Reader B
(first >>= next) = λ text. follow (first text) next

infixl 10 ◌>>◌
abbrev pub ◌>>◌ : {A B : Type 0} → Reader A → Reader B → Reader B
(first >> next) = λ text. follow (first text) (λ x. next)

-- this value; nothing is read
abbrev pub give : {A : Type 0} → A → Reader A
give x text = got x text

-- the text is refused here
abbrev pub refuse : {A : Type 0} → Why → Reader A
refuse why text = refused why text

-- What looking for an item returns: the item and the rest after it, none, or why the text is refused.
pub data Step (A : Type 0) : Type 0 where
  item : A → List ℕ → Step A
  none : Step A
  stop : Why → List ℕ → Step A

-- after a value, what `next` finds; a refusal stays
abbrev pub step_after : {A B : Type 0} → Reading A → (A → List ℕ → Step B) → Step B
step_after (got x rest) next = next x rest
step_after (refused why rest) next = stop why rest

-- what was read is an item
abbrev pub as_item : {A B : Type 0} → (A → B) → Reading A → Step B
as_item make (got x rest) = item (make x) rest
as_item make (refused why rest) = stop why rest

-- `x`, and then what was read after it
abbrev pub with_first : {A : Type 0} → A → Reading (List A) → Reading (List A)
with_first x (got xs rest) = got (x ∷ xs) rest
with_first x (refused why rest) = refused why rest

-- after an item the next ones; none is the end
abbrev pub go_on : {A : Type 0} → List ℕ → Step A → Reader (List A) → Reading (List A)
go_on text (item x rest) next = with_first x (next rest)
go_on text none next = got [] text
go_on text (stop why rest) next = refused why rest

-- the items that `read` finds one after another, at most `n`
abbrev pub items_up_to : {A : Type 0} → ℕ → (List ℕ → Step A) → Reader (List A)
items_up_to zero read text = got [] text
items_up_to (suc n) read text = go_on text (read text) (items_up_to n read)

-- The items that `read` finds one after another, until it finds none. It is tried at most `length text`
-- times, which suffices since each item consumes a byte.
abbrev pub items : {A : Type 0} → (List ℕ → Step A) → Reader (List A)
items read text = items_up_to (length text) read text

-- what was found before, and what was read after it
abbrev pub found_before : {A : Type 0} → List A → Reading (List A) → Reading (List A)
found_before [] reading = reading
found_before (x ∷ xs) reading = with_first x (found_before xs reading)

-- Which tokens of a page an edit leaves as they are.
use Rattle.std.specs.Prelude.{◌≡◌, ℕ, ◌<◌, ◌==◌, ◌&&◌, Bool, not, length, true, false, List, [], ◌∷◌, ◌++◌, ◌⊎◌, take, codes, Some}
use Rattle.css_text.specs.AsciiBytes.{equals_sign}
use Rattle.css_text.specs.Reading.{before}
use Rattle.css_text.specs.Bytes.{past, starts, starts_by}
use Rattle.css_text.specs.Characters.{is_letter, is_space}
use Rattle.std.specs.List.{list_all}
use Rattle.css_html.specs.Marks.{less_than_sign, is_in_name, is_in_bare_value, is_between, past_text, begins_end_named}
use Rattle.css_html.specs.Attributes.{PlacedAttribute, next_attribute, attributes, name_of, value_of}
use Rattle.css_html.specs.Tokens.{PlacedToken, whole, tag_from, next_token}
use Rattle.css_html.specs.Modes.{letters_of}
use Rattle.css_html.specs.declared.modes.RawName.{RawName}
use Rattle.css_html.specs.declared.modes.RawName.TheVariants.{Style}
use Rattle.css_html.specs.Written.{written, IsAttributeName, HasNoEnd}
use Rattle.css_html.specs.declared.tokenizer.TokenKind.TheVariants as kinds
use Rattle.css_html.specs.declared.modes.Mode.{Mode}
use Rattle.css_html.specs.declared.modes.Mode.TheVariants.{Data, Foreign, Raw, Script, Plaintext}
use Rattle.css_html.specs.declared.tokenizer.TokenKind.{TokenKind}

-- what a token says: its kind, its text, and what is in it. Its attributes are of its text.
pub record Said : Type 0 where
  pub kind : TokenKind
  pub text : List ℕ
  pub inside : List ℕ

-- what a token says
abbrev pub said : PlacedToken → Said
said t = record {
  kind = t.kind;
  text = before t.from t.rest;
  inside = before t.inside t.inside_end;
}

-- a driver that sees what tokens say, and not where they are
abbrev pub TextDriver : Type 0
TextDriver = List Said → Mode

-- From a text on, under a driver that has seen some tokens, these are read, and then this is left.
pub data Reads (drive : TextDriver) : (seen : List Said) → (text : List ℕ) → (found : List Said)
    → (rest : List ℕ) → Type 0 where
  reads_none : (seen : List Said) (text : List ℕ) → Reads drive seen text [] text
  reads_one : (seen : List Said) (text rest : List ℕ) (found : List Said) (t : PlacedToken)
      → next_token (drive seen) text ≡ Some (t, t.rest)
      → Reads drive (seen ++ said t ∷ []) t.rest found rest → Reads drive seen text (said t ∷ found) rest

-- What is read of a page before a start tag is read of each page that has another start tag from there on.
abbrev pub TagsAreLocal : Type 0
TagsAreLocal = (drive : TextDriver) (front tag other : List ℕ) (found : List Said)
    → starts_by is_letter tag ≡ true → starts_by is_letter other ≡ true
    → Reads drive [] (front ++ (less_than_sign ∷ tag)) found (less_than_sign ∷ tag)
    → Reads drive [] (front ++ (less_than_sign ∷ other)) found (less_than_sign ∷ other)

-- the start tag whose name begins after the `<` at the start of a text
abbrev pub tag_at : List ℕ → PlacedToken
tag_at text = tag_from kinds.StartTag (less_than_sign ∷ text) text

-- An attribute put in after the name of a start tag changes no other token of the page: before it and
-- after it the same tokens are read, with the same texts, for each driver for which the tag with it is as
-- the tag without it.
abbrev pub AttributesAreLocal : Type 0
AttributesAreLocal = (drive : TextDriver) (front tag name value tail rest : List ℕ)
    (found more : List Said) → starts_by is_letter tag ≡ true → list_all is_in_name tag ≡ true
    → starts_by is_in_name tail ≡ false → IsAttributeName name → drive found ≡ Data
    → Reads drive [] (front ++ (less_than_sign ∷ (tag ++ tail))) found (less_than_sign ∷ (tag ++ tail))
    → Reads drive (found ++ said (tag_at (tag ++ tail)) ∷ []) (tag_at (tag ++ tail)).rest more rest
    → ((later : List Said) → drive ((found ++ said (tag_at (tag ++ tail)) ∷ []) ++ later)
    ≡ drive ((found ++ said (tag_at (tag ++ (written name value ++ tail))) ∷ []) ++ later))
    → Reads drive [] (front ++ (less_than_sign ∷ (tag ++ (written name value ++ tail))))
    (found ++ (said (tag_at (tag ++ (written name value ++ tail))) ∷ more)) rest

-- What another text is read as after a start tag that was read before this one: the same tag.
abbrev pub ClosedTagsAreLocal : Type 0
ClosedTagsAreLocal = (tag text other : List ℕ) → 0 < length text
    → (tag_at (tag ++ text)).rest ≡ text
    → ((tag_at (tag ++ other)).rest ≡ other) × (said (tag_at (tag ++ text)) ≡ said (tag_at (tag ++ other)))

-- the text of an element before its end tag
abbrev pub raw_text : (text end : List ℕ) → PlacedToken
raw_text text end = whole kinds.Text (text ++ end) end

-- The text of an element as `style` put in place of another changes no other token of the page, if no end
-- tag of the element is in it, for each driver for which the two texts are the same.
abbrev pub RawTextsAreLocal : Type 0
RawTextsAreLocal = (drive : TextDriver) (front tag text other end rest : List ℕ)
    (found more : List Said) (name : RawName) → starts_by is_letter tag ≡ true
    → 0 < length text → 0 < length other → (tag_at (tag ++ (text ++ end))).rest ≡ text ++ end
    → drive found ≡ Data → drive (found ++ said (tag_at (tag ++ (text ++ end))) ∷ []) ≡ Raw name
    → HasNoEnd (letters_of name) other → begins_end_named (letters_of name) end ≡ true
    → Reads drive [] (front ++ (less_than_sign ∷ (tag ++ (text ++ end)))) found
    (less_than_sign ∷ (tag ++ (text ++ end)))
    → Reads drive ((found ++ said (tag_at (tag ++ (text ++ end))) ∷ []) ++ said (raw_text text end) ∷ [])
    end more rest
    → ((later : List Said)
    → drive (((found ++ said (tag_at (tag ++ (text ++ end))) ∷ []) ++ said (raw_text text end) ∷ []) ++ later)
    ≡ drive (((found ++ said (tag_at (tag ++ (text ++ end))) ∷ []) ++ said (raw_text other end) ∷ []) ++ later))
    → Reads drive [] (front ++ (less_than_sign ∷ (tag ++ (other ++ end))))
    (found ++ (said (tag_at (tag ++ (text ++ end))) ∷ said (raw_text other end) ∷ more)) rest

-- A start tag put in place of another changes no other token of the page if it leaves the same rest, for
-- each driver for which the two tags are the same. An attribute that is replaced where it is, or taken
-- out, makes such a tag.
abbrev pub ReplacedTagsAreLocal : Type 0
ReplacedTagsAreLocal = (drive : TextDriver) (front old new rest : List ℕ) (found more : List Said)
    → starts_by is_letter old ≡ true → starts_by is_letter new ≡ true → drive found ≡ Data
    → (tag_at new).rest ≡ (tag_at old).rest
    → Reads drive [] (front ++ (less_than_sign ∷ old)) found (less_than_sign ∷ old)
    → Reads drive (found ++ said (tag_at old) ∷ []) (tag_at old).rest more rest
    → ((later : List Said) → drive ((found ++ said (tag_at old) ∷ []) ++ later)
    ≡ drive ((found ++ said (tag_at new) ∷ []) ++ later))
    → Reads drive [] (front ++ (less_than_sign ∷ new)) (found ++ (said (tag_at new) ∷ more)) rest

-- a text is this start tag, and nothing else
pub record IsStartTag (text : List ℕ) (t : PlacedToken) : Type 0 where
  pub whole : next_token Data text ≡ Some (t, [])
  pub kind : t.kind ≡ kinds.StartTag

-- A text that is one start tag, put in place of a start tag that was read, changes no other token of the page,
-- for each driver for which the two tags are the same.
abbrev pub WholeTagsAreLocal : Type 0
WholeTagsAreLocal = (drive : TextDriver) (front old new after rest : List ℕ) (found more : List Said)
    (tag : Said) (u : PlacedToken) → tag.kind ≡ kinds.StartTag → IsStartTag new u → drive found ≡ Data
    → Reads drive [] (front ++ (old ++ after)) found (old ++ after)
    → Reads drive found (old ++ after) (tag ∷ []) after → Reads drive (found ++ tag ∷ []) after more rest
    → ((later : List Said) → drive ((found ++ tag ∷ []) ++ later) ≡ drive ((found ++ said u ∷ []) ++ later))
    → Reads drive [] (front ++ (new ++ after)) (found ++ (said u ∷ more)) rest

-- ---- an attribute replaced, put in or taken out anywhere in a tag

-- an attribute's `=` has no value after it, as in `<a b=>`
abbrev pub is_missing : PlacedAttribute → Bool
is_missing a = length a.value == length a.rest && not (length a.name_end == length a.rest)

-- From a place in a tag on, these attributes are read, and then this is left.
pub data ReadsAttributes : (text : List ℕ) → (found : List PlacedAttribute) → (rest : List ℕ) → Type 0 where
  no_attributes : (text : List ℕ) → ReadsAttributes text [] text
  one_attribute : (text rest : List ℕ) (found : List PlacedAttribute) (a : PlacedAttribute)
      → next_attribute text ≡ Some (a, a.rest) → is_missing a ≡ false
      → ReadsAttributes a.rest found rest → ReadsAttributes text (a ∷ found) rest

-- a byte that ends each value without quotes, and each name
abbrev pub ends_value : ℕ → Bool
ends_value b = not (is_in_bare_value b)

-- A text may follow any attribute: it begins with a space byte or `>`, and after spaces no `=` follows, which
-- would give an attribute before it a value.
pub record MayFollow (text : List ℕ) : Type 0 where
  pub ends : starts_by ends_value text ≡ true
  pub no_value : starts equals_sign (past is_space text) ≡ false

-- the names and values of attributes, as written
abbrev pub names_and_values : List PlacedAttribute → List (List ℕ × List ℕ)
names_and_values [] = []
names_and_values (a ∷ more) = (name_of a, value_of a) ∷ names_and_values more

-- Attributes that were read up to a place are read with the same names and values, before others, if another
-- text follows the place.
abbrev pub AttributesBeforeAreLocal : Type 0
AttributesBeforeAreLocal = (front old new : List ℕ) (found : List PlacedAttribute) → 0 < length old
    → ReadsAttributes (front ++ old) found old → MayFollow new
    → (kept : List PlacedAttribute) × (names_and_values kept ≡ names_and_values found)
    × (attributes (front ++ old) ≡ found ++ attributes old)
    × (attributes (front ++ new) ≡ kept ++ attributes new)

-- What becomes of a tag from a place between attributes on: an attribute is put in, or it takes the place of
-- the next one, or the next one is taken out. What is left of that may need a space before it. Where it begins
-- with `=` an attribute before it would get a value: `<a b c="1"=d>` without `c` is not `<a b =d>`.
pub data ChangedFrom : (old new : List ℕ) → Type 0 where
  put_in : (old name value : List ℕ) → IsAttributeName name → ChangedFrom old (written name value ++ old)
  replaced : (old rest name value : List ℕ) (a : PlacedAttribute) → next_attribute old ≡ Some (a, rest)
      → IsAttributeName name → ChangedFrom old (written name value ++ rest)
  taken_out : (old rest new : List ℕ) (a : PlacedAttribute) → next_attribute old ≡ Some (a, rest)
      → past is_between new ≡ past is_between rest → MayFollow new → ChangedFrom old new

-- An attribute that is put in, replaced or taken out anywhere in a start tag changes no other token of the
-- page, for each driver for which the two tags are the same. The tag is not cut by the end of the page.
abbrev pub ChangedAttributesAreLocal : Type 0
ChangedAttributesAreLocal = (drive : TextDriver) (front tag place old new rest : List ℕ)
    (attributes : List PlacedAttribute) (found more : List Said) → starts_by is_letter tag ≡ true
    → list_all is_in_name tag ≡ true → starts_by is_in_name (place ++ old) ≡ false → 0 < length old
    → ReadsAttributes (place ++ old) attributes old → ChangedFrom old new → drive found ≡ Data
    → Reads drive [] (front ++ (less_than_sign ∷ (tag ++ (place ++ old)))) found
    (less_than_sign ∷ (tag ++ (place ++ old)))
    → Reads drive (found ++ said (tag_at (tag ++ (place ++ old))) ∷ []) (tag_at (tag ++ (place ++ old))).rest
    more rest
    → ((later : List Said) → drive ((found ++ said (tag_at (tag ++ (place ++ old))) ∷ []) ++ later)
    ≡ drive ((found ++ said (tag_at (tag ++ (place ++ new))) ∷ []) ++ later))
    → Reads drive [] (front ++ (less_than_sign ∷ (tag ++ (place ++ new))))
    (found ++ (said (tag_at (tag ++ (place ++ new))) ∷ more)) rest

-- A text that begins with a start tag, put in before a start tag, changes no other token of the page if it
-- is read as some tokens up to that tag, for each driver for which they are nothing.
abbrev pub TextsPutInAreLocal : Type 0
TextsPutInAreLocal = (drive : TextDriver) (front put tag rest : List ℕ) (found middle more : List Said)
    → starts_by is_letter tag ≡ true → starts_by is_letter put ≡ true
    → Reads drive [] (front ++ (less_than_sign ∷ tag)) found (less_than_sign ∷ tag)
    → Reads drive found (less_than_sign ∷ (put ++ (less_than_sign ∷ tag))) middle (less_than_sign ∷ tag)
    → Reads drive found (less_than_sign ∷ tag) more rest
    → ((later : List Said) → drive (found ++ later) ≡ drive ((found ++ middle) ++ later))
    → Reads drive [] (front ++ (less_than_sign ∷ (put ++ (less_than_sign ∷ tag))))
    ((found ++ middle) ++ more) rest

-- Such a text taken out changes no other token either.
abbrev pub TextsTakenOutAreLocal : Type 0
TextsTakenOutAreLocal = (drive : TextDriver) (front put tag rest : List ℕ) (found middle more : List Said)
    → starts_by is_letter tag ≡ true → starts_by is_letter put ≡ true
    → Reads drive [] (front ++ (less_than_sign ∷ (put ++ (less_than_sign ∷ tag)))) found
    (less_than_sign ∷ (put ++ (less_than_sign ∷ tag)))
    → Reads drive (found ++ middle) (less_than_sign ∷ tag) more rest
    → ((later : List Said) → drive (found ++ later) ≡ drive ((found ++ middle) ++ later))
    → Reads drive [] (front ++ (less_than_sign ∷ tag)) (found ++ more) rest

-- ---- a place between any two tokens

-- texts
abbrev pub is_text : TokenKind → Bool
is_text kinds.Text = true
is_text kinds.StartTag = false
is_text kinds.EndTag = false
is_text kinds.Comment = false
is_text kinds.Doctype = false
is_text kinds.Cdata = false
is_text kinds.Nothing = false
is_text kinds.Cut = false

-- a mode in which markup is read
abbrev pub reads_markup : Mode → Bool
reads_markup Data = true
reads_markup Foreign = true
reads_markup (Raw name) = false
reads_markup Script = false
reads_markup Plaintext = false

-- A text may follow a token that a driver read after others. Any text may follow markup. After text that was
-- read between markup none may follow that begins with more text: `a<` and `b>` are not `a<b>`. Raw text goes
-- on up to its end tag, so that nothing may follow it in place of that.
abbrev pub MayFollowToken : TextDriver → (seen : List Said) → (last : Said) → (text : List ℕ) → Type 0
MayFollowToken drive seen last text =
    (is_text last.kind ≡ false) ⊎ ((reads_markup (drive seen) ≡ true) × (past_text text ≡ text))

-- Texts are put in, taken out, or take the place of others, between any two tokens. No other token of the page
-- is changed, if what is there is read as some tokens up to what comes next, for each driver for which these are
-- as those that were there. Something follows the place, before and after: at the end of a page a token may be
-- cut, and `<!` before `<style>` is a comment with that in it.
abbrev pub EditsBetweenAreLocal : Type 0
EditsBetweenAreLocal = (drive : TextDriver) (front old new text rest : List ℕ) (found : List Said)
    (last : Said) (old_tokens new_tokens more : List Said) → 0 < length (old ++ text)
    → 0 < length (new ++ text)
    → Reads drive [] (front ++ (old ++ text)) (found ++ last ∷ []) (old ++ text)
    → MayFollowToken drive found last (new ++ text)
    → Reads drive (found ++ last ∷ []) (new ++ text) new_tokens text
    → Reads drive ((found ++ last ∷ []) ++ old_tokens) text more rest
    → ((later : List Said) → drive (((found ++ last ∷ []) ++ old_tokens) ++ later)
    ≡ drive (((found ++ last ∷ []) ++ new_tokens) ++ later))
    → Reads drive [] (front ++ (new ++ text)) (((found ++ last ∷ []) ++ new_tokens) ++ more) rest

-- a `style` element with this text
abbrev pub style_element : List ℕ → List ℕ
style_element text = codes "<style>" ++ (text ++ codes "</style>")

-- what its three tokens say
abbrev pub style_tokens : List ℕ → List Said
style_tokens text =
    (record { kind = kinds.StartTag; text = codes "<style>"; inside = codes "style" })
    ∷ (record { kind = kinds.Text; text = text; inside = text })
    ∷ (record { kind = kinds.EndTag; text = codes "</style>"; inside = codes "style" }) ∷ []

-- A `style` element with a text in which it does not end is read as these tokens, whatever follows, by a
-- driver that takes it for markup and its text for the text of a `style`.
abbrev pub StyleElementsAreRead : Type 0
StyleElementsAreRead = (drive : TextDriver) (seen : List Said) (text rest : List ℕ) → 0 < length text
    → HasNoEnd (letters_of Style) text → drive seen ≡ Data
    → drive (seen ++ take 1 (style_tokens text)) ≡ Raw Style
    → drive (seen ++ take 2 (style_tokens text)) ≡ Raw Style
    → Reads drive seen (style_element text ++ rest) (style_tokens text) rest

-- A `style` element put in between any two tokens changes no other token of the page, for each driver that takes
-- it for one and for which it is nothing. The token before it is markup, or text that was read between markup.
abbrev pub StyleElementsAreLocal : Type 0
StyleElementsAreLocal = (drive : TextDriver) (front inside text rest : List ℕ) (found : List Said)
    (last : Said) (more : List Said) → 0 < length text → 0 < length inside
    → HasNoEnd (letters_of Style) inside
    → Reads drive [] (front ++ text) (found ++ last ∷ []) text
    → (is_text last.kind ≡ false) ⊎ (reads_markup (drive found) ≡ true)
    → drive (found ++ last ∷ []) ≡ Data
    → drive ((found ++ last ∷ []) ++ take 1 (style_tokens inside)) ≡ Raw Style
    → drive ((found ++ last ∷ []) ++ take 2 (style_tokens inside)) ≡ Raw Style
    → Reads drive (found ++ last ∷ []) text more rest
    → ((later : List Said) → drive ((found ++ last ∷ []) ++ later)
    ≡ drive (((found ++ last ∷ []) ++ style_tokens inside) ++ later))
    → Reads drive [] (front ++ (style_element inside ++ text))
    (((found ++ last ∷ []) ++ style_tokens inside) ++ more) rest

-- Such an element taken out changes no other token either. After text no text follows it.
abbrev pub StyleElementsOutAreLocal : Type 0
StyleElementsOutAreLocal = (drive : TextDriver) (front inside text rest : List ℕ) (found : List Said)
    (last : Said) (more : List Said) → 0 < length text
    → Reads drive [] (front ++ (style_element inside ++ text)) (found ++ last ∷ []) (style_element inside ++ text)
    → MayFollowToken drive found last text
    → Reads drive ((found ++ last ∷ []) ++ style_tokens inside) text more rest
    → ((later : List Said) → drive (((found ++ last ∷ []) ++ style_tokens inside) ++ later)
    ≡ drive ((found ++ last ∷ []) ++ later))
    → Reads drive [] (front ++ text) ((found ++ last ∷ []) ++ more) rest

-- Edits, from the first to the last. A text is read as some tokens by a driver that has seen others; with
-- the edits it is another text, and these tokens are others. Between edits the text is the same, and the
-- driver takes what was edited for what was there.
pub data Edited (drive : TextDriver) : (seen : List Said) → (old new : List ℕ)
    → (found changed : List Said) → (rest : List ℕ) → Type 0 where
  edited_no_more : (seen : List Said) (text rest : List ℕ) (found : List Said)
      → Reads drive seen text found rest → Edited drive seen text text found found rest
  edited_tag : (seen front_tokens more changed : List Said) (front old new rest : List ℕ)
      → starts_by is_letter old ≡ true → starts_by is_letter new ≡ true
      → drive (seen ++ front_tokens) ≡ Data
      → Reads drive seen (front ++ (less_than_sign ∷ old)) front_tokens (less_than_sign ∷ old)
      → ((later : List Said) → drive (((seen ++ front_tokens) ++ said (tag_at old) ∷ []) ++ later)
      ≡ drive (((seen ++ front_tokens) ++ said (tag_at new) ∷ []) ++ later))
      → Edited drive ((seen ++ front_tokens) ++ said (tag_at old) ∷ []) (tag_at old).rest
      (tag_at new).rest more changed rest
      → Edited drive seen (front ++ (less_than_sign ∷ old)) (front ++ (less_than_sign ∷ new))
      (front_tokens ++ (said (tag_at old) ∷ more)) (front_tokens ++ (said (tag_at new) ∷ changed)) rest
  edited_text : (seen more changed : List Said) (text other end new_end rest : List ℕ) (name : RawName)
      → 0 < length text → 0 < length other → HasNoEnd (letters_of name) text
      → HasNoEnd (letters_of name) other → begins_end_named (letters_of name) end ≡ true
      → begins_end_named (letters_of name) new_end ≡ true → drive seen ≡ Raw name
      → ((later : List Said) → drive ((seen ++ said (raw_text text end) ∷ []) ++ later)
      ≡ drive ((seen ++ said (raw_text other new_end) ∷ []) ++ later))
      → Edited drive (seen ++ said (raw_text text end) ∷ []) end new_end more changed rest
      → Edited drive seen (text ++ end) (other ++ new_end) (said (raw_text text end) ∷ more)
      (said (raw_text other new_end) ∷ changed) rest
  edited_put_in : (seen front_tokens put_tokens more changed : List Said)
      (front put tag new_tag rest : List ℕ) → starts_by is_letter tag ≡ true
      → starts_by is_letter (put ++ (less_than_sign ∷ new_tag)) ≡ true
      → Reads drive seen (front ++ (less_than_sign ∷ tag)) front_tokens (less_than_sign ∷ tag)
      → Reads drive (seen ++ front_tokens) (less_than_sign ∷ (put ++ (less_than_sign ∷ new_tag)))
      put_tokens (less_than_sign ∷ new_tag)
      → ((later : List Said) → drive ((seen ++ front_tokens) ++ later)
      ≡ drive (((seen ++ front_tokens) ++ put_tokens) ++ later))
      → Edited drive (seen ++ front_tokens) (less_than_sign ∷ tag) (less_than_sign ∷ new_tag) more changed
      rest
      → Edited drive seen (front ++ (less_than_sign ∷ tag))
      (front ++ (less_than_sign ∷ (put ++ (less_than_sign ∷ new_tag)))) (front_tokens ++ more)
      (front_tokens ++ (put_tokens ++ changed)) rest
  edited_out : (seen front_tokens put_tokens more changed : List Said)
      (front put tag new_tag rest : List ℕ)
      → starts_by is_letter (put ++ (less_than_sign ∷ tag)) ≡ true → starts_by is_letter new_tag ≡ true
      → Reads drive seen (front ++ (less_than_sign ∷ (put ++ (less_than_sign ∷ tag)))) front_tokens
      (less_than_sign ∷ (put ++ (less_than_sign ∷ tag)))
      → Reads drive (seen ++ front_tokens) (less_than_sign ∷ (put ++ (less_than_sign ∷ tag))) put_tokens
      (less_than_sign ∷ tag)
      → ((later : List Said) → drive (((seen ++ front_tokens) ++ put_tokens) ++ later)
      ≡ drive ((seen ++ front_tokens) ++ later))
      → Edited drive ((seen ++ front_tokens) ++ put_tokens) (less_than_sign ∷ tag)
      (less_than_sign ∷ new_tag) more changed rest
      → Edited drive seen (front ++ (less_than_sign ∷ (put ++ (less_than_sign ∷ tag))))
      (front ++ (less_than_sign ∷ new_tag)) (front_tokens ++ (put_tokens ++ more))
      (front_tokens ++ changed) rest

-- With any number of edits the new text is read as the changed tokens, and no other token is changed.
abbrev pub EditsAreLocal : Type 0
EditsAreLocal = (drive : TextDriver) (seen : List Said) (old new : List ℕ) (found changed : List Said)
    (rest : List ℕ) → Edited drive seen old new found changed rest
    → Reads drive seen old found rest × Reads drive seen new changed rest

-- How far a declaration is read, and how far parts are read from its start on: these go at least as far.
-- Serves `cutting_law`.
use Rattle.std.proofs.Common.{◌≡◌, ℕ, zero, suc, ◌<◌, ◌≤◌, ◌-◌, ◌==◌, ◌||◌, ◌&&◌, not, Bool, true, false, List, [], ◌∷◌, length, take, Option, Some, None, Ok, Err, arith, refl, sym, ap, subst, ◌∙◌, if◌then◌else◌, eqb-true, codes}
use Rattle.std.specs.Option.{is_some}
use Rattle.css_text.specs.AsciiBytes.{asterisk, backslash, close_brace, colon, double_quote, exclamation_mark, hyphen, open_brace, open_bracket, open_parenthesis, semicolon, single_quote, slash}
use Rattle.css_text.specs.Reading.{before}
use Rattle.css_text.specs.Bytes.{past_byte, starts, starts_by, starts_two}
use Rattle.css_text.specs.Comments.{opens_comment}
use Rattle.css_text.specs.Strings.{is_quote}
use Rattle.css_syntax.specs.declared.parts.Stops.{Stops}
use Rattle.css_syntax.specs.declared.quality.Fault.{Fault}
use Rattle.css_syntax.specs.declared.quality.Fault.TheVariants.{BrokenDeclaration}
use Rattle.css_syntax.specs.declared.quality.Quality.{Quality}
use Rattle.css_syntax.specs.declared.quality.Quality.TheVariants.{Whole}
use Rattle.css_syntax.specs.Qualities.{is_good}
use Rattle.css_syntax.specs.Tokens.{after_url, begins_cdo, begins_escape, begins_url, from_close, gap_part, is_closer, is_name_byte, is_newline, name_part, past_gap, past_letter, past_url, past_word, spells, token}
use Rattle.css_syntax.specs.ComponentValues.{component_value, deepest, is_opener}
use Rattle.css_syntax.specs.Parts.{Stated, ends_at, part, parts, stops_at, with_gap}
use Rattle.css_syntax.specs.Statements.{starts_ident}
use Rattle.css_syntax.specs.DeclarationLists.{Declared, DeclarationText, declaration, declaration_ends, importance, important_word, is_custom, is_empty, named, stated_as, value, value_ends, valued}
use Rattle.css_syntax.proofs.ItemLemmas.{ident-word}
use Rattle.css_syntax.proofs.OpenBlocks.{value-token, value-within}
use Rattle.css_syntax.proofs.PartLemmas.{part-takes, parts-rests, parts-within, past_gap-within}
use Rattle.css_syntax.proofs.PartingUrls.{url-word}
use Rattle.css_syntax.proofs.RunSteps.{no_name_part, or-both}
use Rattle.css_syntax.proofs.Shorter.{each-goes, each-rests, past_url-within}

-- ---- parts one after another

pub goes : (stops : Stops) (text : List ℕ) → ends_at stops text ≡ false
    → (parts stops (past_gap (component_value deepest text).1)).1 ≡ (parts stops text).1
unfolding parts
goes stops text e =
    let v = component_value deepest text in
    let found : part stops text ≡ Some (with_gap v) = rw e refl in
    each-goes (part stops) (part-takes stops) text (past_gap v.1) v found

-- what ends parts by the first ends them by the second
abbrev pub Fewer : Stops → Stops → Type 0
Fewer one many = (b : ℕ) → stops_at one b ≡ true → stops_at many b ≡ true

ends-not : (one many : Stops) → Fewer one many → (text : List ℕ) → ends_at many text ≡ false
    → ends_at one text ≡ false
ends-not one many h [] e = absurd (cc)
ends-not one many h (b ∷ text) e = by (stops_at one b) refl
  where
    by : (k : Bool) → stops_at one b ≡ k → stops_at one b ≡ false
    by true f = absurd (let g = h b f in cc)
    by false f = f

value-shorter : (stops : Stops) (text : List ℕ) → ends_at stops text ≡ false
    → length (past_gap (component_value deepest text).1) < length text
value-shorter stops [] e = absurd (cc)
value-shorter stops (b ∷ text) e =
    omega (arith, past_gap-within (component_value deepest (b ∷ text)).1, value-within deepest b text)

through-step : (one many : Stops) → Fewer one many → (text : List ℕ)
    → ((next : List ℕ) → length next < length text → (parts one (parts many next).1).1 ≡ (parts one next).1)
    → (parts one (parts many text).1).1 ≡ (parts one text).1
through-step one many h text more = by (ends_at many text) refl
  where
    by : (k : Bool) → ends_at many text ≡ k → (parts one (parts many text).1).1 ≡ (parts one text).1
    by true e = ap (λ (z : List ℕ). (parts one z).1) (parts-rests many text e)
    by false e =
        ap (λ (z : List ℕ). (parts one z).1) (sym (goes many text e))
        ∙ more (past_gap (component_value deepest text).1) (value-shorter many text e)
        ∙ goes one text (ends-not one many h text e)

through-up : (one many : Stops) → Fewer one many → (n : ℕ) (text : List ℕ) → length text ≤ n
    → (parts one (parts many text).1).1 ≡ (parts one text).1
through-up one many h zero text l =
    through-step one many h text (λ next less. absurd (omega (arith, less, l)))
through-up one many h (suc n) text l =
    through-step one many h text (λ next less. through-up one many h n next (omega (arith, less, l)))

-- parts that end earlier, and then the others
pub through : (one many : Stops) → Fewer one many → (text : List ℕ)
    → (parts one (parts many text).1).1 ≡ (parts one text).1
through one many h text = through-up one many h (length text) text (omega arith)

-- ---- words and signs

-- parts that end at semicolons and braces alone
abbrev pub Plain : Stops → Type 0
Plain stops =
    (b : ℕ) → (b == semicolon) ≡ false → (b == open_brace) ≡ false → (b == close_brace) ≡ false
    → stops_at stops b ≡ false

-- a byte of a name, or an escape
abbrev pub IsNamed : ℕ → List ℕ → Type 0
IsNamed b text = (is_name_byte b || begins_escape (b ∷ text)) ≡ true

named-not : (b k : ℕ) (text : List ℕ) → IsNamed b text → is_name_byte k ≡ false → (k == backslash) ≡ false
    → (b == k) ≡ false
named-not b k text h n m = by (b == k) refl
  where
    none : (is_name_byte k || begins_escape (k ∷ text)) ≡ false
    none =
        ap (λ (c : Bool). c || begins_escape (k ∷ text)) n
        ∙ ap (λ (c : Bool). c && not (starts_by is_newline text)) m

    by : (c : Bool) → (b == k) ≡ c → (b == k) ≡ false
    by true e =
        absurd (let wrong : (is_name_byte b || begins_escape (b ∷ text)) ≡ false =
        subst (λ (x : ℕ). (is_name_byte x || begins_escape (x ∷ text)) ≡ false) (sym (eqb-true b k e)) none in
        cc)
    by false e = e

named-goes : (stops : Stops) → Plain stops → (b : ℕ) (text : List ℕ) → IsNamed b text
    → ends_at stops (b ∷ text) ≡ false
named-goes stops plain b text h =
    plain b (named-not b semicolon text h refl refl) (named-not b open_brace text h refl refl)
    (named-not b close_brace text h refl refl)

token-pick : (c q u d w : Bool) (A B C D E F : Quality × List ℕ) → c ≡ false → q ≡ false → d ≡ false → w ≡ true
    → (if c then A else (if q then B else (if u then C else (if d then D else (if w then E else F)))))
    ≡ (if u then C else E)
token-pick true q u d w A B C D E F c0 q0 d0 w0 = absurd (cc)
token-pick false true u d w A B C D E F c0 q0 d0 w0 = absurd (cc)
token-pick false false true d w A B C D E F c0 q0 d0 w0 = refl
token-pick false false false true w A B C D E F c0 q0 d0 w0 = absurd (cc)
token-pick false false false false true A B C D E F c0 q0 d0 w0 = refl
token-pick false false false false false A B C D E F c0 q0 d0 w0 = absurd (cc)

abbrev word_or_url : List ℕ → Option (List ℕ) → Quality × List ℕ
word_or_url text o = if is_some o then past_url (from_close o) else (Whole, past_word text)

token-named : (b : ℕ) (text : List ℕ) → IsNamed b text
    → token (b ∷ text) ≡ word_or_url (b ∷ text) (after_url (b ∷ text))
unfolding token
token-named b text h =
    token-pick (opens_comment (b ∷ text)) (is_quote b) (begins_url (b ∷ text)) (begins_cdo (b ∷ text))
    (is_name_byte b || begins_escape (b ∷ text)) _ _ _ _ _ _
    (ap (λ (c : Bool). c && starts asterisk text) (named-not b slash text h refl refl))
    (ap (λ (c : Bool). c || b == double_quote) (named-not b single_quote text h refl refl)
    ∙ named-not b double_quote text h refl refl)
    (ap (λ (c : Bool). c && starts exclamation_mark text && starts_two hyphen hyphen (drop_one text))
    (named-not b 60 text h refl refl))
    h
  where
    drop_one : List ℕ → List ℕ
    drop_one [] = []
    drop_one (c ∷ more) = more

value-named : (b : ℕ) (text : List ℕ) → IsNamed b text
    → component_value deepest (b ∷ text) ≡ word_or_url (b ∷ text) (after_url (b ∷ text))
value-named b text h =
    let round = named-not b open_parenthesis text h refl refl in
    let square = named-not b open_bracket text h refl refl in
    let brace = named-not b open_brace text h refl refl in
    let opener : is_opener b ≡ false = rw (round, square, brace) refl in
    value-token deepest b text opener ∙ token-named b text h

pub paren-gap : (x : List ℕ) → past_gap (open_parenthesis ∷ x) ≡ open_parenthesis ∷ x
unfolding gap_part
paren-gap x = each-rests gap_part (open_parenthesis ∷ x) refl

word-rest : (b : ℕ) (text : List ℕ) → IsNamed b text
    → length (past_gap (component_value deepest (b ∷ text)).1) ≤ length (past_gap (past_word (b ∷ text)))
word-rest b text h = by (after_url (b ∷ text)) refl (value-named b text h)
  where
    by : (o : Option (List ℕ)) → after_url (b ∷ text) ≡ o
        → component_value deepest (b ∷ text) ≡ word_or_url (b ∷ text) o
        → length (past_gap (component_value deepest (b ∷ text)).1) ≤ length (past_gap (past_word (b ∷ text)))
    by None e v = omega (arith, ap (λ (z : Quality × List ℕ). length (past_gap z.1)) v)
    by (Some x) e v = omega (
      arith,
      ap (λ (z : Quality × List ℕ). length (past_gap z.1)) v,
      past_gap-within (past_url x).1,
      past_url-within x,
      ap (λ (z : List ℕ). length (past_gap z)) (url-word (b ∷ text) x e),
      ap length (paren-gap x),
    )

-- what is left after a word and its blank is no less than after the parts from the word on
pub word-reach : (stops : Stops) → Plain stops → (b : ℕ) (text : List ℕ) → IsNamed b text
    → length (parts stops (b ∷ text)).1 ≤ length (past_gap (past_word (b ∷ text)))
word-reach stops plain b text h =
    let v = component_value deepest (b ∷ text) in
    omega (
      arith,
      ap length (goes stops (b ∷ text) (named-goes stops plain b text h)),
      parts-within stops (past_gap v.1),
      word-rest b text h,
    )

-- the parts after a word that is no function
pub word-through : (stops : Stops) → Plain stops → (b : ℕ) (text : List ℕ) → IsNamed b text
    → starts open_parenthesis (past_word (b ∷ text)) ≡ false
    → (parts stops (past_gap (past_word (b ∷ text)))).1 ≡ (parts stops (b ∷ text)).1
word-through stops plain b text h p = by (after_url (b ∷ text)) refl (value-named b text h)
  where
    by : (o : Option (List ℕ)) → after_url (b ∷ text) ≡ o
        → component_value deepest (b ∷ text) ≡ word_or_url (b ∷ text) o
        → (parts stops (past_gap (past_word (b ∷ text)))).1 ≡ (parts stops (b ∷ text)).1
    by None e v =
        ap (λ (z : Quality × List ℕ). (parts stops (past_gap z.1)).1) (sym v)
        ∙ goes stops (b ∷ text) (named-goes stops plain b text h)
    by (Some x) e v = absurd (let open_there = ap (starts open_parenthesis) (url-word (b ∷ text) x e) in cc)

pub no-word : (b : ℕ) (text : List ℕ) → (is_name_byte b || begins_escape (b ∷ text)) ≡ false
    → past_word (b ∷ text) ≡ b ∷ text
no-word b text e =
    let both = or-both (is_name_byte b) (begins_escape (b ∷ text)) e in
    each-rests name_part (b ∷ text) (no_name_part (b ∷ text) both.1 both.0)

-- a name that a colon follows is no function
pub no-paren : (w : List ℕ) → starts colon (past_gap w) ≡ true → starts open_parenthesis w ≡ false
no-paren [] k = refl
no-paren (d ∷ w) k = by (d == open_parenthesis) refl
  where
    by : (m : Bool) → (d == open_parenthesis) ≡ m → (d == open_parenthesis) ≡ false
    by true f =
        let same : past_gap (d ∷ w) ≡ open_parenthesis ∷ w =
        ap (λ (y : ℕ). past_gap (y ∷ w)) (eqb-true d open_parenthesis f) ∙ paren-gap w in
        absurd (let wrong = ap (starts colon) same in cc)
    by false f = f

colon-value : (text : List ℕ) → component_value deepest (colon ∷ text) ≡ (Whole, text)
unfolding token past_letter
colon-value text = value-token deepest colon text refl

mark-value : (text : List ℕ) → component_value deepest (exclamation_mark ∷ text) ≡ (Whole, text)
unfolding token past_letter
mark-value text = value-token deepest exclamation_mark text refl

pub colon-through : (stops : Stops) → Plain stops → (text : List ℕ)
    → (parts stops (past_gap text)).1 ≡ (parts stops (colon ∷ text)).1
colon-through stops plain text =
    ap (λ (z : Quality × List ℕ). (parts stops (past_gap z.1)).1) (sym (colon-value text))
    ∙ goes stops (colon ∷ text) (plain colon refl refl refl)

pub mark-through : (stops : Stops) → Plain stops → (text : List ℕ)
    → (parts stops (past_gap text)).1 ≡ (parts stops (exclamation_mark ∷ text)).1
mark-through stops plain text =
    ap (λ (z : Quality × List ℕ). (parts stops (past_gap z.1)).1) (sym (mark-value text))
    ∙ goes stops (exclamation_mark ∷ text) (plain exclamation_mark refl refl refl)

-- ---- a declaration ends where its parts do

nothing-before : (text : List ℕ) → before text text ≡ []
nothing-before text =
    let none : length text - length text ≡ 0 = omega arith in ap (λ (k : ℕ). take k text) none

take-none : (k : ℕ) → take {A = ℕ} k [] ≡ []
take-none zero = refl
take-none (suc k) = refl

no-important : spells (codes "important") [] ≡ false
unfolding spells past_letter
no-important = refl

-- a word that spells `important` begins here
pub important-named : (text : List ℕ) → spells (codes "important") (before text (past_word text)) ≡ true
    → (c : ℕ) × (more : List ℕ) × (text ≡ c ∷ more) × IsNamed c more
important-named [] e =
    let empty : before [] (past_word []) ≡ [] = take-none (0 - length (past_word [])) in
    absurd (let none = ap (spells (codes "important")) empty ∙ no-important in cc)
important-named (c ∷ more) e = by (is_name_byte c || begins_escape (c ∷ more)) refl
  where
    by : (k : Bool) → (is_name_byte c || begins_escape (c ∷ more)) ≡ k
        → (d : ℕ) × (rest : List ℕ) × (c ∷ more ≡ d ∷ rest) × IsNamed d rest
    by true h = (c, more, refl, h)
    by false h =
        let empty : before (c ∷ more) (past_word (c ∷ more)) ≡ [] =
        ap (before (c ∷ more)) (no-word c more h) ∙ nothing-before (c ∷ more) in
        absurd (let none = ap (spells (codes "important")) empty ∙ no-important in cc)

abbrev pub ends : Stops
ends = declaration_ends true

pub ends-plain : Plain ends
ends-plain b one two three = rw (one, two, three) (by (b == 44))
  where
    by : (k : Bool) → (if k then false else false) ≡ false
    by true = refl
    by false = refl

-- what ends declarations ends values
pub ends-fewer : (custom : Bool) → Fewer ends (value_ends custom)
ends-fewer custom b h = by (b == semicolon) (b == open_brace) (b == close_brace) (b == 44) h
  where
    by : (s o c m : Bool)
        → (if s then true else (if o then false else (if c then true else (if m then false else false)))) ≡ true
        → (if s then true else (if o then not custom else (if c then true else (if m then false
        else (true && (b == exclamation_mark || is_closer b)))))) ≡ true
    by true o c m h = refl
    by false true c m h = absurd (cc)
    by false false true m h = refl
    by false false false true h = absurd (cc)
    by false false false false h = absurd (cc)

abbrev chosen : Bool → Bool × List ℕ → Bool × List ℕ → Bool × List ℕ
chosen k x y = if k then x else y

importance-ends : (text : List ℕ) → ends_at ends (importance text).1 ≡ true
    → (parts ends text).1 ≡ (importance text).1
importance-ends [] e = parts-rests ends [] e
importance-ends (b ∷ text) e = by (b == exclamation_mark) refl e
  where
    marked : ends_at ends (important_word (exclamation_mark ∷ text) (past_gap text)).1 ≡ true
        → (parts ends (exclamation_mark ∷ text)).1 ≡ (important_word (exclamation_mark ∷ text) (past_gap text)).1
    marked e = word (spells (codes "important") (before (past_gap text) (past_word (past_gap text)))) refl e
      where
        found : (c : ℕ) (more : List ℕ) → past_gap text ≡ c ∷ more → IsNamed c more
            → ends_at ends (past_gap (past_word (past_gap text))) ≡ true
            → (parts ends (past_gap text)).1 ≡ past_gap (past_word (past_gap text))
        found c more f h e = opened (starts open_parenthesis (past_word (c ∷ more))) refl
          where
            paren : (w : List ℕ) → starts open_parenthesis w ≡ true → ends_at ends (past_gap w) ≡ true → ⊥
            paren [] g k = cc
            paren (d ∷ w) g k =
                let same : past_gap (d ∷ w) ≡ open_parenthesis ∷ w =
                ap (λ (x : ℕ). past_gap (x ∷ w)) (eqb-true d open_parenthesis g) ∙ paren-gap w in
                let wrong = ap (ends_at ends) same in cc

            opened : (k : Bool) → starts open_parenthesis (past_word (c ∷ more)) ≡ k
                → (parts ends (past_gap text)).1 ≡ past_gap (past_word (past_gap text))
            opened true g =
                absurd (paren (past_word (c ∷ more)) g
                (subst (λ (z : List ℕ). ends_at ends (past_gap (past_word z)) ≡ true) f e))
            opened false g =
                ap (λ (z : List ℕ). (parts ends z).1) f
                ∙ sym (word-through ends ends-plain c more h g)
                ∙ parts-rests ends (past_gap (past_word (c ∷ more)))
                (subst (λ (z : List ℕ). ends_at ends (past_gap (past_word z)) ≡ true) f e)
                ∙ ap (λ (z : List ℕ). past_gap (past_word z)) (sym f)

        word : (k : Bool) → spells (codes "important") (before (past_gap text) (past_word (past_gap text))) ≡ k
            → ends_at ends (chosen k (true, past_gap (past_word (past_gap text))) (false, exclamation_mark ∷ text)).1
            ≡ true
            → (parts ends (exclamation_mark ∷ text)).1
            ≡ (chosen k (true, past_gap (past_word (past_gap text))) (false, exclamation_mark ∷ text)).1
        word true f e =
            let there = important-named (past_gap text) f in
            sym (mark-through ends ends-plain text) ∙ found there.0 there.1 there.2 there.3 e
        word false f e = absurd (cc)

    by : (k : Bool) → (b == exclamation_mark) ≡ k
        → ends_at ends (chosen k (important_word (b ∷ text) (past_gap (past_byte exclamation_mark (b ∷ text))))
        (false, b ∷ text)).1 ≡ true
        → (parts ends (b ∷ text)).1
        ≡ (chosen k (important_word (b ∷ text) (past_gap (past_byte exclamation_mark (b ∷ text))))
        (false, b ∷ text)).1
    by true f e =
        subst (λ (x : ℕ). ends_at ends
        (important_word (x ∷ text) (past_gap (past_byte exclamation_mark (x ∷ text)))).1 ≡ true
        → (parts ends (x ∷ text)).1
        ≡ (important_word (x ∷ text) (past_gap (past_byte exclamation_mark (x ∷ text)))).1)
        (sym (eqb-true b exclamation_mark f)) marked e
    by false f e = parts-rests ends (b ∷ text) e

abbrev pub Ended : Declared → List ℕ → Type 0
Ended (Ok found) text = (parts ends text).1 ≡ found.1
Ended (Err fault) text = Unit {0}

stated-ends : (name : List ℕ) (stated : Stated) (important : Bool × List ℕ) (text : List ℕ)
    → (ends_at ends important.1 ≡ true → (parts ends text).1 ≡ important.1)
    → Ended (stated_as true name stated important) text
stated-ends name stated important text h =
    by (is_good stated.quality) (ends_at ends important.1) (not (is_empty stated.text) || is_custom name) refl _ _
  where
    by : (q e v : Bool) → ends_at ends important.1 ≡ e → (made : DeclarationText) (why : Fault)
        → Ended (if q && e && v then Ok (made, important.1) else Err why) text
    by false e v f made why = tt
    by true false v f made why = tt
    by true true false f made why = tt
    by true true true f made why = h f

named-ends : (name : List ℕ) (g : List ℕ) → Ended (named true name g) g
named-ends name [] = tt
named-ends name (c ∷ g) = by (c == colon) refl
  where
    many : Stops
    many = value_ends (is_custom name)

    V : List ℕ
    V = past_gap g

    colon_case : Ended (valued true name (value (is_custom name) V)) (colon ∷ g)
    colon_case =
        stated-ends name (parts many V).0 (importance (parts many V).1) (colon ∷ g)
        (λ e.
        sym (colon-through ends ends-plain g)
        ∙ sym (through ends many (ends-fewer (is_custom name)) V)
        ∙ importance-ends (parts many V).1 e)

    by : (k : Bool) → (c == colon) ≡ k → Ended (named true name (c ∷ g)) (c ∷ g)
    by true f =
        subst (λ (x : ℕ). Ended (named true name (x ∷ g)) (x ∷ g)) (sym (eqb-true c colon f)) colon_case
    by false f = rw f tt

-- a declaration ends where parts from its start on do
pub declaration-ends : (b : ℕ) (text : List ℕ) → Ended (declaration true (b ∷ text)) (b ∷ text)
unfolding declaration
declaration-ends b text = by (starts_ident (b ∷ text)) refl
  where
    W : List ℕ
    W = past_word (b ∷ text)

    move : (d : Declared) → Ended d (past_gap W) → (parts ends (past_gap W)).1 ≡ (parts ends (b ∷ text)).1
        → Ended d (b ∷ text)
    move (Ok found) h e = sym e ∙ h
    move (Err fault) h e = tt

    ident : starts_ident (b ∷ text) ≡ true → Ended (named true (before (b ∷ text) W) (past_gap W)) (b ∷ text)
    ident h = starts_colon (starts colon (past_gap W)) refl
      where
        starts_colon : (k : Bool) → starts colon (past_gap W) ≡ k
            → Ended (named true (before (b ∷ text) W) (past_gap W)) (b ∷ text)
        starts_colon true e =
            move (named true (before (b ∷ text) W) (past_gap W)) (named-ends (before (b ∷ text) W) (past_gap W))
            (word-through ends ends-plain b text (ident-word b text h) (no-paren W e))
        starts_colon false e = rw e tt

    by : (k : Bool) → starts_ident (b ∷ text) ≡ k
        → Ended (if k then named true (before (b ∷ text) W) (past_gap W) else Err BrokenDeclaration) (b ∷ text)
    by true h = ident h
    by false h = tt

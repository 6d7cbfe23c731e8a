-- A declaration that was read, printed and read again.
-- Serves `prints_back` of `StyleSheet::{parse, parse_more, read}` (a sheet printed and read
-- again).
use Rattle.std.proofs.Common.{◌≡◌, ℕ, inl, inr, List, [], ◌∷◌, ◌++◌, Bool, true, false, ◌==◌, length, codes, refl, sym, ap, ◌∙◌, subst, append_assoc, arith, IsUtf8, None}
use Rattle.std.proofs.lemmas.Bool.Decides.{nat_tests}
use Rattle.std.specs.Str.{chars, trim, trim_start, trim_end}
use Rattle.std.proofs.lemmas.Str.{IsUtf8-append}
use Rattle.css_text.specs.AsciiBytes.{asterisk, colon, exclamation_mark, semicolon as semicolon_byte, space}
use Rattle.css_text.specs.Reading.{no_name, Reading, got, fails, Reader, follow, before, each, left_after, Ends, last_or}
use Rattle.css_text.specs.Bytes.{past_byte, byte, starts}
use Rattle.css_text.specs.Characters.{Edition, first_edition, second_edition, is_space}
use Rattle.css_text.specs.Comments.{opens_comment, blank_part, past_blank, blank}
use Rattle.css_text.specs.Names.{name}
use Rattle.simplecss_grammar.specs.Terms.{arguments, word, term}
use Rattle.simplecss_grammar.specs.Declarations.{StyleDeclaration, terms, value, important_word, importance, semicolon, semicolons, trailing, unless_empty, declaration}
use Rattle.simplecss_grammar.specs.Printing.{important_text, declaration_text}
use Rattle.simplecss_grammar.specs.PrintingLaws.{IsNarrow, DeclarationReadsBack}
use Rattle.simplecss_grammar.proofs.reading.DeclarationsLawful.{declaration-steps, semicolon-takes}
use Rattle.css_text.proofs.reading.EndsLemmas.{before-append, ends-past_byte}
use Rattle.simplecss_grammar.proofs.reading.PrintedNames.{IsName, name-reads, ends_names, ends_names-byte, IsNameByte, name-first, other_byte}
use Rattle.css_text.proofs.reading.EachLemmas.{each-none, each-some}
use Rattle.css_text.proofs.bytes.GapLemmas.{past_blank-again, NoGap, no_gap-byte, blank-at}
use Rattle.simplecss_grammar.proofs.round_trip.PrintedHeads.{no_gap-name}
use Rattle.simplecss_grammar.proofs.reading.LocalLemmas.{ContinuesNothing, diverge-front, quiet-mark, quiet-semicolon, quiet-space}
use Rattle.simplecss_grammar.proofs.reading.NameLocal.{name-quiet}
use Rattle.simplecss_grammar.proofs.round_trip.BlankTails.{blank_part-by, past_blank-space}
use Rattle.simplecss_grammar.proofs.round_trip.TermEnds.{is_bare, FirstBare}
use Rattle.css_text.proofs.reading.GotLemmas.{IfGot, if_got, if_got-follow, if_got-if, got-holds}
use Rattle.css_text.proofs.bytes.Utf8Lemmas.{utf8-past_byte_if}
use Rattle.simplecss_grammar.proofs.reading.ReadNames.{ReadName, name-is}
use Rattle.css_text.proofs.reading.WellLemmas.{EndsWell, well-blank, well-byte}
use Rattle.simplecss_grammar.proofs.reading.WellNames.{well-name}
use Rattle.simplecss_grammar.proofs.round_trip.ValuesAgain.{valued-closed, valued-again, value-reads, IsValueText, narrow-parts, terms-end, TermsEnd, value_text-is}

-- what a declaration satisfies that was read from a text without white space past ASCII
pub record IsDeclaration (edition : Edition) (p : StyleDeclaration) : Type 0 where
  pub name_is : IsName edition p.name
  pub value_is : IsValueText edition p.value
  pub some : (length p.value == 0) ≡ false

-- an end of such a text
pub narrow-end : (text rest : List ℕ) → IsNarrow text → Ends text rest → IsUtf8 rest → IsNarrow rest
narrow-end text rest n end u =
    (narrow-parts (before text rest) rest (subst IsNarrow (sym end) n) u).1

narrow-got : {A : Type 0} (text : List ℕ) (r : Reading A) → IsNarrow text
    → EndsWell text (left_after r) → IfGot (λ x rest. IsNarrow rest) r
narrow-got text (got x rest) n h = narrow-end text rest n h.0 (h.1 n.0)
narrow-got text (fails fault rest) n h = tt

name-narrow : (edition : Edition) (text : List ℕ) → IsNarrow text
    → IfGot (λ n rest. ReadName edition text n rest × IsNarrow rest) (name edition text)
name-narrow edition text n =
    if_got (λ m rest. ReadName edition text m rest × IsNarrow rest) (name edition text)
    (λ m rest e. (
      name-is edition text m rest n.0 e,
      got-holds (λ m rest. IsNarrow rest) _ _ _
          (narrow-got text (name edition text) n (well-name edition text)) e,
    ))

-- the declaration, from its value
abbrev stated_as : Edition → List ℕ → List ℕ → List ℕ → Bool → Reader StyleDeclaration
stated_as edition name start v important =
    unless_empty start (record { name = name; value = v; important = important })

nothing_stated : (start : List ℕ) → trim (before start start) ≡ []
unfolding trim_start trim_end chars
nothing_stated start = ap trim (before-append [] start) ∙ refl

stated-is : (edition : Edition) (name start : List ℕ) (important : Bool) (text : List ℕ)
    → IsName edition name → IsNarrow start
    → IfGot (λ p rest. IsDeclaration edition p)
    (stated_as edition name start (value edition start).0 important text)
unfolding value
stated-is edition name start important text w n = by (terms-end edition start)
  where
    P : List ℕ → Type 0
    P v = IfGot (λ p rest. IsDeclaration edition p) (stated_as edition name start v important text)

    some_stated : (v : List ℕ) → IsValueText edition v → P v
    some_stated v x =
        if_got-if (λ p rest. IsDeclaration edition p) (length v == 0) _ _ (λ e. tt)
        (λ e. record { name_is = w; value_is = x; some = e })

    by : TermsEnd edition start → P (value edition start).0
    by (inl none_there) =
        let empty : trim (before start (last_or start (terms edition start).0)) ≡ [] =
        ap (λ l. trim (before start (last_or start l))) none_there ∙ nothing_stated start in
        subst P (sym empty) tt
    by (inr x) =
        let v : trim (before start (last_or start (terms edition start).0))
        ≡ trim (before start x.0) = ap (λ t. trim (before start t)) (x.2 start) in
        subst P (sym v)
        (some_stated (trim (before start x.0)) (value_text-is edition x.0 start n x.1))

-- the declaration, from what follows its name
abbrev after_name : Edition → List ℕ → Reader StyleDeclaration
after_name edition name c =
    follow (blank c)
    (λ x d. follow (byte colon d)
    (λ x e. follow (blank e)
    (λ x start. follow (trailing (value edition start).1)
    (stated_as edition name start (value edition start).0))))

named-is : (edition : Edition) (name c : List ℕ) → IsName edition name → IsNarrow c
    → IfGot (λ p rest. IsDeclaration edition p) (after_name edition name c)
named-is edition name c w n =
    let P : StyleDeclaration → List ℕ → Type 0 = λ p rest. IsDeclaration edition p in
    let Q : Unit {0} → List ℕ → Type 0 = λ x rest. IsNarrow rest in
    if_got-follow Q P _ _ (narrow-got c (blank c) n (well-blank c)) (λ x d nd.
    if_got-follow Q P _ _ (narrow-got d (byte colon d) nd (well-byte colon d (omega arith)))
    (λ x e ne.
    if_got-follow Q P _ _ (narrow-got e (blank e) ne (well-blank e)) (λ x start ns.
    if_got-follow (λ important rest. Unit {0}) P _ _
    (if_got (λ important rest. Unit {0}) (trailing (value edition start).1)
    (λ important rest g. tt)) (λ important h t.
    stated-is edition name start important h w ns))))

-- after a name that ends the text there is no colon
ended-is : (edition : Edition) (name c : List ℕ) → c ≡ []
    → IfGot (λ p rest. IsDeclaration edition p) (after_name edition name c)
unfolding blank each
ended-is edition name c e =
    subst (λ (t : List ℕ). IfGot (λ p rest. IsDeclaration edition p) (after_name edition name t))
    (sym e) tt

-- what was read as a declaration from such a text
pub declaration-is : (edition : Edition) (text : List ℕ) → IsNarrow text
    → IfGot (λ p rest. IsDeclaration edition p) (declaration edition text)
declaration-is edition text n =
    let P : StyleDeclaration → List ℕ → Type 0 = λ p rest. IsDeclaration edition p in
    subst (IfGot P) (sym (declaration-steps edition text))
    (if_got-follow (λ x rest. IsNarrow rest) P _ _
    (narrow-got text (blank text) n (well-blank text)) (λ x a na.
    let b = past_byte asterisk a in
    let nb = narrow-end a b na (ends-past_byte asterisk a)
    (utf8-past_byte_if asterisk a (omega arith) na.0) in
    if_got-follow (λ m rest. ReadName edition b m rest × IsNarrow rest) P _ _
    (name-narrow edition b nb) (λ m c w.
    elim (w.0.is) [ inl i ↦ named-is edition m c i w.1 | inr h ↦ ended-is edition m c h.1 ])))

-- printed and read again

follow-got : {A B : Type 0} (r : Reading A) (x : A) (rest : List ℕ) (next : A → Reader B)
    → r ≡ got x rest → follow r next ≡ next x rest
follow-got r x rest next e = ap (λ y. follow y next) e

blank-none : (text : List ℕ) → NoGap text → blank text ≡ got tt text
blank-none text w = blank-at text text (ap (λ r. r.1) w.none) w.closed

-- no term begins with a semicolon or an exclamation mark
no_word : (edition : Edition) (q : ℕ) (text : List ℕ) → ContinuesNothing edition q
    → word edition (q ∷ text) ≡ fails (no_name (q ∷ text)) (q ∷ text)
unfolding word
no_word edition q text quiet = ap (λ y. follow y (λ n. arguments)) (name-quiet edition q text quiet)

semicolon_term : (edition : Edition) (text : List ℕ)
    → term edition (semicolon_byte ∷ text)
    ≡ fails (no_name (semicolon_byte ∷ text)) (semicolon_byte ∷ text)
unfolding term
semicolon_term first_edition text =
    no_word first_edition semicolon_byte text (quiet-semicolon first_edition)
semicolon_term second_edition text =
    no_word second_edition semicolon_byte text (quiet-semicolon second_edition)

mark_term : (edition : Edition) (text : List ℕ)
    → term edition (exclamation_mark ∷ text)
    ≡ fails (no_name (exclamation_mark ∷ text)) (exclamation_mark ∷ text)
unfolding term
mark_term first_edition text =
    no_word first_edition exclamation_mark text (quiet-mark first_edition)
mark_term second_edition text =
    no_word second_edition exclamation_mark text (quiet-mark second_edition)

-- the part after the importance
abbrev semicolons_then : Bool → Reader Bool
semicolons_then important text =
    follow (blank text)
    (λ x c. follow (semicolons c) (λ x d. follow (blank d) (λ x. got important)))

one_semicolon : (text : List ℕ) → starts semicolon_byte (past_blank text) ≡ false
    → (each semicolon (semicolon_byte ∷ text)).1 ≡ past_blank text
one_semicolon text e =
    let first =
    each-some semicolon semicolon-takes (semicolon_byte ∷ text) (past_blank text) tt refl in
    let part : semicolon (past_blank text) ≡ None = rw e refl in
    let second = each-none semicolon (past_blank text) part in
    ap (λ r. r.1) first ∙ ap (λ r. r.1) second

semicolons-read : (important : Bool) (text : List ℕ) → opens_comment (past_blank text) ≡ false
    → starts semicolon_byte (past_blank text) ≡ false
    → semicolons_then important (semicolon_byte ∷ text) ≡ got important (past_blank text)
semicolons-read important text o e =
    let following : List ℕ → Reading Bool = λ d. follow (blank d) (λ x. got important) in
    follow-got (blank (semicolon_byte ∷ text)) tt (semicolon_byte ∷ text)
    (λ x c. follow (semicolons c) (λ x. following))
    (blank-none (semicolon_byte ∷ text) (no_gap-byte semicolon_byte text refl refl))
    ∙ ap following (one_semicolon text e)
    ∙ follow-got (blank (past_blank text)) tt (past_blank text) (λ x. got important)
    (blank-at (past_blank text) (past_blank text) (past_blank-again text) o)

trailing-plain : (text : List ℕ) → opens_comment (past_blank text) ≡ false
    → starts semicolon_byte (past_blank text) ≡ false
    → trailing (semicolon_byte ∷ text) ≡ got false (past_blank text)
unfolding trailing importance
trailing-plain text o e =
    follow-got (blank (semicolon_byte ∷ text)) tt (semicolon_byte ∷ text)
    (λ x a. follow (importance a) semicolons_then)
    (blank-none (semicolon_byte ∷ text) (no_gap-byte semicolon_byte text refl refl))
    ∙ semicolons-read false text o e

trailing-important : (text : List ℕ) → opens_comment (past_blank text) ≡ false
    → starts semicolon_byte (past_blank text) ≡ false
    → trailing (codes "!important" ++ (semicolon_byte ∷ text)) ≡ got true (past_blank text)
unfolding trailing importance
trailing-important text o e =
    let word_there = codes "important" ++ (semicolon_byte ∷ text) in
    follow-got (blank (exclamation_mark ∷ word_there)) tt (exclamation_mark ∷ word_there)
    (λ x a. follow (importance a) semicolons_then)
    (blank-none (exclamation_mark ∷ word_there) (no_gap-byte exclamation_mark word_there refl refl))
    ∙ ap (λ r. follow r semicolons_then)
    (follow-got (blank word_there) tt word_there (λ x. important_word)
    (blank-none word_there
    (no_gap-byte 105 (codes "mportant" ++ (semicolon_byte ∷ text)) refl refl)))
    ∙ semicolons-read true text o e

-- a value, and what follows it

bare_no_space : (b : ℕ) → is_bare b ≡ true → is_space b ≡ false
bare_no_space b e = grind (arith, nat_tests)

value-no_gap : (edition : Edition) (v : List ℕ) (q : ℕ) (tail : List ℕ) → IsValueText edition v
    → ContinuesNothing edition q → NoGap (v ++ (q ∷ tail))
value-no_gap edition v q tail w quiet = by v w.first closed
  where
    closed : opens_comment (v ++ (q ∷ tail)) ≡ false
    closed =
        valued-closed edition (q ∷ tail) (v ++ (q ∷ tail))
        (valued-again edition w.r q tail (v ++ w.r) (v ++ (q ∷ tail)) quiet w.r_is
        (IsUtf8-append v w.r w.value_is w.r_is) w.valued (diverge-front w.r (q ∷ tail) v))

    by : (v : List ℕ) → FirstBare v → opens_comment (v ++ (q ∷ tail)) ≡ false
        → NoGap (v ++ (q ∷ tail))
    by [] first o = absurd first
    by (b ∷ v) first o =
        let text = v ++ (q ∷ tail) in
        record {
          none = each-none blank_part (b ∷ text)
              (blank_part-by b text false false _ (bare_no_space b first) o refl);
          closed = o;
        }

-- what a value is read as, and what follows it
record StatedAgain (edition : Edition) (v : List ℕ) (important : Bool)
    (text following : List ℕ) : Type 0 where
  pub left : List ℕ
  pub calm : NoGap (v ++ (important_text important ++ (semicolon_byte ∷ text)))
  pub stated : value edition (v ++ (important_text important ++ (semicolon_byte ∷ text)))
      ≡ (v, left)
  pub trails : trailing left ≡ got important following

stated-again : (edition : Edition) (v : List ℕ) (important : Bool) (text : List ℕ)
    → IsValueText edition v → opens_comment (past_blank text) ≡ false
    → starts semicolon_byte (past_blank text) ≡ false
    → StatedAgain edition v important text (past_blank text)
stated-again edition v false text w o e =
    let left = semicolon_byte ∷ text in
    let none_there : past_blank left ≡ left =
    ap (λ r. r.1) (no_gap-byte semicolon_byte text refl refl).none in
    record {
      left = left;
      calm = value-no_gap edition v semicolon_byte text w (quiet-semicolon edition);
      stated =
          value-reads edition v semicolon_byte text left (no_name left) w (quiet-semicolon edition)
          (ap (term edition) none_there ∙ semicolon_term edition text);
      trails = trailing-plain text o e;
    }
stated-again edition v true text w o e =
    let left = codes "!important" ++ (semicolon_byte ∷ text) in
    let none_there : past_blank (space ∷ left) ≡ left =
    past_blank-space space left refl
    ∙ ap (λ r. r.1)
    (no_gap-byte exclamation_mark (codes "important" ++ (semicolon_byte ∷ text)) refl refl).none in
    record {
      left = left;
      calm = value-no_gap edition v space left w (quiet-space edition);
      stated =
          value-reads edition v space left left (no_name left) w (quiet-space edition)
          (ap (term edition) none_there
          ∙ mark_term edition (codes "important" ++ (semicolon_byte ∷ text)));
      trails = trailing-important text o e;
    }

-- a printed declaration, part by part
pub declaration_text-assoc : (p : StyleDeclaration) (text : List ℕ)
    → declaration_text p ++ text ≡ p.name ++
    (colon ∷ (p.value ++ (important_text p.important ++ (semicolon_byte ∷ text))))
declaration_text-assoc p text = by p.name p.value (important_text p.important)
  where
    by : (n v i : List ℕ)
        → ((((n ++ (colon ∷ [])) ++ v) ++ i) ++ (semicolon_byte ∷ [])) ++ text
        ≡ n ++ (colon ∷ (v ++ (i ++ (semicolon_byte ∷ text))))
    by n v i =
        append_assoc (((n ++ (colon ∷ [])) ++ v) ++ i) (semicolon_byte ∷ []) text
        ∙ append_assoc ((n ++ (colon ∷ [])) ++ v) i (semicolon_byte ∷ text)
        ∙ append_assoc (n ++ (colon ∷ [])) v (i ++ (semicolon_byte ∷ text))
        ∙ append_assoc n (colon ∷ []) (v ++ (i ++ (semicolon_byte ∷ text)))

after_name-reads : (edition : Edition) (p : StyleDeclaration) (text following : List ℕ)
    → (length p.value == 0) ≡ false → StatedAgain edition p.value p.important text following
    → after_name edition p.name
    (colon ∷ (p.value ++ (important_text p.important ++ (semicolon_byte ∷ text))))
    ≡ got p following
after_name-reads edition p text following some w =
    let start = p.value ++ (important_text p.important ++ (semicolon_byte ∷ text)) in
    let from_value : List ℕ → Reading StyleDeclaration =
    λ s. follow (trailing (value edition s).1) (stated_as edition p.name s (value edition s).0)
    in
    let value_is = w.stated in
    let left_is = w.trails in
    follow-got (blank (colon ∷ start)) tt (colon ∷ start)
    (λ x d. follow (byte colon d) (λ x e. follow (blank e) (λ x. from_value)))
    (blank-none (colon ∷ start) (no_gap-byte colon start refl refl))
    ∙ follow-got (blank start) tt start (λ x. from_value) (blank-none start w.calm)
    ∙ ap (λ (r : List ℕ × List ℕ). follow (trailing r.1) (stated_as edition p.name start r.0))
    w.stated
    ∙ follow-got (trailing w.left) p.important following (stated_as edition p.name start p.value)
    w.trails
    ∙ rw some refl

colon_ends : (edition : Edition) (text : List ℕ) → ends_names edition (colon ∷ text) ≡ false
colon_ends edition text = ends_names-byte edition colon text (omega arith) refl refl

no_star : (edition : Edition) (b : ℕ) (text : List ℕ) → IsNameByte edition b
    → past_byte asterisk (b ∷ text) ≡ b ∷ text
no_star edition b text w =
    let e = other_byte edition asterisk b (omega arith) refl refl w in
    rw e refl

-- A declaration that was read from a text without white space past ASCII reads back.
pub printed_declaration-reads_back : (edition : Edition) (p : StyleDeclaration)
    → IsDeclaration edition p → DeclarationReadsBack edition p
printed_declaration-reads_back edition p w text o e =
    let following = colon ∷ (p.value ++ (important_text p.important ++ (semicolon_byte ∷ text))) in
    let f = name-first edition p.name w.name_is in
    let whole = p.name ++ following in
    let begins : whole ≡ f.first ∷ (f.others ++ following) = ap (λ l. l ++ following) f.is in
    let calm : NoGap whole =
    subst NoGap (sym begins) (no_gap-name edition f.first (f.others ++ following) f.fit) in
    let star : past_byte asterisk whole ≡ whole =
    ap (past_byte asterisk) begins ∙ no_star edition f.first (f.others ++ following) f.fit
    ∙ sym begins in
    let from_name : List ℕ → Reading StyleDeclaration =
    λ b. follow (name edition b) (λ m. after_name edition m) in
    ap (declaration edition) (declaration_text-assoc p text) ∙ declaration-steps edition whole
    ∙ follow-got (blank whole) tt whole (λ x a. from_name (past_byte asterisk a))
    (blank-none whole calm)
    ∙ ap from_name star
    ∙ follow-got (name edition whole) p.name following (λ m. after_name edition m)
    (name-reads edition p.name following w.name_is
    (colon_ends edition (p.value ++ (important_text p.important ++ (semicolon_byte ∷ text)))))
    ∙ after_name-reads edition p text (past_blank text) w.some
    (stated-again edition p.value p.important text w.value_is o e)

-- A declaration that was read, printed and read again.
-- Serves `laws::printed_declarations_read_back`.
use Rattle.std.proofs.Common.{◌≡◌, ℕ, zero, suc, ◌<◌, ◌≤◌, ◌==◌, ◌||◌, ◌&&◌, not, codes, Bool, true, false, List, [], ◌∷◌, ◌++◌, append_assoc, length, Option, Some, None, Ok, Err, arith, refl, sym, ap, subst, ◌∙◌, if◌then◌else◌, eqb-true, ◌⊎◌, inl, inr}
use Rattle.std.specs.List.{All}
use Rattle.std.proofs.lemmas.Bool.{and_parts}
use Rattle.std.proofs.lemmas.List.Elements.{All-cons, All-nil}
use Rattle.css_text.specs.AsciiBytes.{asterisk, newline, colon, semicolon, exclamation_mark, backslash, hyphen, at_sign, slash, open_brace, close_brace, space, underscore}
use Rattle.css_text.specs.Reading.{before, each, last_or}
use Rattle.css_text.specs.Bytes.{past, past_byte, starts, starts_by, starts_two, is_digit, is_hex_digit}
use Rattle.css_text.specs.Characters.{is_space, is_letter}
use Rattle.css_text.specs.Strings.{is_quote}
use Rattle.css_text.proofs.reading.EachLemmas.{each-stops, option_cases, took}
use Rattle.css_syntax.specs.declared.quality.Quality.{Quality}
use Rattle.css_syntax.specs.declared.quality.Quality.TheVariants.{Whole, Open, BadString, BadUrl, StrayBracket, TooDeep}
use Rattle.css_syntax.specs.declared.quality.Fault.{Fault}
use Rattle.css_syntax.specs.declared.quality.Fault.TheVariants.{NestedRule}
use Rattle.css_syntax.specs.Qualities.{is_good, is_whole}
use Rattle.css_syntax.specs.Tokens.{past_one_space, past_hex, past_escape, begins_escape, hex_number, is_either, past_letter, spells, is_wide_byte, is_name_byte, name_part, past_word, gap_part, past_gap}
use Rattle.css_syntax.specs.Parts.{Stated, ends_at, parts}
use Rattle.css_syntax.specs.Statements.{begins_plain_ident, starts_ident, begins_at_rule, ends_block, block, at_rule, at_rule_ends}
use Rattle.css_syntax.specs.DeclarationLists.{DeclarationText, ItemText, declared, at_rule_item, skipped_item, declaration_ends, value_ends, value, important_word, importance, is_custom, is_empty, is_stated, Declared, stated_as, valued, named, declaration, past_broken, begins_custom, or_rule, item, separator_part, past_separators, ListText, with_text, item_from, next_item, items}
use Rattle.css_syntax.specs.Printing.{ends_lone, important_text, stated_text, declaration_text, DeclarationReadsBack, ItemReadsBack, ItemsReadBack, ReadsBackWith, ItemsReadBackWith}
use Rattle.css_syntax.proofs.Shorter.{each-rests, each-goes, gap_part-takes, name_part-takes, word-less}
use Rattle.css_syntax.proofs.RunSteps.{not-this}
use Rattle.css_syntax.proofs.PartTexts.{end-well}
use Rattle.css_syntax.proofs.ItemLemmas.{ident-word, next_item-takes}
use Rattle.css_syntax.proofs.ListSteps.{items-some, items-none}
use Rattle.css_syntax.proofs.Parting.{Parting, Quiet, parting-longer, parting-end, Follows, Any}
use Rattle.css_syntax.proofs.Parting.Parting.{at, on, pair}
use Rattle.css_syntax.proofs.PartingTokens.{word-kept, gap_part-follows}
use Rattle.css_syntax.proofs.PartingUrls.{NoLetter, either-name, and-none}
use Rattle.css_syntax.proofs.PartingValues.{Seam}
use Rattle.css_syntax.proofs.PartingParts.{ends_of, flaws_of, gap-again, last-no_quote, parts-kept}
use Rattle.css_syntax.proofs.PartingNames.{parting-front, before-append, word-parting}

-- ---- what was read

-- A declaration as it was read from this start.
record ReadFrom (start : List ℕ) (d : DeclarationText) : Type 0 where
  pub begins : starts_ident start ≡ true
  pub name_is : d.name ≡ before start (past_word start)
  pub colon_is : starts colon (past_gap (past_word start)) ≡ true
  pub value_is : d.value
      ≡ (value (is_custom d.name) (past_gap (past_byte colon (past_gap (past_word start))))).0.text
  pub closed_is : d.closed
      ≡ is_whole (value (is_custom d.name)
      (past_gap (past_byte colon (past_gap (past_word start))))).0.quality
  pub some : (not (is_empty d.value) || is_custom d.name) ≡ true

-- the same of an item, if it is a declaration
abbrev IsReadFrom : List ℕ → ItemText → Type 0
IsReadFrom start (declared d) = ReadFrom start d
IsReadFrom start (at_rule_item a) = Unit {0}
IsReadFrom start (skipped_item fault) = Unit {0}

-- the same of what is read as a declaration
abbrev IsDeclaredFrom : List ℕ → Declared → Type 0
IsDeclaredFrom start (Ok found) = ReadFrom start found.0
IsDeclaredFrom start (Err fault) = Unit {0}

declaration-read : (in_block : Bool) (start : List ℕ)
    → IsDeclaredFrom start (declaration in_block start)
unfolding declaration
declaration-read in_block start = by (starts_ident start) refl
  where
    stated : (s : Stated) (i : Bool × List ℕ) (k : Bool)
        → is_stated in_block (before start (past_word start)) s i.1 ≡ k
        → starts_ident start ≡ true → starts colon (past_gap (past_word start)) ≡ true
        → s ≡ (value (is_custom (before start (past_word start)))
        (past_gap (past_byte colon (past_gap (past_word start))))).0
        → IsDeclaredFrom start (stated_as in_block (before start (past_word start)) s i)
    stated s i true e f g v =
        let whole = before start (past_word start) in
        let parts = and_parts (is_good s.quality && ends_at (declaration_ends in_block) i.1)
        (not (is_empty s.text) || is_custom whole) e in
        rw e (record {
          begins = f;
          name_is = refl;
          colon_is = g;
          value_is = ap (λ (x : Stated). x.text) v;
          closed_is = ap (λ (x : Stated). is_whole x.quality) v;
          some = parts.1;
        })
    stated s i false e f g v = rw e tt

    after : (k : Bool) → starts colon (past_gap (past_word start)) ≡ k → starts_ident start ≡ true
        → IsDeclaredFrom start
        (named in_block (before start (past_word start)) (past_gap (past_word start)))
    after true g f =
        let s = value (is_custom (before start (past_word start))) (past_gap (past_byte colon (past_gap (past_word start)))) in
        rw g (stated s.0 (importance s.1)
        (is_stated in_block (before start (past_word start)) s.0 (importance s.1).1) refl f g refl)
    after false g f = rw g tt

    by : (k : Bool) → starts_ident start ≡ k → IsDeclaredFrom start (declaration in_block start)
    by true f = rw f (after (starts colon (past_gap (past_word start))) refl f)
    by false f = rw f tt

-- what is no declaration, in each case
abbrev ended_by : (k t u : Bool) → Fault → (broken after rest all : List ℕ) → ItemText × List ℕ
ended_by k t u fault broken after rest all =
    if k
    then (if t then (if u then (skipped_item fault, broken) else (skipped_item NestedRule, after))
    else (skipped_item fault, rest))
    else (skipped_item fault, all)

or_rule-read : (in_block : Bool) (start : List ℕ) (x : Declared) → IsDeclaredFrom start x
    → IsReadFrom start (or_rule in_block start x).0
or_rule-read in_block start (Ok found) h = h
or_rule-read in_block start (Err fault) h =
    by in_block (starts open_brace rest) (begins_custom start) (past_broken in_block rest)
    (block (past_byte open_brace rest)).1
  where
    rest : List ℕ
    rest = (parts (at_rule_ends in_block) start).1

    by : (k t u : Bool) (broken after : List ℕ)
        → IsReadFrom start (ended_by k t u fault broken after rest (past_broken in_block start)).0
    by true true true broken after = tt
    by true true false broken after = tt
    by true false u broken after = tt
    by false t u broken after = tt

item-read : (in_block : Bool) (start : List ℕ) → IsReadFrom start (item in_block start).0
unfolding item
item-read in_block start = by (begins_at_rule start)
  where
    by : (k : Bool) → IsReadFrom start
        (if k then (at_rule_item (at_rule in_block start).0, (at_rule in_block start).1)
        else or_rule in_block start (declaration in_block start)).0
    by true = tt
    by false =
        or_rule-read in_block start (declaration in_block start) (declaration-read in_block start)

-- ---- what follows a name and a value, printed

pub quiet-byte : (q : ℕ) (more : List ℕ) → past_byte newline (q ∷ more) ≡ q ∷ more
    → past_one_space (q ∷ more) ≡ q ∷ more → is_hex_digit q ≡ false → Quiet (q ∷ more)
quiet-byte q more n s x = record { newline_is = n; space_is = s; hex_is = by }
  where
    by : (n : ℕ) → past_hex n (q ∷ more) ≡ q ∷ more
    by zero = refl
    by (suc n) = rw x refl

pub no_letter-byte : (q : ℕ) (more : List ℕ) → is_hex_digit q ≡ false → is_name_byte q ≡ false
    → (q == backslash) ≡ false → NoLetter (q ∷ more)
unfolding past_letter
no_letter-byte q more x n b = record { number = number; letter = letter }
  where
    number : (n so_far : ℕ) → hex_number n so_far (q ∷ more) ≡ so_far
    number zero so_far = refl
    number (suc n) so_far = rw x refl

    letter : (low up : ℕ) → is_name_byte low ≡ true → is_name_byte up ≡ true
        → past_letter low up (q ∷ more) ≡ None
    letter low up l m = by (is_either low up q) refl
      where
        by : (k : Bool) → is_either low up q ≡ k → past_letter low up (q ∷ more) ≡ None
        by true e = absurd (let wrong = either-name low up q l m e in cc)
        by false e = rw (e, b) refl

-- no hyphen or mark, in any place
pub second-none : (x y : Bool) → (x && y && false) ≡ false
second-none true true = refl
second-none true false = refl
second-none false y = refl

pub third-none : (x y z : Bool) → (x && y && (z && false)) ≡ false
third-none true true true = refl
third-none true true false = refl
third-none true false z = refl
third-none false y z = refl

-- before a semicolon
seam-semicolon : (t text : List ℕ) → starts_by is_quote (past is_space t) ≡ false
    → Seam t (semicolon ∷ text)
unfolding name_part
seam-semicolon t text e = record {
  quiet = quiet-byte semicolon text refl refl refl;
  no_letter = no_letter-byte semicolon text refl refl refl;
  no_cdo = record {
    one = λ b. and-none (b == 60) (starts_two hyphen hyphen text);
    two = λ b c. second-none (b == 60) (c == exclamation_mark);
    three = λ b c d. third-none (b == 60) (c == exclamation_mark) (d == hyphen);
  };
  no_name = refl;
  no_slash = refl;
  no_star = refl;
  no_open = refl;
  no_quote = refl;
  first_quote = e;
}

-- before `!important`
seam-mark : (t text : List ℕ) → starts_by is_quote (past is_space t) ≡ false
    → Seam t (codes "!important" ++ text)
unfolding name_part
seam-mark t text e =
    let more = codes "important" ++ text in
    record {
      quiet = quiet-byte exclamation_mark more refl refl refl;
      no_letter = no_letter-byte exclamation_mark more refl refl refl;
      no_cdo = record {
        one = λ b. second-none (b == 60) true;
        two = λ b c. second-none (b == 60) (c == exclamation_mark);
        three = λ b c d. third-none (b == 60) (c == exclamation_mark) (d == hyphen);
      };
      no_name = refl;
      no_slash = refl;
      no_star = refl;
      no_open = refl;
      no_quote = refl;
      first_quote = e;
    }

-- the importance and the semicolon
abbrev after_value : Bool → List ℕ → List ℕ
after_value important text = important_text important ++ (semicolon ∷ text)

seam-value : (t : List ℕ) (important : Bool) (text : List ℕ)
    → starts_by is_quote (past is_space t) ≡ false → Seam t (after_value important text)
seam-value t true text e = seam-mark t (semicolon ∷ text) e
seam-value t false text e = seam-semicolon t text e

-- no blank is there, and the value ends
no_gap-value : (important : Bool) (text : List ℕ)
    → gap_part (after_value important text) ≡ None
unfolding gap_part
no_gap-value true text = refl
no_gap-value false text = refl

value-stops : (custom important : Bool) (text : List ℕ)
    → ends_at (value_ends custom) (after_value important text) ≡ true
value-stops custom true text = refl
value-stops custom false text = refl

word-important : (text : List ℕ)
    → past_word (codes "important" ++ (semicolon ∷ text)) ≡ semicolon ∷ text
unfolding name_part each
word-important text = refl

mark-read : (text : List ℕ)
    → importance (codes "!important" ++ (semicolon ∷ text)) ≡ (true, semicolon ∷ text)
unfolding gap_part spells past_letter
mark-read text =
    let following = codes "important" ++ (semicolon ∷ text) in
    let start : past_gap following ≡ following = each-rests gap_part following refl in
    let word : before following (past_word following) ≡ codes "important" =
    ap (before following) (word-important text)
    ∙ before-append (codes "important") (semicolon ∷ text) in
    let end : past_gap (past_word following) ≡ semicolon ∷ text =
    ap past_gap (word-important text) ∙ each-rests gap_part (semicolon ∷ text) refl in
    ap (important_word (exclamation_mark ∷ following)) start
    ∙ rw word (ap (λ (x : List ℕ). (true, x)) end)

importance-read : (important : Bool) (text : List ℕ)
    → importance (after_value important text) ≡ (important, semicolon ∷ text)
importance-read true text = mark-read text
importance-read false text = refl

-- ---- the value again

-- no blank is at the start of the first, and so none at that of the second
pub gap-same : (t u : List ℕ) → starts slash u ≡ false → starts asterisk u ≡ false → past_gap u ≡ u
    → (r s : List ℕ) → Parting t u r s → past_gap r ≡ r → past_gap s ≡ s
gap-same t u x y stays r s at g = stays
gap-same t u x y stays r s (on b r1 s1 e h) g =
    by (gap_part (b ∷ s1)) refl
    (subst (λ (o : Option (Unit {0} × List ℕ)).
    Follows Any (suc (length t)) t u o (gap_part (b ∷ s1)))
    (subst (λ (z : List ℕ). gap_part z ≡ None) g (each-stops gap_part gap_part-takes (b ∷ r1)))
    (gap_part-follows t u x y (b ∷ r1) (b ∷ s1) (on b r1 s1 e h)
    (omega (arith, parting-longer t u r1 s1 h))))
  where
    by : (o : Option (Unit {0} × List ℕ)) → gap_part (b ∷ s1) ≡ o
        → Follows Any (suc (length t)) t u None o → past_gap (b ∷ s1) ≡ b ∷ s1
    by None f k = each-rests gap_part (b ∷ s1) f
    by (Some z) f k = absurd k
gap-same t u x y stays r s (pair c r1 s1 h) g =
    by (gap_part (backslash ∷ c ∷ s1)) refl
    (subst (λ (o : Option (Unit {0} × List ℕ)).
    Follows Any (suc (length t)) t u o (gap_part (backslash ∷ c ∷ s1)))
    (subst (λ (z : List ℕ). gap_part z ≡ None) g
    (each-stops gap_part gap_part-takes (backslash ∷ c ∷ r1)))
    (gap_part-follows t u x y (backslash ∷ c ∷ r1) (backslash ∷ c ∷ s1) (pair c r1 s1 h)
    (omega (arith, parting-longer t u r1 s1 h))))
  where
    by : (o : Option (Unit {0} × List ℕ)) → gap_part (backslash ∷ c ∷ s1) ≡ o
        → Follows Any (suc (length t)) t u None o
        → past_gap (backslash ∷ c ∷ s1) ≡ backslash ∷ c ∷ s1
    by None f k = each-rests gap_part (backslash ∷ c ∷ s1) f
    by (Some z) f k = absurd k

-- a value that was read whole from a start without blanks
pub value-again : (custom : Bool) (start : List ℕ) → past_gap start ≡ start → (v : List ℕ)
    → (value custom start).0 ≡ record { text = v; quality = Whole } → ends_lone v ≡ false
    → (important : Bool) (text : List ℕ)
    → (past_gap (v ++ after_value important text) ≡ v ++ after_value important text)
    × (value custom (v ++ after_value important text)
    ≡ (record { text = v; quality = Whole }, after_value important text))
unfolding parts
value-again custom start g v read lone important text =
    let ends = value_ends custom in
    let u = after_value important text in
    let t = last_or start (ends_of ends start) in
    let seam = seam-value t important text (last-no_quote ends start g) in
    let v_is : before start t ≡ v = ap (λ (s : Stated). s.text) read in
    let whole : flaws_of ends start ≡ Whole = ap (λ (s : Stated). s.quality) read in
    let start_is : v ++ t ≡ start =
    ap (λ (x : List ℕ). x ++ t) (sym v_is) ∙ (end-well ends start).0 in
    let alike : Parting t u start (v ++ u) =
    subst (λ (x : List ℕ). Parting t u x (v ++ u)) start_is (parting-front t u v lone) in
    let stays : past_gap u ≡ u = each-rests gap_part u (no_gap-value important text) in
    let kept = parts-kept ends t u seam stays (value-stops custom important text) (length start)
    start (v ++ u) (omega arith) alike refl whole in
    let text_is : before (v ++ u) (last_or (v ++ u) (ends_of ends (v ++ u))) ≡ v =
    ap (before (v ++ u)) kept.last ∙ before-append v u in (
      gap-same t u seam.no_slash seam.no_star stays start (v ++ u) alike g,
      rw (text_is, kept.whole, kept.left) refl,
    )

-- ---- the name again

-- what begins a name is none of these bytes
ident-first : (b : ℕ) (text : List ℕ) (k : ℕ) → (is_name_byte b || begins_escape (b ∷ text)) ≡ true
    → is_name_byte k ≡ false → (backslash == k) ≡ false → (b == k) ≡ false
ident-first b text k e n m = by (is_name_byte b) refl
  where
    escaped : (j : Bool) → (b == backslash) ≡ j → begins_escape (b ∷ text) ≡ true → (b == k) ≡ false
    escaped true f e = subst (λ (x : ℕ). (x == k) ≡ false) (sym (eqb-true b backslash f)) m
    escaped false f e = absurd (let wrong = rw f at e in cc)

    by : (j : Bool) → is_name_byte b ≡ j → (b == k) ≡ false
    by true f = not-this b k f n
    by false f = escaped (b == backslash) refl (rw f at e)

-- a name that begins here is no separator, no end of a block and no at-rule
record BeginsItem (in_block : Bool) (text : List ℕ) : Type 0 where
  pub no_separator : past_separators text ≡ text
  pub no_end : ends_block in_block text ≡ false
  pub no_at : begins_at_rule text ≡ false

ident-item : (in_block : Bool) (text : List ℕ) → starts_ident text ≡ true
    → BeginsItem in_block text
unfolding separator_part gap_part
ident-item in_block [] e = absurd (cc)
ident-item in_block (b ∷ text) e =
    let word = ident-word b text e in
    let semicolon_not = ident-first b text semicolon word refl refl in
    let brace_not = ident-first b text close_brace word refl refl in
    let at_not = ident-first b text at_sign word refl refl in
    let slash_not = ident-first b text slash word refl refl in
    let space_not = ident-first b text 32 word refl refl in
    let tab_not = ident-first b text 9 word refl refl in
    let newline_not = ident-first b text 10 word refl refl in
    let return_not = ident-first b text 13 word refl refl in
    let feed_not = ident-first b text 12 word refl refl in
    let none : separator_part (b ∷ text) ≡ None =
    rw (semicolon_not, space_not, tab_not, newline_not, return_not, feed_not, slash_not) refl in
    record {
      no_separator = each-rests separator_part (b ∷ text) none;
      no_end = rw brace_not (never in_block);
      no_at = rw at_not refl;
    }
  where
    never : (k : Bool) → (k && false) ≡ false
    never true = refl
    never false = refl

-- a name begins in both texts that part after it
ident-same : (t u r s : List ℕ) → starts hyphen t ≡ false → starts hyphen u ≡ false
    → begins_plain_ident t ≡ false → Parting t u r s → length t < length r
    → starts_ident r ≡ true → starts_ident s ≡ true
ident-same t u r s x y z at k e = absurd (omega arith)
ident-same t u r s x y z (pair c r1 s1 h) k e = e
ident-same t u r s x y z (on b r1 s1 f h) k e = by r1 s1 h e
  where
    -- a hyphen and then the texts part, or another byte
    last : (j : Bool) → (b == hyphen) ≡ j → starts_ident (b ∷ t) ≡ true
        → starts_ident (b ∷ u) ≡ true
    last true g e = absurd (let wrong = rw (g, x, z) at e in cc)
    last false g e = rw (g, f) (rw (g, f) at e)

    same : (j : Bool) (c : ℕ) (r s : List ℕ) → (b == hyphen) ≡ j → (c == backslash) ≡ false
        → starts_ident (b ∷ c ∷ r) ≡ true → starts_ident (b ∷ c ∷ s) ≡ true
    same true c r s g i e = rw (g, i) (rw (g, i) at e)
    same false c r s g i e = rw (g, f) (rw (g, f) at e)

    escaped : (j : Bool) (c : ℕ) (r s : List ℕ) → (b == hyphen) ≡ j
        → starts_ident (b ∷ backslash ∷ c ∷ r) ≡ true
        → starts_ident (b ∷ backslash ∷ c ∷ s) ≡ true
    escaped true c r s g e = rw g (rw g at e)
    escaped false c r s g e = rw (g, f) (rw (g, f) at e)

    by : (r1 s1 : List ℕ) → Parting t u r1 s1 → starts_ident (b ∷ r1) ≡ true
        → starts_ident (b ∷ s1) ≡ true
    by r1 s1 at e = last (b == hyphen) refl e
    by r1 s1 (on c r2 s2 g h) e = same (b == hyphen) c r2 s2 refl g e
    by r1 s1 (pair c r2 s2 h) e = escaped (b == hyphen) c r2 s2 refl e

-- what is found in one of two cases
abbrev word_found : Bool → Bool → (x y : Unit {0} × List ℕ) → Option (Unit {0} × List ℕ)
word_found k m x y = if k then Some x else (if m then Some y else None)

-- after a word no hyphen and no name is next
after-word : (text : List ℕ) → name_part text ≡ None
    → (starts hyphen text ≡ false) × (begins_plain_ident text ≡ false)
unfolding name_part
after-word [] e = (refl, refl)
after-word (b ∷ text) e = by (is_name_byte b) (begins_escape (b ∷ text)) refl refl e
  where
    letters : (l d u h w : Bool) → (l || d || u || h || w) ≡ false
        → (h ≡ false) × ((l || u || w) ≡ false)
    letters true d u h w e = absurd (cc)
    letters false true u h w e = absurd (cc)
    letters false false true h w e = absurd (cc)
    letters false false false true w e = absurd (cc)
    letters false false false false w e = (refl, e)

    by : (k m : Bool) → is_name_byte b ≡ k → begins_escape (b ∷ text) ≡ m
        → word_found k m (tt, text) (tt, past_escape text) ≡ None
        → (starts hyphen (b ∷ text) ≡ false) × (begins_plain_ident (b ∷ text) ≡ false)
    by true m f g e = absurd (cc)
    by false true f g e = absurd (cc)
    by false false f g e =
        let none =
        letters (is_letter b) (is_digit b) (b == underscore) (b == hyphen) (is_wide_byte b) f in
        (none.0, rw (none.1, g) refl)

-- what follows the name
abbrev after_name : DeclarationText → List ℕ → List ℕ
after_name d text = codes ": " ++ (d.value ++ after_value d.important text)

-- ---- the declaration again

printed-assoc : (d : DeclarationText) (text : List ℕ) → ends_lone d.value ≡ false
    → (declaration_text d ++ text ≡ d.name ++ after_name d text)
    × (declaration_text d ++ text ≡ stated_text d ++ (semicolon ∷ text))
printed-assoc d text e = (
  rw e (simp append_assoc),
  append_assoc (stated_text d) (semicolon ∷ []) text,
)

-- what follows a name that a colon follows, after blanks
some-colon : (text : List ℕ) → starts colon (past_gap text) ≡ true → 0 < length text
unfolding gap_part
some-colon [] e = absurd (let none : past_gap [] ≡ [] = each-rests gap_part [] refl in
    let wrong : starts colon (past_gap []) ≡ false = rw none refl in cc)
some-colon (b ∷ text) e = omega arith

ident-less : (start : List ℕ) → starts_ident start ≡ true
    → length (past_word start) < length start
ident-less [] e = absurd (cc)
ident-less (b ∷ start) e = omega (arith, word-less b start (ident-word b start e))

abbrev stated_with : List ℕ → Quality → Stated
stated_with v quality = record { text = v; quality = quality }

-- a value that is whole
whole-is : (s : Stated) (v : List ℕ) (closed : Bool) → v ≡ s.text → closed ≡ is_whole s.quality
    → closed ≡ true → s ≡ record { text = v; quality = Whole }
whole-is s v closed e f g = by s.quality (sym f ∙ g)
  where
    by : (q : Quality) → is_whole q ≡ true
        → stated_with s.text q ≡ stated_with v Whole
    by Whole h = ap (λ (x : List ℕ). stated_with x Whole) (sym e)
    by Open h = absurd (cc)
    by BadString h = absurd (cc)
    by BadUrl h = absurd (cc)
    by StrayBracket h = absurd (cc)
    by TooDeep h = absurd (cc)

-- what is read after the name
named-again : (in_block : Bool) (d : DeclarationText) (text : List ℕ)
    → d.closed ≡ true → (not (is_empty d.value) || is_custom d.name) ≡ true
    → past_gap (d.value ++ after_value d.important text) ≡ d.value ++ after_value d.important text
    → value (is_custom d.name) (d.value ++ after_value d.important text)
    ≡ (record { text = d.value; quality = Whole }, after_value d.important text)
    → named in_block d.name (after_name d text) ≡ Ok (d, semicolon ∷ text)
unfolding gap_part
named-again in_block d text closed some g v =
    let rest = d.value ++ after_value d.important text in
    let read : value (is_custom d.name) (past_gap (space ∷ rest))
    ≡ (record { text = d.value; quality = Whole }, after_value d.important text) =
    ap (value (is_custom d.name)) (sym (each-goes gap_part gap_part-takes (space ∷ rest) rest tt refl) ∙ g) ∙ v in
    ap (valued in_block d.name) read
    ∙ ap (stated_as in_block d.name (record { text = d.value; quality = Whole }))
    (importance-read d.important text)
    ∙ rw some (ap (λ (c : Bool). Ok (
      record {
        name = d.name;
        value = d.value;
        important = d.important;
        closed = c;
      },
      semicolon ∷ text,
    )) (sym closed))

declaration-again : (in_block : Bool) (whole : List ℕ) (d : DeclarationText) (text : List ℕ)
    → starts_ident whole ≡ true → past_word whole ≡ after_name d text
    → whole ≡ d.name ++ after_name d text
    → named in_block d.name (after_name d text) ≡ Ok (d, semicolon ∷ text)
    → declaration in_block whole ≡ Ok (d, semicolon ∷ text)
unfolding declaration gap_part
declaration-again in_block whole d text e f g h =
    let u = after_name d text in
    let name : before whole (past_word whole) ≡ d.name =
    ap (before whole) f ∙ ap (λ (x : List ℕ). before x u) g ∙ before-append d.name u in
    let stays : past_gap (past_word whole) ≡ u = ap past_gap f ∙ each-rests gap_part u refl in
    rw e (ap (λ (x : List ℕ). named in_block x (past_gap (past_word whole))) name
    ∙ ap (named in_block d.name) stays ∙ h)

next-again : (in_block : Bool) (whole : List ℕ) (d : DeclarationText) (text : List ℕ)
    → BeginsItem in_block whole → whole ≡ stated_text d ++ (semicolon ∷ text)
    → declaration in_block whole ≡ Ok (d, semicolon ∷ text)
    → next_item in_block whole
    ≡ Some (record { text = stated_text d; item = declared d }, semicolon ∷ text)
unfolding next_item item
next-again in_block whole d text w e h =
    let front : before whole (semicolon ∷ text) ≡ stated_text d =
    ap (λ (x : List ℕ). before x (semicolon ∷ text)) e ∙ before-append (stated_text d)
    (semicolon ∷ text) in
    let here : item in_block whole ≡ (declared d, semicolon ∷ text) =
    rw w.no_at (ap (or_rule in_block whole) h) in
    ap (item_from in_block) w.no_separator
    ∙ rw w.no_end (ap (λ (x : ItemText × List ℕ). Some (with_text whole x)) here
    ∙ ap (λ (x : List ℕ). Some (record { text = x; item = declared d }, semicolon ∷ text)) front)

-- the name that was read from a start, with a value that is whole where it begins
read-with : (start : List ℕ) (d : DeclarationText) → starts_ident start ≡ true
    → d.name ≡ before start (past_word start) → starts colon (past_gap (past_word start)) ≡ true
    → (from : List ℕ) → past_gap from ≡ from
    → (value (is_custom d.name) from).0 ≡ record { text = d.value; quality = Whole }
    → d.closed ≡ true
    → (not (is_empty d.value) || is_custom d.name) ≡ true → ends_lone d.value ≡ false
    → DeclarationReadsBack d
unfolding name_part
read-with start d ident name_is colon_is from blank read closed some lone in_block text =
    let t = past_word start in
    let u = after_name d text in
    let whole = d.name ++ u in
    let alike : Parting t u start whole =
    subst (λ (x : List ℕ). Parting t u start (x ++ u)) (sym name_is)
    (word-parting u start (some-colon t colon_is)) in
    let after = after-word t (each-stops name_part name_part-takes start) in
    let begins = ident-same t u start whole after.0 refl after.1 alike (ident-less start ident)
    ident in
    let word = word-kept t u (quiet-byte colon (space ∷ (d.value ++ after_value d.important text))
    refl refl refl) refl start whole alike (omega arith) in
    let word_is : past_word whole ≡ u =
    (parting-end t u t (past_word whole) word (omega arith)).1 in
    let again = value-again (is_custom d.name) from blank d.value read lone d.important text in
    let named_is = named-again in_block d text closed some again.0 again.1 in
    let both = printed-assoc d text lone in
    ap (next_item in_block) both.0
    ∙ next-again in_block whole d text (ident-item in_block whole begins) (sym both.0 ∙ both.1)
    (declaration-again in_block whole d text begins word_is refl named_is)

-- ---- the items of a list

-- what is known of an item that was read is known of each
FromStart : (ItemText → Type 0) → Type 0
FromStart P = (start : List ℕ) (i : ItemText) → IsReadFrom start i → P i

-- a declaration as it was read
item-back : FromStart ItemReadsBack
unfolding FromStart
item-back start (declared d) w = λ closed lone.
    let after = past_byte colon (past_gap (past_word start)) in
    read-with start d w.begins w.name_is w.colon_is (past_gap after) (gap-again after)
    (whole-is (value (is_custom d.name) (past_gap after)).0 d.value d.closed w.value_is w.closed_is closed) closed
    w.some lone
item-back start (at_rule_item a) w = tt
item-back start (skipped_item fault) w = tt

-- and with another value
item-back-with : (v : List ℕ) (important : Bool) → FromStart (λ i. ReadsBackWith i v important)
unfolding FromStart
item-back-with v important start (declared d) w = λ h lone some.
    read-with start
    (record { name = d.name; value = v; important = important; closed = true })
    w.begins w.name_is w.colon_is v h.no_blank (ap (λ (x : Stated × List ℕ). x.0) h.whole) refl some
    lone
item-back-with v important start (at_rule_item a) w = tt
item-back-with v important start (skipped_item fault) w = tt

-- the next item was read from where it begins
abbrev OfNext : (ItemText → Type 0) → Option (ListText × List ℕ) → Type 0
OfNext P None = Unit {0}
OfNext P (Some x) = P x.0.item

next-back : (P : ItemText → Type 0) → FromStart P → (in_block : Bool) (text : List ℕ)
    → OfNext P (next_item in_block text)
unfolding next_item FromStart
next-back P back in_block text = by (ends_block in_block (past_separators text))
  where
    by : (k : Bool) → OfNext P (if k then None
        else Some (with_text (past_separators text) (item in_block (past_separators text))))
    by true = tt
    by false =
        back (past_separators text) (item in_block (past_separators text)).0
        (item-read in_block (past_separators text))

-- it is known of each item
abbrev OfItems : (ItemText → Type 0) → Bool → List ℕ → Type 0
OfItems P in_block text = All (λ (p : ListText). P p.item) (items in_block text)

items-step : (P : ItemText → Type 0) → FromStart P → (in_block : Bool) (text : List ℕ)
    → ((rest : List ℕ) → length rest < length text → OfItems P in_block rest)
    → OfItems P in_block text
items-step P back in_block text more = by (option_cases (next_item in_block text))
  where
    by : (next_item in_block text ≡ None)
        ⊎ ((x : ListText × List ℕ) × (next_item in_block text ≡ Some x))
        → OfItems P in_block text
    by (inl e) =
        subst (All (λ (p : ListText). P p.item)) (sym (items-none in_block text e))
        (All-nil (λ (p : ListText). P p.item))
    by (inr x) =
        let all = items-some in_block text x.0.1 x.0.0 x.1 in
        let here : P x.0.0.item = subst (OfNext P) x.1 (next-back P back in_block text) in
        subst (All (λ (p : ListText). P p.item)) (sym all)
        (All-cons (λ (p : ListText). P p.item) x.0.0 (items in_block x.0.1) here
        (more x.0.1 (took (next_item in_block) (next_item-takes in_block) text x.0.1 x.0.0 x.1)))

items-within : (P : ItemText → Type 0) → FromStart P → (in_block : Bool) (n : ℕ) (text : List ℕ)
    → length text ≤ n → OfItems P in_block text
items-within P back in_block zero text l =
    items-step P back in_block text (λ rest less. absurd (omega (arith, less, l)))
items-within P back in_block (suc n) text l =
    items-step P back in_block text
    (λ rest less. items-within P back in_block n rest (omega (arith, less, l)))

pub items-read_back : (in_block : Bool) (text : List ℕ) → ItemsReadBack in_block text
items-read_back in_block text =
    items-within ItemReadsBack item-back in_block (length text) text (omega arith)

pub items-read_back-with : (in_block : Bool) (text : List ℕ) → ItemsReadBackWith in_block text
items-read_back-with in_block text v important =
    items-within (λ i. ReadsBackWith i v important) (item-back-with v important) in_block
    (length text) text (omega arith)

-- Component values of two texts that part after them.
-- Serves `laws::printed_declarations_read_back`.
use Rattle.std.proofs.Common.{◌≡◌, ℕ, zero, suc, ◌<◌, ◌≤◌, ◌==◌, ◌||◌, ◌&&◌, not, Bool, true, false, List, [], ◌∷◌, length, drop, length-drop, Option, Some, None, arith, refl, sym, ap, subst, ◌∙◌, if◌then◌else◌, eqb-true}
use Rattle.std.specs.Option.{is_some}
use Rattle.css_text.specs.AsciiBytes.{asterisk, slash, backslash, number_sign, at_sign, open_parenthesis, close_parenthesis, open_bracket, close_bracket, close_brace}
use Rattle.css_text.specs.Reading.{each}
use Rattle.css_text.specs.Bytes.{past, past_byte, starts, starts_by}
use Rattle.css_text.specs.Characters.{is_space}
use Rattle.css_text.specs.Comments.{opens_comment, after_close}
use Rattle.css_text.specs.Strings.{is_quote}
use Rattle.css_text.proofs.reading.EachLemmas.{Takes, each-stops}
use Rattle.css_syntax.specs.declared.quality.Quality.{Quality}
use Rattle.css_syntax.specs.declared.quality.Quality.TheVariants.{Whole, Open, BadString, BadUrl, StrayBracket, TooDeep}
use Rattle.css_syntax.specs.Qualities.{first_flaw, flaw_of_all}
use Rattle.css_syntax.specs.Tokens.{is_newline, begins_escape, from_close, closed_or_open, past_comment, comment_quality, past_string, is_name_byte, name_part, past_word, then_open, after_url, past_url, begins_cdo, is_closer, other_token, token}
use Rattle.css_syntax.specs.ComponentValues.{is_opener, mirror, value_inside, end_quality, block_of, value_by, past_deep, component_value}
use Rattle.css_syntax.proofs.Shorter.{each-rests}
use Rattle.css_syntax.proofs.RunSteps.{no_name_part, or-both}
use Rattle.css_syntax.proofs.OpenBlocks.{inside-takes}
use Rattle.css_syntax.proofs.Parting.{Parting, Quiet, parting-longer, kept-if, Follows, follows-if, Every, each-kept}
use Rattle.css_syntax.proofs.Parting.Parting.{at, on, pair}
use Rattle.css_syntax.proofs.PartingTokens.{word-kept, close-less, comment-kept, WholeKept, whole-if, past_string-kept, past_url-less, past_url-kept}
use Rattle.css_syntax.proofs.PartingUrls.{WordKept, NoLetter, Urls, url-word, url-kept, NoCdo, cdo-none, cdo-kept}

-- Two texts after which values end: t is what follows a value in the first, and u begins with a
-- byte that continues nothing.
pub record Seam (t u : List ℕ) : Type 0 where
  pub quiet : Quiet u
  pub no_letter : NoLetter u
  pub no_cdo : NoCdo u
  pub no_name : name_part u ≡ None
  pub no_slash : starts slash u ≡ false
  pub no_star : starts asterisk u ≡ false
  pub no_open : then_open (Some u) ≡ None
  pub no_quote : starts_by is_quote (past is_space u) ≡ false
  pub first_quote : starts_by is_quote (past is_space t) ≡ false

-- ---- tokens, from the last case to the first

-- none of the others, and no backslash
abbrev plain_token : ℕ → List ℕ → Quality × List ℕ
plain_token b text =
    if b == number_sign || b == at_sign then (Whole, past_word text)
    else (if is_closer b then (StrayBracket, text) else (Whole, text))

plain-kept : (t u : List ℕ) → Seam t u → (b : ℕ) (r s : List ℕ) → Parting t u r s
    → WholeKept t u (plain_token b r) (plain_token b s)
plain-kept t u m b r s h =
    whole-if t u (b == number_sign || b == at_sign) (Whole, past_word r) _ (Whole, past_word s) _
    (λ w l. (refl, word-kept t u m.quiet m.no_name r s h l))
    (whole-if t u (is_closer b) (StrayBracket, r) (Whole, r) (StrayBracket, s) (Whole, s)
    (λ w l. absurd (cc)) (λ w l. (refl, h)))

-- a word, or none of the others
abbrev word_token : ℕ → List ℕ → Quality × List ℕ
word_token b text =
    if is_name_byte b || begins_escape (b ∷ text) then (Whole, past_word (b ∷ text))
    else other_token b text

abbrev cdo_token : ℕ → List ℕ → Quality × List ℕ
cdo_token b text = if begins_cdo (b ∷ text) then (Whole, drop 3 text) else word_token b text

-- by what follows `url(`
abbrev url_token : ℕ → List ℕ → Option (List ℕ) → Quality × List ℕ
url_token b text o = if is_some o then past_url (from_close o) else cdo_token b text

word_token-kept : (t u : List ℕ) → Seam t u → (b : ℕ) (r s : List ℕ)
    → (b == backslash) ≡ false → Parting t u r s
    → WholeKept t u (word_token b r) (word_token b s)
word_token-kept t u m b r s e h =
    rw e (whole-if t u (is_name_byte b || false) (Whole, past_word (b ∷ r)) _
    (Whole, past_word (b ∷ s)) _
    (λ w l. (refl, word-kept t u m.quiet m.no_name (b ∷ r) (b ∷ s) (on b r s e h) l))
    (plain-kept t u m b r s h))

cdo_token-kept : (t u : List ℕ) → Seam t u → (b : ℕ) (r s : List ℕ)
    → (b == backslash) ≡ false → Parting t u r s
    → WholeKept t u (cdo_token b r) (cdo_token b s)
cdo_token-kept t u m b r s e h = by (begins_cdo (b ∷ r)) refl
  where
    chosen : (k : Bool) → k ≡ true → Parting t u (drop 3 r) (drop 3 s)
        → length t ≤ length (drop 3 r)
        → ((if k then (Whole, drop 3 s) else word_token b s).0 ≡ Whole)
        × Parting t u (drop 3 r) (if k then (Whole, drop 3 s) else word_token b s).1
    chosen true f g l = (refl, g)
    chosen false f g l = absurd (cc)

    by : (k : Bool) → begins_cdo (b ∷ r) ≡ k
        → WholeKept t u (if k then (Whole, drop 3 r) else word_token b r) (cdo_token b s)
    by true f = λ w l.
        let both = cdo-kept t u b r s h f l in chosen (begins_cdo (b ∷ s)) both.0 both.1 l
    by false f =
        subst (λ (k : Bool). WholeKept t u (word_token b r)
        (if k then (Whole, drop 3 s) else word_token b s))
        (sym (cdo-none t u m.no_cdo b r s h f)) (word_token-kept t u m b r s e h)

-- a token that ends where the texts part or before has the word that begins there
no-word : (b : ℕ) (r : List ℕ) → (is_name_byte b || begins_escape (b ∷ r)) ≡ false
    → past_word (b ∷ r) ≡ b ∷ r
no-word b r e =
    let both = or-both (is_name_byte b) (begins_escape (b ∷ r)) e in
    each-rests name_part (b ∷ r) (no_name_part (b ∷ r) both.1 both.0)

cdo-no_word : (b : ℕ) (r : List ℕ) → begins_cdo (b ∷ r) ≡ true
    → (is_name_byte b || begins_escape (b ∷ r)) ≡ false
cdo-no_word b r e = by (b == 60) refl
  where
    by : (k : Bool) → (b == 60) ≡ k → (is_name_byte b || begins_escape (b ∷ r)) ≡ false
    by true f =
        subst (λ (c : ℕ). (is_name_byte c || begins_escape (c ∷ r)) ≡ false) (sym (eqb-true b 60 f))
        refl
    by false f = absurd (let wrong = rw f at e in cc)

reaches : (t u : List ℕ) (b : ℕ) (r s : List ℕ) → Parting t u (b ∷ r) s
    → (o : Option (List ℕ)) → after_url (b ∷ r) ≡ o → (url_token b r o).0 ≡ Whole
    → length t ≤ length (url_token b r o).1 → WordKept t (b ∷ r)
reaches t u b r s h (Some x) e w l =
    omega (arith, l, past_url-less x w, ap length (url-word (b ∷ r) x e))
reaches t u b r s h None e w l =
    by (begins_cdo (b ∷ r)) (is_name_byte b || begins_escape (b ∷ r)) refl refl
  where
    none : (is_name_byte b || begins_escape (b ∷ r)) ≡ false → WordKept t (b ∷ r)
    none f = omega (arith, ap length (no-word b r f), parting-longer t u (b ∷ r) s h)

    by : (k n : Bool) → begins_cdo (b ∷ r) ≡ k → (is_name_byte b || begins_escape (b ∷ r)) ≡ n
        → WordKept t (b ∷ r)
    by true n f g = none (cdo-no_word b r f)
    by false true f g = rw (f, g) at l
    by false false f g = none g

url_token-kept : (t u : List ℕ) → Seam t u → (b : ℕ) (r s : List ℕ)
    → Parting t u (b ∷ r) (b ∷ s) → WholeKept t u (cdo_token b r) (cdo_token b s)
    → WholeKept t u (url_token b r (after_url (b ∷ r))) (url_token b s (after_url (b ∷ s)))
url_token-kept t u m b r s h more w l =
    by (after_url (b ∷ r)) (after_url (b ∷ s)) w l
    (url-kept t u m.quiet m.no_letter m.first_quote m.no_quote m.no_open (b ∷ r) (b ∷ s) h
    (reaches t u b r (b ∷ s) h (after_url (b ∷ r)) refl w l))
  where
    by : (o p : Option (List ℕ)) → (url_token b r o).0 ≡ Whole
        → length t ≤ length (url_token b r o).1 → Urls t u o p
        → ((url_token b s p).0 ≡ Whole) × Parting t u (url_token b r o).1 (url_token b s p).1
    by None None w l k = more w l
    by None (Some y) w l k = absurd k
    by (Some x) None w l k = absurd (omega (arith, l, k, past_url-less x w))
    by (Some x) (Some y) w l k = past_url-kept t u m.quiet x y k w l

-- a quote is no backslash
quote-no_backslash : (b : ℕ) → is_quote b ≡ true → (backslash == b) ≡ false
quote-no_backslash b e = by (backslash == b) refl
  where
    by : (k : Bool) → (backslash == b) ≡ k → (backslash == b) ≡ false
    by true f =
        absurd (let wrong : is_quote b ≡ false =
        subst (λ (x : ℕ). is_quote x ≡ false) (eqb-true backslash b f) refl in cc)
    by false f = f

abbrev quote_token : ℕ → List ℕ → Quality × List ℕ
quote_token b text =
    if is_quote b then past_string b text else url_token b text (after_url (b ∷ text))

quote_token-kept : (t u : List ℕ) → Seam t u → (b : ℕ) (r s : List ℕ)
    → (b == backslash) ≡ false → Parting t u r s
    → WholeKept t u (quote_token b r) (quote_token b s)
quote_token-kept t u m b r s e h = by (is_quote b) refl
  where
    by : (k : Bool) → is_quote b ≡ k
        → WholeKept t u (if k then past_string b r else url_token b r (after_url (b ∷ r)))
        (if k then past_string b s else url_token b s (after_url (b ∷ s)))
    by true f = past_string-kept b (quote-no_backslash b f) t u m.quiet r s h
    by false f =
        url_token-kept t u m b r s (on b r s e h) (cdo_token-kept t u m b r s e h)

-- an escape, or a backslash before a newline
backslash-kept : (t u : List ℕ) → Seam t u → (c : ℕ) (r s : List ℕ) → Parting t u r s
    → WholeKept t u (cdo_token backslash (c ∷ r)) (cdo_token backslash (c ∷ s))
backslash-kept t u m c r s h = by (is_newline c) refl
  where
    by : (k : Bool) → is_newline c ≡ k → WholeKept t u
        (if not k then (Whole, past_word (backslash ∷ c ∷ r)) else (Whole, if k then r else c ∷ r))
        (if not k then (Whole, past_word (backslash ∷ c ∷ s)) else (Whole, if k then s else c ∷ s))
    by true e = λ w l. (refl, h)
    by false e = λ w l. (
      refl,
      word-kept t u m.quiet m.no_name (backslash ∷ c ∷ r) (backslash ∷ c ∷ s) (pair c r s h) l,
    )

-- a token that does not begin where the texts part
pub token-kept : (t u : List ℕ) → Seam t u → (r s : List ℕ) → Parting t u r s
    → length t < length r → WholeKept t u (token r) (token s)
unfolding token past_comment comment_quality
token-kept t u m r s at k = absurd (omega arith)
token-kept t u m r s (on b r1 s1 e h) k = by r1 s1 h (quote_token-kept t u m b r1 s1 e h)
  where
    none : (k : Bool) → (k && false) ≡ false
    none true = refl
    none false = refl

    last : (k : Bool) → WholeKept t u (quote_token b t) (quote_token b u)
        → WholeKept t u
        (if k then (closed_or_open (after_close (drop 1 t)), from_close (after_close (drop 1 t)))
        else quote_token b t) (quote_token b u)
    last true more = λ w l. absurd (inner (after_close (drop 1 t)) refl w l)
      where
        inner : (o : Option (List ℕ)) → after_close (drop 1 t) ≡ o → closed_or_open o ≡ Whole
            → length t ≤ length (from_close o) → ⊥
        inner None f w l = cc
        inner (Some x) f w l = omega (arith, l, close-less (drop 1 t) x f, length-drop 1 t)
    last false more = more

    never : (k : Bool) (a x y z : Quality × List ℕ) → WholeKept t u y z
        → WholeKept t u (if k && false then a else y) (if k && false then x else z)
    never true a x y z h = h
    never false a x y z h = h

    by : (r1 s1 : List ℕ) → Parting t u r1 s1 → WholeKept t u (quote_token b r1) (quote_token b s1)
        → WholeKept t u (token (b ∷ r1)) (token (b ∷ s1))
    by r1 s1 at more =
        subst (λ (k : Bool). WholeKept t u (token (b ∷ t))
        (if (b == slash) && k then (comment_quality (b ∷ u), past_comment (b ∷ u))
        else quote_token b u)) (sym m.no_star)
        (subst (λ (k : Bool). WholeKept t u (token (b ∷ t))
        (if k then (comment_quality (b ∷ u), past_comment (b ∷ u)) else quote_token b u))
        (sym (none (b == slash))) (last (opens_comment (b ∷ t)) more))
    by r1 s1 (on c r2 s2 f g) more =
        whole-if t u (opens_comment (b ∷ c ∷ r2))
        (comment_quality (b ∷ c ∷ r2), past_comment (b ∷ c ∷ r2)) _
        (comment_quality (b ∷ c ∷ s2), past_comment (b ∷ c ∷ s2)) _
        (comment-kept t u m.no_slash r2 s2 g) more
    by r1 s1 (pair c r2 s2 g) more = never (b == slash) _ _ _ _ more
token-kept t u m r s (pair c r1 s1 h) k =
    url_token-kept t u m backslash (c ∷ r1) (c ∷ s1) (pair c r1 s1 h)
    (backslash-kept t u m c r1 s1 h)

-- ---- component values

-- a reader of values, from before where the texts part
abbrev pub ValueKept : (t u : List ℕ) → (List ℕ → Quality × List ℕ) → Type 0
ValueKept t u read =
    (r s : List ℕ) → Parting t u r s → length t < length r → WholeKept t u (read r) (read s)

value_by-kept : (t u : List ℕ) → Seam t u → (block : ℕ → List ℕ → Quality × List ℕ)
    → ((closer : ℕ) → (backslash == closer) ≡ false → (r s : List ℕ) → Parting t u r s
    → WholeKept t u (block closer r) (block closer s))
    → ValueKept t u (value_by block)
value_by-kept t u m block inner r s at k = absurd (omega arith)
value_by-kept t u m block inner r s (on b r1 s1 e h) k =
    whole-if t u (is_opener b) (block (mirror b) r1) (token (b ∷ r1)) (block (mirror b) s1)
    (token (b ∷ s1)) (inner (mirror b) (mirror-no_backslash b) r1 s1 h)
    (token-kept t u m (b ∷ r1) (b ∷ s1) (on b r1 s1 e h) k)
  where
    mirror-no_backslash : (b : ℕ) → (backslash == mirror b) ≡ false
    mirror-no_backslash b = by (b == open_parenthesis) (b == open_bracket)
      where
        by : (x y : Bool) → (backslash == (if x then close_parenthesis
            else (if y then close_bracket else close_brace))) ≡ false
        by true y = refl
        by false true = refl
        by false false = refl
value_by-kept t u m block inner r s (pair c r1 s1 h) k =
    token-kept t u m (backslash ∷ c ∷ r1) (backslash ∷ c ∷ s1) (pair c r1 s1 h) k

-- a value that is whole
abbrev IsWhole : Quality → Type 0
IsWhole quality = quality ≡ Whole

value_inside-follows : (t u : List ℕ) (read : List ℕ → Quality × List ℕ) → ValueKept t u read
    → (closer : ℕ) → (backslash == closer) ≡ false → (r s : List ℕ) → Parting t u r s
    → suc (length t) ≤ length r
    → Follows IsWhole (suc (length t)) t u (value_inside read closer r) (value_inside read closer s)
value_inside-follows t u read kept closer n r s at l = absurd (omega arith)
value_inside-follows t u read kept closer n r s (on b r1 s1 e h) l =
    follows-if IsWhole (suc (length t)) t u (b == closer) None (Some (read (b ∷ r1))) None
    (Some (read (b ∷ s1))) tt
    (λ w k. let both = kept (b ∷ r1) (b ∷ s1) (on b r1 s1 e h) (omega arith) w (omega arith) in
    (w ∙ sym both.0, both.1))
value_inside-follows t u read kept closer n r s (pair c r1 s1 h) l =
    rw n (λ w k. let both = kept (backslash ∷ c ∷ r1) (backslash ∷ c ∷ s1) (pair c r1 s1 h)
    (omega arith) w (omega arith) in
    (w ∙ sym both.0, both.1))

-- two flaws are none, if both are none
pub first_flaw-whole : (a b : Quality) → first_flaw a b ≡ Whole → (a ≡ Whole) × (b ≡ Whole)
first_flaw-whole Whole b e = (refl, e)
first_flaw-whole Open b e = absurd (cc)
first_flaw-whole BadString b e = absurd (cc)
first_flaw-whole BadUrl b e = absurd (cc)
first_flaw-whole StrayBracket b e = absurd (cc)
first_flaw-whole TooDeep b e = absurd (cc)

every-whole : (qualities : List Quality) → flaw_of_all qualities ≡ Whole → Every IsWhole qualities
every-whole [] e = tt
every-whole (q ∷ more) e =
    let both = first_flaw-whole q (flaw_of_all more) e in (both.0, every-whole more both.1)

-- a block that is closed consumes its bracket
closer-less : (read : List ℕ → Quality × List ℕ) (closer : ℕ) (e : List ℕ)
    → value_inside read closer e ≡ None → end_quality e ≡ Whole
    → length (past_byte closer e) < length e
closer-less read closer [] n w = absurd (cc)
closer-less read closer (b ∷ e) n w = by (b == closer) n
  where
    by : (k : Bool) → (if k then None else Some (read (b ∷ e))) ≡ None
        → length (if k then e else b ∷ e) < length (b ∷ e)
    by true n = omega arith
    by false n = absurd (cc)

end-kept : (closer : ℕ) → (backslash == closer) ≡ false → (t u e f : List ℕ) → Parting t u e f
    → length t < length e → length t ≤ length (past_byte closer e)
    → (end_quality f ≡ Whole) × Parting t u (past_byte closer e) (past_byte closer f)
end-kept closer n t u e f at k l = absurd (omega arith)
end-kept closer n t u e f (on b r1 s1 g h) k l =
    (refl, kept-if t u (b == closer) r1 (b ∷ r1) s1 (b ∷ s1) (λ l. h) (λ l. on b r1 s1 g h) l)
end-kept closer n t u e f (pair c r1 s1 h) k l = (refl, rw n (pair c r1 s1 h))

block_of-kept : (t u : List ℕ) (read : List ℕ → Quality × List ℕ) → ValueKept t u read
    → (closer : ℕ) → (backslash == closer) ≡ false → Takes (value_inside read closer)
    → (r s : List ℕ) → Parting t u r s
    → WholeKept t u (block_of read closer r) (block_of read closer s)
unfolding block_of
block_of-kept t u read kept closer n takes r s h w l =
    let inside = each (value_inside read closer) r in
    let other = each (value_inside read closer) s in
    let both = first_flaw-whole (flaw_of_all inside.0) (end_quality inside.1) w in
    let less = closer-less read closer inside.1 (each-stops (value_inside read closer) takes r)
    both.1 in
    let strict : suc (length t) ≤ length inside.1 = omega (arith, l, less) in
    let all = each-kept IsWhole (value_inside read closer) takes (suc (length t)) t u
    (value_inside-follows t u read kept closer n) (length r) r s (omega arith) h
    (every-whole inside.0 both.0) strict in
    let ends = end-kept closer n t u inside.1 other.1 all.1 strict l in
    let good : flaw_of_all other.0 ≡ Whole = sym (ap flaw_of_all all.0) ∙ both.0 in
    (rw (good, ends.0) refl, ends.1)

pub value-kept : (t u : List ℕ) → Seam t u → (n : ℕ) → ValueKept t u (component_value n)
unfolding component_value
value-kept t u m zero =
    value_by-kept t u m (λ closer rest. (TooDeep, past_deep rest))
    (λ closer n r s h w l. absurd (cc))
value-kept t u m (suc n) =
    value_by-kept t u m (block_of (component_value n))
    (λ closer e. block_of-kept t u (component_value n) (value-kept t u m n) closer e
    (inside-takes n closer))

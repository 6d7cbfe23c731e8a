-- A value, a term at a time, and semicolons.
-- Serves `reader::{read_value, take_declaration, skip_semicolons}` (a value term by term).
use Rattle.std.proofs.Common.{◌≡◌, ℕ, ◌<◌, ◌-◌, List, [], ◌∷◌, Bool, true, false, length, take, refl, sym, ap, ◌∙◌, subst, arith, length-take-le, slice_range}
use Rattle.std.specs.Str.{trim, IsUtf8, IsCharBoundary}
use Rattle.std.proofs.lemmas.Str.{IsCharBoundary-at_seam}
use Rattle.css_text.specs.AsciiBytes.{asterisk, colon as colon_byte, semicolon as semicolon_byte}
use Rattle.css_text.specs.Reading.{Fault, got, fails, each, followed_by, before, Ends, last_or}
use Rattle.css_text.specs.Bytes.{starts, past_one, past_byte, byte}
use Rattle.css_text.specs.Characters.{Edition}
use Rattle.css_text.specs.Comments.{past_blank, blank}
use Rattle.css_text.specs.Names.{name}
use Rattle.css_text.specs.Slices.{OccurBetween}
use Rattle.simplecss_grammar.specs.Terms.{term}
use Rattle.simplecss_grammar.specs.Declarations.{after_term, term_in_value, value, semicolon, trailing}
use Rattle.css_text.proofs.reading.EndsLemmas.{no_texts, itself, ends-ends, ends-got, ends-past_byte, occurs-got, occur-from, occur-to, occur-append}
use Rattle.simplecss_grammar.proofs.reading.OccurrenceLemmas.{blank-occurs, byte-occurs, name-occurs}
use Rattle.simplecss_grammar.proofs.reading.DeclarationsLawful.{semicolon-takes, term_in_value-takes, trailing-occurs}
use Rattle.css_text.proofs.reading.EachLemmas.{took, each-none, each-some}
use Rattle.simplecss_declaration.specs.internal.UnreportedFaults.{Passes}
use Rattle.simplecss_declaration.proofs.FaultLemmas.{passed}

pub terms-some : (edition : Edition) (text rest : List ℕ) → term edition text ≡ got tt rest
    → each (term_in_value edition) text
    ≡ followed_by rest (each (term_in_value edition) (past_blank rest))
terms-some edition text rest e = each-some (term_in_value edition)
    (term_in_value-takes edition) text (past_blank rest) rest (ap after_term e)

pub terms-none : (edition : Edition) (text rest : List ℕ) (fault : Fault)
    → term edition text ≡ fails fault rest → each (term_in_value edition) text ≡ ([], text)
terms-none edition text rest fault e = each-none (term_in_value edition) text (ap after_term e)

-- a term and the blank after it consume a byte or more
pub term-takes : (edition : Edition) (text rest next : List ℕ) (result : Bool)
    → Passes (term edition text) result rest → result ≡ true → next ≡ past_blank rest
    → length next < length text
term-takes edition text rest next result reads e is = rw is (took (term_in_value edition)
    (term_in_value-takes edition) text (past_blank rest) rest
    (ap after_term (passed (term edition text) result rest reads e)))

-- the value, where the terms from here on end it as those of the whole do, and none begins here
pub value-done : (edition : Edition) (text end here rest : List ℕ) (fault : Fault)
    → last_or end (each (term_in_value edition) here).0
    ≡ last_or text (each (term_in_value edition) text).0
    → (each (term_in_value edition) here).1 ≡ (each (term_in_value edition) text).1
    → term edition here ≡ fails fault rest → value edition text ≡ (trim (before text end), rest)
unfolding value
value-done edition text end here rest fault last left e =
    let none : each (term_in_value edition) here ≡ ([], here) =
    terms-none edition here rest fault e in
    let ended : last_or text (each (term_in_value edition) text).0 ≡ end =
    sym last ∙ ap (λ r. last_or end r.0) none in
    let at : (each (term_in_value edition) text).1 ≡ here = sym left ∙ ap (λ r. r.1) none in
    rw (ended, at, e) refl

pub semicolons-some : (text : List ℕ) → starts semicolon_byte text ≡ true
    → (each semicolon text).1 ≡ (each semicolon (past_blank (past_one text))).1
semicolons-some text e = ap (λ r. r.1)
    (each-some semicolon semicolon-takes text (past_blank (past_one text)) tt (rw e refl))

pub semicolons-none : (text : List ℕ) → starts semicolon_byte text ≡ false
    → (each semicolon text).1 ≡ text
semicolons-none text e = ap (λ r. r.1) (each-none semicolon text (rw e refl))

pub semicolon-less : (text : List ℕ) → starts semicolon_byte text ≡ true
    → length (past_blank (past_one text)) < length text
semicolon-less text e =
    took semicolon semicolon-takes text (past_blank (past_one text)) tt (rw e refl)

-- a text may be cut where an end of it begins
pub boundary_at_end : (text rest : List ℕ) → Ends text rest → IsUtf8 rest
    → IsCharBoundary text (length text - length rest)
boundary_at_end text rest e u =
    let n : length (before text rest) ≡ length text - length rest =
    length-take-le _ text (omega arith) in
    subst (λ (i : ℕ). IsCharBoundary text i) n
    (IsCharBoundary-at_seam text (before text rest) rest (sym e) u)

pub before-range : (text rest : List ℕ)
    → slice_range text 0 (length text - length rest) ≡ before text rest
before-range text rest = ap (λ n. take n text) (omega arith)

-- what is trimmed is before the end
pub trimmed : (text rest ranged result : List ℕ)
    → ranged ≡ slice_range text 0 (length text - length rest) → result ≡ trim ranged
    → result ≡ trim (before text rest)
trimmed text rest ranged result r t = t ∙ ap (λ (v : List ℕ). trim v) (r ∙ before-range text rest)

-- The name of a declaration is before what follows its colon, if each was read from what the one
-- before it left.
pub stated_name-slices : (text a b n c d e rest : List ℕ) (edition : Edition)
    → blank text ≡ got tt a → b ≡ past_byte asterisk a → name edition b ≡ got n c
    → blank c ≡ got tt d → byte colon_byte d ≡ got tt e → blank e ≡ got tt rest
    → OccurBetween text rest (n ∷ [])
stated_name-slices text a b n c d e rest edition e1 e2 e3 e4 e5 e6 =
    let front : Ends text b =
    ends-ends text a b (ends-got text no_texts (blank text) tt a (blank-occurs text) e1)
    (subst (λ (t : List ℕ). Ends a t) (sym e2) (ends-past_byte asterisk a)) in
    let named : OccurBetween text c (n ∷ []) =
    occur-from text b c (n ∷ []) front
    (occurs-got b itself (name edition b) n c (name-occurs edition b) e3) in
    let colon : Ends c e =
    ends-ends c d e (ends-got c no_texts (blank c) tt d (blank-occurs c) e4)
    (ends-got d no_texts (byte colon_byte d) tt e (byte-occurs colon_byte d) e5) in
    occur-to text c rest (n ∷ []) named
    (ends-ends c e rest colon (ends-got e no_texts (blank e) tt rest (blank-occurs e) e6))

-- The name and the value of a declaration occur in order.
pub declaration-slices : (text start left rest n v : List ℕ) (important : Bool)
    → OccurBetween text start (n ∷ []) → OccurBetween start left (v ∷ [])
    → trailing left ≡ got important rest → OccurBetween text rest (n ∷ v ∷ [])
declaration-slices text start left rest n v important named stated e =
    occur-append text start rest (n ∷ []) (v ∷ []) named
    (occur-to start left rest (v ∷ []) stated
    (ends-got left no_texts (trailing left) important rest (trailing-occurs left) e))

-- A text that is cut into pieces: what pieces put together are, and the pieces of a rule set.
-- Serves `laws::nothing_is_lost`.
use Rattle.std.proofs.Common.{◌≡◌, ◌≤◌, ℕ, Bool, true, false, not, if◌then◌else◌, ◌==◌, ◌||◌, List, [], ◌∷◌, ◌++◌, ap, eqb-true, length, one-add, refl, subst, sym, ◌∙◌, Option, Some, None, Ok, Err}
use Rattle.std.specs.List.{prefix_len}
use Rattle.css_text.specs.AsciiBytes.{close_brace, comma, open_brace}
use Rattle.css_text.specs.Reading.{Ends, got, before}
use Rattle.css_text.specs.Bytes.{past, past_byte, starts, from_brace}
use Rattle.css_text.specs.Characters.{Edition, is_space}
use Rattle.css_text.specs.Comments.{past_blank}
use Rattle.simplecss_grammar.specs.Blanks.{IsBlank}
use Rattle.simplecss_grammar.specs.Blanks.IsBlank.{empty, space_then}
use Rattle.simplecss_grammar.specs.Components.{Component}
use Rattle.simplecss_grammar.specs.TokenSequences.{TokenSequence, sequence_of}
use Rattle.simplecss_grammar.specs.TokenSequences.TokenSequence.{item, sequence_end}
use Rattle.simplecss_grammar.specs.Selectors.{Outcome, Role, after_role, outcome, reads, role_of, selector_of}
use Rattle.simplecss_grammar.specs.Selectors.Outcome.{accepted, refused as is_refused}
use Rattle.simplecss_grammar.specs.Declarations.{StyleDeclaration, declaration}
use Rattle.simplecss_grammar.specs.Statements.{part}
use Rattle.simplecss_grammar.specs.Skipped.{Refusal, Skip, Why, extra_brace, refused_selector, brace_skips, part_skips, past_refused, refusal, refusal_in, refused_part, selector_skips, skips_after, skips_after_read, unless_unknown, why_after}
use Rattle.simplecss_grammar.specs.NothingLost.{IsCutUp, cut_ends, blank_then, mark_then, selector_then, declaration_then, open_declaration_then, skip_then, is_mark}
use Rattle.simplecss_grammar.proofs.bytes.BlankLaws.{past_blank-cut}
use Rattle.css_text.proofs.reading.EndsLemmas.{ends-by, ends-ends, ends-past, ends-same}
use Rattle.simplecss_grammar.proofs.reading.NameLocal.{split-after}
use Rattle.simplecss_grammar.proofs.reading.SequenceEndLemmas.{reads-ends}
use Rattle.simplecss_grammar.proofs.reading.OccurrenceLemmas.{ends-past_blank}
use Rattle.simplecss_grammar.proofs.skipped.RuleSetSkipCuts.{reads-after_blank}

-- ---- pieces

-- the pieces up to a rest, and those from there on
pub joined : (edition : Edition) (middle end : List ℕ) {text : List ℕ} {ss : List (List Component)}
    {ds : List StyleDeclaration} {xs : List Skip} (ts : List (List Component))
    (es : List StyleDeclaration) (ys : List Skip) → IsCutUp edition middle text ss ds xs
    → IsCutUp edition end middle ts es ys
    → IsCutUp edition end text (ss ++ ts) (ds ++ es) (xs ++ ys)
joined edition middle end ts es ys cut_ends k = k
joined edition middle end ts es ys (blank_then front text ss ds xs b h) k =
    blank_then front text (ss ++ ts) (ds ++ es) (xs ++ ys) b
    (joined edition middle end ts es ys h k)
joined edition middle end ts es ys (mark_then b text ss ds xs m h) k =
    mark_then b text (ss ++ ts) (ds ++ es) (xs ++ ys) m (joined edition middle end ts es ys h k)
joined edition middle end ts es ys (selector_then front text s ss ds xs r h) k =
    selector_then front text s (ss ++ ts) (ds ++ es) (xs ++ ys) r
    (joined edition middle end ts es ys h k)
joined edition middle end ts es ys (declaration_then front text d ss ds xs r h) k =
    declaration_then front text d (ss ++ ts) (ds ++ es) (xs ++ ys) r
    (joined edition middle end ts es ys h k)
joined edition middle end ts es ys (open_declaration_then front text d ss ds xs r h) k =
    open_declaration_then front text d (ss ++ ts) (ds ++ es) (xs ++ ys) r
    (joined edition middle end ts es ys h k)
joined edition middle end ts es ys (skip_then front text why ss ds xs h) k =
    skip_then front text why (ss ++ ts) (ds ++ es) (xs ++ ys)
    (joined edition middle end ts es ys h k)

-- a blank up to a rest
pub blank_to : (edition : Edition) (end text after : List ℕ) (ss : List (List Component))
    (ds : List StyleDeclaration) (xs : List Skip) → Ends text after → IsBlank (before text after)
    → IsCutUp edition end after ss ds xs → IsCutUp edition end text ss ds xs
blank_to edition end text after ss ds xs e b k =
    subst (λ (t : List ℕ). IsCutUp edition end t ss ds xs) e
    (blank_then (before text after) after ss ds xs b k)

-- the blank at the start
pub past_blank_to : (edition : Edition) (end text : List ℕ) (ss : List (List Component))
    (ds : List StyleDeclaration) (xs : List Skip) → IsCutUp edition end (past_blank text) ss ds xs
    → IsCutUp edition end text ss ds xs
past_blank_to edition end text ss ds xs k =
    blank_to edition end text (past_blank text) ss ds xs (ends-past_blank text)
    (past_blank-cut text) k

-- something skipped up to a rest
pub skip_to : (edition : Edition) (end text after : List ℕ) (why : Why)
    (ss : List (List Component)) (ds : List StyleDeclaration) (xs : List Skip) → Ends text after
    → IsCutUp edition end after ss ds xs
    → IsCutUp edition end text ss ds (record { from = text; after = after; why = why } ∷ xs)
skip_to edition end text after why ss ds xs e k =
    subst (λ (t : List ℕ). IsCutUp edition end t ss ds
    (record { from = t; after = after; why = why } ∷ xs)) e
    (skip_then (before text after) after why ss ds xs k)

selector_to : (edition : Edition) (end text after : List ℕ) (s : List Component)
    (ss : List (List Component)) (ds : List StyleDeclaration) (xs : List Skip) → Ends text after
    → reads edition text ≡ (Some s, after) → IsCutUp edition end after ss ds xs
    → IsCutUp edition end text (s ∷ ss) ds xs
selector_to edition end text after s ss ds xs e r k =
    subst (λ (t : List ℕ). IsCutUp edition end t (s ∷ ss) ds xs) e
    (selector_then (before text after) after s ss ds xs (ap (reads edition) e ∙ r) k)

pub declaration_to : (edition : Edition) (end text after : List ℕ) (p : StyleDeclaration)
    (ss : List (List Component)) (ds : List StyleDeclaration) (xs : List Skip) → Ends text after
    → declaration edition text ≡ got p after → IsCutUp edition end after ss ds xs
    → IsCutUp edition end text ss (p ∷ ds) xs
declaration_to edition end text after p ss ds xs e r k =
    subst (λ (t : List ℕ). IsCutUp edition end t ss (p ∷ ds) xs) e
    (declaration_then (before text after) after p ss ds xs (ap (declaration edition) e ∙ r) k)

-- a closing brace, if it is next
pub closing : (edition : Edition) (text : List ℕ)
    → IsCutUp edition (past_byte close_brace text) text [] [] []
closing edition [] = cut_ends
closing edition (b ∷ text) = by (b == close_brace) refl
  where
    by : (k : Bool) → (b == close_brace) ≡ k
        → IsCutUp edition (if k then text else b ∷ text) (b ∷ text) [] [] []
    by true e = mark_then b text [] [] [] (ap is_mark (eqb-true b close_brace e)) cut_ends
    by false e = cut_ends

-- a further one, which is skipped
pub further : (edition : Edition) (text : List ℕ)
    → IsCutUp edition (past_byte close_brace text) text [] [] (brace_skips text)
further edition [] = cut_ends
further edition (b ∷ text) = by (b == close_brace)
  where
    by : (k : Bool)
        → IsCutUp edition (if k then text else b ∷ text) (b ∷ text) [] []
        (if k then record { from = b ∷ text; after = text; why = extra_brace } ∷ [] else [])
    by true = skip_then (b ∷ []) text extra_brace [] [] [] cut_ends
    by false = cut_ends

-- space bytes
spaces : (edition : Edition) (end text : List ℕ) (ss : List (List Component))
    (ds : List StyleDeclaration) (xs : List Skip)
    → IsCutUp edition end (past is_space text) ss ds xs → IsCutUp edition end text ss ds xs
spaces edition end [] ss ds xs k = k
spaces edition end (b ∷ text) ss ds xs k = by (is_space b) refl (spaces edition end text ss ds xs) k
  where
    by : (i : Bool) → is_space b ≡ i
        → (IsCutUp edition end (past is_space text) ss ds xs → IsCutUp edition end text ss ds xs)
        → IsCutUp edition end (past is_space (b ∷ text)) ss ds xs
        → IsCutUp edition end (b ∷ text) ss ds xs
    by true e more h =
        blank_then (b ∷ []) text ss ds xs (space_then b [] e empty)
        (more (rw (e, one-add (prefix_len is_space text)) at h))
    by false e more h = rw e at h

-- ---- selectors

-- a selector is accepted, or there is a reason why it is refused
abbrev pub IsDecided : Option (List Component) → Option Refusal → Type 0
IsDecided (Some s) None = Unit {0}
IsDecided (Some s) (Some r) = ⊥
IsDecided None None = ⊥
IsDecided None (Some r) = Unit {0}

sequence-decided : (text : List ℕ) (p : TokenSequence)
    → IsDecided (selector_of (outcome p)).0 (refusal_in text p)
sequence-decided text (sequence_end left) = tt
sequence-decided text (item (Err fault) after rest) = tt
sequence-decided text (item (Ok token) after rest) =
    by (role_of token) (outcome rest) (refusal_in text rest) (sequence-decided text rest)
  where
    by : (role : Option Role) (o : Outcome) (r : Option Refusal) → IsDecided (selector_of o).0 r
        → IsDecided (selector_of (after_role role after o)).0
        (unless_unknown role token r)
    by None o r h = tt
    by (Some role) (is_refused left) r h = h
    by (Some role) (accepted roles left) None h = tt
    by (Some role) (accepted roles left) (Some r) h = absurd h

pub selector-decided : (edition : Edition) (text : List ℕ)
    → IsDecided (reads edition text).0 (refusal edition text)
unfolding reads refusal
selector-decided edition text = sequence-decided text (sequence_of edition text)

-- the next opening brace, where it is at the start
from_brace-here : (text : List ℕ) → starts open_brace text ≡ true → from_brace text ≡ text
from_brace-here [] e = absurd (cc)
from_brace-here (b ∷ text) e = rw e refl

-- what an accepted selector leaves
after_selector-cut : (edition : Edition) (x : List ℕ)
    → IsCutUp edition (past_refused x) x [] [] (skips_after x)
after_selector-cut edition x = by (starts comma x) (starts open_brace x) refl
  where
    by : (i j : Bool) → starts open_brace x ≡ j
        → IsCutUp edition (if i then x else from_brace x) x [] []
        (if i || j then []
        else record { from = x; after = from_brace x; why = why_after (from_brace x) } ∷ [])
    by true j e = cut_ends
    by false true e =
        subst (λ (t : List ℕ). IsCutUp edition t x [] [] []) (sym (from_brace-here x e)) cut_ends
    by false false e =
        skip_to edition (from_brace x) x (from_brace x) (why_after (from_brace x)) [] [] []
        (ends-past (λ b. not (b == open_brace)) x) cut_ends

-- the selector of a part, if it has one
abbrev pub listed : Option (List Component) → List (List Component)
listed None = []
listed (Some s) = s ∷ []

-- of two ends of a text the shorter is an end of the longer
pub ends-shorter : (text long short : List ℕ) → Ends text long → Ends text short
    → length short ≤ length long → Ends long short
ends-shorter text long short e f l =
    let parts = split-after (before text short) short (before text long) long (f ∙ sym e) l in
    ends-by long parts.0 short (sym parts.2)

past_refused-ends : (x : List ℕ) → Ends x (past_refused x)
past_refused-ends x = by (starts comma x)
  where
    by : (k : Bool) → Ends x (if k then x else from_brace x)
    by true = ends-same x
    by false = ends-past (λ b. not (b == open_brace)) x

pub part-cut : (edition : Edition) (text : List ℕ)
    → IsCutUp edition (past_refused (part edition text).1) text (listed (part edition text).0) []
    (part_skips edition text)
unfolding part part_skips selector_skips
part-cut edition text =
    by (reads edition text).0 (refusal edition text) refl (selector-decided edition text)
  where
    left : List ℕ
    left = (reads edition text).1

    x : List ℕ
    x = past is_space left

    start : List ℕ
    start = past_blank text

    inside : Ends start (past_refused x)
    inside =
        ends-ends start left (past_refused x)
        (ends-shorter text start left (ends-past_blank text) (reads-ends edition text)
        (reads-after_blank edition text))
        (ends-ends left x (past_refused x) (ends-past is_space left) (past_refused-ends x))

    by : (o : Option (List Component)) (r : Option Refusal) → (reads edition text).0 ≡ o
        → IsDecided o r
        → IsCutUp edition (past_refused x) text (listed o) []
        (refused_part text x r ++ skips_after_read o x)
    by (Some s) None e h =
        let read : reads edition text ≡ (Some s, left) =
        ap (λ (o : Option (List Component)). (o, left)) e in
        selector_to edition (past_refused x) text left s [] [] (skips_after x)
        (reads-ends edition text) read
        (spaces edition (past_refused x) left [] [] (skips_after x) (after_selector-cut edition x))
    by (Some s) (Some r) e h = absurd h
    by None None e h = absurd h
    by None (Some r) e h =
        past_blank_to edition (past_refused x) text [] []
        (record { from = start; after = past_refused x; why = refused_selector r } ∷ [])
        (skip_to edition (past_refused x) start (past_refused x) (refused_selector r) [] [] []
        inside cut_ends)

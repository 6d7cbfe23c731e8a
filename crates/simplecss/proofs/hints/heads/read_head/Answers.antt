use Rattle.std.proofs.Common.{◌≡◌, ◌++◌, ◌∷◌, [], List, ℕ, Option, not, is_some, option_to_list, refl, sym, ◌∙◌, ap, append_assoc}
use Rattle.std.proofs.lemmas.List.{map-append}
use Rattle.css_text.specs.AsciiBytes.{comma as comma_byte}
use Rattle.css_text.specs.Bytes.{past_one}
use Rattle.simplecss_grammar.specs.Components.{Component}
use Rattle.simplecss_grammar.specs.Statements.{part}
use Rattle.css_text.specs.ThisEdition.{this_edition}
use Rattle.css_text.specs.Cursor.{rest_of}
use Rattle.css_text.proofs.bytes.ByteLemmas.{past_byte_there, past_byte_not}
use Rattle.simplecss.specs.Hints.{HeadPart, head_part, head_parts}
use Rattle.simplecss.specs.internal.HeadViews.{head_part_of, head_parts_of}
use Rattle.simplecss.proofs.StatementLemmas.{parts-some, parts-last, part-less, pair-of}
use Rattle.simplecss.proofs.HintLemmas.{head_parts-some, head_parts-last, kept-part}
use Rattle.simplecss.proofs.hints.heads.read_head.Goals as goal

-- a part more at the end of those that were found
more : (found : List HeadPart) (here seen : HeadPart) (rest all : List HeadPart)
    → seen ≡ here → found ++ here ∷ rest ≡ all → (found ++ seen ∷ []) ++ rest ≡ all
more found here seen rest all e h =
    append_assoc found (seen ∷ []) rest ∙ ap (λ part. found ++ part ∷ rest) e ∙ h

-- what was seen of the part is what it is
seen : (from text : List ℕ) (empty kept : _) → from ≡ text → not empty ≡ kept
    → ◌≡◌ {A = HeadPart} (record { from = from; is_kept = not empty })
    (record { from = text; is_kept = kept })
seen from text empty kept e f = rw (e, f) refl

pub parts-smaller : goal.parts-smaller
parts-smaller c =
    part-less this_edition (rest_of c.parts.s) (rest_of c.consume_part.new.s) _
    c.in_ok-consume_part.ensures.rest (sym c.skip_byte.ensures.occurs ∙ c.if-not-skip_byte.false)
    c.skip_byte.ensures.rest

pub parts-preserved : goal.parts-preserved
parts-preserved c =
    let comma = sym c.skip_byte.ensures.occurs ∙ c.if-not-skip_byte.false in
    let here = rest_of c.parts.s in
    let left = rest_of c.consume_part.new.s in
    let read : Option (List Component) × List ℕ = part this_edition here in
    let rest : left ≡ read.1 = c.in_ok-consume_part.ensures.rest in
    let is : read ≡ (read.0, left) = pair-of {r = read} refl rest in
    let after : rest_of c.skip_byte.new.s ≡ past_one left =
    c.skip_byte.ensures.rest ∙ past_byte_there comma_byte left comma in
    let kept : not c.is_empty-is_kept.result ≡ is_some read.0 =
    ap not c.is_empty-is_kept.ensures ∙ kept-part read.0 c.consume_part.new.selectors.items _
    c.consume_part.new.selectors.ok.0
    (c.in_ok-consume_part.ensures.selectors ∙ ap (λ (t : List (List Component)). t ++ option_to_list read.0)
    c.clear.ensures.items) in
    record {
      same = c.skip_byte.ensures.text ∙ c.in_ok-consume_part.ensures.text ∙ c.parts.invariant.same;
      read = rw (after, c.in_ok-push.ensures.items, map-append head_part_of c.parts.found.items _)
          (more (head_parts_of c.parts.found.items) (head_part this_edition here) _
          (head_parts this_edition (past_one left)) _
          (seen c.slice_tail-from.result.now here c.is_empty-is_kept.result (is_some read.0)
          c.slice_tail-from.ensures kept)
          (ap (λ t. head_parts_of c.parts.found.items ++ t)
          (sym (head_parts-some this_edition here left (sym rest) comma))
          ∙ c.parts.invariant.read));
      rest = rw after
          (ap (λ r. r.1) (sym (parts-some this_edition here left read.0 is comma))
          ∙ c.parts.invariant.rest);
    }

pub returns-then-not-skip_byte-clause-parts : goal.returns-then-not-skip_byte-clause-parts
returns-then-not-skip_byte-clause-parts c =
    let none = sym c.skip_byte.ensures.occurs ∙ c.if-not-skip_byte.true in
    let here = rest_of c.parts.s in
    let left = rest_of c.consume_part.new.s in
    let read : Option (List Component) × List ℕ = part this_edition here in
    let rest : left ≡ read.1 = c.in_ok-consume_part.ensures.rest in
    let kept : not c.is_empty-is_kept.result ≡ is_some read.0 =
    ap not c.is_empty-is_kept.ensures ∙ kept-part read.0 c.consume_part.new.selectors.items _
    c.consume_part.new.selectors.ok.0
    (c.in_ok-consume_part.ensures.selectors ∙ ap (λ (t : List (List Component)). t ++ option_to_list read.0)
    c.clear.ensures.items) in
    rw (c.in_ok-push.ensures.items, map-append head_part_of c.parts.found.items _)
    (ap (λ part. head_parts_of c.parts.found.items ++ part ∷ [])
    (seen c.slice_tail-from.result.now here c.is_empty-is_kept.result (is_some read.0)
    c.slice_tail-from.ensures kept)
    ∙ ap (λ t. head_parts_of c.parts.found.items ++ t)
    (sym (head_parts-last this_edition here left (sym rest) none))
    ∙ c.parts.invariant.read)

pub returns-then-not-skip_byte-clause-rest : goal.returns-then-not-skip_byte-clause-rest
returns-then-not-skip_byte-clause-rest c =
    let none = sym c.skip_byte.ensures.occurs ∙ c.if-not-skip_byte.true in
    let here = rest_of c.parts.s in
    let left = rest_of c.consume_part.new.s in
    let read : Option (List Component) × List ℕ = part this_edition here in
    let is : read ≡ (read.0, left) = pair-of {r = read} refl c.in_ok-consume_part.ensures.rest in
    c.skip_byte.ensures.rest ∙ past_byte_not comma_byte left none
    ∙ ap (λ r. r.1) (sym (parts-last this_edition here left read.0 is none))
    ∙ c.parts.invariant.rest

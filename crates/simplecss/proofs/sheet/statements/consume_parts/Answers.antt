use Rattle.std.proofs.Common.{◌≡◌, ◌++◌, List, ℕ, Option, option_to_list, refl, sym, ◌∙◌, ap, append_assoc}
use Rattle.css_text.specs.AsciiBytes.{comma as comma_byte}
use Rattle.css_text.specs.Bytes.{past_one}
use Rattle.simplecss_grammar.specs.Components.{Component}
use Rattle.simplecss_grammar.specs.Statements.{part, parts}
use Rattle.simplecss_grammar.specs.Skipped.{add_each, part_skips, parts_skips}
use Rattle.simplecss_grammar.proofs.reading.SkipLemmas.{add_each-append, parts_skips-some, parts_skips-last}
use Rattle.css_text.specs.ThisEdition.{this_edition}
use Rattle.css_text.specs.Cursor.{rest_of}
use Rattle.css_text.proofs.bytes.ByteLemmas.{past_byte_there, past_byte_not}
use Rattle.simplecss.proofs.StatementLemmas.{parts-some, parts-last, part-less, pair-of}
use Rattle.simplecss.proofs.sheet.statements.consume_parts.Goals as goal

pub parts-smaller : goal.parts-smaller
parts-smaller g c =
    part-less this_edition (rest_of c.parts.s) (rest_of c.consume_part.new.s) _
    c.in_ok-consume_part.ensures.rest (sym c.skip_byte.ensures.occurs ∙ c.if-not-skip_byte.false)
    c.skip_byte.ensures.rest

pub parts-preserved : goal.parts-preserved
parts-preserved g c =
    let comma = sym c.skip_byte.ensures.occurs ∙ c.if-not-skip_byte.false in
    let read : Option (List Component) × List ℕ = part this_edition (rest_of c.parts.s) in
    let is : read ≡ (read.0, rest_of c.consume_part.new.s) =
    pair-of {r = read} refl c.in_ok-consume_part.ensures.rest in
    let after : rest_of c.skip_byte.new.s ≡ past_one (rest_of c.consume_part.new.s) =
    c.skip_byte.ensures.rest ∙ past_byte_there comma_byte (rest_of c.consume_part.new.s) comma in
    let step =
    parts-some this_edition (rest_of c.parts.s) (rest_of c.consume_part.new.s) read.0 is comma in
    let more = parts this_edition (past_one (rest_of c.consume_part.new.s)) in
    let here = rest_of c.parts.s in
    let add = g.P.Report.add in
    let before = g.P.Report.state c.parts.report in
    record {
      same = c.skip_byte.ensures.text ∙ c.in_ok-consume_part.ensures.text ∙ c.parts.invariant.same;
      read = rw (after, c.in_ok-consume_part.ensures.selectors)
          (append_assoc c.parts.selectors.items (option_to_list read.0) more.0
          ∙ ap (λ r. c.parts.selectors.items ++ r.0) (sym step) ∙ c.parts.invariant.read);
      reported = rw (after, c.in_ok-consume_part.ensures.reported) (
          sym (add_each-append add before (part_skips this_edition here)
          (parts_skips this_edition (past_one (rest_of c.consume_part.new.s))))
          ∙ ap (add_each add before) (sym (parts_skips-some this_edition here
          (rest_of c.consume_part.new.s) (sym c.in_ok-consume_part.ensures.rest) comma))
          ∙ c.parts.invariant.reported);
      rest = rw after (ap (λ r. r.1) (sym step) ∙ c.parts.invariant.rest);
    }

pub returns-then-not-skip_byte-clause-reads : goal.returns-then-not-skip_byte-clause-reads
returns-then-not-skip_byte-clause-reads g c =
    let none = sym c.skip_byte.ensures.occurs ∙ c.if-not-skip_byte.true in
    let read : Option (List Component) × List ℕ = part this_edition (rest_of c.parts.s) in
    let is : read ≡ (read.0, rest_of c.consume_part.new.s) =
    pair-of {r = read} refl c.in_ok-consume_part.ensures.rest in
    let last =
    parts-last this_edition (rest_of c.parts.s) (rest_of c.consume_part.new.s) read.0 is none in
    let all : List (List Component) × List ℕ = parts this_edition (rest_of c.args.s.now) in
    let selectors : c.consume_part.new.selectors.items ≡ all.0 =
    c.in_ok-consume_part.ensures.selectors ∙ ap (λ r. c.parts.selectors.items ++ r.0) (sym last)
    ∙ c.parts.invariant.read in
    let rest : rest_of c.skip_byte.new.s ≡ all.1 =
    c.skip_byte.ensures.rest ∙ past_byte_not comma_byte (rest_of c.consume_part.new.s) none
    ∙ ap (λ r. r.1) (sym last) ∙ c.parts.invariant.rest in
    pair-of {A = List (List Component)} {B = List ℕ} selectors rest

pub returns-then-not-skip_byte-clause-reported : goal.returns-then-not-skip_byte-clause-reported
returns-then-not-skip_byte-clause-reported g c =
    let none = sym c.skip_byte.ensures.occurs ∙ c.if-not-skip_byte.true in
    c.in_ok-consume_part.ensures.reported
    ∙ ap (add_each g.P.Report.add (g.P.Report.state c.parts.report))
    (sym (parts_skips-last this_edition (rest_of c.parts.s) (rest_of c.consume_part.new.s)
    (sym c.in_ok-consume_part.ensures.rest) none))
    ∙ c.parts.invariant.reported

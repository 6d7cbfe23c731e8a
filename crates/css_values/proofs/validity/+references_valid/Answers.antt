use Rattle.std.proofs.Common.{◌∙◌, ◌≡◌, ◌<◌, ◌-◌, true, false, sym, arith, rules}
use Rattle.css_text.proofs.reading.EachLemmas.{took}
use Rattle.css_values.specs.Pieces.{piece}
use Rattle.css_values.specs.Validity.{piece_valid, is_valid}
use Rattle.css_values.specs.Views.{piece_of}
use Rattle.css_values.proofs.PieceLemmas.{piece-takes}
use Rattle.css_values.proofs.ValidLemmas.{valid_from-none, valid_from-some, valid-begins, valid-zero}
use Rattle.css_values.proofs.validity.+references_valid.Goals as goal

pub references_valid-returns-then-depth-eq0 : goal.references_valid-returns-then-depth-eq0
references_valid-returns-then-depth-eq0 t c = valid-zero c.args.depth c.args.text.now (search rules)

pub references_valid-pieces-init : goal.references_valid-pieces-init
references_valid-pieces-init t c =
    let more : 0 < c.args.depth = omega arith in
    (search rules, valid-begins c.args.depth c.args.text.now more)

pub references_valid-pieces-smaller : goal.references_valid-pieces-smaller
references_valid-pieces-smaller t c =
    took piece piece-takes c.pieces.rest.now c.in-Some.read.rest.now (piece_of c.in-Some.read.piece)
    c.in-Some.ensures

pub references_valid-returns : goal.references_valid-returns
references_valid-returns t c =
    sym c.pieces.invariant.1
    ∙ valid_from-none (c.args.depth - 1) c.pieces.rest.now c.in_default.ensures

pub references_valid-returns-then-not-branch : goal.references_valid-returns-then-not-branch
references_valid-returns-then-not-branch t c =
    let one : piece_valid (is_valid (c.args.depth - 1)) (piece_of c.in-Some.read.piece) ≡ false =
    c.in_ok-piece_valid.ensures ∙ search rules in
    sym c.pieces.invariant.1
    ∙ valid_from-some (c.args.depth - 1) c.pieces.rest.now c.in-Some.read.rest.now
    (piece_of c.in-Some.read.piece) false c.in-Some.ensures one

pub references_valid-pieces-preserved : goal.references_valid-pieces-preserved
references_valid-pieces-preserved t c =
    let one : piece_valid (is_valid (c.args.depth - 1)) (piece_of c.in-Some.read.piece) ≡ true =
    c.in_ok-piece_valid.ensures ∙ search rules in (
      search rules,
      sym (valid_from-some (c.args.depth - 1) c.pieces.rest.now c.in-Some.read.rest.now
          (piece_of c.in-Some.read.piece) true c.in-Some.ensures one)
          ∙ c.pieces.invariant.1,
    )

use Rattle.std.proofs.Common.{◌∙◌, ◌≡◌, true, false, sym, rules}
use Rattle.css_text.proofs.reading.EachLemmas.{took}
use Rattle.css_values.specs.Pieces.{piece}
use Rattle.css_values.specs.Registrations.{is_plain}
use Rattle.css_values.specs.Views.{piece_of}
use Rattle.css_values.proofs.PieceLemmas.{piece-takes}
use Rattle.css_values.proofs.RegisteringLemmas.{plain-none, plain-some}
use Rattle.css_values.proofs.registering.has_no_reference.Goals as goal

pub pieces-smaller : goal.pieces-smaller
pieces-smaller c =
    took piece piece-takes c.pieces.rest.now c.in-Some.read.rest.now (piece_of c.in-Some.read.piece)
    c.in-Some.ensures

pub returns-then-not-is_plain : goal.returns-then-not-is_plain
returns-then-not-is_plain c =
    let one : false ≡ is_plain (piece_of c.in-Some.read.piece) = search rules in
    sym c.pieces.invariant.1
    ∙ plain-some c.pieces.rest.now c.in-Some.read.rest.now (piece_of c.in-Some.read.piece) false
    c.in-Some.ensures one

pub pieces-preserved : goal.pieces-preserved
pieces-preserved c =
    let one : true ≡ is_plain (piece_of c.in-Some.read.piece) = search rules in (
      search rules,
      sym (plain-some c.pieces.rest.now c.in-Some.read.rest.now (piece_of c.in-Some.read.piece) true
          c.in-Some.ensures one)
          ∙ c.pieces.invariant.1,
    )

pub returns : goal.returns
returns c =
    sym c.pieces.invariant.1
    ∙ plain-none c.pieces.rest.now c.in_default.ensures

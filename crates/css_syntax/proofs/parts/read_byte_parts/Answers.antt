use Rattle.std.proofs.Common.{◌∙◌, sym, ap, arith, ◌≡◌, List, ℕ, map, []}
use Rattle.css_text.specs.Reading.{each, before, last_or}
use Rattle.css_text.proofs.reading.EachLemmas.{each-none}
use Rattle.css_syntax.specs.declared.quality.Quality.{Quality}
use Rattle.css_syntax.specs.Qualities.{first_flaw, flaw_of_all}
use Rattle.css_syntax.specs.Parts.{part, parts}
use Rattle.css_syntax.proofs.OpenBlocks.{flaw-assoc, flaw-whole}
use Rattle.css_syntax.proofs.PartTexts.{stated}
use Rattle.css_syntax.proofs.parts.read_byte_parts.Goals as goal

pub parts-smaller : goal.parts-smaller
parts-smaller c = omega (arith, c.in-Some.ensures.less, c.in-Some.ensures.within)

pub parts-preserved : goal.parts-preserved
parts-preserved c =
    let one = c.in-Some.part in
    let goes = c.in-Some.ensures in
    let more = flaw_of_all (map (λ one. one.0) (each (part c.args.stops) one.next.now).0) in
    record {
      last = sym (goes.last c.parts.end.now) ∙ c.parts.invariant.last;
      flaw = ap (λ (quality : Quality). first_flaw quality more) c.first_flaw-quality.ensures
          ∙ sym (flaw-assoc c.parts.quality one.quality more)
          ∙ sym (ap (first_flaw c.parts.quality) goes.flaw)
          ∙ c.parts.invariant.flaw;
      left = sym goes.left ∙ c.parts.invariant.left;
      within = omega (arith, goes.less, c.parts.invariant.within, c.parts.invariant.after);
      after = goes.within;
    }

pub returns : goal.returns
unfolding parts
returns c =
    let stops = c.args.stops in
    let bytes = c.args.bytes.now in
    let rest = c.parts.rest.now in
    let whole = each (part stops) bytes in
    let flaws = flaw_of_all (map (λ one. one.0) whole.0) in
    let ends : each (part stops) rest ≡ ([], rest) =
    each-none (part stops) rest c.in_default.ensures in
    let last : c.parts.end.now ≡ last_or bytes (map (λ one. one.1) whole.0) =
    sym (ap (λ (r : List (Quality × List ℕ) × List ℕ).
    last_or c.parts.end.now (map (λ one. one.1) r.0)) ends) ∙ c.parts.invariant.last in
    let flaw : c.parts.quality ≡ flaws =
    sym (flaw-whole c.parts.quality) ∙ sym (ap (λ (r : List (Quality × List ℕ) × List ℕ).
    first_flaw c.parts.quality (flaw_of_all (map (λ one. one.0) r.0))) ends)
    ∙ c.parts.invariant.flaw in
    let left : rest ≡ whole.1 =
    sym (ap (λ (r : List (Quality × List ℕ) × List ℕ). r.1) ends) ∙ c.parts.invariant.left in
    ap (λ (t : List ℕ). stated (before bytes t) flaws whole.1) (sym last)
    ∙ ap (λ (q : Quality). stated (before bytes c.parts.end.now) q whole.1) (sym flaw)
    ∙ ap (λ (r : List ℕ). stated (before bytes c.parts.end.now) c.parts.quality r) (sym left)

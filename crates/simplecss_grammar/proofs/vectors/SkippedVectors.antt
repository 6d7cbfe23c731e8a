-- Worked texts and what reading them skips, computed.
-- Computes `part_skips`, `parts_skips`, `block_skips`, `statement_skips` and `skipped` of
-- `specs/Skipped`.
use Rattle.std.specs.Prelude.{◌≡◌, refl, [], ◌∷◌, codes, map, Some}
use Rattle.css_text.specs.declared.error.Error.TheVariants.{SelectorMissing}
use Rattle.css_text.specs.Characters.{Edition, first_edition, second_edition}
use Rattle.simplecss_grammar.specs.Skipped.{faulty, unknown_class, refused_selector, broken_declaration, open_value, open_comment, at_rule, leading_comma, after_selector, missing_block, extra_brace, skipped}
use Rattle.simplecss_grammar.proofs.vectors.OnLiterals.{simplecss_on_literals}

-- what is skipped of a text
pub skips_of_texts : (edition : Edition) →
    (skipped edition (codes "a{b:c}") ≡ [])
    × (skipped edition (codes "a{ }b{/**/}c{ b:c; }") ≡ [])
    × (skipped edition (codes "a{ /* }b") ≡ record
    { from = codes "/* }b"; after = []; why = open_comment } ∷ [])
    × (skipped edition (codes "a, :x y, b {}") ≡ record {
      from = codes ":x y, b {}";
      after = codes "{}";
      why = refused_selector
          (unknown_class (codes "x"));
    } ∷ [])
    × (skipped edition (codes " @m x; /* y") ≡ record
    { from = codes "@m x; /* y"; after = codes " /* y"; why = at_rule (Some (codes "m")) } ∷
    record { from = codes "/* y"; after = []; why = open_comment } ∷ [])
    × (skipped edition (codes "a{b:c; d e;f:g}h{}") ≡ record
    { from = codes "d e;f:g}h{}"; after = codes "}h{}"; why = broken_declaration } ∷ [])
    × (skipped edition (codes "a{b:c 'd}e{f:g}") ≡ record
    { from = codes "'d}e{f:g}"; after = []; why = open_value } ∷ [])
    × (skipped edition (codes "a{b:c/**/\"") ≡ record
    { from = codes "\""; after = []; why = open_value } ∷ [])
    × (skipped edition (codes "a{b:c;*d : e f(g}") ≡ record
    { from = codes "f(g}"; after = []; why = open_value } ∷ [])
    × (skipped edition (codes "a{b:'c}d{}") ≡ record
    { from = codes "b:'c}d{}"; after = []; why = broken_declaration } ∷ [])
    × (skipped edition (codes "a{b:c !d") ≡ record
    { from = codes "d"; after = []; why = broken_declaration } ∷ [])
    × (skipped edition (codes "a{b:c ") ≡ [])
    × (map (λ s. s.after) (skipped edition (codes ":x,a{b:c}")) ≡ codes ",a{b:c}" ∷ [])
    × (map (λ s. s.after) (skipped edition (codes "a < b, c {d}e{}")) ≡ codes "{d}e{}" ∷ codes
    "}e{}" ∷ [])
    × (skipped edition (codes ", { }") ≡ record
    { from = codes ", { }"; after = codes " { }"; why = leading_comma } ∷ record {
      from = codes "{ }";
      after = codes "{ }";
      why = refused_selector
          (faulty (codes " { }") SelectorMissing);
    } ∷ [])
    × (skipped edition (codes "a/x {}") ≡ record
    { from = codes "/x {}"; after = codes "{}"; why = after_selector } ∷ [])
    × (skipped edition (codes "a{}b ") ≡ record { from = []; after = []; why = missing_block } ∷ [])
    × (skipped edition (codes "a{ }}{b}}c{}") ≡ record
    { from = codes "}{b}}c{}"; after = codes "{b}}c{}"; why = extra_brace } ∷ record {
      from = codes "{b}}c{}";
      after = codes "{b}}c{}";
      why = refused_selector
          (faulty (codes "{b}}c{}") SelectorMissing);
    } ∷ record
    { from = codes "b}}c{}"; after = codes "}}c{}"; why = broken_declaration } ∷ record
    { from = codes "}c{}"; after = codes "c{}"; why = extra_brace } ∷ [])
unfolding simplecss_on_literals
skips_of_texts first_edition = (
  refl,
  refl,
  refl,
  refl,
  refl,
  refl,
  refl,
  refl,
  refl,
  refl,
  refl,
  refl,
  refl,
  refl,
  refl,
  refl,
  refl,
  refl,
)
skips_of_texts second_edition = (
  refl,
  refl,
  refl,
  refl,
  refl,
  refl,
  refl,
  refl,
  refl,
  refl,
  refl,
  refl,
  refl,
  refl,
  refl,
  refl,
  refl,
  refl,
)

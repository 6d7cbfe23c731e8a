-- The selectors of a sheet read back.
-- Serves `selectors` of `StyleSheet::{parse, parse_more, read}` (the selectors of a sheet
-- printed and read again).
use Rattle.std.proofs.Common.{false, ℕ, ◌≡◌, List, [], ◌∷◌, ◌++◌, false, filter, IsUtf8}
use Rattle.std.specs.List.{AllByRecursion, All}
use Rattle.std.proofs.lemmas.List.Elements.{All-append, All-weaker, All-filter, All-from_recursion, recursion_from_All}
use Rattle.css_text.specs.AsciiBytes.{open_brace}
use Rattle.css_text.specs.Characters.{Edition}
use Rattle.simplecss_grammar.specs.Declarations.{StyleDeclaration, declaration}
use Rattle.simplecss_grammar.specs.Statements.{StyleRule, has_declaration, kept}
use Rattle.simplecss_grammar.specs.Sheets.{is_smaller, ordered, sheet}
use Rattle.simplecss_grammar.specs.PrintingLaws.{ends_in_hyphen, SelectorReadsBack, SelectorsReadBack}
use Rattle.css_text.proofs.reading.GotLemmas.{Anything, if_got}
use Rattle.simplecss_grammar.proofs.round_trip.ReadSelectors.{selector-reads_back_both, selector-no_hyphen}
use Rattle.simplecss_grammar.proofs.round_trip.KeptRules.{Known, IsKept, kept-are, sheet-are, all-ordered_by}

-- a selector that reads back, and ends in no lone hyphen
abbrev ReadsBackAsKept : Edition → StyleRule → Type 0
ReadsBackAsKept edition rule = SelectorReadsBack edition rule.components
    × (ends_in_hyphen rule.components ≡ false)

module _ (edition : Edition) where
  -- of texts, with nothing known of the declarations
  texts-known : Known edition IsUtf8 Anything
  texts-known = record {
    is_text = λ text u. u;
    of_end = λ text rest u e v. v;
    declares = λ text u. if_got (λ p rest. Unit {0}) (declaration edition text) (λ p rest e. tt);
  }

  kept-both : (R : StyleDeclaration → Type 0) (rules : List StyleRule)
      → AllByRecursion (IsKept edition R) rules → AllByRecursion (ReadsBackAsKept edition) rules
  kept-both R [] h = tt
  kept-both R (rule ∷ rules) h = (
    (
      selector-reads_back_both edition rule.components open_brace [] h.0.0.selector,
      selector-no_hyphen
          edition rule.components open_brace [] h.0.0.selector,
    ),
    kept-both R rules h.1,
  )

  -- of each rule
  from_each : (rules : List StyleRule) → All (ReadsBackAsKept edition) rules
      → SelectorsReadBack edition rules
  from_each rules h = record {
    each_selector = All-weaker (ReadsBackAsKept edition) (λ rule. SelectorReadsBack edition
        rule.components) (λ rule w. w.0) rules h;
    no_hyphen = All-weaker (ReadsBackAsKept edition) (λ rule. ends_in_hyphen rule.components
        ≡ false) (λ rule w. w.1) rules h;
  }

  to_each : (rules : List StyleRule) → SelectorsReadBack edition rules
      → All (ReadsBackAsKept edition) rules
  to_each rules h k d less = (h.each_selector k d less, h.no_hyphen k d less)

  -- The selectors of the rules of a text read back, and none ends in a lone hyphen.
  kept-reads_back : (text : List ℕ) → IsUtf8 text → SelectorsReadBack edition (kept edition text)
  kept-reads_back text u =
      from_each (kept edition text) (All-from_recursion (ReadsBackAsKept edition)
      (kept edition text)
      (kept-both Anything (kept edition text) (kept-are edition IsUtf8 Anything texts-known text
      u)))

  -- So do those of rules in the order of their specificity.
  ordered-reads_back : (rules : List StyleRule) → SelectorsReadBack edition rules
      → SelectorsReadBack edition (ordered rules)
  ordered-reads_back rules h =
      let P : StyleRule → Type 0 = ReadsBackAsKept edition in
      from_each (ordered rules) (All-from_recursion P (ordered rules)
      (all-ordered_by P is_smaller rules (recursion_from_All P rules (to_each rules h))))

  -- So do those of a sheet that texts were read into.
  pub sheet-reads_back : (texts : List (List ℕ)) → All IsUtf8 texts
      → SelectorsReadBack edition (sheet edition texts)
  sheet-reads_back texts u =
      from_each (sheet edition texts) (All-from_recursion (ReadsBackAsKept edition)
      (sheet edition texts)
      (kept-both Anything (sheet edition texts) (sheet-are edition IsUtf8 Anything texts-known texts
      (recursion_from_All IsUtf8 texts u))))

  -- So do those of a sheet into which one more text was read.
  pub more-reads_back : (rules : List StyleRule) (text : List ℕ) → SelectorsReadBack edition rules
      → IsUtf8 text → SelectorsReadBack edition
      (ordered (filter has_declaration rules ++ kept edition text))
  more-reads_back rules text h u =
      let P : StyleRule → Type 0 = ReadsBackAsKept edition in
      ordered-reads_back (filter has_declaration rules ++ kept edition text)
      (from_each (filter has_declaration rules ++ kept edition text)
      (All-append P (filter has_declaration rules) (kept edition text)
      (All-filter has_declaration P rules (to_each rules h)) (to_each (kept edition text)
      (kept-reads_back text u))))

-- Worked selectors, computed: what the selector of a text prints, what is left, and how specific it
-- is.
-- Computes `reads` of `specs/Selectors`, `specificity` of `specs/Specificity` and `selector_text`
-- of `specs/Printing`.
use Rattle.std.specs.Prelude.{◌≡◌, refl, [], ◌∷◌, codes, Some, None, true, false, replicate, encode_utf8_all}
use Rattle.std.specs.List.{flat_map}
use Rattle.std.specs.Option.{option_map}
use Rattle.css_text.specs.Characters.{Edition, first_edition, second_edition}
use Rattle.simplecss_grammar.specs.Components.Operator.{has_word}
use Rattle.simplecss_grammar.specs.Components.KnownPseudoClass.{first_child}
use Rattle.simplecss_grammar.specs.Components.Subselector.{attribute, pseudo_class}
use Rattle.simplecss_grammar.specs.Components.Combinator.{none, child}
use Rattle.simplecss_grammar.specs.Selectors.{reads}
use Rattle.simplecss_grammar.specs.Specificity.{specificity}
use Rattle.simplecss_grammar.specs.Printing.{selector_text, is_clean}
use Rattle.simplecss_grammar.proofs.vectors.OnLiterals.{simplecss_on_literals}

-- the components of a text
pub components : (edition : Edition) →
    reads edition (codes "a > .b:first-child, c") ≡ (
      Some (record {
        combinator = none;
        compound = record { name = Some (codes "a"); subselectors = [] };
      } ∷ record {
        combinator = child;
        compound = record {
          name = None;
          subselectors =
              attribute (codes "class") (has_word (codes "b")) ∷ pseudo_class first_child ∷ [];
        };
      } ∷ []),
      codes ", c",
    )
unfolding simplecss_on_literals
components first_edition = refl
components second_edition = refl

-- what is read, printed, and what is left
pub printed : (edition : Edition) →
    (option_map selector_text (reads edition (codes "a > .b")).0 ≡ Some (codes "a > *[class~='b']"))
    × ((reads edition (codes "a > .b")).1 ≡ [])
    × (option_map selector_text (reads edition (codes "a, b")).0 ≡ Some (codes "a"))
    × ((reads edition (codes "a, b")).1 ≡ (codes ", b"))
    × (option_map selector_text (reads edition []).0 ≡ None)
    × ((reads edition []).1 ≡ [])
    × (option_map selector_text (reads edition (codes "a/**/b")).0 ≡ None)
    × ((reads edition (codes "a/**/b")).1 ≡ [])
    × (option_map selector_text (reads edition (codes "a/**/.b")).0 ≡ Some (codes "a[class~='b']"))
    × ((reads edition (codes "a/**/.b")).1 ≡ [])
    × (option_map selector_text (reads edition (codes "a /**/.b")).0
    ≡ Some (codes "a *[class~='b']"))
    × ((reads edition (codes "a /**/.b")).1 ≡ [])
    × (option_map selector_text (reads edition (codes "a/ b")).0 ≡ Some (codes "a"))
    × ((reads edition (codes "a/ b")).1 ≡ (codes "/ b"))
    × (option_map selector_text (reads edition (codes "a / b")).0 ≡ None)
    × ((reads edition (codes "a / b")).1 ≡ (codes " b"))
    × (option_map selector_text (reads edition (codes "-")).0 ≡ Some (codes "-"))
    × ((reads edition (codes "-")).1 ≡ [])
    × (option_map selector_text (reads edition (codes "- a")).0 ≡ None)
    × ((reads edition (codes "- a")).1 ≡ (codes " a"))
    × (option_map selector_text (reads edition (codes ":LINK")).0 ≡ None)
    × ((reads edition (codes ":LINK")).1 ≡ [])
    × (option_map selector_text (reads edition (codes ":le, b")).0 ≡ None)
    × ((reads edition (codes ":le, b")).1 ≡ (codes ", b"))
    × (option_map selector_text (reads edition (codes "h1 + *[rel=up]")).0
    ≡ Some (codes "h1 + *[rel='up']"))
    × ((reads edition (codes "h1 + *[rel=up]")).1 ≡ [])
    × (option_map selector_text (reads edition (codes "a {x")).0 ≡ Some (codes "a"))
    × ((reads edition (codes "a {x")).1 ≡ (codes "{x"))
    × (option_map selector_text (reads edition (codes "[x=\"a'][y='b\"]")).0
    ≡ Some (codes "*[x='a'][y='b']"))
    × ((reads edition (codes "[x=\"a'][y='b\"]")).1 ≡ [])
    × (option_map selector_text (reads edition (codes "[x='a'b']")).0 ≡ None)
    × ((reads edition (codes "[x='a'b']")).1 ≡ (codes "b']"))
    × (option_map selector_text (reads edition (codes "[x=\"a\\'b\"]")).0
    ≡ Some (codes "*[x='a\\'b']"))
    × ((reads edition (codes "[x=\"a\\'b\"]")).1 ≡ [])
unfolding simplecss_on_literals
printed first_edition = (
  refl,
  refl,
  refl,
  refl,
  refl,
  refl,
  refl,
  refl,
  refl,
  refl,
  refl,
  refl,
  refl,
  refl,
  refl,
  refl,
  refl,
  refl,
  refl,
  refl,
  refl,
  refl,
  refl,
  refl,
  refl,
  refl,
  refl,
  refl,
  refl,
  refl,
  refl,
  refl,
  refl,
  refl,
)
printed second_edition = (
  refl,
  refl,
  refl,
  refl,
  refl,
  refl,
  refl,
  refl,
  refl,
  refl,
  refl,
  refl,
  refl,
  refl,
  refl,
  refl,
  refl,
  refl,
  refl,
  refl,
  refl,
  refl,
  refl,
  refl,
  refl,
  refl,
  refl,
  refl,
  refl,
  refl,
  refl,
  refl,
  refl,
  refl,
)

-- and what the two editions read apart
pub printed-editions :
    (option_map selector_text (reads second_edition (encode_utf8_all (codes "é"))).0
    ≡ Some (encode_utf8_all (codes "é")))
    × ((reads second_edition (encode_utf8_all (codes "é"))).1 ≡ [])
    × (option_map selector_text (reads first_edition (encode_utf8_all (codes "é"))).0 ≡ None)
    × ((reads first_edition (encode_utf8_all (codes "é"))).1 ≡ (encode_utf8_all (codes "é")))
unfolding simplecss_on_literals
printed-editions = (refl, refl, refl, refl)

-- ids, other subselectors and type names are counted, up to 255
pub specificities : (edition : Edition) →
    (option_map specificity (reads edition (flat_map (λ x. codes ".x") (replicate 300 true))).0
    ≡ Some (0 ∷ 255 ∷ 0 ∷ []))
    × (option_map specificity (reads edition (codes "[id]")).0 ≡ Some (1 ∷ 0 ∷ 0 ∷ []))
    × (option_map specificity (reads edition (codes "h1 + *[rel=up]")).0 ≡ Some (0 ∷ 1 ∷ 1 ∷ []))
    × (option_map specificity (reads edition (codes "*")).0 ≡ Some (0 ∷ 0 ∷ 0 ∷ []))
    × (option_map specificity (reads edition (codes "a, b")).0 ≡ Some (0 ∷ 0 ∷ 1 ∷ []))
    × (option_map specificity (reads edition (codes "a > .b")).0 ≡ Some (0 ∷ 1 ∷ 1 ∷ []))
unfolding simplecss_on_literals
specificities first_edition = (refl, refl, refl, refl, refl, refl)
specificities second_edition = (refl, refl, refl, refl, refl, refl)

-- apostrophes in values
pub clean : (edition : Edition) →
    (option_map is_clean (reads edition (codes "[x=\"a'][y='b\"]")).0 ≡ Some false)
    × (option_map is_clean (reads edition (codes "[x=\"a\\'b\"]")).0 ≡ Some true)
    × (option_map is_clean (reads edition (codes "[x=\"a'b\"]")).0 ≡ Some false)
    × (option_map is_clean (reads edition (codes "a")).0 ≡ Some true)
unfolding simplecss_on_literals
clean first_edition = (refl, refl, refl, refl)
clean second_edition = (refl, refl, refl, refl)

-- selectors of one meaning print alike
pub other_spellings : (edition : Edition) →
    (option_map selector_text (reads edition (codes "a > b")).0 ≡ Some (codes "a > b"))
    × ((reads edition (codes "a > b")).1 ≡ [])
    × (option_map selector_text (reads edition (codes "a .b")).0 ≡ Some (codes "a *[class~='b']"))
    × ((reads edition (codes "a .b")).1 ≡ [])
    × (option_map selector_text (reads edition (codes "a *[class~=\"b\"]")).0
    ≡ Some (codes "a *[class~='b']"))
    × ((reads edition (codes "a *[class~=\"b\"]")).1 ≡ [])
    × (option_map selector_text (reads edition (codes "#x")).0 ≡ Some (codes "*[id='x']"))
    × ((reads edition (codes "#x")).1 ≡ [])
    × (option_map selector_text (reads edition (codes "[id=x]")).0 ≡ Some (codes "*[id='x']"))
    × ((reads edition (codes "[id=x]")).1 ≡ [])
    × (option_map selector_text (reads edition (codes ".b:lang( en )")).0
    ≡ Some (codes "*[class~='b']:lang(en)"))
    × ((reads edition (codes ".b:lang( en )")).1 ≡ [])
    × (option_map selector_text (reads edition (codes ".-")).0 ≡ Some (codes "*[class~='-']"))
    × ((reads edition (codes ".-")).1 ≡ [])
unfolding simplecss_on_literals
other_spellings first_edition =
    (refl, refl, refl, refl, refl, refl, refl, refl, refl, refl, refl, refl, refl, refl)
other_spellings second_edition =
    (refl, refl, refl, refl, refl, refl, refl, refl, refl, refl, refl, refl, refl, refl)

-- a printed text is read as itself
pub printed_again : (edition : Edition) →
    (option_map selector_text (reads edition (codes "a *[class~='b']")).0
    ≡ Some (codes "a *[class~='b']"))
    × ((reads edition (codes "a *[class~='b']")).1 ≡ [])
    × (option_map selector_text (reads edition (codes "*[id='x']")).0 ≡ Some (codes "*[id='x']"))
    × ((reads edition (codes "*[id='x']")).1 ≡ [])
    × (option_map selector_text (reads edition (codes "*[class~='b']:lang(en)")).0
    ≡ Some (codes "*[class~='b']:lang(en)"))
    × ((reads edition (codes "*[class~='b']:lang(en)")).1 ≡ [])
    × (option_map selector_text (reads edition (codes "*[class~='-']")).0
    ≡ Some (codes "*[class~='-']"))
    × ((reads edition (codes "*[class~='-']")).1 ≡ [])
    × (option_map selector_text (reads edition (codes "*[x='a'][y='b']")).0
    ≡ Some (codes "*[x='a'][y='b']"))
    × ((reads edition (codes "*[x='a'][y='b']")).1 ≡ [])
    × (option_map selector_text (reads edition (codes "*[x='a\\'b']")).0
    ≡ Some (codes "*[x='a\\'b']"))
    × ((reads edition (codes "*[x='a\\'b']")).1 ≡ [])
unfolding simplecss_on_literals
printed_again first_edition =
    (refl, refl, refl, refl, refl, refl, refl, refl, refl, refl, refl, refl)
printed_again second_edition =
    (refl, refl, refl, refl, refl, refl, refl, refl, refl, refl, refl, refl)

-- a value with a bare apostrophe prints as a text that is refused
pub bare_apostrophes : (edition : Edition) →
    (option_map selector_text (reads edition (codes "[x=\"a'b\"]")).0 ≡ Some (codes "*[x='a'b']"))
    × ((reads edition (codes "[x=\"a'b\"]")).1 ≡ [])
    × (option_map selector_text (reads edition (codes "*[x='a'b']")).0 ≡ None)
    × ((reads edition (codes "*[x='a'b']")).1 ≡ (codes "b']"))
unfolding simplecss_on_literals
bare_apostrophes first_edition = (refl, refl, refl, refl)
bare_apostrophes second_edition = (refl, refl, refl, refl)

-- each operator and each known pseudo-class
pub all_subselectors : (edition : Edition) →
    (option_map selector_text (reads edition (codes "[a][a=b][a~='b'][a|=\"b\"]")).0
    ≡ Some (codes "*[a][a='b'][a~='b'][a|='b']"))
    × ((reads edition (codes "[a][a=b][a~='b'][a|=\"b\"]")).1 ≡ [])
    × (option_map selector_text
    (reads edition (codes "a:first-child:link:visited:hover:active:focus")).0
    ≡ Some (codes "a:first-child:link:visited:hover:active:focus"))
    × ((reads edition (codes "a:first-child:link:visited:hover:active:focus")).1 ≡ [])
    × (option_map selector_text (reads edition (codes "*:lang(en) + b>c")).0
    ≡ Some (codes "*:lang(en) + b > c"))
    × ((reads edition (codes "*:lang(en) + b>c")).1 ≡ [])
unfolding simplecss_on_literals
all_subselectors first_edition = (refl, refl, refl, refl, refl, refl)
all_subselectors second_edition = (refl, refl, refl, refl, refl, refl)

-- the first fault or unknown pseudo-class refuses, and reading ends there
pub refusals : (edition : Edition) →
    (option_map selector_text (reads edition (codes " ")).0 ≡ None)
    × ((reads edition (codes " ")).1 ≡ [])
    × (option_map selector_text (reads edition (codes "/**/")).0 ≡ None)
    × ((reads edition (codes "/**/")).1 ≡ [])
    × (option_map selector_text (reads edition (codes "\\26")).0 ≡ None)
    × ((reads edition (codes "\\26")).1 ≡ (codes "\\26"))
    × (option_map selector_text (reads edition (97 ∷ 11 ∷ [])).0 ≡ None)
    × ((reads edition (97 ∷ 11 ∷ [])).1 ≡ (11 ∷ []))
    × (option_map selector_text (reads edition (codes "a/*/.b")).0 ≡ None)
    × ((reads edition (codes "a/*/.b")).1 ≡ [])
    × (option_map selector_text (reads edition (58 ∷ 108 ∷ 97 ∷ 110 ∷ 103 ∷ 40 ∷ 11 ∷ 41 ∷ [])).0
    ≡ None)
    × ((reads edition (58 ∷ 108 ∷ 97 ∷ 110 ∷ 103 ∷ 40 ∷ 11 ∷ 41 ∷ [])).1 ≡ [])
    × (option_map selector_text (reads edition (codes "a:b<")).0 ≡ None)
    × ((reads edition (codes "a:b<")).1 ≡ (codes "<"))
    × (option_map selector_text (reads edition (codes "a:b c")).0 ≡ None)
    × ((reads edition (codes "a:b c")).1 ≡ (codes " c"))
    × (option_map selector_text (reads edition (codes "a<:b")).0 ≡ None)
    × ((reads edition (codes "a<:b")).1 ≡ (codes "<:b"))
    × (option_map selector_text (reads edition (codes "a:lang b")).0 ≡ None)
    × ((reads edition (codes "a:lang b")).1 ≡ (codes " b"))
    × (option_map selector_text (reads edition (codes "b:-")).0 ≡ None)
    × ((reads edition (codes "b:-")).1 ≡ [])
    × (option_map selector_text (reads edition (codes "a,:b")).0 ≡ Some (codes "a"))
    × ((reads edition (codes "a,:b")).1 ≡ (codes ",:b"))
unfolding simplecss_on_literals
refusals first_edition = (
  refl,
  refl,
  refl,
  refl,
  refl,
  refl,
  refl,
  refl,
  refl,
  refl,
  refl,
  refl,
  refl,
  refl,
  refl,
  refl,
  refl,
  refl,
  refl,
  refl,
  refl,
  refl,
  refl,
  refl,
)
refusals second_edition = (
  refl,
  refl,
  refl,
  refl,
  refl,
  refl,
  refl,
  refl,
  refl,
  refl,
  refl,
  refl,
  refl,
  refl,
  refl,
  refl,
  refl,
  refl,
  refl,
  refl,
  refl,
  refl,
  refl,
  refl,
)

-- type names of wide characters, in both editions
pub wide_type_names : (edition : Edition) →
    (option_map selector_text (reads edition (encode_utf8_all (codes "î"))).0
    ≡ Some (encode_utf8_all (codes "î")))
    × ((reads edition (encode_utf8_all (codes "î"))).1 ≡ [])
    × (option_map selector_text (reads edition (194 ∷ 159 ∷ [])).0 ≡ None)
    × ((reads edition (194 ∷ 159 ∷ [])).1 ≡ (194 ∷ 159 ∷ []))
unfolding simplecss_on_literals
wide_type_names first_edition = (refl, refl, refl, refl)
wide_type_names second_edition = (refl, refl, refl, refl)

-- and what the two editions read apart
pub wide_type_names-editions :
    (option_map selector_text (reads second_edition (194 ∷ 160 ∷ [])).0 ≡ Some (194 ∷ 160 ∷ []))
    × ((reads second_edition (194 ∷ 160 ∷ [])).1 ≡ [])
unfolding simplecss_on_literals
wide_type_names-editions = (refl, refl)

-- comments between the pieces, and a slash after them
pub gaps_of_comments : (edition : Edition) →
    (option_map selector_text (reads edition (codes "/**//**//**/a")).0 ≡ Some (codes "a"))
    × ((reads edition (codes "/**//**//**/a")).1 ≡ [])
    × (option_map selector_text (reads edition (codes "a/**//**//**/.b")).0
    ≡ Some (codes "a[class~='b']"))
    × ((reads edition (codes "a/**//**//**/.b")).1 ≡ [])
    × (option_map selector_text (reads edition (codes "a /**//**//**/b")).0 ≡ Some (codes "a b"))
    × ((reads edition (codes "a /**//**//**/b")).1 ≡ [])
    × (option_map selector_text (reads edition (codes "a a a")).0 ≡ Some (codes "a a a"))
    × ((reads edition (codes "a a a")).1 ≡ [])
    × (option_map selector_text (reads edition (97 ∷ 12 ∷ [])).0 ≡ Some (codes "a"))
    × ((reads edition (97 ∷ 12 ∷ [])).1 ≡ [])
    × (option_map selector_text (reads edition (codes "a/ b")).0 ≡ Some (codes "a"))
    × ((reads edition (codes "a/ b")).1 ≡ (codes "/ b"))
unfolding simplecss_on_literals
gaps_of_comments first_edition =
    (refl, refl, refl, refl, refl, refl, refl, refl, refl, refl, refl, refl)
gaps_of_comments second_edition =
    (refl, refl, refl, refl, refl, refl, refl, refl, refl, refl, refl, refl)

-- more counts of ids, other subselectors and type names
pub counts : (edition : Edition) →
    (option_map specificity (reads edition (codes "li")).0 ≡ Some (0 ∷ 0 ∷ 1 ∷ []))
    × (option_map specificity (reads edition (codes "li.red.level")).0 ≡ Some (0 ∷ 2 ∷ 1 ∷ []))
    × (option_map specificity (reads edition (codes "#x34y")).0 ≡ Some (1 ∷ 0 ∷ 0 ∷ []))
    × (option_map specificity (reads edition (codes "ul li")).0 ≡ Some (0 ∷ 0 ∷ 2 ∷ []))
    × (option_map specificity (reads edition (codes "ul ol + li")).0 ≡ Some (0 ∷ 0 ∷ 3 ∷ []))
    × (option_map specificity (reads edition (codes "ul ol li.red")).0 ≡ Some (0 ∷ 1 ∷ 3 ∷ []))
    × (option_map specificity (reads edition (codes "[id~=a][class=id]:link")).0
    ≡ Some (1 ∷ 2 ∷ 0 ∷ []))
    × (option_map specificity (reads edition (codes "*:lang(en) > *")).0 ≡ Some (0 ∷ 1 ∷ 0 ∷ []))
unfolding simplecss_on_literals
counts first_edition = (refl, refl, refl, refl, refl, refl, refl, refl)
counts second_edition = (refl, refl, refl, refl, refl, refl, refl, refl)

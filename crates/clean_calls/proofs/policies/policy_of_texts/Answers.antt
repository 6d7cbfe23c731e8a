use Rattle.std.proofs.Common.{[], ◌∷◌, Bor, ℕ, List, map, slice_index_or, refl, ap, ◌∙◌}
use Rattle.std.proofs.lemmas.List.{length-map}
use Rattle.clean_calls.proofs.Cuts.{two-first, map-cut}
use Rattle.clean_calls.proofs.policies.policy_of_texts.Goals as goal

pub returns : goal.returns
returns c =
    let said : Bor (List ℕ) → List ℕ = λ text. text.now in
    let none : Bor (List ℕ) = record { ref_ptr = (0, 0); now = [] } in
    let texts = c.args.texts.now in
    record {
      all =
          ap (map said) (two-first none texts c.in-len2-up.len_at_least)
          ∙ ap (λ names. said (slice_index_or texts 0 none) ∷ said (slice_index_or texts 1 none) ∷ names)
          (map-cut said _ c.in_ok-properties.properties.now c.in_ok-properties.names.now _ c.in_ok-properties.ensures.0
          (map-cut said _ c.in_ok-functions.functions.now c.in_ok-functions.names.now _ c.in_ok-functions.ensures.0
          (map-cut said _ c.in_ok-strings.strings.now c.in_ok-strings.names.now _ c.in_ok-strings.ensures.0
          (map-cut said _ c.in_ok-pseudos.pseudos.now c.in_ok-pseudos.names.now _ c.in_ok-pseudos.ensures.0
          (map-cut said _ c.in_ok-urls.urls.now c.in_ok-urls.names.now _ c.in_ok-urls.ensures.0
          (map-cut said _ c.in_ok-answers.answers.now c.in_ok-answers.names.now _ c.in_ok-answers.ensures.0
          (map-cut said _ c.in_ok-named.named.now c.in_ok-named.names.now _ c.in_ok-named.ensures.0
          (map-cut said _ c.in_ok-words.words.now c.in_ok-words.names.now _ c.in_ok-words.ensures.0
          (map-cut said _ c.in_ok-limited.limited.now c.in_ok-limited.names.now _ c.in_ok-limited.ensures.0
          (map-cut said _ c.in_ok-limits.limits.now c.in_ok-limits.media.now _ c.in_ok-limits.ensures.0 refl))))))))));
      properties = length-map c.in_ok-properties.properties.now said ∙ c.in_ok-properties.ensures.1;
      functions = length-map c.in_ok-functions.functions.now said ∙ c.in_ok-functions.ensures.1;
      strings = length-map c.in_ok-strings.strings.now said ∙ c.in_ok-strings.ensures.1;
      pseudos = length-map c.in_ok-pseudos.pseudos.now said ∙ c.in_ok-pseudos.ensures.1;
      urls = length-map c.in_ok-urls.urls.now said ∙ c.in_ok-urls.ensures.1;
      answers = length-map c.in_ok-answers.answers.now said ∙ c.in_ok-answers.ensures.1;
      named = length-map c.in_ok-named.named.now said ∙ c.in_ok-named.ensures.1;
      words = length-map c.in_ok-words.words.now said ∙ c.in_ok-words.ensures.1;
      limited = length-map c.in_ok-limited.limited.now said ∙ c.in_ok-limited.ensures.1;
      limits = length-map c.in_ok-limits.limits.now said ∙ c.in_ok-limits.ensures.1;
      important = refl;
      itself = refl;
      longest = refl;
    }

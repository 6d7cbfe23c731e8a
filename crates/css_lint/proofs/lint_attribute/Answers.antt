use Rattle.std.proofs.Common.{◌≡◌, ◌∙◌, ◌++◌, List, map, ap}
use Rattle.std.proofs.lemmas.List.{map-append}
use Rattle.css_lint.specs.Places.{PlaceText, guesses_of, place_of}
use Rattle.css_lint.proofs.lint_attribute.Goals as goal

pub returns : goal.returns
returns c =
    let guesses = guesses_of c.deref.result.now in (
      c.deref.result.now,
      ap (map place_of) c.in_ok-push_guesses.ensures
          ∙ map-append place_of c.in_ok-found.found.items guesses
          ∙ ap (λ (l : List PlaceText). l ++ map place_of guesses) c.in_ok-found.ensures,
    )

use Rattle.std.proofs.Common.{◌∙◌, sym, ap}
use Rattle.std.specs.Option.{option_map}
use Rattle.css_tree.specs.Languages.{subtags_left}
use Rattle.css_tree.proofs.LanguageLemmas.{subtags_split}
use Rattle.css_tree.proofs.languages.Subtags.take_next.Goals as goal

pub returns-in-Some : goal.returns-in-Some
returns-in-Some c =
    let parts = subtags_split c.in_ok-text.text.now c.split_once.result c.split_once.ensures.cases in
    let some = rw c.in-Some.is at parts in
    sym c.self.view_is ∙ ap (λ rest. subtags_left (option_map (λ text. text.now) rest)) c.in_ok-text.was
    ∙ some

pub returns-in-None : goal.returns-in-None
returns-in-None c =
    let parts = subtags_split c.in_ok-text.text.now c.split_once.result c.split_once.ensures.cases in
    let none = rw c.in-None.is at parts in
    sym c.self.view_is ∙ ap (λ rest. subtags_left (option_map (λ text. text.now) rest)) c.in_ok-text.was
    ∙ none

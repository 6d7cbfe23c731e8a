use Rattle.std.proofs.Common.{◌≡◌, length, map}
use Rattle.clean_values.specs.Values.{answer_of}
use Rattle.clean_values.specs.Views.{changes_of}
use Rattle.clean_values.proofs.changes.answer_of.Given as goal

-- What is left decides.
abbrev pub invariant-urls : goal.invariant-urls
invariant-urls l =
    answer_of (changes_of l.changes).urls (changes_of l.changes).answers l.url
    ≡ answer_of (map (λ text. text.now) l.urls) (map (λ text. text.now) l.answers) l.url

abbrev pub decreases-urls : goal.decreases-urls
decreases-urls l = length l.urls

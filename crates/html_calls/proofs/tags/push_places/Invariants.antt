use Rattle.std.proofs.Common.{◌≡◌, ◌++◌, map, take}
use Rattle.css_html.specs.Views.{token_of}
use Rattle.html_calls.specs.Pages.{tag_places}
use Rattle.html_calls.proofs.tags.push_places.Given as goal

-- written is where the first tags are
abbrev pub invariant-loop-tag : goal.invariant-loop-tag
invariant-loop-tag l =
    l.out.items ≡ l.initial.out.items
    ++ tag_places l.initial.size (map token_of (take l.tag-index l.initial.tags))

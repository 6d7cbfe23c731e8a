use Rattle.std.proofs.Common.{map, ap, ◌∙◌}
use Rattle.std.specs.List.{flat_map}
use Rattle.css_clean.specs.Views.{dropped_of}
use Rattle.clean_calls.specs.CleanCalls.{dropped_row}
use Rattle.clean_calls.proofs.dropping.dropped_from.Goals as goal

pub returns : goal.returns
returns c =
    let h = c.in_ok-cleaned.ensures in (
      h.0,
      map dropped_of c.in_ok-cleaned.cleaned.dropped.items,
      h.1,
      h.2,
      h.4,
      c.in_ok-rows.ensures ∙ ap (λ xs. flat_map dropped_row (map dropped_of xs)) c.as_slice.ensures.value,
    )

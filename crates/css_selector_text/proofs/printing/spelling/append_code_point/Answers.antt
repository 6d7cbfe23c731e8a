use Rattle.std.proofs.Common.{refl}
use Rattle.css_text.proofs.round_trip.StyledWrites.{appends_on_ok}
use Rattle.css_selector_text.proofs.printing.spelling.append_code_point.Goals as goal

pub returns : goal.returns
returns c =
    appends_on_ok c.args.text.now _ _ c.write.new.self c.write.result
    (rw c.in_radix.ensures at c.write.ensures.writes) refl

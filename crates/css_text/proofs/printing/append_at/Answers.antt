use Rattle.std.proofs.Common.{append_assoc}
use Rattle.css_text.proofs.round_trip.StyledWrites.{appends_on_ok}
use Rattle.css_text.proofs.printing.append_at.Goals as goal

-- the words and the position are written in one call
pub returns : goal.returns
returns c = appends_on_ok c.args.text.now _ _ c.write.new.self c.write.result c.write.ensures.writes
    (simp append_assoc)

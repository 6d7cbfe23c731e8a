use Rattle.std.proofs.Common.{◌<◌, subst, sym}
use Rattle.std.specs.List.{All}
use Rattle.css_styles.proofs.contest.note_anew.Goals as goal

pub note-requires-clause-within : goal.note-requires-clause-within
note-requires-clause-within c =
    subst (λ m. All (λ n. n.property < m) c.args.contenders.now) (sym c.forget.ensures.len) c.requires

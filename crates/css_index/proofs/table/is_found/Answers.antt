use Rattle.css_selectors.specs.KeyViews.{key_of}
use Rattle.css_index.proofs.FileLemmas.{other_number}
use Rattle.css_index.proofs.table.is_found.Goals as goal

pub returns-then-entry-number : goal.returns-then-entry-number
returns-then-entry-number c =
    other_number c.args.entry.now (key_of c.args.key.now) c.args.number c.requires
    c.if-entry-number.true

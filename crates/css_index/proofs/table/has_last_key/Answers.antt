use Rattle.std.proofs.Common.{◌<◌, ◌-◌, length, refl, sym, ◌∙◌, arith}
use Rattle.std.proofs.lemmas.Option.{slice_get_read}
use Rattle.css_index.proofs.FileLemmas.{some_from}
use Rattle.css_index.proofs.table.has_last_key.Goals as goal

pub returns-then-last-number : goal.returns-then-last-number
returns-then-last-number c equal =
    let entries = c.args.entries.now in
    let last = c.index-entries-entries.result in
    let some : 0 < length entries =
    some_from (length entries) (sym c.is_empty.ensures ∙ c.if-is_empty.false) in (
      last,
      some,
      slice_get_read entries (length entries) (length entries - 1) last refl (omega (arith, some))
          c.index-entries-entries.is,
      c.is_equal.ensures equal,
    )

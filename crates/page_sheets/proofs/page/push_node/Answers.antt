use Rattle.std.proofs.Common.{◌≡◌, ◌≤◌, map, length, sym, slice_get, None}
use Rattle.std.proofs.lemmas.List.{append-nil}
use Rattle.std.proofs.lemmas.Option.{slice_get_past}
use Rattle.page_sheets.specs.Nodes.{text_of}
use Rattle.page_sheets.proofs.page.push_node.Goals as goal

pub returns-in-None : goal.returns-in-None
returns-in-None c =
    let past : length c.args.tags.now ≤ c.in-Some.index = c.in-None.ensures.lookup.3 in
    let none : slice_get c.args.tags.now c.in-Some.index ≡ None =
    slice_get_past c.args.tags.now c.in-Some.index past in
    rw (c.in-Some.is, none) (sym (append-nil (map text_of c.args.found.now.items)))

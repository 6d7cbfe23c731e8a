use Rattle.std.proofs.Common.{length}
use Rattle.call_answers.specs.Calls.{passed_of}
use Rattle.page_calls.proofs.ModernPages.{tree-length}
use Rattle.kept_pages.proofs.read_page.ReadPage.new.Goals as goal

pub page_of-requires : goal.page_of-requires
page_of-requires c =
    let passed = passed_of c.args.tree in
    tree-length passed.elements passed.strings passed.ends (length passed.attributes) passed.states
    (length passed.prefixes) c.in_ok-read.read.rows c.in_ok-read.ensures.1

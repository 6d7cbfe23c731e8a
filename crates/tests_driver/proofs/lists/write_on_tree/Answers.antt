use Rattle.css_tree.proofs.AnsweredLemmas.{marked-for}
use Rattle.tests_driver.proofs.lists.write_on_tree.Goals as goal

pub write_walked-requires : goal.write_walked-requires
write_walked-requires g c =
    marked-for c.in_ok-all-in-Walk.all.numbering.lists c.in_ok-all-in-Walk.all.selectors.items c.mark-in-Walk.new.page
    c.in_ok-mark-in-Walk.ensures c.in_ok-all-in-Walk.ensures

use Rattle.std.proofs.Common.{refl, sym, subst, ◌∙◌}
use Rattle.std.proofs.lemmas.List.{map-id}
use Rattle.css_tree.specs.Answered.{IsMarkedFor}
use Rattle.tests_driver.proofs.lists.write_walked.Goals as goal

pub new-requires : goal.new-requires
new-requires g c = λ lifetimes. (
  (refl, (refl, tt)),
  subst (λ selectors. IsMarkedFor selectors c.args.page.now)
      (sym (map-id c.as_slice.result.now ∙ c.as_slice.ensures.value)) c.requires,
)

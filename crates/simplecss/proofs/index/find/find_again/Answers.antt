use Rattle.std.proofs.Common.{◌≡◌, ◌++◌, [], length, rules, ap, sym, ◌∙◌, subst}
use Rattle.std.specs.Option.{option_map}
use Rattle.std.proofs.lemmas.Result.{on_ok_weaker}
use Rattle.simplecss.specs.internal.Kept.{AreKeyed}
use Rattle.simplecss.specs.internal.Recents.{IsFound, AreStarts, adds_bucket}
use Rattle.simplecss.proofs.Candidates.{all_kept, known_on_ok}
use Rattle.simplecss.proofs.RecentSlots.{no_items}
use Rattle.simplecss_selector.specs.Buckets.{Near}
use Rattle.simplecss.proofs.index.find.find_again.Goals.{After-keep}
use Rattle.simplecss.proofs.index.find.find_again.Goals as goal

pub returns-in-Some-clause-found : goal.returns-in-Some-clause-found
returns-in-Some-clause-found c = λ near name_is class_is starts.
    let empty : length c.args.indices.now.items ≡ 0 = search rules in
    let none = no_items c.args.indices.now.items empty in
    let selectors = c.args.rule_index.now in
    let known = c.in-Some.known.now in
    let found =
    subst (λ ss. IsFound ss c.args.name.now (option_map (λ value. value.now) c.args.class) known)
    c.requires.recent c.in-Some.ensures in
    subst (AreKeyed near selectors)
    (sym (c.in_ok-extend_from_slice.ensures.items ∙ ap (λ xs. xs ++ known) none))
    (found near name_is class_is (subst (AreStarts (adds_bucket near) selectors) none starts))

-- what is found without a path is what is reported
found : (c : After-keep) (near : Near) → near.own.name ≡ c.args.name.now
    → near.own.class ≡ option_map (λ value. value.now) c.args.class
    → AreStarts (adds_bucket near) c.args.rule_index.now c.args.indices.now.items
    → AreKeyed near c.args.rule_index.now c.find_named-2.new.indices.items
found c near name_is class_is starts =
    all_kept near c.args.rule_index.now c.find_named-2.new.indices.items
    (c.in_ok-find_named.ensures near name_is class_is starts)

pub keep-requires : goal.keep-requires
keep-requires c = λ near name_is class_is starts.
    let empty : length c.args.indices.now.items ≡ 0 = search rules in
    let none = no_items c.args.indices.now.items empty in
    let selectors = c.args.rule_index.now in
    let from_none = subst (λ ss. AreStarts (adds_bucket near) ss []) c.requires.recent starts in
    let keyed = all_kept near selectors c.find_named-2.new.indices.items
    (c.in_ok-find_named.ensures near name_is class_is
    (subst (AreStarts (adds_bucket near) selectors) (sym none) from_none)) in
    subst (AreKeyed near c.args.recent.now) (sym c.deref.ensures.value)
    (subst (λ ss. AreKeyed near ss c.find_named-2.new.indices.items) (sym c.requires.recent) keyed)

pub returns-then-not-is_empty-clause-found : goal.returns-then-not-is_empty-clause-found
returns-then-not-is_empty-clause-found c =
    on_ok_weaker c.find_named.result (λ kept near name_is class_is starts.
    all_kept near c.args.rule_index.now c.find_named.new.indices.items
    (kept near name_is class_is starts)) c.find_named.ensures

pub returns-clause-found : goal.returns-clause-found
returns-clause-found c = known_on_ok c.keep.result (found c)

use Rattle.std.proofs.Common.{◌≡◌, ◌∷◌, ◌++◌, [], length, map, sym, ap, ◌∙◌, subst, arith}
use Rattle.std.proofs.lemmas.List.{length-map, map-append}
use Rattle.simplecss_selector.specs.KeyViews.{key_value}
use Rattle.simplecss.specs.internal.NeededKeys.{keys_of, AreNumbered}
use Rattle.simplecss.proofs.NeededNumbers.{old_key, new_key, number_more}
use Rattle.simplecss.proofs.index.needed_keys.NeededKeys.number.Goals as goal

pub returns-in-Some-clause-keys : goal.returns-in-Some-clause-keys
returns-in-Some-clause-keys c =
    old_key c.args.self.now.numbers (keys_of c.args.self.now) (key_value c.args.key)
    c.in-Some.number c.requires (sym c.get.ensures ∙ c.in-Some.is)

pub returns-in-Some-clause-within : goal.returns-in-Some-clause-within
returns-in-Some-clause-within c = (c.requires.only (key_value c.args.key) c.in-Some.number
    (sym c.get.ensures ∙ c.in-Some.is)).0

pub returns-in-Some-clause-is : goal.returns-in-Some-clause-is
returns-in-Some-clause-is c = (c.requires.only (key_value c.args.key) c.in-Some.number
    (sym c.get.ensures ∙ c.in-Some.is)).1

pub returns-clause-numbered : goal.returns-clause-numbered
returns-clause-numbered c =
    let keys = keys_of c.args.self.now in
    let key = key_value c.args.key in
    let more : map key_value c.push.new.self.items ≡ keys ++ key ∷ [] =
    ap (map key_value) c.in_ok-push.ensures.items
    ∙ map-append key_value c.args.self.now.keys.items (c.args.key ∷ []) in
    let size : c.len-number.result ≡ length c.args.self.now.keys.items =
    omega (arith, c.len-number.ensures, c.args.self.now.keys.ok.0) in
    subst (AreNumbered c.replace.new.self) (sym more)
    (number_more c.args.self.now.numbers c.replace.new.self keys key c.len-number.result c.requires
    (sym c.get.ensures ∙ c.in_default.is) c.in_ok-replace.ensures.taken
    (size ∙ sym (length-map c.args.self.now.keys.items key_value)))

pub returns-clause-keys : goal.returns-clause-keys
returns-clause-keys c =
    ap (map key_value) c.in_ok-push.ensures.items
    ∙ map-append key_value c.args.self.now.keys.items (c.args.key ∷ [])
    ∙ new_key c.args.self.now.numbers (keys_of c.args.self.now) (key_value c.args.key) c.requires
    (sym c.get.ensures ∙ c.in_default.is)

use Rattle.std.proofs.Common.{◌≡◌, ◌++◌, ◌∷◌, [], List, Some, None, map, length, ap, ◌∙◌, sym, ℕ, rules}
use Rattle.std.specs.BTreeMap.{get_by_text}
use Rattle.std.specs.Borrow.{Bor}
use Rattle.std.specs.String.{string_bytes}
use Rattle.std.proofs.lemmas.List.{map-append, length-map}
use Rattle.std.proofs.lemmas.Map.Text.{btree_map_updates_text}
use Rattle.css_styles.specs.Properties.{number_in, property_key}
use Rattle.css_styles.proofs.NumberLemmas.{number-new, numbers-more}
use Rattle.css_styles.proofs.properties.Properties.number.Goals as goal

pub invariant_of-self-in_default-insert : goal.invariant_of-self-in_default-insert
invariant_of-self-in_default-insert c = λ other.
    let keys = map (λ (name : Bor (List ℕ)). property_key name.now) c.self.inside.names.items in
    let none : number_in keys (string_bytes c.args.key) ≡ None = search rules in
    let more : map (λ (name : Bor (List ℕ)). property_key name.now) c.push.new.self.items
    ≡ keys ++ string_bytes c.args.key ∷ [] =
    ap (map (λ (name : Bor (List ℕ)). property_key name.now)) c.in_ok-push.ensures.items
    ∙ map-append (λ (name : Bor (List ℕ)). property_key name.now) c.self.inside.names.items (c.args.name ∷ [])
    ∙ ap (λ k. keys ++ k ∷ []) (sym c.requires) in
    let count : c.len-number.result ≡ length c.self.inside.names.items = search rules in
    numbers-more keys _ (string_bytes c.args.key) other (get_by_text c.self.inside.numbers other) _
    c.len-number.result none more
    (count ∙ sym (length-map c.self.inside.names.items (λ (name : Bor (List ℕ)). property_key name.now)))
    (c.self.invariant other)
    (btree_map_updates_text (string_bytes c.args.key) c.self.inside.numbers c.insert.new.self
    (Some c.len-number.result) c.in_default-insert.ensures.updates other)

pub returns-clause-number : goal.returns-clause-number
returns-clause-number c =
    let keys = map (λ (name : Bor (List ℕ)). property_key name.now) c.self.inside.names.items in
    let none : number_in keys (property_key c.args.name.now) ≡ None = search rules in
    let count : c.len-number.result ≡ length c.self.inside.names.items = search rules in
    ap (λ ks. number_in ks (property_key c.args.name.now))
    (ap (map (λ (name : Bor (List ℕ)). property_key name.now)) c.in_ok-push.ensures.items
    ∙ map-append (λ (name : Bor (List ℕ)). property_key name.now) c.self.inside.names.items (c.args.name ∷ []))
    ∙ number-new keys (property_key c.args.name.now) none
    ∙ ap Some (length-map c.self.inside.names.items (λ (name : Bor (List ℕ)). property_key name.now)
    ∙ sym count)

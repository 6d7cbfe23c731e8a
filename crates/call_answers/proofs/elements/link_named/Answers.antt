use Rattle.std.proofs.Common.{◌≡◌, ◌*◌, ◌-◌, ℕ, List, length, map, take, drop, ap, sym, ◌∙◌}
use Rattle.std.specs.Prelude.{[], Result, Ok, Err}
use Rattle.std.specs.Borrow.{Bor}
use Rattle.std.proofs.lemmas.List.{take-map, drop-map, length-map}
use Rattle.css_selector_text.specs.NameViews.{prefix_of}
use Rattle.css_elements.specs.Rows.{Row}
use Rattle.call_answers.specs.Elements.{Strings, all_but, attributes_with, last_names, prefixes_with, tree_from}
use Rattle.call_answers.specs.internal.Attributes.{placed_attribute_of}
use Rattle.call_answers.specs.declared.elements.ElementFault.{ElementFault}
use Rattle.call_answers.proofs.Building.{handed_on}
use Rattle.call_answers.proofs.elements.link_named.Goals.{After-link}
use Rattle.call_answers.proofs.elements.link_named.Goals as goal

abbrev now-of : Bor (List ℕ) → List ℕ
now-of string = string.now

-- the first of strings, and the last
first-strings : (strings : List (Bor (List ℕ))) (n : ℕ) (cut : List (Bor (List ℕ)))
    → cut ≡ take (length strings - n) strings
    → take (length (map now-of strings) - n) (map now-of strings) ≡ map now-of cut
first-strings strings n cut is =
    ap (λ k. take (k - n) (map now-of strings)) (length-map strings now-of)
    ∙ take-map now-of (length strings - n) strings
    ∙ ap (map now-of) (sym is)

last-strings : (strings : List (Bor (List ℕ))) (n : ℕ) (cut : List (Bor (List ℕ)))
    → cut ≡ drop (length strings - n) strings
    → drop (length (map now-of strings) - n) (map now-of strings) ≡ map now-of cut
last-strings strings n cut is =
    ap (λ k. drop (k - n) (map now-of strings)) (length-map strings now-of)
    ∙ drop-map now-of (length strings - n) strings
    ∙ ap (map now-of) (sym is)

abbrev first-of : ℕ → List (List ℕ) → List (List ℕ)
first-of n ss = take (length ss - n) ss

abbrev last-of : ℕ → List (List ℕ) → List (List ℕ)
last-of n ss = drop (length ss - n) ss

-- how many prefixes there are, and how many strings attributes have
abbrev prefix-count : (c : After-link) → ℕ
prefix-count c = length c.args.tree.prefixes.now

abbrev field-count : (c : After-link) → ℕ
field-count c = 2 * length c.args.tree.attributes.now

abbrev every : (c : After-link) → List (List ℕ)
every c = map now-of c.args.strings.items

abbrev all : (c : After-link) → Strings
all c = record { strings = every c; are_all = c.args.are_all }

-- the strings before the prefixes, and those before the names of states
are-before : (c : After-link) → first-of (prefix-count c) (every c) ≡ map now-of c.in_ok-before.before.items
are-before c =
    first-strings c.args.strings.items (prefix-count c) c.in_ok-before.before.items c.in_ok-before.ensures.0

are-fields : (c : After-link) → first-of c.args.tree.states (first-of (prefix-count c) (every c))
    ≡ map now-of c.in_ok-fields.fields.items
are-fields c =
    ap (first-of c.args.tree.states) (are-before c)
    ∙ first-strings c.in_ok-before.before.items c.args.tree.states c.in_ok-fields.fields.items
    c.in_ok-fields.ensures.0

abbrev due-of : (c : After-link) → Result (List Row) ElementFault
due-of c =
    tree_from [] [] (all_but (field-count c) (all_but c.args.tree.states (all_but (prefix-count c) (all c))))
    c.args.tree.elements.now

abbrev linked-of : (c : After-link) → Result (List Row) ElementFault
linked-of c =
    tree_from [] [] (record { strings = map (λ string. string.now) c.deref.result.now; are_all = c.args.are_all })
    c.args.tree.elements.now

-- the strings of the elements are those that are linked
own : (c : After-link) → due-of c ≡ linked-of c
own c =
    ap (λ (ss : List (List ℕ)). tree_from [] [] (record { strings = ss; are_all = c.args.are_all })
    c.args.tree.elements.now)
    (ap (first-of (field-count c)) (are-fields c)
    ∙ first-strings c.in_ok-fields.fields.items (field-count c) c.deref.result.now
    (c.deref.ensures.value ∙ c.in_ok-own.ensures.0))

pub returns-in_err-rows : goal.returns-in_err-rows
returns-in_err-rows c =
    let linked = (goal.at.returns-in_err-rows c).After-link in
    handed_on (λ read. (due-of linked ≡ Ok read.rows)
    × (map (λ name. name.now) read.states.items
    ≡ last_names c.args.tree.states (all_but (prefix-count linked) (all linked)))
    × (map prefix_of read.prefixes.items
    ≡ prefixes_with (last_names (prefix-count linked) (all linked)) c.args.tree.prefixes.now)
    × (map placed_attribute_of read.attributes.items
    ≡ attributes_with (last_names (field-count linked)
    (all_but c.args.tree.states (all_but (prefix-count linked) (all linked)))) c.args.tree.attributes.now))
    c.from_residual-in_err-rows.result c.in_err-rows.field-0.0 (λ fault. linked-of linked ≡ Err fault)
    (λ fault. due-of linked ≡ Err fault) c.from_residual-in_err-rows.ensures.1 c.in_err-rows.ensures
    (λ fault is. own linked ∙ is)

pub returns : goal.returns
returns c =
    let linked = (goal.at.returns c).After-link in (
      own linked ∙ c.in_ok-rows.ensures,
      sym (ap (last-of c.args.tree.states) (are-before linked)
          ∙ last-strings c.in_ok-before.before.items c.args.tree.states c.in_ok-fields.states.items
          c.in_ok-fields.ensures.1),
      c.in_ok-prefixes.ensures
          ∙ ap (λ names. prefixes_with names c.args.tree.prefixes.now)
          (ap (map now-of) c.deref-3.ensures.value
          ∙ sym (last-strings c.args.strings.items (prefix-count linked)
          c.in_ok-before.prefix_names.items c.in_ok-before.ensures.1)),
      c.in_ok-attributes.ensures
          ∙ ap (λ names. attributes_with names c.args.tree.attributes.now)
          (ap (map now-of) c.deref-2.ensures.value
          ∙ sym (ap (last-of (field-count linked)) (are-fields linked)
          ∙ last-strings c.in_ok-fields.fields.items (field-count linked)
          c.in_ok-own.attribute_strings.items c.in_ok-own.ensures.1)),
    )

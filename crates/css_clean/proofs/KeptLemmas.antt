-- Selectors put under the scope, and what is kept of a sheet, statement by statement, with its text. Serves
-- `scoped_selectors`, `joined`, what writes rules, the loops over statements, and `clean_sheet`.
use Rattle.std.proofs.Common.{◌≡◌, ◌==◌, ◌∙◌, ◌<◌, ◌+◌, ℕ, Bool, true, false, List, [], ◌∷◌, ◌++◌, if◌then◌else◌, map, length, codes, refl, sym, ap, arith, rules, Option, Some, None, length-append}
use Rattle.std.specs.Option.{option_map}
use Rattle.std.specs.List.{flat_map, join_by}
use Rattle.std.proofs.lemmas.List.{append_assoc, append-nil}
use Rattle.std.proofs.lemmas.Grind.{flat_map-append}
use Rattle.std.proofs.lemmas.Bool.Decides.{nat_tests}
use Rattle.css_text.specs.Reading.{each}
use Rattle.css_syntax.specs.Parts.{Stated}
use Rattle.css_syntax.specs.Statements.{BlockText, StatementText, rule_set, SheetText, statements}
use Rattle.css_syntax.specs.Contents.{statement_contents}
use Rattle.css_syntax.specs.DeclarationLists.{DeclarationText}
use Rattle.css_syntax.specs.Placed.{placed_statements}
use Rattle.css_syntax.specs.Printing.{list_text}
use Rattle.css_clean.specs.declared.dropped.Reason.TheVariants as reasons
use Rattle.css_clean.specs.declared.groups.Group.{Group}
use Rattle.css_clean.specs.Groups.{group_name}
use Rattle.css_clean.specs.Cleaning.{DroppedText, read_of, is_short}
use Rattle.css_clean.specs.Selectors.{SheetPolicyText, is_list_scoped}
use Rattle.css_clean.specs.Scoping.{scoped_then, joined, if_scoped}
use Rattle.css_clean.specs.Sheets.{is_clean}
use Rattle.css_clean.specs.KeptSheets.{KeptRule, KeptStatement, one_rule, rule_of, group_with_rules, rule_text, rules_text, statement_text, sheet_text}
use Rattle.css_clean.specs.KeptSheets.{kept_rule, kept_statement, kept_statements, kept_text, cleaned_sheet}
use Rattle.css_clean.specs.DroppedSheets.{StatementPlace, place_in}
use Rattle.css_clean.specs.DroppedSheets.{dropped_statements, all_dropped, dropped_of_sheet}

-- ---- selectors

-- selectors in front of these, one after another
pub scoped-more : (front : List (List ℕ)) (selector : List ℕ) (more : Option (List (List ℕ)))
    → option_map (λ all. front ++ all) (scoped_then (Some selector) more)
    ≡ option_map (λ all. (front ++ selector ∷ []) ++ all) more
scoped-more front selector None = refl
scoped-more front selector (Some more) = ap Some (sym (append_assoc front (selector ∷ []) more))

-- a choice of nothing is nothing
pub if-none : {A : Type 0} (b : Bool) (x : Option A) → x ≡ None → None ≡ (if b then x else None)
if-none true x e = sym e
if-none false x e = refl

pub if-true : {A : Type 0} (b : Bool) (x y : Option A) → b ≡ true → x ≡ y → y ≡ (if b then x else None)
if-true true x y e f = sym f
if-true false x y e f = absurd (search rules)

pub if-false : {A : Type 0} (b : Bool) (x : Option A) → b ≡ false → None ≡ (if b then x else None)
if-false true x e = absurd (search rules)
if-false false x e = refl

joined-map-from : {A : Type 0} (f : A → List ℕ) (sep : List ℕ) (xs : List A)
    → flat_map (λ y. sep ++ f y) xs ≡ flat_map (λ y. sep ++ y) (map f xs)
joined-map-from f sep [] = refl
joined-map-from f sep (x ∷ xs) = ap (λ t. (sep ++ f x) ++ t) (joined-map-from f sep xs)

pub joined-map : {A : Type 0} (f : A → List ℕ) (xs : List A)
    → join_by f (codes ", ") xs ≡ joined (map f xs)
joined-map f [] = refl
joined-map f (x ∷ xs) = ap (λ t. f x ++ t) (joined-map-from f (codes ", ") xs)

pub list-scoped : (policy : SheetPolicyText) (list made : List ℕ) → list ≡ made
    → is_list_scoped policy list ≡ true → Some list ≡ if_scoped policy made
list-scoped policy list made e t =
    ap (λ (b : Bool). if b then Some list else None) (sym t) ∙ ap (if_scoped policy) e

pub list-unscoped : (policy : SheetPolicyText) (list made : List ℕ) → list ≡ made
    → is_list_scoped policy list ≡ false → None ≡ if_scoped policy made
list-unscoped policy list made e t =
    ap (λ (b : Bool). if b then Some list else None) (sym t) ∙ ap (if_scoped policy) e

-- ---- texts

pub rules-more : (front now : List ℕ) (one more : List KeptRule) → now ≡ front ++ rules_text one
    → front ++ rules_text (one ++ more) ≡ now ++ rules_text more
rules-more front now one more e =
    ap (λ t. front ++ t) (flat_map-append rule_text one more)
    ∙ sym (append_assoc front (rules_text one) (rules_text more))
    ∙ ap (λ t. t ++ rules_text more) (sym e)

pub sheet-more : (front now : List ℕ) (one more : List KeptStatement) → now ≡ front ++ sheet_text one
    → front ++ sheet_text (one ++ more) ≡ now ++ sheet_text more
sheet-more front now one more e =
    ap (λ t. front ++ t) (flat_map-append statement_text one more)
    ∙ sym (append_assoc front (sheet_text one) (sheet_text more))
    ∙ ap (λ t. t ++ sheet_text more) (sym e)

-- rules as statements of a sheet
pub sheet-rules : (rules : List KeptRule) → sheet_text (map one_rule rules) ≡ rules_text rules
sheet-rules [] = refl
sheet-rules (rule ∷ rules) = ap (λ t. rule_text rule ++ t) (sheet-rules rules)

pub sheet-rule : (policy : SheetPolicyText) (out : List ℕ) (s : StatementText) (prelude : Stated) (block : BlockText)
    → s ≡ rule_set prelude block
    → out ++ rules_text (kept_rule policy false prelude block) ≡ out ++ sheet_text (kept_statement policy s)
sheet-rule policy out s prelude block e =
    ap (λ t. out ++ t) (sym (sheet-rules (kept_rule policy false prelude block)))
    ∙ ap (λ x. out ++ sheet_text (kept_statement policy x)) (sym e)

-- ---- lists of what is dropped

pub front-more : {A : Type 0} (front now one more : List A) → now ≡ front ++ one
    → front ++ (one ++ more) ≡ now ++ more
front-more front now one more e = sym (append_assoc front one more) ∙ ap (λ t. t ++ more) (sym e)

-- ---- places

abbrev pub place_at : (stop : ℕ) → (from inside text : List ℕ) → StatementPlace
place_at stop from inside text = record { stop = stop; from = from; inside = inside; text = text }

-- a statement that was read, in its place
pub placed-is : (in_block : Bool) (stop : ℕ) (part : SheetText) (from inside at rest : List ℕ)
    → from ≡ at → inside ≡ statement_contents in_block at
    → place_at stop from inside part.text
    ≡ place_in in_block stop (record { part = part; from = at; after = rest })
placed-is in_block stop part from inside at rest e f =
    ap (λ x. place_at stop x inside part.text) e ∙ ap (λ x. place_at stop at x part.text) f

-- ---- rules

-- a rule without declarations is none
pub rule-absent : {A : Type 0} (f : A → DeclarationText) (out selectors : List ℕ) (xs : List A)
    → (length xs == 0) ≡ true → out ≡ out ++ rules_text (rule_of (Some selectors) (map f xs))
rule-absent f out selectors [] e = sym (append-nil out)
rule-absent f out selectors (x ∷ xs) e = absurd (grind (arith, nat_tests))

rule-is : (selectors : List ℕ) (d : DeclarationText) (more : List DeclarationText)
    → rules_text (rule_of (Some selectors) (d ∷ more))
    ≡ selectors ++ (codes " {" ++ (list_text (d ∷ more) ++ codes "}\n"))
rule-is selectors d more =
    append-nil (selectors ++ (codes " {" ++ (list_text (d ∷ more) ++ codes "}\n")))

pub rule-written : {A : Type 0} (f : A → DeclarationText) (out new selectors list : List ℕ) (xs : List A)
    → (length xs == 0) ≡ false → list ≡ list_text (map f xs)
    → new ≡ out ++ (selectors ++ (codes " {" ++ (list ++ codes "}\n")))
    → new ≡ out ++ rules_text (rule_of (Some selectors) (map f xs))
rule-written f out new selectors list [] e l wrote = absurd (grind (arith, nat_tests))
rule-written f out new selectors list (x ∷ xs) e l wrote =
    wrote ∙ ap (λ t. out ++ (selectors ++ (codes " {" ++ (t ++ codes "}\n")))) l
    ∙ ap (λ t. out ++ t) (sym (rule-is selectors (f x) (map f xs)))

-- ---- group rules

rule-long : (rule : KeptRule) → 0 < length (rule_text rule)
rule-long rule = omega (
  arith,
  length-append rule.selectors (codes " {" ++ (list_text rule.declarations ++ codes "}\n")),
  length-append (codes " {") (list_text rule.declarations ++ codes "}\n"),
)

-- a rule is no empty text, so a group rule without text has no rule
pub group-absent : (out : List ℕ) (group : Group) (prelude text : List ℕ) (rules : List KeptRule)
    → (length text == 0) ≡ true → text ≡ rules_text rules
    → out ≡ out ++ sheet_text (group_with_rules group prelude rules)
group-absent out group prelude text [] e is = sym (append-nil out)
group-absent out group prelude text (rule ∷ rules) e is =
    let long : 0 < length (rule_text rule) = rule-long rule in
    let whole : length text ≡ length (rule_text rule) + length (rules_text rules) =
    ap (λ t. length t) is ∙ length-append (rule_text rule) (rules_text rules) in
    absurd (grind (arith, nat_tests))

abbrev pub group_written : (name prelude text : List ℕ) → List ℕ
group_written name prelude text =
    codes "@" ++ (name ++ (codes " " ++ (prelude ++ (codes " {\n" ++ (text ++ codes "}\n")))))

group-is : (group : Group) (prelude : List ℕ) (rule : KeptRule) (rules : List KeptRule)
    → sheet_text (group_with_rules group prelude (rule ∷ rules))
    ≡ group_written (group_name group) prelude (rules_text (rule ∷ rules))
group-is group prelude rule rules =
    append-nil (group_written (group_name group) prelude (rules_text (rule ∷ rules)))

pub group-written : (out new : List ℕ) (group : Group) (name prelude text : List ℕ) (rules : List KeptRule)
    → (length text == 0) ≡ false → name ≡ group_name group → text ≡ rules_text rules
    → new ≡ out ++ group_written name prelude text
    → new ≡ out ++ sheet_text (group_with_rules group prelude rules)
group-written out new group name prelude text [] e named is wrote =
    let none : length text ≡ 0 = ap (λ t. length t) is in absurd (grind (arith, nat_tests))
group-written out new group name prelude text (rule ∷ rules) e named is wrote =
    wrote ∙ ap (λ t. out ++ group_written t prelude text) named
    ∙ ap (λ t. out ++ group_written (group_name group) prelude t) is
    ∙ ap (λ t. out ++ t) (sym (group-is group prelude rule rules))

-- ---- the whole

-- nothing is kept of nothing
pub kept-nil : (policy : SheetPolicyText) (text : List ℕ) → read_of policy.declarations text ≡ []
    → kept_text policy text ≡ []
unfolding statements each
kept-nil policy text e = ap (λ t. sheet_text (kept_statements policy (statements false t))) e

pub clean-nil : (policy : SheetPolicyText) (text out : List ℕ) → out ≡ []
    → read_of policy.declarations text ≡ [] → out ≡ cleaned_sheet policy text
clean-nil policy text out o e =
    o ∙ sym (if-nil (is_clean policy (kept_text policy text)) (kept_text policy text) (kept-nil policy text e))
  where
    if-nil : (b : Bool) (t : List ℕ) → t ≡ [] → (if b then t else []) ≡ []
    if-nil true t h = h
    if-nil false t h = refl

-- what is kept of a text that is not too long
pub text-kept : (policy : SheetPolicyText) (text : List ℕ) → read_of policy.declarations text ≡ text
    → sheet_text (kept_statements policy (statements false text)) ≡ kept_text policy text
text-kept policy text e = ap (λ t. sheet_text (kept_statements policy (statements false t))) (sym e)

pub clean-kept : (policy : SheetPolicyText) (text out : List ℕ) → out ≡ kept_text policy text
    → is_clean policy out ≡ true → out ≡ cleaned_sheet policy text
clean-kept policy text out e t =
    e ∙ ap (λ (b : Bool). if b then kept_text policy text else []) (sym (sym (ap (is_clean policy) e) ∙ t))

pub clean-refused : (policy : SheetPolicyText) (text kept out : List ℕ) → out ≡ [] → kept ≡ kept_text policy text
    → is_clean policy kept ≡ false → out ≡ cleaned_sheet policy text
clean-refused policy text kept out o e t =
    o ∙ ap (λ (b : Bool). if b then kept_text policy text else []) (sym (sym (ap (is_clean policy) e) ∙ t))

abbrev pub sheet_dropped : SheetPolicyText → List ℕ → (short clean : Bool) → List DroppedText
sheet_dropped policy text short clean =
    if short then (if clean then dropped_statements policy (length text) (placed_statements false text)
    else all_dropped text reasons.Unclean) else all_dropped text reasons.Limit

pub limit-dropped : (policy : SheetPolicyText) (text : List ℕ) → is_short policy.declarations text ≡ false
    → all_dropped text reasons.Limit ≡ dropped_of_sheet policy text
limit-dropped policy text e =
    ap (λ b. sheet_dropped policy text b (is_clean policy (kept_text policy text))) (sym e)

pub whole-dropped : (policy : SheetPolicyText) (text kept : List ℕ) (clean : Bool)
    → is_short policy.declarations text ≡ true → kept ≡ kept_text policy text → is_clean policy kept ≡ clean
    → sheet_dropped policy text true clean ≡ dropped_of_sheet policy text
whole-dropped policy text kept clean s e t =
    ap (λ b. sheet_dropped policy text true b) (sym t ∙ ap (is_clean policy) e)
    ∙ ap (λ b. sheet_dropped policy text b (is_clean policy (kept_text policy text))) (sym s)

-- A rule that was read, printed and read again.
-- Serves `prints_back` of `StyleSheet::{parse, parse_more, read}` (a sheet printed and read
-- again).
use Rattle.std.proofs.Common.{◌≡◌, ℕ, ◌<◌, ◌⊎◌, inl, inr, List, [], ◌∷◌, ◌++◌, Bool, true, false, if◌then◌else◌, not, ◌==◌, length, refl, sym, ap, ◌∙◌, subst, append_assoc, arith, Option, Some, None}
use Rattle.std.specs.List.{flat_map, AllByRecursion}
use Rattle.css_text.specs.AsciiBytes.{asterisk, at_sign, close_brace, comma, open_brace, semicolon, space}
use Rattle.css_text.specs.Reading.{found, followed_by, each}
use Rattle.css_text.specs.Bytes.{past, past_byte, starts}
use Rattle.css_text.specs.Characters.{Edition, first_edition, second_edition, is_name_char, is_space}
use Rattle.css_text.specs.Comments.{opens_comment, past_blank, blank}
use Rattle.simplecss_grammar.specs.Components.{Combinator, Component}
use Rattle.simplecss_grammar.specs.Selectors.{reads}
use Rattle.simplecss_grammar.specs.Declarations.{StyleDeclaration, declaration, stated_name}
use Rattle.simplecss_grammar.specs.Blocks.{ends_list, declaration_in_block, past_list, block}
use Rattle.simplecss_grammar.specs.Statements.{StyleRule, part, part_and_comma, parts, next_block, rule_set, statement}
use Rattle.simplecss_grammar.specs.Printing.{declaration_text, type_text, subselector_text, component_text, selector_text, rule_text, is_clean}
use Rattle.simplecss_grammar.specs.PrintingLaws.{RuleReadsBack}
use Rattle.css_text.proofs.reading.EachLemmas.{each-none, each-some, not_empty}
use Rattle.simplecss_grammar.proofs.reading.DeclarationLemmas.{declaration_in_block-takes}
use Rattle.simplecss_grammar.proofs.reading.PrintedNames.{IsName, IsNameByte, name-first, other_byte}
use Rattle.css_text.proofs.bytes.GapLemmas.{NoGap, no_gap-byte}
use Rattle.simplecss_grammar.proofs.round_trip.PrintedHeads.{no_gap-name, IsTypeName}
use Rattle.simplecss_grammar.proofs.round_trip.PrintedSelectors.{IsSelector}
use Rattle.simplecss_grammar.proofs.round_trip.ReadSelectors.{selector-reads_back_before}
use Rattle.simplecss_grammar.proofs.round_trip.KeptRules.{IsKept}
use Rattle.simplecss_grammar.proofs.round_trip.BlankTails.{past_blank-space}
use Rattle.simplecss_grammar.proofs.round_trip.DeclarationsAgain.{IsDeclaration, printed_declaration-reads_back, declaration_text-assoc}

-- A text that begins with a star or with a byte that may begin a name.
pub record BeginsPart (edition : Edition) (text : List ℕ) : Type 0 where
  pub first : ℕ
  pub others : List ℕ
  pub is : text ≡ first ∷ others
  pub fit : (first ≡ asterisk) ⊎ IsNameByte edition first

-- it begins with no byte that neither is
part_other : (edition : Edition) (k b : ℕ) → k < 128 → (asterisk == k) ≡ false
    → is_name_char first_edition k ≡ false → is_name_char second_edition k ≡ false
    → (b ≡ asterisk) ⊎ IsNameByte edition b → (b == k) ≡ false
part_other edition k b low star e f (inl same) = ap (λ c. c == k) same ∙ star
part_other edition k b low star e f (inr w) = other_byte edition k b low e f w

-- where there is no blank, none is consumed
pub calm-blank : (text : List ℕ) → NoGap text → past_blank text ≡ text
calm-blank text w = ap (λ r. r.1) w.none

-- where the list of declarations continues
abbrev in_list : Edition → Bool → List ℕ → Option (StyleDeclaration × List ℕ)
in_list edition t text = if t then None else found (declaration edition text)

closing-blank : (text : List ℕ) → past_blank (space ∷ close_brace ∷ text) ≡ close_brace ∷ text
closing-blank text =
    past_blank-space space (close_brace ∷ text) refl
    ∙ calm-blank (close_brace ∷ text) (no_gap-byte close_brace text refl refl)

-- a space before a declaration changes nothing

blank-space : (text : List ℕ) → blank (space ∷ text) ≡ blank text
unfolding blank
blank-space text = let same = past_blank-space space text refl in rw same refl

-- the rule

pub rule-assoc : (rule : StyleRule) (text : List ℕ)
    → rule_text rule ++ text ≡ selector_text rule.components ++
    (space ∷ open_brace ∷ space
    ∷ (flat_map declaration_text rule.declarations ++ (space ∷ close_brace ∷ text)))
rule-assoc rule text =
    by (selector_text rule.components) (flat_map declaration_text rule.declarations)
  where
    by : (s p : List ℕ)
        → (((s ++ (space ∷ open_brace ∷ space ∷ [])) ++ p) ++ (space ∷ close_brace ∷ [])) ++ text
        ≡ s ++ (space ∷ open_brace ∷ space ∷ (p ++ (space ∷ close_brace ∷ text)))
    by s p =
        append_assoc ((s ++ (space ∷ open_brace ∷ space ∷ [])) ++ p) (space ∷ close_brace ∷ []) text
        ∙ append_assoc (s ++ (space ∷ open_brace ∷ space ∷ [])) p (space ∷ close_brace ∷ text)
        ∙ append_assoc s (space ∷ open_brace ∷ space ∷ []) (p ++ (space ∷ close_brace ∷ text))

module _ (edition : Edition) where
  pub begins-append : (text tail : List ℕ) → BeginsPart edition text
      → BeginsPart edition (text ++ tail)
  begins-append text tail w =
      record {
        first = w.first;
        others = w.others ++ tail;
        is = ap (λ l. l ++ tail) w.is;
        fit = w.fit;
      }

  begins-name : (n : List ℕ) → IsName edition n → BeginsPart edition n
  begins-name n w =
      let f = name-first edition n w in record
      { first = f.first; others = f.others; is = f.is; fit = inr f.fit }

  pub part_starts : (k : ℕ) (text : List ℕ) → k < 128 → (asterisk == k) ≡ false
      → is_name_char first_edition k ≡ false → is_name_char second_edition k ≡ false
      → BeginsPart edition text → starts k text ≡ false
  part_starts k text low star e f w =
      ap (starts k) w.is ∙ part_other edition k w.first low star e f w.fit

  pub part_byte : (k : ℕ) (text : List ℕ) → k < 128 → (asterisk == k) ≡ false
      → is_name_char first_edition k ≡ false → is_name_char second_edition k ≡ false
      → BeginsPart edition text → past_byte k text ≡ text
  part_byte k text low star e f w =
      let no = part_other edition k w.first low star e f w.fit in
      ap (past_byte k) w.is ∙ by (w.first == k) no ∙ sym w.is
    where
      by : (t : Bool) → t ≡ false → (if t then w.others else w.first ∷ w.others)
          ≡ w.first ∷ w.others
      by t h = rw h refl

  -- no blank is before it
  pub part_calm : (text : List ℕ) → BeginsPart edition text → NoGap text
  part_calm text w = subst NoGap (sym w.is) (by w.first w.fit)
    where
      by : (b : ℕ) → (b ≡ asterisk) ⊎ IsNameByte edition b → NoGap (b ∷ w.others)
      by b (inl same) =
          subst (λ (c : ℕ). NoGap (c ∷ w.others)) (sym same)
          (no_gap-byte asterisk w.others refl refl)
      by b (inr fit) = no_gap-name edition b w.others fit

  -- a selector that is before a block
  pub selector-begins : (s : List Component) (b : ℕ) (tail : List ℕ)
      → IsSelector edition s (b ∷ tail)
      → BeginsPart edition (selector_text s)
  selector-begins [] b tail w = absurd w
  selector-begins (c ∷ cs) b tail w =
      begins-append (component_text c) (selector_text cs)
      (subst (λ (k : Component). BeginsPart edition (component_text k))
      (ap (λ (j : Combinator). record { combinator = j; compound = c.compound }) (sym w.0))
      (begins-append (type_text c.compound.name)
      (flat_map subselector_text c.compound.subselectors) (by c.compound.name w.1.head)))
    where
      by : (o : Option (List ℕ))
          → IsTypeName edition o
          (flat_map subselector_text c.compound.subselectors ++ (selector_text cs ++ (b ∷ tail)))
          → BeginsPart edition (type_text o)
      by None h = record { first = asterisk; others = []; is = refl; fit = inl refl }
      by (Some n) (inl h) = begins-name n h
      by (Some n) (inr h) =
          absurd (some_after (flat_map subselector_text c.compound.subselectors) (selector_text cs)
          h.1)
        where
          some_after : (front middle : List ℕ) → front ++ (middle ++ (b ∷ tail)) ≡ [] → ⊥
          some_after [] [] e = cc
          some_after [] (d ∷ middle) e = cc
          some_after (d ∷ front) middle e = cc

  -- the declarations of a block

  pub declaration-begins : (p : StyleDeclaration) (text : List ℕ) → IsDeclaration edition p
      → BeginsPart edition (declaration_text p ++ text)
  declaration-begins p text w =
      subst (BeginsPart edition) (sym (declaration_text-assoc p text))
      (begins-append p.name _ (begins-name p.name w.name_is))

  pub list_goes_on : (text : List ℕ) → BeginsPart edition text → ends_list text ≡ false
  list_goes_on text w =
      let no = part_other edition close_brace w.first (omega arith) refl refl refl w.fit in
      let some = not_empty w.first w.others in
      ap ends_list w.is ∙ rw (some, no) refl

  one-declaration : (p : StyleDeclaration) (text : List ℕ) → IsDeclaration edition p
      → opens_comment (past_blank text) ≡ false → starts semicolon (past_blank text) ≡ false
      → declaration_in_block edition (declaration_text p ++ text) ≡ Some (p, past_blank text)
  one-declaration p text w o e =
      let whole = declaration_text p ++ text in
      ap (λ t. in_list edition t whole) (list_goes_on whole (declaration-begins p text w))
      ∙ ap found (printed_declaration-reads_back edition p w text o e)

  closing-none : (text : List ℕ) → declaration_in_block edition (close_brace ∷ text) ≡ None
  closing-none text = let some = not_empty close_brace text in rw some refl

  -- the declarations of a printed block, and what is left at its closing brace
  pub declarations-again : (p : StyleDeclaration) (ps : List StyleDeclaration) (text : List ℕ)
      → IsDeclaration edition p → AllByRecursion (IsDeclaration edition) ps
      → each (declaration_in_block edition)
      (declaration_text p ++ (flat_map declaration_text ps ++ (space ∷ close_brace ∷ text)))
      ≡ (p ∷ ps, close_brace ∷ text)
  declarations-again p [] text w ws =
      let tail = space ∷ close_brace ∷ text in
      let following = closing-blank text in
      each-some (declaration_in_block edition) (declaration_in_block-takes edition)
      (declaration_text p ++ tail) (past_blank tail) p
      (one-declaration p tail w (ap opens_comment following) (ap (starts semicolon) following))
      ∙ ap (λ t. followed_by p (each (declaration_in_block edition) t)) following
      ∙ ap (followed_by p)
      (each-none (declaration_in_block edition) (close_brace ∷ text) (closing-none text))
  declarations-again p (q ∷ ps) text w ws =
      let next =
      declaration_text q ++ (flat_map declaration_text ps ++ (space ∷ close_brace ∷ text)) in
      let tail = flat_map declaration_text (q ∷ ps) ++ (space ∷ close_brace ∷ text) in
      let same : tail ≡ next =
      append_assoc (declaration_text q) (flat_map declaration_text ps)
      (space ∷ close_brace ∷ text) in
      let begins =
      declaration-begins q (flat_map declaration_text ps ++ (space ∷ close_brace ∷ text)) ws.0 in
      let calm = part_calm next begins in
      let following : past_blank tail ≡ next = ap past_blank same ∙ calm-blank next calm in
      each-some (declaration_in_block edition) (declaration_in_block-takes edition)
      (declaration_text p ++ tail) (past_blank tail) p
      (one-declaration p tail w (ap opens_comment following ∙ calm.closed)
      (ap (starts semicolon) following
      ∙ part_starts semicolon next (omega arith) refl refl refl begins))
      ∙ ap (λ t. followed_by p (each (declaration_in_block edition) t)) following
      ∙ ap (followed_by p) (declarations-again q ps text ws.0 ws.1)

  declaration-space : (text : List ℕ)
      → declaration edition (space ∷ text) ≡ declaration edition text
  unfolding declaration stated_name
  declaration-space text = let same = blank-space text in rw same refl

  pub spaced-list : (text rest : List ℕ) (p : StyleDeclaration)
      → declaration_in_block edition text ≡ Some (p, rest) → ends_list text ≡ false
      → each (declaration_in_block edition) (space ∷ text)
      ≡ each (declaration_in_block edition) text
  spaced-list text rest p e goes =
      let some = not_empty space text in
      let open_list : ends_list (space ∷ text) ≡ false = rw some refl in
      let same : declaration_in_block edition (space ∷ text) ≡ declaration_in_block edition text =
      ap (λ t. in_list edition t (space ∷ text)) open_list ∙ ap found (declaration-space text)
      ∙ ap (λ t. in_list edition t text) (sym goes) in
      each-some (declaration_in_block edition) (declaration_in_block-takes edition)
      (space ∷ text) rest p
      (same ∙ e)
      ∙ sym (each-some (declaration_in_block edition) (declaration_in_block-takes edition) text rest
      p
      e)

  -- where something is read first, it is found
  pub first-found : (text : List ℕ) (p : StyleDeclaration) (ps : List StyleDeclaration)
      (left : List ℕ)
      → each (declaration_in_block edition) text ≡ (p ∷ ps, left)
      → (found_there : Option (StyleDeclaration × List ℕ))
      → declaration_in_block edition text ≡ found_there
      → (q : StyleDeclaration) × (rest : List ℕ)
      × (declaration_in_block edition text ≡ Some (q, rest))
  first-found text p ps left e None f =
      absurd (let none_there = sym (ap (λ r. r.0) (each-none (declaration_in_block edition) text f))
      ∙ ap (λ r. r.0) e in cc)
  first-found text p ps left e (Some x) f = (x.0, x.1, f)

  -- after the brace and the space, the declarations of a printed block are read, and what follows
  -- it is left
  block-again : (p : StyleDeclaration) (ps : List StyleDeclaration) (text : List ℕ)
      → IsDeclaration edition p → AllByRecursion (IsDeclaration edition) ps
      → block edition (space ∷ (flat_map declaration_text (p ∷ ps) ++ (space ∷ close_brace ∷ text)))
      ≡ (p ∷ ps, text)
  unfolding block
  block-again p ps text w ws =
      let inside =
      declaration_text p ++ (flat_map declaration_text ps ++ (space ∷ close_brace ∷ text)) in
      let same : flat_map declaration_text (p ∷ ps) ++ (space ∷ close_brace ∷ text) ≡ inside =
      append_assoc (declaration_text p) (flat_map declaration_text ps)
      (space ∷ close_brace ∷ text) in
      let listed = declarations-again p ps text w ws in
      let there =
      first-found inside p ps (close_brace ∷ text) listed
      (declaration_in_block edition inside) refl in
      let spaced =
      spaced-list inside there.1 there.0 there.2 (list_goes_on inside
      (declaration-begins p (flat_map declaration_text ps ++ (space ∷ close_brace ∷ text)) w)) in
      let all : each (declaration_in_block edition)
      (space ∷ (flat_map declaration_text (p ∷ ps) ++ (space ∷ close_brace ∷ text)))
      ≡ (p ∷ ps, close_brace ∷ text) = ap
      (λ t. each (declaration_in_block edition) (space ∷ t)) same ∙ spaced ∙ listed in
      let some = not_empty close_brace text in
      ap (λ (r : List StyleDeclaration × List ℕ).
      (r.0, past_byte close_brace (past_list edition r.1))) all
      ∙ rw some refl

  -- a part that reads before a block
  pub part-again : (s : List Component) (text inside : List ℕ)
      → reads edition text ≡ (Some s, open_brace ∷ inside)
      → part edition text ≡ (Some s, open_brace ∷ inside)
  unfolding part
  part-again s text inside e =
      ap (λ (r : Option (List Component) × List ℕ). (r.0, past is_space r.1)) e ∙ refl

  pub parts-again : (s : List Component) (text inside : List ℕ)
      → part edition text ≡ (Some s, open_brace ∷ inside)
      → parts edition text ≡ (s ∷ [], open_brace ∷ inside)
  unfolding parts
  parts-again s text inside e =
      let no_comma : part_and_comma edition text ≡ None = rw e refl in
      let listed : each (part_and_comma edition) text ≡ ([], text) =
      each-none (part_and_comma edition) text no_comma in
      rw (listed, e) refl

  next_block-again : (inside : List ℕ)
      → next_block edition (open_brace ∷ inside) ≡ block edition inside
  unfolding next_block
  next_block-again inside = refl

  rule_set-again : (s : List Component) (p : StyleDeclaration) (ps : List StyleDeclaration)
      (text inside following : List ℕ) → past_byte comma text ≡ text
      → reads edition text ≡ (Some s, open_brace ∷ inside)
      → block edition inside ≡ (p ∷ ps, following)
      → rule_set edition text ≡ (record { components = s; declarations = p ∷ ps } ∷ [], following)
  unfolding rule_set
  rule_set-again s p ps text inside following start e b =
      let head : parts edition (past_byte comma text) ≡ (s ∷ [], open_brace ∷ inside) =
      ap (parts edition) start
      ∙ parts-again s text inside (part-again s text inside e) in
      let body : next_block edition (open_brace ∷ inside) ≡ (p ∷ ps, following) =
      next_block-again inside ∙ b in
      rw (head, body) refl

  statement-again : (text : List ℕ) → starts at_sign text ≡ false
      → statement edition text ≡ rule_set edition text
  unfolding statement
  statement-again text e = rw e refl

  printed-rule : (s : List Component) (p : StyleDeclaration) (ps : List StyleDeclaration)
      → IsSelector edition s (open_brace ∷ []) → is_clean s ≡ true → IsDeclaration edition p
      → AllByRecursion (IsDeclaration edition) ps
      → RuleReadsBack edition (record { components = s; declarations = p ∷ ps })
  printed-rule s p ps w clean wp ws text =
      let rule : StyleRule = record { components = s; declarations = p ∷ ps } in
      let inside = space ∷ (flat_map declaration_text (p ∷ ps) ++ (space ∷ close_brace ∷ text)) in
      let whole = selector_text s ++ (space ∷ open_brace ∷ inside) in
      let begins =
      begins-append (selector_text s) (space ∷ open_brace ∷ inside)
      (selector-begins s open_brace [] w) in
      let read : reads edition whole ≡ (Some s, open_brace ∷ inside) =
      (selector-reads_back_before edition s open_brace [] w inside).1 clean in
      ap (statement edition) (rule-assoc rule text)
      ∙ statement-again whole (part_starts at_sign whole (omega arith) refl refl refl begins)
      ∙ rule_set-again s p ps whole inside text
      (part_byte comma whole (omega arith) refl refl refl begins) read (block-again p ps text wp ws)

  -- A rule that was read from a text without white space past ASCII, and whose selector is clean,
  -- reads back.
  pub rule-reads_back : (rule : StyleRule) → IsKept edition (IsDeclaration edition) rule
      → is_clean rule.components ≡ true → RuleReadsBack edition rule
  rule-reads_back rule w clean = by rule.declarations w.1 w.0.declarations
    where
      by : (ps : List StyleDeclaration) → not (length ps == 0) ≡ true
          → AllByRecursion (IsDeclaration edition) ps
          → RuleReadsBack edition (record { components = rule.components; declarations = ps })
      by [] some h = absurd (cc)
      by (p ∷ ps) some h = printed-rule rule.components p ps w.0.selector clean h.0 h.1

  -- a printed rule begins as a part does
  pub rule-begins : (rule : StyleRule) (text : List ℕ)
      → IsSelector edition rule.components (open_brace ∷ [])
      → BeginsPart edition (rule_text rule ++ text)
  rule-begins rule text w =
      subst (BeginsPart edition) (sym (rule-assoc rule text))
      (begins-append (selector_text rule.components) _
      (selector-begins rule.components open_brace [] w))

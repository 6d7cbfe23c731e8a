-- Worked blocks, parts and statements, computed.
-- Computes `block`, `part`, `rule_set` and `statement` of `specs/{Blocks, Statements}`, and
-- `ordered_by` of `specs/Ranks`.
use Rattle.std.specs.Prelude.{ℕ, ◌≡◌, refl, [], ◌∷◌, codes, true, false, nat_lt, map}
use Rattle.css_text.specs.Characters.{Edition, first_edition, second_edition}
use Rattle.simplecss_grammar.specs.Blocks.{block}
use Rattle.simplecss_grammar.specs.Statements.{part, parts, rule_set, statement, is_open_comment}
use Rattle.css_text.specs.Ranks.{ordered_by}
use Rattle.simplecss_grammar.specs.Printing.{selector_text}
use Rattle.simplecss_grammar.proofs.vectors.OnLiterals.{simplecss_on_literals}

-- the declarations of a block after its brace, and what is left after it
pub blocks : (edition : Edition) →
    (block edition (codes "a:b; c:d}e") ≡ (
      record { name = (codes "a"); value = (codes "b"); important = false }
          ∷ record { name = (codes "c"); value = (codes "d"); important = false } ∷ [],
      (codes "e"),
    ))
    × (block edition (codes "}}a") ≡ ([], (codes "}a")))
    × (block edition (codes " }}a") ≡ ([], (codes "a")))
    × (block edition (codes "a:b;c{}}d")
    ≡ (record { name = (codes "a"); value = (codes "b"); important = false } ∷ [], (codes "d")))
    × (block edition (codes "a:b")
    ≡ (record { name = (codes "a"); value = (codes "b"); important = false } ∷ [], []))
unfolding simplecss_on_literals
blocks first_edition = (refl, refl, refl, refl, refl)
blocks second_edition = (refl, refl, refl, refl, refl)

-- what is left after a statement
pub statement_ends : (edition : Edition) →
    ((statement edition (codes "@m x;y")).1 ≡ (codes "y"))
    × ((statement edition (codes "@m{y{}}}z")).1 ≡ (codes "}z"))
    × ((statement edition (codes "@--x{}")).1 ≡ (codes "-x{}"))
    × ((statement edition (codes "@m")).1 ≡ [])
    × ((statement edition (codes "a{b:c}d")).1 ≡ (codes "d"))
    × ((statement edition (codes ",a, b")).1 ≡ [])
unfolding simplecss_on_literals
statement_ends first_edition = (refl, refl, refl, refl, refl, refl)
statement_ends second_edition = (refl, refl, refl, refl, refl, refl)

-- what is left after a part and the space bytes after it
pub part_ends : (edition : Edition) →
    ((part edition (codes "a , b")).1 ≡ (codes ", b"))
    × ((part edition (codes "a {")).1 ≡ (codes "{"))
    × ((part edition (codes ":x  {")).1 ≡ (codes "{"))
    × ((part edition (codes "a/**/,")).1 ≡ (codes ","))
unfolding simplecss_on_literals
part_ends first_edition = (refl, refl, refl, refl)
part_ends second_edition = (refl, refl, refl, refl)

-- the selectors of the parts of a rule set
pub parts_of_sets : (edition : Edition) →
    (map selector_text (parts edition (codes "a, b > c {")).0 ≡ (codes "a") ∷ (codes "b > c") ∷ [])
    × (map selector_text (parts edition (codes "a, :x, b")).0 ≡ (codes "a") ∷ (codes "b") ∷ [])
    × (map selector_text (parts edition (codes ":x")).0 ≡ [])
unfolding simplecss_on_literals
parts_of_sets first_edition = (refl, refl, refl)
parts_of_sets second_edition = (refl, refl, refl)

-- a blank and then a comment that is not closed
pub open_comments :
    (is_open_comment (codes " /**/ /* x") ≡ true)
    × (is_open_comment (codes "/*") ≡ true)
    × (is_open_comment (codes "a") ≡ false)
    × (is_open_comment [] ≡ false)
    × (is_open_comment (codes "/**/") ≡ false)
unfolding simplecss_on_literals
open_comments = (refl, refl, refl, refl, refl)

-- each element at its rank
pub ranks :
    (ordered_by nat_lt (3 ∷ 1 ∷ 2 ∷ 1 ∷ []) ≡ 1 ∷ 1 ∷ 2 ∷ 3 ∷ [])
    × (ordered_by nat_lt [] ≡ [])
    × (ordered_by (λ (x y : ℕ × ℕ). nat_lt x.0 y.0) ((2, 7) ∷ (1, 8) ∷ (2, 6) ∷ (1, 9) ∷ [])
    ≡ (1, 8) ∷ (1, 9) ∷ (2, 7) ∷ (2, 6) ∷ [])
unfolding simplecss_on_literals
ranks = (refl, refl, refl)

-- where a block ends: one further brace is consumed after a broken declaration
pub block_ends : (edition : Edition) →
    (block edition (codes "}a") ≡ ([], (codes "a")))
    × (block edition [] ≡ ([], []))
    × (block edition (codes " ") ≡ ([], []))
    × (block edition (codes " }") ≡ ([], []))
    × (block edition (codes " }a") ≡ ([], (codes "a")))
    × (block edition (codes "/**/}}a") ≡ ([], (codes "a")))
    × (block edition (codes " }}}a") ≡ ([], (codes "}a")))
    × (block edition (codes " } }a") ≡ ([], (codes " }a")))
    × (block edition (codes "a:b}}c")
    ≡ (record { name = codes "a"; value = codes "b"; important = false } ∷ [], (codes "}c")))
    × (block edition (codes "a:b;/*}c") ≡ ([], []))
    × (block edition (codes "{}}a") ≡ ([], (codes "a")))
    × (block edition (codes "a:{}}b") ≡ ([], (codes "b")))
    × (block edition (codes "a:b;c{d}e;f:g}h")
    ≡ (record { name = codes "a"; value = codes "b"; important = false } ∷ [], (codes "h")))
    × (block edition (codes "a:'}'}b")
    ≡ (record { name = codes "a"; value = codes "'}'"; important = false } ∷ [], (codes "b")))
    × (block edition (codes "a'}'}b") ≡ ([], (codes "'}b")))
    × (block edition (codes "a:b")
    ≡ (record { name = codes "a"; value = codes "b"; important = false } ∷ [], []))
    × (block edition (codes "a:b!important;}c")
    ≡ (record { name = codes "a"; value = codes "b"; important = true } ∷ [], (codes "c")))
unfolding simplecss_on_literals
block_ends first_edition = (
  refl,
  refl,
  refl,
  refl,
  refl,
  refl,
  refl,
  refl,
  refl,
  refl,
  refl,
  refl,
  refl,
  refl,
  refl,
  refl,
  refl,
)
block_ends second_edition = (
  refl,
  refl,
  refl,
  refl,
  refl,
  refl,
  refl,
  refl,
  refl,
  refl,
  refl,
  refl,
  refl,
  refl,
  refl,
  refl,
  refl,
)

-- after a part space bytes are skipped and comments are not
pub parts_and_blanks : (edition : Edition) →
    ((part edition (codes "- ,b")).1 ≡ (codes ",b"))
    × ((part edition (codes "-/**/,b")).1 ≡ (codes "/**/,b"))
    × ((part edition (codes ":x /**/,b")).1 ≡ (codes "/**/,b"))
    × ((part edition (codes "a /**/ ,b")).1 ≡ (codes ",b"))
    × ((part edition (codes "a/b")).1 ≡ (codes "/b"))
    × ((part edition (codes "a /b")).1 ≡ (codes "b"))
    × ((part edition []).1 ≡ [])
    × ((part edition (codes ":x")).1 ≡ [])
    × ((part edition (codes "a,b")).1 ≡ (codes ",b"))
    × ((part edition (codes "-\t\n,")).1 ≡ (codes ","))
unfolding simplecss_on_literals
parts_and_blanks first_edition = (refl, refl, refl, refl, refl, refl, refl, refl, refl, refl)
parts_and_blanks second_edition = (refl, refl, refl, refl, refl, refl, refl, refl, refl, refl)

-- the selectors that a rule set yields
pub rule_sets : (edition : Edition) →
    (map (λ rule. selector_text rule.components) (rule_set edition (codes "a,,b{c:d}")).0
    ≡ (codes "a") ∷ (codes "b") ∷ [])
    × (map (λ rule. selector_text rule.components) (rule_set edition (codes ",a{c:d}")).0
    ≡ (codes "a") ∷ [])
    × (map (λ rule. selector_text rule.components) (rule_set edition (codes ",,a{c:d}")).0
    ≡ (codes "a") ∷ [])
    × (map (λ rule. selector_text rule.components) (rule_set edition (codes "a,{c:d}")).0
    ≡ (codes "a") ∷ [])
    × (map (λ rule. selector_text rule.components) (rule_set edition (codes "a,b")).0
    ≡ (codes "a") ∷ (codes "b") ∷ [])
    × (map (λ rule. selector_text rule.components) (rule_set edition (codes "a,b <x")).0
    ≡ (codes "a") ∷ [])
    × (map (λ rule. selector_text rule.components) (rule_set edition (codes "a/x{c:d}")).0
    ≡ (codes "a") ∷ [])
    × (map (λ rule. selector_text rule.components) (rule_set edition (codes ",")).0 ≡ [])
    × (map (λ rule. selector_text rule.components) (rule_set edition (codes "{c:d}")).0 ≡ [])
    × (map (λ rule. selector_text rule.components) (rule_set edition (codes "a:x,b{c:d}")).0
    ≡ (codes "b") ∷ [])
    × (map (λ rule. selector_text rule.components) (rule_set edition (codes "a, b,c")).0
    ≡ (codes "a") ∷ (codes "b") ∷ (codes "c") ∷ [])
unfolding simplecss_on_literals
rule_sets first_edition = (refl, refl, refl, refl, refl, refl, refl, refl, refl, refl, refl)
rule_sets second_edition = (refl, refl, refl, refl, refl, refl, refl, refl, refl, refl, refl)

-- what is left after a rule set
pub rule_set_ends : (edition : Edition) →
    ((statement edition (codes "a")).1 ≡ [])
    × ((statement edition (codes "a{")).1 ≡ [])
    × ((statement edition (codes "a{}b")).1 ≡ (codes "b"))
    × ((statement edition (codes "a{}}b")).1 ≡ (codes "}b"))
    × ((statement edition (codes "a{ }}b")).1 ≡ (codes "b"))
    × ((statement edition (codes "a <x{b:c}d")).1 ≡ (codes "d"))
    × ((statement edition (codes "a <x")).1 ≡ [])
    × ((statement edition (codes "}a{b:c}d")).1 ≡ (codes "d"))
    × ((statement edition (codes "{}a")).1 ≡ (codes "a"))
    × ((statement edition (codes ":x/**/{b:c}d")).1 ≡ (codes "d"))
    × ((statement edition (codes "a;b{c:d}e")).1 ≡ (codes "e"))
unfolding simplecss_on_literals
rule_set_ends first_edition = (refl, refl, refl, refl, refl, refl, refl, refl, refl, refl, refl)
rule_set_ends second_edition = (refl, refl, refl, refl, refl, refl, refl, refl, refl, refl, refl)

-- what is left after an at-rule
pub at_rule_ends : (edition : Edition) →
    ((statement edition (codes "@")).1 ≡ [])
    × ((statement edition (codes "@ a")).1 ≡ (codes " a"))
    × ((statement edition (codes "@--x")).1 ≡ (codes "-x"))
    × ((statement edition (codes "@-")).1 ≡ [])
    × ((statement edition (codes "@-;a")).1 ≡ (codes ";a"))
    × ((statement edition (codes "@m")).1 ≡ [])
    × ((statement edition (codes "@m;;a")).1 ≡ (codes ";a"))
    × ((statement edition (codes "@m x{y")).1 ≡ [])
    × ((statement edition (codes "@m{{}}a")).1 ≡ (codes "a"))
    × ((statement edition (codes "@m{;}a")).1 ≡ (codes "a"))
    × ((statement edition (codes "@m{'}'}a")).1 ≡ (codes "'}a"))
    × ((statement edition (codes "@m';'a")).1 ≡ (codes "'a"))
    × ((statement edition (codes "@m/*;*/a")).1 ≡ (codes "*/a"))
    × ((statement edition (codes "@m}a;b")).1 ≡ (codes "b"))
unfolding simplecss_on_literals
at_rule_ends first_edition =
    (refl, refl, refl, refl, refl, refl, refl, refl, refl, refl, refl, refl, refl, refl)
at_rule_ends second_edition =
    (refl, refl, refl, refl, refl, refl, refl, refl, refl, refl, refl, refl, refl, refl)

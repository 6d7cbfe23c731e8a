-- What contracts see of statements, declarations and lists: the bytes of their texts, wherever
-- these are stored.
use Rattle.std.specs.Prelude.{ℕ, List, map, Result, Ok, Err}
use Rattle.std.specs.Borrow.{Bor}
use Rattle.std.specs.Option.{option_map}
use Rattle.css_syntax.specs.declared.parts.Parts.{Parts}
use Rattle.css_syntax.specs.declared.statements.Prelude.{Prelude}
use Rattle.css_syntax.specs.declared.statements.Block.{Block}
use Rattle.css_syntax.specs.declared.statements.AtRule.{AtRule}
use Rattle.css_syntax.specs.declared.statements.Statement.{Statement}
use Rattle.css_syntax.specs.declared.statements.Statement.TheVariants as statements
use Rattle.css_syntax.specs.declared.statements.SheetPart.{SheetPart}
use Rattle.css_syntax.specs.declared.declarations.Declaration.{Declaration}
use Rattle.css_syntax.specs.declared.declarations.Item.{Item}
use Rattle.css_syntax.specs.declared.declarations.Item.TheVariants as items
use Rattle.css_syntax.specs.declared.declarations.ListPart.{ListPart}
use Rattle.css_syntax.specs.declared.printing.DeclarationList.{DeclarationList}
use Rattle.css_syntax.specs.declared.quality.Fault.{Fault}
use Rattle.css_syntax.specs.Parts.{Stated}
use Rattle.css_syntax.specs.Statements.{BlockText, AtRuleText, StatementText, rule_set, at_rule_statement, skipped_statement, SheetText}
use Rattle.css_syntax.specs.DeclarationLists.{DeclarationText, Declared, ItemText, declared, at_rule_item, skipped_item, ListText}

abbrev pub parts_of : Parts → Stated
parts_of p = record { text = p.text.now; quality = p.quality }

abbrev pub prelude_of : Prelude → Stated
prelude_of p = record { text = p.text.now; quality = p.quality }

abbrev pub block_of : Block → BlockText
block_of b = record { text = b.text.now; closed = b.closed }

abbrev pub at_rule_of : AtRule → AtRuleText
at_rule_of a = record {
  name = a.name.now;
  prelude = prelude_of a.prelude;
  block = option_map block_of a.block;
}

abbrev pub statement_of : Statement → StatementText
statement_of (statements.RuleSet r) = rule_set (prelude_of r.prelude) (block_of r.block)
statement_of (statements.AtRule a) = at_rule_statement (at_rule_of a)
statement_of (statements.Skipped fault) = skipped_statement fault

abbrev pub sheet_part_of : SheetPart → SheetText
sheet_part_of p = record { text = p.text.now; statement = statement_of p.statement }

abbrev pub declaration_of : Declaration → DeclarationText
declaration_of d = record {
  name = d.name.now;
  value = d.value.now;
  important = d.important;
  closed = d.closed;
}

-- a declaration that was read, with the rest, or why there is none
abbrev pub declared_by : Result (Declaration × Bor (List ℕ)) Fault → Declared
declared_by (Ok found) = Ok (declaration_of found.0, found.1.now)
declared_by (Err fault) = Err fault

abbrev pub item_of : Item → ItemText
item_of (items.Declaration d) = declared (declaration_of d)
item_of (items.AtRule a) = at_rule_item (at_rule_of a)
item_of (items.Skipped fault) = skipped_item fault

abbrev pub list_part_of : ListPart → ListText
list_part_of p = record { text = p.text.now; item = item_of p.item }

-- the declarations that a list prints
abbrev pub declarations_in : DeclarationList → List DeclarationText
declarations_in l = map declaration_of l.declarations.now

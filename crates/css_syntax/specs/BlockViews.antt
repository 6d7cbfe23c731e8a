-- What contracts see of the parts of blocks.
use Rattle.css_syntax.specs.declared.blocks.BlockPart.{BlockPart}
use Rattle.css_syntax.specs.declared.blocks.BlockPart.TheVariants as kinds
use Rattle.css_syntax.specs.Blocks.{BlockPart as PartText, listed, opens_rule, opens_at_rule, closes}
use Rattle.css_syntax.specs.Views.{item_of, prelude_of}

abbrev pub block_part_of : BlockPart → PartText
block_part_of (kinds.Listed item) = listed (item_of item)
block_part_of (kinds.OpensRule prelude) = opens_rule (prelude_of prelude)
block_part_of (kinds.OpensAtRule name prelude) = opens_at_rule name.now (prelude_of prelude)
block_part_of kinds.Closes = closes

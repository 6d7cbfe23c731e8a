-- Where a document type ends (XML 1.0, section 2.8).
use Rattle.std.specs.Prelude.{ℕ, Bool, true, false, ◌&&◌, ◌==◌, if◌then◌else◌, List, [], ◌∷◌}
use Rattle.css_text.specs.AsciiBytes.{exclamation_mark, hyphen, greater_than_sign, open_bracket, close_bracket}
use Rattle.css_text.specs.Strings.{is_quote}
use Rattle.css_html.specs.Marks.{less_than_sign, question_mark}
use Rattle.css_xml.specs.Characters.{is_blank}
use Rattle.css_xml.specs.declared.doctypes.Part.{Part}
use Rattle.css_xml.specs.declared.doctypes.Part.TheVariants.{Front, FrontQuoted, Subset, Opened, Marked, Element, Hyphen, Declaration, DeclarationQuoted, Comment, CommentHyphen, CommentHyphens, Instruction, InstructionMark, Back, Wrong}

-- The part of a document type after one more byte. In the subset may be comments, instructions, and declarations of elements and
-- notations, each up to the first `>` that is not in quotes. A declaration of entities or attributes is wrong, and so is a
-- reference to an entity.
abbrev pub part_after : Part → ℕ → Part
part_after Front b = if b == open_bracket then Subset else (if is_quote b then FrontQuoted b else Front)
part_after (FrontQuoted q) b = if b == q then Front else FrontQuoted q
part_after Subset b =
    if is_blank b then Subset
    else (if b == less_than_sign then Opened else (if b == close_bracket then Back else Wrong))
part_after Opened b =
    if b == exclamation_mark then Marked else (if b == question_mark then Instruction else Wrong)
part_after Marked b =
    if b == hyphen then Hyphen else (if b == 69 then Element else (if b == 78 then Declaration else Wrong))
part_after Element b = if b == 76 then Declaration else Wrong
part_after Hyphen b = if b == hyphen then Comment else Wrong
part_after Declaration b =
    if b == greater_than_sign then Subset
    else (if is_quote b then DeclarationQuoted b else Declaration)
part_after (DeclarationQuoted q) b = if b == q then Declaration else DeclarationQuoted q
part_after Comment b = if b == hyphen then CommentHyphen else Comment
part_after CommentHyphen b = if b == hyphen then CommentHyphens else Comment
part_after CommentHyphens b = if b == greater_than_sign then Subset else Wrong
part_after Instruction b = if b == question_mark then InstructionMark else Instruction
part_after InstructionMark b =
    if b == greater_than_sign then Subset
    else (if b == question_mark then InstructionMark else Instruction)
part_after Back b = if is_blank b then Back else Wrong
part_after Wrong b = Wrong

-- a `>` ends the document type in this part
abbrev pub may_end : Part → Bool
may_end Front = true
may_end Back = true
may_end (FrontQuoted q) = false
may_end Subset = false
may_end Opened = false
may_end Marked = false
may_end Element = false
may_end Hyphen = false
may_end Declaration = false
may_end (DeclarationQuoted q) = false
may_end Comment = false
may_end CommentHyphen = false
may_end CommentHyphens = false
may_end Instruction = false
may_end InstructionMark = false
may_end Wrong = false

-- from the `>` that ends a document type on, or nothing
unfoldable pub from_end : Part → List ℕ → List ℕ
from_end part [] = []
from_end part (b ∷ text) =
    if may_end part && b == greater_than_sign then b ∷ text else from_end (part_after part b) text

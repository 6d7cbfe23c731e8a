use Rattle.std.proofs.Common.{◌≡◌, ℕ, List, decimal, sym, ap, ◌∙◌, ◌++◌, append_assoc}
use Rattle.std.specs.Prelude.{codes}
use Rattle.std.proofs.Output.{has_written_styled_of_eq}
use Rattle.simplecss.proofs.StyledWrites.{appends_written}
use Rattle.cssq_tree.specs.TreeText.{fault_number, fault_line}
use Rattle.cssq.specs.Faults.{message_of}
use Rattle.cssq.specs.declared.runs.RunFault.TheVariants.{Tree}
use Rattle.cssq.proofs.runs.write_tree_fault.Goals as goal

-- the line with these two numbers
abbrev line_with : ℕ → ℕ → List ℕ
line_with number line =
    codes "cssq: tree fault " ++ (decimal number ++ (codes " at line " ++ decimal line))

-- the line is written into a text that was empty
pub returns : goal.returns
returns g c = λ flush ok.
    let bytes = line_with c.number-number.result c.line-line.result in
    let wrote = appends_written c.new-text.result bytes c.write.new.self
    c.in_ok-write.ensures.writes c.new-text.ensures.intact in
    let text : c.as_str.result.now ≡ message_of (Tree c.args.fault) =
    c.as_str.ensures.value ∙ wrote.1 ∙ ap (λ l. l ++ bytes) c.new-text.ensures.text
    ∙ ap (λ n. line_with n c.line-line.result) c.number-number.ensures
    ∙ ap (line_with (fault_number c.args.fault)) c.line-line.ensures
    ∙ ap (λ l. codes "cssq: tree fault " ++ l) (sym (append_assoc (decimal
    (fault_number c.args.fault)) (codes " at line ") (decimal (fault_line c.args.fault)))) in
    has_written_styled_of_eq _ _ _ _ _ text (c.write_str.ensures.styled flush ok)

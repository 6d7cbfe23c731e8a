-- The exit status of a run's fault, and its line on standard error.
use Rattle.std.specs.Prelude.{ℕ, List, ◌++◌, codes, decimal}
use Rattle.cssq_tree.specs.declared.tree.TreeFault.{TreeFault}
use Rattle.cssq_tree.specs.declared.tree.TreeFault.TheVariants as tree
use Rattle.cssq.specs.declared.runs.RunFault.{RunFault}
use Rattle.cssq.specs.declared.runs.RunFault.TheVariants.{Refused, Tree, Memory, Output}
use Rattle.cssq_tree.specs.TreeText.{fault_number, fault_line}

-- 1 for a text that is refused or faulty, 3 if an allocation fails, 4 for a writer that failed
abbrev pub status_of : RunFault → ℕ
status_of Refused = 1
status_of (Tree fault) = 1
status_of Memory = 3
status_of Output = 4

-- the line, without its newline
abbrev pub message_of : RunFault → List ℕ
message_of Refused = codes "cssq: selector refused"
message_of (Tree fault) =
    codes "cssq: tree fault " ++ decimal (fault_number fault) ++ codes " at line "
    ++ decimal (fault_line fault)
message_of Memory = codes "cssq: want of memory"
message_of Output = codes "cssq: cannot write"

-- a tree that runs out of memory is a run that does
abbrev pub run_fault : TreeFault → RunFault
run_fault (tree.Memory line) = Memory
run_fault (tree.BadDepth line) = Tree (tree.BadDepth line)
run_fault (tree.EmptyName line) = Tree (tree.EmptyName line)
run_fault (tree.NoEquals line) = Tree (tree.NoEquals line)
run_fault (tree.RepeatedKey line) = Tree (tree.RepeatedKey line)

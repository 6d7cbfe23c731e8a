-- A write accepts the front of what is left.
-- Serves `run_selector`, `run_sheet`, `run_match` and `run_style` (what the writer got).
use Rattle.std.proofs.Common.{◌≡◌, ℕ, ◌-◌, List, ◌++◌, length, take, drop, Option, Some, None, refl, sym, ap, subst, ◌∙◌, append_assoc, take-append-drop, arith}
use Rattle.std.proofs.lemmas.Grind.{common_steps}
use Rattle.std.specs.Prelude.{Result, Ok, Err, OnOk, OnErr, IfErr}
use Rattle.cssq.specs.declared.runs.RunFault.{RunFault}
use Rattle.cssq.specs.declared.runs.RunFault.TheVariants.{Refused, Tree, Memory, Output}
use Rattle.cssq_tree.specs.declared.tree.TreeFault.{TreeFault}
use Rattle.cssq_tree.specs.declared.tree.TreeFault.TheVariants as reported
use Rattle.cssq_tree.specs.TreeText.{tree_of, IsFaultOf}
use Rattle.cssq.specs.Faults.{run_fault}
use Rattle.cssq.specs.Writing.{AppendsProperPrefix, Writes, FailsBeforeWriting}
use Rattle.std.specs.Result.{IsErrAnd}
use Rattle.std.specs.Io.KnownBytes.{Keeps, Appends}
use Rattle.std.proofs.KnownBytes.{Appends-trans}

rest_whole : (rest : List ℕ) (n : ℕ) → take (length rest - n) (drop n rest) ≡ drop n rest
rest_whole rest n = grind (arith, common_steps)

pub wrote_more : (bytes front rest : List ℕ) (n : ℕ) (a b c : Option (List ℕ))
    → bytes ≡ front ++ rest → Appends a b front → Appends b c (take n rest)
    → (x : List ℕ) × (bytes ≡ x ++ take (length rest - n) (drop n rest)) × Appends a c x
wrote_more bytes front rest n a b c whole wrote took = (
  front ++ take n rest,
  whole ∙ ap (λ l. front ++ l) (sym (take-append-drop n rest))
      ∙ sym (append_assoc front (take n rest) (drop n rest))
      ∙ ap (λ l. (front ++ take n rest) ++ l) (sym (rest_whole rest n)),
  Appends-trans a b c front (take n rest) wrote took,
)

-- what `write_out` leaves, where the bytes are due
pub runs_written : (IsDue : Result (List ℕ) RunFault → Type 0) (bytes : List ℕ)
    (r : Result (Unit {0}) RunFault) (old new : Option (List ℕ)) → IsDue (Ok bytes)
    → OnOk r (Appends old new bytes) → OnErr r (AppendsProperPrefix old new bytes)
    → IfErr r (λ fault. fault ≡ Output) → Writes IsDue r old new
runs_written IsDue bytes (Ok x) old new due ok err fault = (bytes, due, ok)
runs_written IsDue bytes (Err Output) old new due ok err fault = (bytes, due, err)
runs_written IsDue bytes (Err Memory) old new due ok err fault = absurd (cc)
runs_written IsDue bytes (Err Refused) old new due ok err fault = absurd (cc)
runs_written IsDue bytes (Err (Tree reported)) old new due ok err fault = absurd (cc)

pub keeps_itself : (known : Option (List ℕ)) → Keeps known known
keeps_itself None = tt
keeps_itself (Some bytes) = refl

-- a fault before the first write
fails_unwritten : (IsDue : Result (List ℕ) RunFault → Type 0) (fault : RunFault)
    (known : Option (List ℕ)) → FailsBeforeWriting IsDue fault
    → Writes IsDue (Err fault) known known
fails_unwritten IsDue Memory known due = keeps_itself known
fails_unwritten IsDue Output known due = absurd due
fails_unwritten IsDue Refused known due = (due, keeps_itself known)
fails_unwritten IsDue (Tree reported) known due = (due, keeps_itself known)

-- what `?` leaves where the bytes were not built
pub runs_failed : (IsDue : Result (List ℕ) RunFault → Type 0) (r : Result (Unit {0}) RunFault)
    (fault : RunFault) (known : Option (List ℕ)) → IsErrAnd r (λ reported. reported ≡ fault)
    → FailsBeforeWriting IsDue fault → Writes IsDue r known known
runs_failed IsDue (Ok x) fault known is due = absurd is
runs_failed IsDue (Err reported) fault known is due =
    fails_unwritten IsDue reported known (subst (FailsBeforeWriting IsDue) (sym is) due)

-- what `?` returns, where the fault is as wanted
pub failed_with : {V : Type 0} (P : RunFault → Type 0) (r : Result V RunFault) (fault : RunFault)
    → IsErrAnd r (λ reported. reported ≡ fault) → P fault → IfErr r P
failed_with P (Ok x) fault is holds = tt
failed_with P (Err reported) fault is holds = subst P (sym is) holds

-- a tree's fault, handed on, is due
pub tree_due : (IsDue : Result (List ℕ) RunFault → Type 0) (tree : List ℕ) (fault : TreeFault)
    → ((fault : TreeFault) → tree_of tree ≡ Err fault → IsDue (Err (Tree fault)))
    → IsFaultOf fault tree → FailsBeforeWriting IsDue (run_fault fault)
tree_due IsDue tree (reported.Memory n) due is = tt
tree_due IsDue tree (reported.BadDepth n) due is = due (reported.BadDepth n) is
tree_due IsDue tree (reported.EmptyName n) due is = due (reported.EmptyName n) is
tree_due IsDue tree (reported.NoEquals n) due is = due (reported.NoEquals n) is
tree_due IsDue tree (reported.RepeatedKey n) due is = due (reported.RepeatedKey n) is

-- What a run has written.
use Rattle.std.specs.Prelude.{◌≡◌, ℕ, ◌<◌, List, ◌++◌, length, Option, Result, Ok, Err}
use Rattle.std.specs.Io.KnownBytes.{Keeps, Appends}
use Rattle.cssq.specs.declared.runs.RunFault.{RunFault}
use Rattle.cssq.specs.declared.runs.RunFault.TheVariants.{Refused, Tree, Memory, Output}

-- a prefix of the bytes was written, but not all of them
abbrev pub AppendsProperPrefix : Option (List ℕ) → Option (List ℕ) → List ℕ → Type 0
AppendsProperPrefix old new bytes =
    (front : List ℕ) × (rest : List ℕ) × (bytes ≡ front ++ rest) × (0 < length rest)
    × Appends old new front

-- A run must write bytes, or return a fault. It did write them; or the writer failed after a
-- prefix; or nothing was written, because an allocation failed or because of the fault.
abbrev pub Writes : (Result (List ℕ) RunFault → Type 0) → Result (Unit {0}) RunFault
    → Option (List ℕ)
    → Option (List ℕ) → Type 0
Writes IsDue (Ok x) old new = (bytes : List ℕ) × IsDue (Ok bytes) × Appends old new bytes
Writes IsDue (Err Output) old new =
    (bytes : List ℕ) × IsDue (Ok bytes) × AppendsProperPrefix old new bytes
Writes IsDue (Err Memory) old new = Keeps old new
Writes IsDue (Err Refused) old new = IsDue (Err Refused) × Keeps old new
Writes IsDue (Err (Tree fault)) old new = IsDue (Err (Tree fault)) × Keeps old new

-- A run fails before it writes: an allocation failed, or there is a fault.
abbrev pub FailsBeforeWriting : (Result (List ℕ) RunFault → Type 0) → RunFault → Type 0
FailsBeforeWriting IsDue Memory = Unit {0}
FailsBeforeWriting IsDue Output = ⊥
FailsBeforeWriting IsDue Refused = IsDue (Err Refused)
FailsBeforeWriting IsDue (Tree fault) = IsDue (Err (Tree fault))

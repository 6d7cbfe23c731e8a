-- What a caller declares for the texts that it reads.
use Rattle.std.specs.Prelude.{ℕ, ◌^◌, ◌-◌, List, [], ◌∷◌, Option, None, Some, if◌then◌else◌}
use Rattle.std.specs.Str.{bytes_eq}

-- The caller's own names, besides those of `KnownNames`: of pseudo-classes without an argument, of
-- functional pseudo-classes, and of pseudo-elements without an argument and with one. And the number of
-- the default namespace, and prefixes with the numbers of theirs. The number of no namespace is 0.
pub record Names : Type 0 where
  pub states : List (List ℕ)
  pub functions : List (List ℕ)
  pub elements : List (List ℕ)
  pub element_functions : List (List ℕ)
  pub default_namespace : Option ℕ
  pub prefixes : List (List ℕ × ℕ)

-- nothing is declared
abbrev pub no_names : Names
no_names = record {
  states = [];
  functions = [];
  elements = [];
  element_functions = [];
  default_namespace = None;
  prefixes = [];
}

-- the number of a namespace that is not known
abbrev pub unknown_namespace : ℕ
unknown_namespace = 2 ^ 64 - 1

-- the number of the namespace of a prefix, of which the last declaration counts; one was found so far
abbrev pub last_number : Option ℕ → List (List ℕ × ℕ) → List ℕ → Option ℕ
last_number found [] prefix = found
last_number found (p ∷ prefixes) prefix =
    last_number (if bytes_eq p.0 prefix then Some p.1 else found) prefixes prefix

abbrev pub number_of : Names → List ℕ → Option ℕ
number_of names prefix = last_number None names.prefixes prefix

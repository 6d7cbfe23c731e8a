-- Whether what was read is good, and what is reported of what is not.
use Rattle.std.specs.Prelude.{ℕ, Bool, true, false, List, [], ◌∷◌, codes}
use Rattle.css_syntax.specs.declared.quality.Quality.{Quality}
use Rattle.css_syntax.specs.declared.quality.Quality.TheVariants.{Whole, Open, BadString, BadUrl, StrayBracket, TooDeep}
use Rattle.css_syntax.specs.declared.quality.Fault.{Fault}
use Rattle.css_syntax.specs.declared.quality.Fault.TheVariants as faults

-- the first one, unless it is whole; then the other
abbrev pub first_flaw : Quality → Quality → Quality
first_flaw Whole other = other
first_flaw Open other = Open
first_flaw BadString other = BadString
first_flaw BadUrl other = BadUrl
first_flaw StrayBracket other = StrayBracket
first_flaw TooDeep other = TooDeep

-- the first flaw of all, in order
abbrev pub flaw_of_all : List Quality → Quality
flaw_of_all [] = Whole
flaw_of_all (quality ∷ more) = first_flaw quality (flaw_of_all more)

-- it is whole, or the end of the text closes it
abbrev pub is_good : Quality → Bool
is_good Whole = true
is_good Open = true
is_good BadString = false
is_good BadUrl = false
is_good StrayBracket = false
is_good TooDeep = false

-- nothing of it is open at the end of the text
abbrev pub is_whole : Quality → Bool
is_whole Whole = true
is_whole Open = false
is_whole BadString = false
is_whole BadUrl = false
is_whole StrayBracket = false
is_whole TooDeep = false

-- what is reported of a declaration whose value has this quality
abbrev pub fault_of : Quality → Fault
fault_of Whole = faults.BrokenDeclaration
fault_of Open = faults.BrokenDeclaration
fault_of BadString = faults.BadString
fault_of BadUrl = faults.BadUrl
fault_of StrayBracket = faults.StrayBracket
fault_of TooDeep = faults.TooDeep

-- the words for a fault
abbrev pub fault_words : Fault → List ℕ
fault_words faults.BrokenDeclaration = codes "broken declaration"
fault_words faults.BadString = codes "bad string"
fault_words faults.BadUrl = codes "bad url"
fault_words faults.StrayBracket = codes "stray bracket"
fault_words faults.TooDeep = codes "too deep"
fault_words faults.NoBlock = codes "no block"
fault_words faults.NestedRule = codes "nested rule"
fault_words faults.InvalidSelector = codes "invalid selector"

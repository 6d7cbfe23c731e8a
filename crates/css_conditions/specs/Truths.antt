-- True, false and unknown, by Kleene's rules, and what reading a condition gives.
use Rattle.std.specs.Prelude.{Bool, true, false}
use Rattle.css_conditions.specs.declared.truth.Truth.{Truth}
use Rattle.css_conditions.specs.declared.truth.Truth.TheVariants.{True, False, Unknown}
use Rattle.css_conditions.specs.declared.truth.Outcome.{Outcome}
use Rattle.css_conditions.specs.declared.truth.Outcome.TheVariants.{Found, Unfit, Broken}

-- true becomes false and false true; what is unknown stays so
abbrev pub opposite : Truth → Truth
opposite True = False
opposite False = True
opposite Unknown = Unknown

-- not more than unknown
abbrev pub at_most_unknown : Truth → Truth
at_most_unknown True = Unknown
at_most_unknown False = False
at_most_unknown Unknown = Unknown

-- not less than unknown
abbrev pub at_least_unknown : Truth → Truth
at_least_unknown True = True
at_least_unknown False = Unknown
at_least_unknown Unknown = Unknown

-- both: the lesser of the two, where false is less than unknown, and unknown less than true
abbrev pub both : Truth → Truth → Truth
both True other = other
both False other = False
both Unknown other = at_most_unknown other

-- one of them: the greater of the two
abbrev pub either : Truth → Truth → Truth
either True other = True
either False other = other
either Unknown other = at_least_unknown other

-- false, if the other is known
abbrev pub known_false : Truth → Truth
known_false True = False
known_false False = False
known_false Unknown = Unknown

-- both sides of a range: all of it is unknown if one of them is
abbrev pub spanned : Truth → Truth → Truth
spanned True other = other
spanned False other = known_false other
spanned Unknown other = Unknown

-- a truth from whether something holds
abbrev pub truth_of : Bool → Truth
truth_of true = True
truth_of false = False

-- unknown counts as false
abbrev pub is_true : Truth → Bool
is_true True = true
is_true False = false
is_true Unknown = false

-- a fault stays
abbrev pub reversed : Outcome → Outcome
reversed (Found truth) = Found (opposite truth)
reversed Unfit = Unfit
reversed Broken = Broken

-- the first is a truth
abbrev pub joined_to : (Truth → Truth → Truth) → Truth → Outcome → Outcome
joined_to join one (Found truth) = Found (join one truth)
joined_to join one Unfit = Unfit
joined_to join one Broken = Broken

-- the first is unfit
abbrev pub worse_than_unfit : Outcome → Outcome
worse_than_unfit (Found truth) = Unfit
worse_than_unfit Unfit = Unfit
worse_than_unfit Broken = Broken

-- two truths joined; what is broken stays so, and next what is unfit
abbrev pub joined : (Truth → Truth → Truth) → Outcome → Outcome → Outcome
joined join (Found truth) other = joined_to join truth other
joined join Unfit other = worse_than_unfit other
joined join Broken other = Broken

-- found, and true
abbrev pub holds : Outcome → Bool
holds (Found truth) = is_true truth
holds Unfit = false
holds Broken = false

-- what was found; nothing is known of what is not of the grammar
abbrev pub truth_in : Outcome → Truth
truth_in (Found truth) = truth
truth_in Unfit = Unknown
truth_in Broken = Unknown

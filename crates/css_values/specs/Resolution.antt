-- The computed values of the properties of an element, whose references read one another (CSS Custom
-- Properties for Cascading Variables 1, sections 2 and 3).
use Rattle.std.specs.Prelude.{◌≡◌, ℕ, suc, ◌<◌, Bool, false, true, ◌||◌, ◌==◌, if◌then◌else◌, List, [], ◌∷◌, map, length, codes, get_or, set, bytes_eq, Option, Some, None}
use Rattle.css_syntax.specs.Escapes.{decoded}
use Rattle.css_values.specs.Registrations.{is_keyword}
use Rattle.css_values.specs.Substitution.{Value, Outcome, invalid, is, waits, Target, bad, absent, unknown, found, is_custom_name, substituted}

-- What a custom property has in place of its value, if it has any value then: where the value comes to the
-- keyword `initial`, `inherit` or `unset` alone, and where it is invalid at computed-value time.
pub record Meanings : Type 0 where
  pub initial : Option Value
  pub inherited : Option Value
  pub unset : Option Value
  pub otherwise : Option Value

-- a property: its name as written, its value, in which references may be, and what replaces that
pub record Property : Type 0 where
  pub name : List ℕ
  pub text : List ℕ
  pub instead : Meanings

-- what is known of a property: nothing yet, or its computed value, of which there is none if it is
-- invalid
pub data Known : Type 0 where
  not_yet : Known
  computed : Option Value → Known

-- how deep fallbacks may nest: brackets nest less deep
abbrev pub deepest_fallback : ℕ
deepest_fallback = 66

-- the number of the first property of this name, where the numbers begin with `n`
abbrev pub number_from : ℕ → List Property → List ℕ → Option ℕ
number_from n [] name = None
number_from n (p ∷ more) name =
    if bytes_eq (decoded p.name) name then Some n else number_from (suc n) more name

abbrev pub value_target : Option Value → Target
value_target None = absent
value_target (Some value) = found value

-- the value of a property, by its computed value: an invalid one has what replaces that
abbrev pub given_value : Property → Option Value → Option Value
given_value property None = property.instead.otherwise
given_value property (Some value) = Some value

abbrev pub known_target : Property → ℕ → Known → Target
known_target property n not_yet = unknown n
known_target property n (computed value) = value_target (given_value property value)

-- what is known of the property of this number
abbrev pub known_at : List Known → ℕ → Known
known_at stage n = get_or stage n not_yet

-- nothing replaces a value
abbrev pub no_meanings : Meanings
no_meanings = record { initial = None; inherited = None; unset = None; otherwise = None }

-- no property, as that of a number that none has
abbrev pub no_property : Property
no_property = record { name = []; text = []; instead = no_meanings }

-- the property of this number
abbrev pub property_at : List Property → ℕ → Property
property_at properties n = get_or properties n no_property

abbrev pub number_target : List Property → List Known → Option ℕ → Target
number_target properties stage None = absent
number_target properties stage (Some n) =
    known_target (property_at properties n) n (known_at stage n)

-- what a name as written names
abbrev pub named : List Property → List Known → List ℕ → Target
named properties stage name =
    if is_custom_name (decoded name) then number_target properties stage (number_from 0 properties (decoded name))
    else bad

-- what the value of the property of this number comes to, by what is known
abbrev pub comes_to : ℕ → List Property → List Known → ℕ → Outcome
comes_to limit properties stage n =
    substituted deepest_fallback limit (named properties stage) (property_at properties n).text

-- it waits for another: the first that it reads and that is not known
abbrev pub WaitsFor : ℕ → List Property → List Known → ℕ → ℕ → Type 0
WaitsFor limit properties stage n other = comes_to limit properties stage n ≡ waits other

abbrev pub is_among : List ℕ → ℕ → Bool
is_among [] n = false
is_among (m ∷ more) n = n == m || is_among more n

-- only what is known of these changes: their value becomes this one
abbrev pub Becomes : List Known → List ℕ → Option Value → List Known → Type 0
Becomes stage numbers value after =
    (length after ≡ length stage)
    × ((n : ℕ) → known_at after n ≡ (if is_among numbers n then computed value else known_at stage n))

-- the outcome is known
abbrev pub IsDone : Outcome → Type 0
IsDone invalid = Unit {0}
IsDone (is value) = Unit {0}
IsDone (waits n) = ⊥

-- what is known if these properties are invalid
abbrev pub supposing : List Known → List ℕ → List Known
supposing stage [] = stage
supposing stage (n ∷ more) = set (supposing stage more) n (computed None)

-- One property reads another that is not known: it waits for it, once some of a circle's properties
-- that it reads before are invalid.
pub record Reads (limit : ℕ) (properties : List Property) (stage : List Known) (circle : List ℕ) (n other : ℕ) : Type 0 where
  pub before : List ℕ
  pub of_circle : (m : ℕ) → is_among before m ≡ true → is_among circle m ≡ true
  pub waits_for : WaitsFor limit properties (supposing stage before) n other

-- it reads the other, or one that leads to the other
pub data LeadsTo (limit : ℕ) (properties : List Property) (stage : List Known) (circle : List ℕ) (n : ℕ) : ℕ → Type 0 where
  reads : (other : ℕ) → Reads limit properties stage circle n other
      → LeadsTo limit properties stage circle n other
  then_reads : (between other : ℕ) → LeadsTo limit properties stage circle n between
      → Reads limit properties stage circle between other
      → LeadsTo limit properties stage circle n other

-- A circle: properties that are not known, each of which leads to each, and which read no others that
-- are not known. The fallback of a reference to one of them is read too.
pub record IsCircle (limit : ℕ) (properties : List Property) (stage : List Known) (circle : List ℕ) : Type 0 where
  pub unknown : (n : ℕ) → is_among circle n ≡ true → known_at stage n ≡ not_yet
  pub each_leads : (n other : ℕ) → is_among circle n ≡ true → is_among circle other ≡ true
      → LeadsTo limit properties stage circle n other
  pub no_others : (n : ℕ) → is_among circle n ≡ true
      → IsDone (comes_to limit properties (supposing stage circle) n)

-- what replaces a value, if it is one of the keywords
abbrev pub value_instead : Meanings → Value → Option Value
value_instead instead value =
    if is_keyword (codes "initial") value.text then instead.initial
    else (if is_keyword (codes "inherit") value.text then instead.inherited
    else (if is_keyword (codes "unset") value.text then instead.unset else Some value))

-- the computed value of a property, by what its value comes to
abbrev pub kept : Property → Outcome → Option Value
kept property invalid = None
kept property (waits n) = None
kept property (is value) =
    if is_custom_name (decoded property.name) then value_instead property.instead value
    else Some value

-- How more becomes known. A property whose value reads nothing unknown gets its computed value. All
-- properties of a circle are invalid at computed-value time.
pub data Reaches (limit : ℕ) (properties : List Property) (start : List Known) : List Known → Type 0 where
  begins : Reaches limit properties start start
  computes : (stage after : List Known) (n : ℕ) → Reaches limit properties start stage
      → known_at stage n ≡ not_yet → IsDone (comes_to limit properties stage n)
      → Becomes stage (n ∷ []) (kept (property_at properties n) (comes_to limit properties stage n)) after
      → Reaches limit properties start after
  circles : (stage after : List Known) (circle : List ℕ) → Reaches limit properties start stage
      → IsCircle limit properties stage circle
      → Becomes stage circle None after
      → Reaches limit properties start after

-- nothing is known yet
abbrev pub none_known : List Property → List Known
none_known properties = map (λ p. not_yet) properties

abbrev pub IsComputed : Known → Type 0
IsComputed not_yet = ⊥
IsComputed (computed value) = Unit {0}

-- what is known once the first this many properties have computed values
abbrev pub Resolved : ℕ → List Property → ℕ → List Known → Type 0
Resolved limit properties wanted stage =
    Reaches limit properties (none_known properties) stage
    × ((n : ℕ) → n < wanted → n < length properties → IsComputed (known_at stage n))

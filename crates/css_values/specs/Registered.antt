-- Values of custom properties of which some are registered (CSS Properties and Values API 1, section 2).
use Rattle.std.specs.Prelude.{◌≡◌, ℕ, ◌+◌, Bool, false, not, if◌then◌else◌, List, [], ◌∷◌, ◌++◌, map, length, codes, Option, Some, None}
use Rattle.std.specs.List.{slice_get}
use Rattle.std.specs.Option.{option_map}
use Rattle.css_syntax.specs.Escapes.{decoded}
use Rattle.css_values.specs.Substitution.{Value}
use Rattle.css_values.specs.Registrations.{Stated, Registration}
use Rattle.css_values.specs.Resolution.{Meanings, Property, no_meanings, property_at, number_from, Known, not_yet, computed, known_at, given_value, Resolved}

-- a property for whose value nothing stands
abbrev pub bare : Stated → Property
bare stated = record { name = stated.name; text = stated.text; instead = no_meanings }

-- an initial value, or `initial`, which is none
abbrev pub initial_text : Option (List ℕ) → List ℕ
initial_text None = codes "initial"
initial_text (Some text) = text

-- the property with its initial value
abbrev pub initial_of : Registration → Stated
initial_of r = record { name = r.name; text = initial_text r.initial }

abbrev pub initials : List Registration → List Property
initials registered = map (λ r. bare (initial_of r)) registered

-- what an element has if it declares nothing: the properties that its parent has, and initial values
abbrev pub others : List Registration → List Stated → List Property
others registered handed = map bare handed ++ initials registered

-- the number of the registration of this name
abbrev pub registration_number : List Registration → List ℕ → Option ℕ
registration_number registered name = number_from 0 (initials registered) name

-- the registration of this number says that parents do not hand the property down
abbrev pub keeps_own : Option Registration → Bool
keeps_own None = false
keeps_own (Some r) = not r.inherits

-- the registration says that an invalid value is as none
abbrev pub falls_back : Option Registration → Bool
falls_back None = false
falls_back (Some r) = not r.universal

abbrev pub registration_if : List Registration → Option ℕ → Option Registration
registration_if registered None = None
registration_if registered (Some n) = slice_get registered n

-- the registration of this name
abbrev pub registration_named : List Registration → List ℕ → Option Registration
registration_named registered name = registration_if registered (registration_number registered name)

-- the number among the others of what the keyword `initial` gives
abbrev pub initial_number : List Registration → List Stated → List ℕ → Option ℕ
initial_number registered handed name =
    option_map (λ n. length handed + n) (registration_number registered name)

-- of what `inherit` gives: the value that the parent has, or else the initial value
abbrev pub inherited_number : List Registration → List Stated → List ℕ → Option ℕ
inherited_number registered handed name = number_from 0 (others registered handed) name

-- of what `unset` gives, or no declaration
abbrev pub unset_number : List Registration → List Stated → List ℕ → Option ℕ
unset_number registered handed name =
    if keeps_own (registration_named registered name) then initial_number registered handed name
    else inherited_number registered handed name

abbrev pub value_in : Known → Option Value
value_in not_yet = None
value_in (computed value) = value

abbrev pub value_if : List Known → Option ℕ → Option Value
value_if stage None = None
value_if stage (Some n) = value_in (known_at stage n)

-- what stands for a value of this name, where this is known of the others
abbrev pub meanings : List Registration → List Stated → List Known → List ℕ → Meanings
meanings registered handed known name =
    let unset = value_if known (unset_number registered handed name) in
    record {
      initial = value_if known (initial_number registered handed name);
      inherited = value_if known (inherited_number registered handed name);
      unset = unset;
      otherwise = if falls_back (registration_named registered name) then unset else None;
    }

-- a property that the element declares
abbrev pub declared : List Registration → List Stated → List Known → Stated → Property
declared registered handed known stated = record {
  name = stated.name;
  text = stated.text;
  instead = meanings registered handed known (decoded stated.name);
}

abbrev pub text_if : List Property → Option ℕ → List ℕ
text_if properties None = []
text_if properties (Some n) = (property_at properties n).text

-- what one of the others is if the element does not declare it
abbrev pub undeclared : List Registration → List Stated → Property → Property
undeclared registered handed other = bare (record {
  name = other.name;
  text = text_if (others registered handed) (unset_number registered handed (decoded other.name));
})

-- the properties of the element: those that it declares, and those that it has without
abbrev pub properties : List Registration → List Stated → List Stated → List Known → List Property
properties registered own handed known =
    map (declared registered handed known) own
    ++ map (undeclared registered handed) (others registered handed)

-- the values of these properties, by what is known of them
abbrev pub values_of : List Property → List Known → List (Option Value)
values_of [] stage = []
values_of (p ∷ more) [] = given_value p None ∷ values_of more []
values_of (p ∷ more) (known ∷ stage) = given_value p (value_in known) ∷ values_of more stage

-- The values of the properties that an element declares, whose parent has these others.
pub record AreValues (limit : ℕ) (registered : List Registration) (own handed : List Stated)
    (values : List (Option Value)) : Type 0 where
  pub at_hand : List Known
  pub handed_down : Resolved limit (others registered handed) (length (others registered handed)) at_hand
  pub stage : List Known
  pub resolved : Resolved limit (properties registered own handed at_hand) (length own) stage
  pub are : values ≡ values_of (map (declared registered handed at_hand) own) stage

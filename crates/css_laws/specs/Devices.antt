-- Which group rules hold on a device (CSS Conditional Rules 3 and 4, Media Queries 4), and what a caller says of them that asks
-- the calls for conditions.
use Rattle.std.specs.Prelude.{◌≡◌, ◌↔◌, ℕ, Bool, true, false, if◌then◌else◌, List, bytes_eq, codes, Ok, Result}
use Rattle.call_answers.specs.Outcomes.{truth_text}
use Rattle.call_answers.specs.declared.answer.CallError.{CallError}
use Rattle.css_conditions.specs.Supports.{supports}
use Rattle.css_conditions.specs.Truths.{is_true}
use Rattle.css_conditions.specs.declared.device.Device.{Device}
use Rattle.css_conditions.specs.declared.truth.Truth.TheVariants.{True}
use Rattle.css_sheet.specs.Sheets.{SheetText}
use Rattle.sheet_calls.specs.Conditions.{IsMediaCall, IsSupportsCall, is_function, is_known, media_on}
use Rattle.sheet_calls.specs.declared.conditions.DeviceNumbers.{DeviceNumbers}
use Rattle.simplecss_calls.specs.WinnerNumbers.{AreSheets, PassedSheets, is_held}
use Rattle.css_laws.specs.Conditions.{OfConditions}

abbrev pub is_media : (keyword : List ℕ) → Bool
is_media keyword = bytes_eq (codes "media") keyword

abbrev pub is_supports : (keyword : List ℕ) → Bool
is_supports keyword = bytes_eq (codes "supports") keyword

-- A group rule holds: `@media` if its media queries are true on the device; `@supports` if its condition is true where
-- the properties of these names are supported, and the selectors that can be read. No other does.
abbrev pub holds_on : Device → (properties : List (List ℕ)) → (keyword prelude : List ℕ) → Bool
holds_on device properties keyword prelude =
    if is_media keyword then is_true (media_on device prelude)
    else if is_supports keyword then supports (is_known properties) is_function prelude else false

-- A call was asked, and it is said to hold exactly if the call wrote `true`.
abbrev pub IsSaidBy : (IsCall : Result (List ℕ) CallError → Type 0) → (said : Bool) → Type 0
IsSaidBy IsCall said = (bytes : List ℕ) × IsCall (Ok bytes) × ((said ≡ true) ↔ (bytes ≡ truth_text True))

-- by what the keyword of a group rule is: `@media` and `@supports` have calls, and no other is said to hold
abbrev pub IsSaidOf : DeviceNumbers → (properties ends prelude : List ℕ) → (media supports said : Bool) → Type 0
IsSaidOf numbers properties ends prelude true supports said = IsSaidBy (IsMediaCall prelude numbers) said
IsSaidOf numbers properties ends prelude false true said = IsSaidBy (IsSupportsCall prelude properties ends) said
IsSaidOf numbers properties ends prelude false false said = said ≡ false

-- what is said of a group rule is what `simplecss_media` said of its prelude on the device of these numbers, or
-- `simplecss_supports` where the properties of these names are known
abbrev pub IsAsked : DeviceNumbers → (properties ends : List ℕ) → (says : List ℕ → List ℕ → Bool)
    → (keyword prelude : List ℕ) → Type 0
IsAsked numbers properties ends says keyword prelude =
    IsSaidOf numbers properties ends prelude (is_media keyword) (is_supports keyword) (says keyword prelude)

-- The caller has asked of each group rule of the sheets that is in no other that does not hold, and passes those that
-- hold.
abbrev pub AreAsked : DeviceNumbers → (properties ends : List ℕ) → PassedSheets → Type 0
AreAsked numbers properties ends passed =
    (sheets : List SheetText) (groups : List (List ℕ)) → AreSheets passed sheets groups
    → OfConditions (IsAsked numbers properties ends (is_held groups)) (is_held groups) sheets

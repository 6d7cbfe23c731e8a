-- What the calls for conditions must write, and when they fail.
use Rattle.std.specs.Prelude.{◌≡◌, ◌⊎◌, ℕ, Bool, false, not, ◌||◌, ◌&&◌, ◌==◌, if◌then◌else◌, List, drop, codes, Option, None, Some, Result, Ok, Err}
use Rattle.std.specs.List.{list_any}
use Rattle.std.specs.Option.{is_some}
use Rattle.std.specs.Str.{IsUtf8, is_utf8}
use Rattle.css_text.specs.AsciiBytes.{hyphen}
use Rattle.css_text.specs.Bytes.{starts_two}
use Rattle.css_syntax.specs.Tokens.{past_gap, spells}
use Rattle.css_conditions.specs.declared.device.Device.{Device}
use Rattle.css_conditions.specs.declared.device.Medium.{Medium}
use Rattle.css_conditions.specs.declared.device.Medium.TheVariants.{Screen, Print, Speech}
use Rattle.css_conditions.specs.declared.device.Pointer.{Pointer}
use Rattle.css_conditions.specs.declared.device.Pointer.TheVariants.{Missing, Coarse, Fine}
use Rattle.css_conditions.specs.declared.device.Gamut.{Gamut}
use Rattle.css_conditions.specs.declared.device.Gamut.TheVariants as gamuts
use Rattle.css_conditions.specs.declared.device.Update.{Update}
use Rattle.css_conditions.specs.declared.device.Update.TheVariants as updates
use Rattle.css_conditions.specs.declared.device.Scripting.{Scripting}
use Rattle.css_conditions.specs.declared.device.Scripting.TheVariants as scriptings
use Rattle.css_conditions.specs.declared.device.Display.{Display}
use Rattle.css_conditions.specs.declared.device.Display.TheVariants as displays
use Rattle.css_conditions.specs.declared.device.Contrast.{Contrast}
use Rattle.css_conditions.specs.declared.device.Contrast.TheVariants as contrasts
use Rattle.css_conditions.specs.declared.truth.Truth.{Truth}
use Rattle.css_conditions.specs.Truths.{truth_of}
use Rattle.css_conditions.specs.Words.{is_end}
use Rattle.css_conditions.specs.Media.{media}
use Rattle.css_conditions.specs.Supports.{supports}
use Rattle.css_conditions.specs.Devices.{device_says, has_type}
use Rattle.css_sheet.specs.RuleSelectors.{selector_of}
use Rattle.css_values.specs.Refused.{refuses}
use Rattle.call_answers.specs.declared.answer.CallError.{CallError}
use Rattle.sheet_calls.specs.declared.conditions.DeviceNumbers.{DeviceNumbers}
use Rattle.sheet_calls.specs.Functions.{is_known_word}
use Rattle.call_answers.specs.Outcomes.{truth_text}
use Rattle.call_answers.specs.Calls.{FailsFor, HasTexts, HasBadEnds, IsBrokenUtf8}

-- the type of a number
abbrev pub medium_of : ℕ → Option Medium
medium_of number =
    if number == 0 then Some Screen
    else (if number == 1 then Some Print else (if number == 2 then Some Speech else None))

-- the pointer of a number
abbrev pub pointer_of : ℕ → Option Pointer
pointer_of number =
    if number == 0 then Some Missing
    else (if number == 1 then Some Coarse else (if number == 2 then Some Fine else None))

-- the colours of a number
abbrev pub gamut_of : ℕ → Option Gamut
gamut_of number =
    if number == 0 then Some gamuts.Srgb
    else (if number == 1 then Some gamuts.P3
    else (if number == 2 then Some gamuts.Rec2020 else None))

-- how fast what is shown can change, of a number
abbrev pub update_of : ℕ → Option Update
update_of number =
    if number == 0 then Some updates.Never
    else (if number == 1 then Some updates.Slow
    else (if number == 2 then Some updates.Fast else None))

-- whether scripts run, of a number
abbrev pub scripting_of : ℕ → Option Scripting
scripting_of number =
    if number == 0 then Some scriptings.Missing
    else (if number == 1 then Some scriptings.Initial
    else (if number == 2 then Some scriptings.Enabled else None))

-- how a web application is shown, of a number
abbrev pub display_of : ℕ → Option Display
display_of number =
    if number == 0 then Some displays.Browser
    else (if number == 1 then Some displays.Minimal
    else (if number == 2 then Some displays.Standalone
    else (if number == 3 then Some displays.Fullscreen
    else (if number == 4 then Some displays.Overlay
    else (if number == 5 then Some displays.Picture
    else (if number == 6 then Some displays.Tabbed else None))))))

-- the contrast of a number
abbrev pub contrast_of : ℕ → Option Contrast
contrast_of number =
    if number == 0 then Some contrasts.Usual
    else (if number == 1 then Some contrasts.More
    else (if number == 2 then Some contrasts.Less
    else (if number == 3 then Some contrasts.Custom else None)))

-- what a device shows, and what its user prefers
abbrev pub Choices : Type 0
Choices = Gamut × Update × Scripting × Display × Contrast

-- all of them, if each is there
abbrev pub all_of :
    Option Gamut → Option Update → Option Scripting → Option Display → Option Contrast → Option Choices
all_of None update scripting display contrast = None
all_of (Some gamut) None scripting display contrast = None
all_of (Some gamut) (Some update) None display contrast = None
all_of (Some gamut) (Some update) (Some scripting) None contrast = None
all_of (Some gamut) (Some update) (Some scripting) (Some display) None = None
all_of (Some gamut) (Some update) (Some scripting) (Some display) (Some contrast) =
    Some (gamut, update, scripting, display, contrast)

-- the choices of numbers
abbrev pub choices_of : DeviceNumbers → Option Choices
choices_of numbers =
    all_of (gamut_of numbers.gamut) (update_of numbers.update) (scripting_of numbers.scripting)
    (display_of numbers.display) (contrast_of numbers.contrast)

-- the device of numbers, if its type, its pointer and its choices have one
abbrev pub device_with : DeviceNumbers → Option Medium → Option Pointer → Option Choices → Option Device
device_with numbers None pointer choices = None
device_with numbers (Some medium) None choices = None
device_with numbers (Some medium) (Some pointer) None = None
device_with numbers (Some medium) (Some pointer) (Some choices) = Some (record {
  medium = medium;
  width = numbers.width;
  height = numbers.height;
  device_width = numbers.device_width;
  device_height = numbers.device_height;
  resolution = numbers.resolution;
  color = numbers.color;
  color_index = numbers.color_index;
  monochrome = numbers.monochrome;
  gamut = choices.0;
  high_range = not (numbers.high_range == 0);
  grid = not (numbers.grid == 0);
  update = choices.1;
  scripting = choices.2;
  display = choices.3;
  dark = not (numbers.dark == 0);
  reduced_motion = not (numbers.reduced_motion == 0);
  reduced_transparency = not (numbers.reduced_transparency == 0);
  contrast = choices.4;
  forced_colors = not (numbers.forced_colors == 0);
  hover = not (numbers.hover == 0);
  pointer = pointer;
  any_hover = not (numbers.any_hover == 0);
  any_coarse = not (numbers.any_coarse == 0);
  any_fine = not (numbers.any_fine == 0);
})

abbrev pub device_of : DeviceNumbers → Option Device
device_of numbers =
    device_with numbers (medium_of numbers.medium) (pointer_of numbers.pointer) (choices_of numbers)

-- what the text says on the device
abbrev pub media_on : Device → List ℕ → Truth
media_on device text = media (has_type device) (device_says device) text

-- what a list of media queries says on a device, or why there is no answer
abbrev pub IsMediaCall : List ℕ → DeviceNumbers → Result (List ℕ) CallError → Type 0
IsMediaCall text numbers (Ok bytes) =
    IsUtf8 text × (device : Device) × (device_of numbers ≡ Some device)
    × (bytes ≡ truth_text (media_on device text))
IsMediaCall text numbers (Err failure) =
    FailsFor (device_of numbers ≡ None) (λ fault. ⊥) (¬ (IsUtf8 text)) failure

-- the name of a custom property: two hyphens, and more
abbrev pub is_custom : List ℕ → Bool
is_custom name = starts_two hyphen hyphen name && not (is_end (drop 2 name))

-- The table of values says that no browser takes the value of a property of this name. No condition is read in quirks mode.
abbrev pub is_refused : List ℕ → List ℕ → Bool
is_refused name value = is_utf8 name && refuses false name value

-- A declaration is supported if it is one of a custom property, or if its property is known, and the value is
-- not empty, nor one that no browser takes as far as the table of values says.
abbrev pub is_known : List (List ℕ) → List ℕ → List ℕ → Bool
is_known properties name value =
    is_custom name
    || not (is_end (past_gap value)) && list_any (λ property. spells property name) properties
    && not (is_refused name value)

-- the text is UTF-8, as every part of a sheet is, and a selector by the grammar of modern selectors
abbrev pub is_selector : List ℕ → Bool
is_selector text = is_utf8 text && is_some (selector_of text)

-- of functions `selector` of a selector that is read is known, and others by their words
abbrev pub is_function : List ℕ → List ℕ → Bool
is_function name arguments =
    if spells (codes "selector") name then is_selector arguments else is_known_word name arguments

-- whether a condition of `@supports` holds where these properties are known, or why there is no answer
abbrev pub IsSupportsCall : List ℕ → List ℕ → List ℕ → Result (List ℕ) CallError → Type 0
IsSupportsCall text properties ends (Ok bytes) =
    (names : List (List ℕ)) × IsUtf8 text × HasTexts properties ends names
    × (bytes ≡ truth_text (truth_of (supports (is_known names) is_function text)))
IsSupportsCall text properties ends (Err failure) =
    FailsFor (HasBadEnds properties ends) (λ fault. ⊥)
    (¬ (IsUtf8 text) ⊎ IsBrokenUtf8 properties ends) failure

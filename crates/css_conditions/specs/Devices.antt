-- A device, and what it says of features (Media Queries 4 and 5, and the Compatibility Standard for names that
-- begin with `-webkit-`).
use Rattle.std.specs.Prelude.{ℕ, suc, Bool, true, false, not, ◌||◌, ◌&&◌, ◌==◌, ◌*◌, ◌-◌, nat_lt, nat_le, if◌then◌else◌, List, [], ◌∷◌, Option, Some, None, codes}
use Rattle.css_text.specs.Reading.{before}
use Rattle.css_syntax.specs.Tokens.{past_gap, past_word, spells}
use Rattle.css_conditions.specs.declared.truth.Truth.{Truth}
use Rattle.css_conditions.specs.declared.truth.Truth.TheVariants.{Unknown}
use Rattle.css_conditions.specs.declared.truth.Comparison.{Comparison}
use Rattle.css_conditions.specs.declared.truth.Comparison.TheVariants.{Present, Is, Equal, Less, AtMost, More, AtLeast}
use Rattle.css_conditions.specs.declared.amounts.Amount.{Amount}
use Rattle.css_conditions.specs.declared.quantities.View.{View}
use Rattle.css_conditions.specs.declared.values.Measured.{Measured}
use Rattle.css_conditions.specs.declared.values.Quantity.TheVariants.{Length, Resolution, Factor, Whole, Ratio}
use Rattle.css_conditions.specs.declared.device.Device.{Device}
use Rattle.css_conditions.specs.declared.device.Medium.{Medium}
use Rattle.css_conditions.specs.declared.device.Medium.TheVariants.{Screen, Print, Speech}
use Rattle.css_conditions.specs.declared.device.Pointer.{Pointer}
use Rattle.css_conditions.specs.declared.device.Pointer.TheVariants as pointers
use Rattle.css_conditions.specs.declared.device.Contrast.{Contrast}
use Rattle.css_conditions.specs.declared.device.Contrast.TheVariants as contrasts
use Rattle.css_conditions.specs.declared.device.Gamut.{Gamut}
use Rattle.css_conditions.specs.declared.device.Gamut.TheVariants as gamuts
use Rattle.css_conditions.specs.declared.device.Update.{Update}
use Rattle.css_conditions.specs.declared.device.Update.TheVariants as updates
use Rattle.css_conditions.specs.declared.device.Scripting.{Scripting}
use Rattle.css_conditions.specs.declared.device.Scripting.TheVariants as scriptings
use Rattle.css_conditions.specs.declared.device.Display.{Display}
use Rattle.css_conditions.specs.declared.device.Display.TheVariants as displays
use Rattle.css_conditions.specs.Truths.{truth_of}
use Rattle.css_conditions.specs.Words.{is_end, past_letters}
use Rattle.css_conditions.specs.Values.{quantity_says, integer}

-- ---- words

-- the value is this word, and blanks
abbrev pub is_word : List ℕ → List ℕ → Bool
is_word word value =
    spells word (before value (past_word value)) && is_end (past_gap (past_word value))

-- the number of the word that the value is, where the first of these has the number `n`
abbrev pub word_from : ℕ → List (List ℕ) → List ℕ → Option ℕ
word_from n [] value = None
word_from n (word ∷ words) value = if is_word word value then Some n else word_from (suc n) words value

-- `(name)`
abbrev pub is_present : Comparison → Bool
is_present Present = true
is_present Is = false
is_present Equal = false
is_present Less = false
is_present AtMost = false
is_present More = false
is_present AtLeast = false

-- `(name: value)`
abbrev pub is_plain : Comparison → Bool
is_plain Present = false
is_plain Is = true
is_plain Equal = false
is_plain Less = false
is_plain AtMost = false
is_plain More = false
is_plain AtLeast = false

-- the word of this number is said, from the least number to the greatest
abbrev pub is_said : ℕ → ℕ → Option ℕ → Truth
is_said least greatest None = Unknown
is_said least greatest (Some n) = truth_of (nat_le least n && nat_le n greatest)

-- A feature whose values are words: it is there or not, and says those from the least number to the greatest.
unfoldable pub choice_says : Bool → ℕ → ℕ → List (List ℕ) → Comparison → List ℕ → Truth
choice_says there least greatest words how value =
    if is_present how then truth_of there
    else (if not (is_plain how) then Unknown else is_said least greatest (word_from 0 words value))

-- A feature whose values are words of which the first says that nothing is there.
unfoldable pub option_says : ℕ → List (List ℕ) → Comparison → List ℕ → Truth
option_says chosen words how value = choice_says (not (chosen == 0)) chosen chosen words how value

-- a number for whether something is there
unfoldable pub number_of : Bool → ℕ
number_of there = if there then 1 else 0

-- ---- the words of a device

abbrev pub pointer_number : Pointer → ℕ
pointer_number pointers.Missing = 0
pointer_number pointers.Coarse = 1
pointer_number pointers.Fine = 2

abbrev pub contrast_number : Contrast → ℕ
contrast_number contrasts.Usual = 0
contrast_number contrasts.More = 1
contrast_number contrasts.Less = 2
contrast_number contrasts.Custom = 3

abbrev pub gamut_number : Gamut → ℕ
gamut_number gamuts.Srgb = 0
gamut_number gamuts.P3 = 1
gamut_number gamuts.Rec2020 = 2

abbrev pub update_number : Update → ℕ
update_number updates.Never = 0
update_number updates.Slow = 1
update_number updates.Fast = 2

abbrev pub scripting_number : Scripting → ℕ
scripting_number scriptings.Missing = 0
scripting_number scriptings.Initial = 1
scripting_number scriptings.Enabled = 2

abbrev pub display_number : Display → ℕ
display_number displays.Browser = 0
display_number displays.Minimal = 1
display_number displays.Standalone = 2
display_number displays.Fullscreen = 3
display_number displays.Overlay = 4
display_number displays.Picture = 5
display_number displays.Tabbed = 6

-- ---- features of words

-- the pointer is a coarse one
abbrev pub is_coarse : Pointer → Bool
is_coarse pointers.Missing = false
is_coarse pointers.Coarse = true
is_coarse pointers.Fine = false

-- the pointer is a fine one
abbrev pub is_fine : Pointer → Bool
is_fine pointers.Missing = false
is_fine pointers.Coarse = false
is_fine pointers.Fine = true

-- What all pointers together say, of which one may be coarse, and one fine: all words from the number of the
-- coarser one to that of the finer one.
unfoldable pub all_pointers_say : Bool → Bool → Comparison → List ℕ → Truth
all_pointers_say coarse fine how value =
    choice_says (coarse || fine) (if coarse then 1 else 2 * number_of fine)
    (if fine then 2 else number_of coarse) (codes "none" ∷ codes "coarse" ∷ codes "fine" ∷ []) how value

-- The features of pointers: of the first one, and of all together.
unfoldable pub pointing_says : Device → List ℕ → Comparison → List ℕ → Truth
pointing_says device name how value =
    if spells (codes "hover") name
    then option_says (number_of device.hover) (codes "none" ∷ codes "hover" ∷ []) how value
    else (if spells (codes "any-hover") name
    then option_says (number_of (device.hover || device.any_hover)) (codes "none" ∷ codes "hover" ∷ []) how value
    else (if spells (codes "pointer") name
    then option_says (pointer_number device.pointer)
    (codes "none" ∷ codes "coarse" ∷ codes "fine" ∷ []) how value
    else (if spells (codes "any-pointer") name
    then all_pointers_say (is_coarse device.pointer || device.any_coarse)
    (is_fine device.pointer || device.any_fine) how value
    else Unknown)))

-- The features of how a device shows a page. What is printed has pages, and what is shown otherwise scrolls.
unfoldable pub output_says : Device → Bool → List ℕ → Comparison → List ℕ → Truth
output_says device paged name how value =
    if spells (codes "update") name
    then option_says (update_number device.update)
    (codes "none" ∷ codes "slow" ∷ codes "fast" ∷ []) how value
    else (if spells (codes "overflow-block") name
    then option_says (suc (number_of paged))
    (codes "none" ∷ codes "scroll" ∷ codes "paged" ∷ []) how value
    else (if spells (codes "overflow-inline") name
    then option_says (number_of (not paged)) (codes "none" ∷ codes "scroll" ∷ []) how value
    else (if spells (codes "color-gamut") name
    then choice_says true 0 (gamut_number device.gamut)
    (codes "srgb" ∷ codes "p3" ∷ codes "rec2020" ∷ []) how value
    else (if spells (codes "dynamic-range") name
    then choice_says true 0 (number_of device.high_range)
    (codes "standard" ∷ codes "high" ∷ []) how value
    else pointing_says device name how value))))

-- the names of the ways in which an application is shown
abbrev pub display_words : List (List ℕ)
display_words =
    codes "browser" ∷ codes "minimal-ui" ∷ codes "standalone" ∷ codes "fullscreen"
    ∷ codes "window-controls-overlay" ∷ codes "picture-in-picture" ∷ codes "tabbed" ∷ []

-- it prints
abbrev pub is_print : Medium → Bool
is_print Screen = false
is_print Print = true
is_print Speech = false

-- the way in which an application is shown
unfoldable pub display_says : ℕ → Comparison → List ℕ → Truth
display_says mode how value = choice_says true mode mode display_words how value

-- The features of what a page runs in.
unfoldable pub setting_says : Device → List ℕ → Comparison → List ℕ → Truth
setting_says device name how value =
    if spells (codes "orientation") name
    then (let wide = number_of (nat_lt device.height device.width) in
    choice_says true wide wide (codes "portrait" ∷ codes "landscape" ∷ []) how value)
    else (if spells (codes "display-mode") name
    then display_says (display_number device.display) how value
    else (if spells (codes "device-posture") name
    then choice_says true 0 0 (codes "continuous" ∷ codes "folded" ∷ []) how value
    else (if spells (codes "scripting") name
    then option_says (scripting_number device.scripting)
    (codes "none" ∷ codes "initial-only" ∷ codes "enabled" ∷ []) how value
    else output_says device (is_print device.medium) name how value)))

-- The feature of the transparency that a user prefers, and those of what a page runs in.
unfoldable pub transparency_says : Device → List ℕ → Comparison → List ℕ → Truth
transparency_says device name how value =
    if spells (codes "prefers-reduced-transparency") name
    then option_says (number_of device.reduced_transparency)
    (codes "no-preference" ∷ codes "reduce" ∷ []) how value
    else setting_says device name how value

-- The feature of the motion that a user prefers, and those after it.
unfoldable pub motion_says : Device → List ℕ → Comparison → List ℕ → Truth
motion_says device name how value =
    if spells (codes "prefers-reduced-motion") name
    then option_says (number_of device.reduced_motion)
    (codes "no-preference" ∷ codes "reduce" ∷ []) how value
    else transparency_says device name how value

-- The feature of the colours that a user prefers, and those after it.
unfoldable pub scheme_says : Device → List ℕ → Comparison → List ℕ → Truth
scheme_says device name how value =
    if spells (codes "prefers-color-scheme") name
    then choice_says true (number_of device.dark) (number_of device.dark)
    (codes "light" ∷ codes "dark" ∷ []) how value
    else motion_says device name how value

-- The features of the contrast that a user prefers, and those after them.
unfoldable pub preference_says : Device → List ℕ → Comparison → List ℕ → Truth
preference_says device name how value =
    if spells (codes "forced-colors") name
    then option_says (number_of device.forced_colors) (codes "none" ∷ codes "active" ∷ []) how value
    else (if spells (codes "prefers-contrast") name
    then option_says (contrast_number device.contrast)
    (codes "no-preference" ∷ codes "more" ∷ codes "less" ∷ codes "custom" ∷ []) how value
    else scheme_says device name how value)

-- ---- features of numbers

-- the amount is zero
abbrev pub is_zero : Amount → Bool
is_zero it = it.plus == it.minus

-- the amount is one
abbrev pub is_one : Amount → Bool
is_one it = nat_le it.minus it.plus && it.plus - it.minus == it.over

-- zero or one, compared with whether it is one
abbrev pub switched : Bool → Option Amount → Truth
switched on None = Unknown
switched on (Some it) =
    if is_zero it then truth_of (not on)
    else (if is_one it then truth_of on else Unknown)

-- a feature that is zero or one
unfoldable pub switch_says : Bool → View → Comparison → List ℕ → Truth
switch_says on view how value =
    if is_present how then truth_of on
    else (if is_plain how then switched on (integer view value) else Unknown)

-- what is seen of a page at a time
abbrev pub view_of : Device → View
view_of device = record { width = device.width; height = device.height }

-- a quantity: it is there, if it is not zero
unfoldable pub ranged_says : View → Measured → Comparison → List ℕ → Truth
ranged_says view it how value =
    if is_present how then truth_of (not (it.number == 0)) else quantity_says view it how value

-- with a bound in its name: only with a colon
unfoldable pub bound_says : View → Option Measured → Comparison → Comparison → List ℕ → Truth
bound_says view None bound how value = Unknown
bound_says view (Some it) bound how value =
    if is_plain how then quantity_says view it bound value else Unknown

-- a size of its own, or that of a page where it has none
abbrev pub own_or : ℕ → ℕ → ℕ
own_or own other = if own == 0 then other else own

-- the lengths of this name
abbrev pub length_named : Device → List ℕ → Option Measured
length_named device name =
    if spells (codes "width") name
    then Some (record { quantity = Length; number = device.width; over = 1 })
    else (if spells (codes "height") name
    then Some (record { quantity = Length; number = device.height; over = 1 })
    else (if spells (codes "device-width") name
    then Some (record { quantity = Length; number = own_or device.device_width device.width; over = 1 })
    else (if spells (codes "device-height") name
    then Some (record { quantity = Length; number = own_or device.device_height device.height; over = 1 })
    else None)))

-- the ratios of this name, and the resolution
abbrev pub ratio_named : Device → List ℕ → Option Measured
ratio_named device name =
    if spells (codes "resolution") name
    then Some (record { quantity = Resolution; number = device.resolution; over = 1 })
    else (if spells (codes "aspect-ratio") name
    then Some (record { quantity = Ratio; number = device.width; over = device.height })
    else (if spells (codes "device-aspect-ratio") name
    then Some (record {
      quantity = Ratio;
      number = own_or device.device_width device.width;
      over = own_or device.device_height device.height;
    })
    else None))

-- the integers of this name
abbrev pub integer_named : Device → List ℕ → Option Measured
integer_named device name =
    if spells (codes "color") name
    then Some (record { quantity = Whole; number = device.color; over = 1 })
    else (if spells (codes "color-index") name
    then Some (record { quantity = Whole; number = device.color_index; over = 1 })
    else (if spells (codes "monochrome") name
    then Some (record { quantity = Whole; number = device.monochrome; over = 1 })
    else None))

-- the first that is there
abbrev pub or_measured : Option Measured → Option Measured → Option Measured
or_measured None other = other
or_measured (Some it) other = Some it

-- the quantity of this name
abbrev pub measured : Device → List ℕ → Option Measured
measured device name =
    or_measured (length_named device name)
    (or_measured (ratio_named device name) (integer_named device name))

-- how many dots a pixel has, as a number
abbrev pub pixel_ratio : Device → Measured
pixel_ratio device = record { quantity = Factor; number = device.resolution; over = 1000 }

-- The features whose names begin with `-webkit-`: three for the resolution, and that elements can be moved in
-- three dimensions.
unfoldable pub old_says : Device → List ℕ → Comparison → List ℕ → Truth
old_says device name how value =
    if spells (codes "-webkit-device-pixel-ratio") name
    then ranged_says (view_of device) (pixel_ratio device) how value
    else (if spells (codes "-webkit-min-device-pixel-ratio") name
    then bound_says (view_of device) (Some (pixel_ratio device)) AtLeast how value
    else (if spells (codes "-webkit-max-device-pixel-ratio") name
    then bound_says (view_of device) (Some (pixel_ratio device)) AtMost how value
    else (if spells (codes "-webkit-transform-3d") name
    then switch_says true (view_of device) how value
    else (if spells (codes "grid") name then switch_says device.grid (view_of device) how value
    else preference_says device name how value))))

-- ---- all features

-- a feature whose name has neither `min-` nor `max-` before it
abbrev pub plain_says : Device → Option Measured → List ℕ → Comparison → List ℕ → Truth
plain_says device None name how value = old_says device name how value
plain_says device (Some it) name how value = ranged_says (view_of device) it how value

-- with what follows `max-`, if the name begins so
abbrev pub at_most_says : Device → Option (List ℕ) → List ℕ → Comparison → List ℕ → Truth
at_most_says device None name how value = plain_says device (measured device name) name how value
at_most_says device (Some base) name how value =
    bound_says (view_of device) (measured device base) AtMost how value

-- with what follows `min-`, if the name begins so
abbrev pub at_least_says : Device → Option (List ℕ) → List ℕ → Comparison → List ℕ → Truth
at_least_says device None name how value =
    at_most_says device (past_letters (codes "max-") (Some name)) name how value
at_least_says device (Some base) name how value =
    bound_says (view_of device) (measured device base) AtLeast how value

-- what the device says of a feature; it knows no others
abbrev pub device_says : Device → List ℕ → Comparison → List ℕ → Truth
device_says device name how value =
    at_least_says device (past_letters (codes "min-") (Some name)) name how value

-- the name of a type
abbrev pub medium_name : Medium → List ℕ
medium_name Screen = codes "screen"
medium_name Print = codes "print"
medium_name Speech = codes "speech"

-- the device has this type
abbrev pub has_type : Device → List ℕ → Bool
has_type device name = spells (codes "all") name || spells (medium_name device.medium) name

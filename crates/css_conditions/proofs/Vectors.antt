-- Worked texts, computed with the definitions.
-- Computes `media`, `device_says` and `supports`.
use Rattle.std.specs.Prelude.{◌≡◌, refl, true, false, codes, List, ℕ, Bool}
use Rattle.css_text.specs.Reading.{each}
use Rattle.css_syntax.specs.Tokens.{past_escape, past_comment, comment_quality, gap_part, string_part, past_string, name_part, url_part, remnant_part, past_url, past_letter, spells, token}
use Rattle.css_syntax.specs.ComponentValues.{block_of, past_open, component_value}
use Rattle.css_conditions.specs.declared.truth.Truth.{Truth}
use Rattle.css_conditions.specs.declared.truth.Truth.TheVariants.{True, Unknown}
use Rattle.css_conditions.specs.declared.device.Device.{Device}
use Rattle.css_conditions.specs.declared.device.Medium.TheVariants.{Screen}
use Rattle.css_conditions.specs.declared.device.Pointer.TheVariants as pointers
use Rattle.css_conditions.specs.declared.device.Gamut.TheVariants.{P3}
use Rattle.css_conditions.specs.declared.device.Update.TheVariants.{Fast}
use Rattle.css_conditions.specs.declared.device.Scripting.TheVariants.{Enabled}
use Rattle.css_conditions.specs.declared.device.Display.TheVariants.{Browser}
use Rattle.css_conditions.specs.declared.device.Contrast.TheVariants.{Usual}
use Rattle.css_conditions.specs.Words.{values}
use Rattle.css_conditions.specs.Conditions.{more, in_parens}
use Rattle.css_conditions.specs.Values.{quantity_says}
use Rattle.css_conditions.specs.Calculations.{operand}
use Rattle.css_conditions.specs.Devices.{choice_says, device_says, has_type, ranged_says, bound_says, old_says, preference_says, scheme_says, motion_says, transparency_says, setting_says, output_says, pointing_says}
use Rattle.css_conditions.specs.Media.{media}
use Rattle.css_conditions.specs.Supports.{supports}

-- a screen of 1,280 x 800 pixels with a mouse
abbrev screen : Device
screen = record {
  medium = Screen;
  width = 1280;
  height = 800;
  device_width = 1920;
  device_height = 1080;
  resolution = 2000;
  color = 8;
  color_index = 0;
  monochrome = 0;
  gamut = P3;
  high_range = false;
  grid = false;
  update = Fast;
  scripting = Enabled;
  display = Browser;
  dark = false;
  reduced_motion = false;
  reduced_transparency = false;
  contrast = Usual;
  forced_colors = false;
  hover = true;
  pointer = pointers.Fine;
  any_hover = true;
  any_coarse = true;
  any_fine = true;
}

abbrev said : List ℕ → Truth
said text = media (has_type screen) (device_says screen) text

-- lists of queries
pub lists :
    (said (codes " /**/ ") ≡ True)
    × (said (codes "print, SCR\\65 en") ≡ True)
    × (said (codes "not print") ≡ True)
    × (said (codes "screen and (min-width: 80em)") ≡ True)
    × (said (codes "screen or (width)") ≡ Unknown)
    × (said (codes "(width < 400px) or (2dppx <= resolution)") ≡ True)
    × (said (codes "not (foo)") ≡ Unknown)
    × (said (codes "(1280.5px > width >= foo)") ≡ Unknown)
    × (said (codes "(x 'a\n), print") ≡ Unknown)
unfolding each past_escape past_comment comment_quality gap_part string_part past_string name_part
    url_part remnant_part past_url past_letter spells token block_of past_open component_value values
    more in_parens quantity_says operand choice_says old_says preference_says scheme_says motion_says transparency_says
    setting_says output_says pointing_says ranged_says bound_says media
lists = (refl, refl, refl, refl, refl, refl, refl, refl, refl)

-- only the property `color` is known, and no function
abbrev supported : List ℕ → Bool
supported text =
    supports (λ name value. spells (codes "color") name) (λ name arguments. false) text

-- conditions of `@supports`
pub conditions :
    (supported (codes "(COLOR: red)") ≡ true)
    × (supported (codes "not (width: 1px)") ≡ true)
    × (supported (codes "(color: red) and (not f(x))") ≡ true)
    × (supported (codes "(color: red) or (color: red) and (color: red)") ≡ false)
    × (supported (codes "color: red") ≡ false)
unfolding each past_escape past_comment comment_quality gap_part string_part past_string
    name_part url_part remnant_part past_url past_letter spells token block_of past_open component_value
    values more in_parens supports
conditions = (refl, refl, refl, refl, refl)

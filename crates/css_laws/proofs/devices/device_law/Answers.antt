use Rattle.simplecss_calls.specs.WinnerNumbers.{is_held}
use Rattle.css_laws.proofs.ConditionLemmas.{parts-same}
use Rattle.css_laws.proofs.DeviceLemmas.{asked-winners, lists-same, rules-same}
use Rattle.css_laws.proofs.HeadlineLemmas.{numbers-are}
use Rattle.css_laws.proofs.devices.device_law.Goals as goal

pub returns-clause-rules : goal.returns-clause-rules
returns-clause-rules c says holds sheets agree = rules-same says holds sheets (parts-same says holds sheets agree)

pub returns-clause-lists : goal.returns-clause-lists
returns-clause-lists c says holds sheets agree = lists-same says holds sheets (parts-same says holds sheets agree)

pub returns-clause-winners : goal.returns-clause-winners
returns-clause-winners c passed limit rules lists kind before page own index numbers are marked within won of_device device
    properties ends names known texts asked =
    let found =
    numbers-are passed limit rules lists kind before page own index numbers are marked within won in (
      found.0,
      found.1,
      found.2,
      found.3,
      found.4,
      asked-winners of_device device properties ends names known texts (is_held found.1) found.0
          (asked found.0 found.1 found.2) kind page index own found.3 found.5,
    )

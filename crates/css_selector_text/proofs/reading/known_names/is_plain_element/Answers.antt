use Rattle.css_selector_text.specs.reading.KnownNames.{known_elements}
use Rattle.css_selector_text.specs.NameViews.{texts_of}
use Rattle.css_selector_text.proofs.KnownLemmas.{is_known, is_own}
use Rattle.css_selector_text.proofs.reading.known_names.is_plain_element.Goals as goal

pub returns-then-is_known_element : goal.returns-then-is_known_element
returns-then-is_known_element c =
    is_known known_elements (texts_of c.args.names.now.elements.now) c.args.name.now c.is_known_element.result
    c.is_known_element.ensures c.if-is_known_element.true

pub returns-else-is_known_element : goal.returns-else-is_known_element
returns-else-is_known_element c =
    is_own known_elements (texts_of c.args.names.now.elements.now) c.args.name.now c.is_known_element.result
    c.is_known_element.ensures c.if-is_known_element.false c.is_one_of.result c.is_one_of.ensures

use Rattle.css_selector_text.specs.reading.KnownNames.{known_states}
use Rattle.css_selector_text.specs.NameViews.{texts_of}
use Rattle.css_selector_text.proofs.KnownLemmas.{is_known, is_own}
use Rattle.css_selector_text.proofs.reading.known_names.is_state.Goals as goal

pub returns-then-is_known_state : goal.returns-then-is_known_state
returns-then-is_known_state c =
    is_known known_states (texts_of c.args.names.now.states.now) c.args.name.now c.is_known_state.result
    c.is_known_state.ensures c.if-is_known_state.true

pub returns-else-is_known_state : goal.returns-else-is_known_state
returns-else-is_known_state c =
    is_own known_states (texts_of c.args.names.now.states.now) c.args.name.now c.is_known_state.result
    c.is_known_state.ensures c.if-is_known_state.false c.is_one_of.result c.is_one_of.ensures

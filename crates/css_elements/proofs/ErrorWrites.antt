-- What is written whatever the formatter's options: the lemma of the crates below.
-- Serves Display of the errors of a tree (under every formatter).
pub use Rattle.css_text.proofs.round_trip.StyledWrites.{plain_of_styled}

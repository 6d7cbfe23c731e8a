-- What was read, printed and read again: selectors, declarations, rules and sheets.
pub mod StyledWrites

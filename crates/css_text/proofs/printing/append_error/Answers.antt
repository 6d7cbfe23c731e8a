use Rattle.css_text.proofs.printing.append_error.Goals as goal

pub returns-in-UnexpectedEndOfStream : goal.returns-in-UnexpectedEndOfStream
returns-in-UnexpectedEndOfStream c = rw c.in-UnexpectedEndOfStream.is c.write_str.ensures.ok

pub returns-in-InvalidIdent : goal.returns-in-InvalidIdent
returns-in-InvalidIdent c = rw c.in-InvalidIdent.is c.append_at.ensures

pub returns-in-InvalidComment : goal.returns-in-InvalidComment
returns-in-InvalidComment c = rw c.in-InvalidComment.is c.append_at-in-InvalidComment.ensures

pub returns-in-InvalidValue : goal.returns-in-InvalidValue
returns-in-InvalidValue c = rw c.in-InvalidValue.is c.append_at-in-InvalidValue.ensures

pub returns-in-InvalidByte : goal.returns-in-InvalidByte
returns-in-InvalidByte c = rw c.in-InvalidByte.is c.append_invalid_byte.ensures

pub returns-in-SelectorMissing : goal.returns-in-SelectorMissing
returns-in-SelectorMissing c = rw c.in-SelectorMissing.is c.write_str-in-SelectorMissing.ensures.ok

pub returns-in-UnexpectedSelector : goal.returns-in-UnexpectedSelector
returns-in-UnexpectedSelector c =
    rw c.in-UnexpectedSelector.is c.write_str-in-UnexpectedSelector.ensures.ok

pub returns-in-UnexpectedCombinator : goal.returns-in-UnexpectedCombinator
returns-in-UnexpectedCombinator c =
    rw c.in-UnexpectedCombinator.is c.write_str-in-UnexpectedCombinator.ensures.ok

pub returns-in-InvalidAttributeSelector : goal.returns-in-InvalidAttributeSelector
returns-in-InvalidAttributeSelector c =
    rw c.in-InvalidAttributeSelector.is c.write_str-in-InvalidAttributeSelector.ensures.ok

pub returns-in-InvalidLanguagePseudoClass : goal.returns-in-InvalidLanguagePseudoClass
returns-in-InvalidLanguagePseudoClass c =
    rw c.in-InvalidLanguagePseudoClass.is c.write_str-in-InvalidLanguagePseudoClass.ensures.ok

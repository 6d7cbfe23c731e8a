-- What contracts see of pieces, values and properties.
use Rattle.std.specs.Prelude.{ℕ, List, map, Option, None, if◌then◌else◌, nat_le}
use Rattle.std.specs.Option.{option_map}
use Rattle.std.specs.String.{string_bytes}
use Rattle.std.specs.Borrow.{Bor}
use Rattle.css_values.specs.declared.pieces.Piece.{Piece as ReadPiece}
use Rattle.css_values.specs.declared.pieces.Piece.TheVariants as reads
use Rattle.css_values.specs.declared.pieces.PieceAndRest.{PieceAndRest}
use Rattle.css_values.specs.declared.drafts.Draft.{Draft}
use Rattle.css_values.specs.declared.drafts.Value.{Value as StoredValue}
use Rattle.css_values.specs.declared.table.Property.{Property as StoredProperty}
use Rattle.css_values.specs.declared.registering.Registration.{Registration as StoredRegistration}
use Rattle.css_values.specs.declared.registering.Descriptors.{Descriptors as StoredDescriptors}
use Rattle.css_values.specs.declared.table.Meanings.{Meanings as StoredMeanings}
use Rattle.css_values.specs.declared.table.Declared.{Declared}
use Rattle.css_values.specs.declared.table.Named.{Named}
use Rattle.css_values.specs.declared.table.Named.TheVariants as names
use Rattle.css_values.specs.declared.table.Slot.{Slot}
use Rattle.css_values.specs.declared.table.Seen.{Seen}
use Rattle.css_values.specs.declared.table.Slot.TheVariants as slots
use Rattle.css_values.specs.Pieces.{Piece, plain, reference, broken}
use Rattle.css_values.specs.Substitution.{Value, Outcome, invalid, is, Target, bad, absent, unknown, found}
use Rattle.css_values.specs.Registrations.{Stated, Registration, Descriptors}
use Rattle.css_values.specs.Resolution.{Meanings, Property, Known, not_yet, computed}

abbrev pub piece_of : ReadPiece → Piece
piece_of (reads.Plain text) = plain text.now
piece_of (reads.Reference name fallback) = reference name.now (option_map (λ f. f.now) fallback)
piece_of reads.Broken = broken

abbrev pub read_of : PieceAndRest → Piece × List ℕ
read_of read = (piece_of read.piece, read.rest.now)

abbrev pub value_of : StoredValue → Value
value_of v = record { text = string_bytes v.text; last = v.last; replaced = v.replaced }

-- what was put together, unless something of it is invalid
abbrev pub draft_of : Draft → Outcome
draft_of d = if d.valid then is (value_of d.value) else invalid

abbrev pub stated_of : StoredProperty → Stated
stated_of p = record { name = p.name.now; text = p.text.now }

abbrev pub registration_of : StoredRegistration → Registration
registration_of r = record {
  name = r.name.now;
  universal = r.universal;
  inherits = r.inherits;
  initial = option_map (λ text. text.now) r.initial;
}

abbrev pub descriptors_text : StoredDescriptors → Descriptors
descriptors_text d = record {
  universal = d.universal;
  inherits = d.inherits;
  initial = option_map (λ text. text.now) d.initial;
}

abbrev pub borrowed_value : Option (Bor StoredValue) → Option Value
borrowed_value v = option_map (λ b. value_of b.now) v

abbrev pub meanings_of : StoredMeanings → Meanings
meanings_of m = record {
  initial = borrowed_value m.initial;
  inherited = borrowed_value m.inherited;
  unset = borrowed_value m.unset;
  otherwise = borrowed_value m.otherwise;
}

abbrev pub property_of : Declared → Property
property_of p = record { name = p.name.now; text = p.text.now; instead = meanings_of p.instead }

abbrev pub slot_of : Slot → Known
slot_of slots.Unread = not_yet
slot_of (slots.Open place) = not_yet
slot_of (slots.Computed value) = computed (option_map value_of value)

abbrev pub stage_of : List Slot → List Known
stage_of all = map slot_of all

-- what a circle sees of a property: those that were begun since this place are of the circle, and are
-- invalid
abbrev pub slot_from : ℕ → Slot → Known
slot_from from slots.Unread = not_yet
slot_from from (slots.Open place) = if nat_le from place then computed None else not_yet
slot_from from (slots.Computed value) = computed (option_map value_of value)

abbrev pub stage_from : ℕ → List Slot → List Known
stage_from from all = map (slot_from from) all

-- what is seen of properties
abbrev pub seen_of : Seen → List Known
seen_of seen = stage_from seen.from seen.slots.now

abbrev pub target_of : Named → Target
target_of names.Bad = bad
target_of names.Absent = absent
target_of (names.Unknown n) = unknown n
target_of (names.Found v) = found (value_of v.now)

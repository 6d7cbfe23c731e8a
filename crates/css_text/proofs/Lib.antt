pub mod reading
pub mod bytes
pub mod round_trip
pub mod order

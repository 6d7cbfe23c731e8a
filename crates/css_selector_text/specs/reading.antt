-- Which texts are selectors, and what is read of them.
pub mod CutLists
pub mod Directions
pub mod Defaults
pub mod Grammar
pub mod KnownNames
pub mod Numbers
pub mod Rooms
pub mod ReadSelectors
pub mod ReadViews
pub mod Readings
pub mod SearchCounts
pub mod Nested
pub mod Supported

pub mod DeclarationViews
pub mod DeclarationTokenizers
pub mod ValueStarts
pub mod internal

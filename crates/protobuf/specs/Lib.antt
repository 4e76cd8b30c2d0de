pub mod Before
pub mod Each
pub mod Field
pub mod Given
pub mod Write

pub mod Pad
pub mod Draft
pub mod Printing
pub mod PrintingLaws
pub use Rattle.vidi_io.specs as vidi_io

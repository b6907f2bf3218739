pub mod StretchLaws
pub use Rattle.run_model.specs as run_model

pub mod Text
pub mod Report
pub mod Reason
pub mod AxiReasons
pub mod DesignReasons
pub mod MapReasons
pub mod ScriptReasons
pub mod Trace
pub mod Rows
pub mod Short
pub use Rattle.run_model.specs as run_model
pub use Rattle.trace_compare.specs as trace_compare
pub use Rattle.text_page.specs.Pad as Pad
pub use Rattle.text_page.specs.Draft as Draft
pub use Rattle.text_page.specs.Printing as Printing
pub use Rattle.text_page.specs.vidi_io as vidi_io

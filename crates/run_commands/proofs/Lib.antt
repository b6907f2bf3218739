pub mod QuietTexts
pub mod PortNets
pub mod Texts
pub mod Filed
pub mod Recorded
pub use Rattle.bench_run.proofs as bench_run_lemmas
pub use Rattle.vidi_bench.proofs as vidi_bench_lemmas
pub use Rattle.vidi_recorder.proofs as vidi_recorder_lemmas

pub mod PortNets
pub mod QuietReplays
pub mod Replayed
pub use Rattle.replay_run.proofs as replay_run_lemmas
pub use Rattle.vidi_bench.proofs as vidi_bench_lemmas

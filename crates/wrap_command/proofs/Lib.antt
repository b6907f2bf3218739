pub mod Spelled
pub mod Fitted
pub mod Written
pub mod QuietWraps
pub use Rattle.vidi_bench.proofs.env_script_lemmas as env_script_lemmas
pub use Rattle.vidi_bench.proofs.net_order_lemmas as net_order_lemmas
pub use Rattle.vidi_bench.proofs.run_model_lemmas as run_model_lemmas
pub use Rattle.shim_gen.proofs.trace_model_lemmas as trace_model_lemmas
pub use Rattle.vidi_bench.proofs as vidi_bench_lemmas
pub use Rattle.vlog_print.proofs.vidi_bits_lemmas as vidi_bits_lemmas

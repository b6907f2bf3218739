pub mod WordLists
pub mod Facts
pub mod RecordFacts
pub mod ReplayFacts
pub mod WrittenFacts
pub mod WrapFacts
pub mod CommandFacts
pub mod Saying
pub mod Starting
pub use Rattle.sample_command.proofs.bench_run_lemmas as bench_run_lemmas
pub use Rattle.wrap_command.proofs.env_script_lemmas as env_script_lemmas
pub use Rattle.wrap_command.proofs.net_order_lemmas as net_order_lemmas
pub use Rattle.sample_command.proofs.replay_run_lemmas as replay_run_lemmas
pub use Rattle.sample_command.proofs.room_ledger_lemmas as room_ledger_lemmas
pub use Rattle.wrap_command.proofs.run_model_lemmas as run_model_lemmas
pub use Rattle.trace_commands.proofs.trace_code_lemmas as trace_code_lemmas
pub use Rattle.trace_commands.proofs.trace_v2_lemmas as trace_v2_lemmas
pub use Rattle.wrap_command.proofs.trace_model_lemmas as trace_model_lemmas
pub use Rattle.wrap_command.proofs.vidi_bits_lemmas as vidi_bits_lemmas
pub use Rattle.sample_command.proofs.vidi_recorder_lemmas as vidi_recorder_lemmas

use Rattle.std.proofs.Common.{◌≡◌, ◌*◌, ◌≤◌, length, sum_by}
use Rattle.room_ledger.specs.trace_model.Channel.{content_bytes}
use Rattle.trace_code_checks.proofs.room_tests.channels_of.Given as goal

abbrev pub invariant-loop : goal.invariant-loop
invariant-loop l = record { count : length l.channels ≡ l.counter; content : sum_by content_bytes l.channels ≤ 16 * l.counter }

use Rattle.std.proofs.Common.{◌≡◌, ◌-◌, length}
use Rattle.value_text.specs.Reading.{bytes_at}
use Rattle.value_text.proofs.Looping.{with_front}
use Rattle.value_text.proofs.quoted.bytes_of.Given as goal

abbrev pub invariant-loop : goal.invariant-loop
invariant-loop l = with_front l.bytes (bytes_at l.quote (length l.text - l.counter) l.rest) ≡ bytes_at l.quote (length l.text) l.text

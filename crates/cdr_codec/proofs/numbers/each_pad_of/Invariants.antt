use Rattle.std.proofs.Common.{◌≡◌, ◌≤◌, ◌-◌, length}
use Rattle.cdr_codec.specs.Reading.{pads_at}
use Rattle.cdr_codec.proofs.numbers.each_pad_of.Given as goal

abbrev pub invariant-loop : goal.invariant-loop
invariant-loop l = (l.at ≤ l.place) × (l.place ≤ length l.bytes) × (pads_at (l.count - l.counter) l.bytes l.place ≡ pads_at (l.count) l.bytes l.at)

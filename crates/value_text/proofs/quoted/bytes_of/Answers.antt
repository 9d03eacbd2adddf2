use Rattle.std.proofs.Common.{length, sym}
use Rattle.value_text.specs.Reading.{bytes_at}
use Rattle.value_text.proofs.Looping.{bytes_go_on, bytes_stop, bytes_end, bytes_out}
use Rattle.value_text.proofs.quoted.bytes_of.Goals as goal

pub returns-in-Some : goal.returns-in-Some
returns-in-Some c = bytes_end c.args.quote c.loop.bytes (length c.args.text.now) c.loop.counter c.loop.rest.now c.in-Some.after.now (bytes_at c.args.quote (length c.args.text.now) c.args.text.now) c.loop-test.true (sym c.in-Some.ensures) c.loop.invariant

pub returns-in_default-byte_of : goal.returns-in_default-byte_of
returns-in_default-byte_of c = bytes_stop c.args.quote c.loop.bytes (length c.args.text.now) c.loop.counter c.loop.rest.now (bytes_at c.args.quote (length c.args.text.now) c.args.text.now) c.loop-test.true (sym c.in_default.ensures) (sym c.in_default-byte_of.ensures) c.loop.invariant

pub loop-preserved : goal.loop-preserved
loop-preserved c = rw c.in_ok-push.ensures.ok (bytes_go_on c.args.quote c.loop.bytes (length c.args.text.now) c.loop.counter c.loop.rest.now c.in-Some-byte_of.byte c.in-Some-byte_of.after.now (bytes_at c.args.quote (length c.args.text.now) c.args.text.now) c.loop-test.true (sym c.in_default.ensures) (sym c.in-Some-byte_of.ensures) c.loop.invariant)

pub returns : goal.returns
returns c = bytes_out c.args.quote c.loop.bytes (length c.args.text.now) c.loop.counter c.loop.rest.now (bytes_at c.args.quote (length c.args.text.now) c.args.text.now) c.loop-test.false c.loop.invariant

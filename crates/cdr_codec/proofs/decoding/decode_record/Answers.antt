use Rattle.std.proofs.Common.{arith, inl, inr}
use Rattle.cdr_codec.proofs.Records.{found_if, found_always, refused_if, refused_always}
use Rattle.cdr_codec.proofs.Totals.{taken_if, taken_until}
use Rattle.cdr_codec.proofs.decoding.decode_record.Goals as goal

pub returns-clause-found : goal.returns-clause-found
returns-clause-found g c = λ sound. found_if c.args.layout.now.members sound c.args.bytes.now c.answer.result (λ i. omega (arith, c.type_inv.bytes i)) c.answer.ensures.given

pub returns-clause-only : goal.returns-clause-only
returns-clause-only g c = λ sound v fits whole. found_always c.args.layout.now.members sound c.args.bytes.now c.answer.result v c.answer.ensures.given fits whole

pub returns-clause-refused : goal.returns-clause-refused
returns-clause-refused g c = λ sound. refused_if c.args.layout.now.members sound c.args.bytes.now c.answer.result (λ i. omega (arith, c.type_inv.bytes i)) c.answer.ensures.given

pub returns-clause-always : goal.returns-clause-always
returns-clause-always g c = λ sound f r. refused_always c.args.layout.now.members sound c.args.bytes.now c.answer.result f c.answer.ensures.given r

pub returns-clause-taken : goal.returns-clause-taken
returns-clause-taken g c = λ sound. taken_if c.args.layout.now.members sound c.args.bytes.now c.answer.result c.args.steps.now c.answer.new.steps (λ i. omega (arith, c.type_inv.bytes i)) c.answer.ensures.given c.answer.ensures.taken

pub returns-clause-until : goal.returns-clause-until
returns-clause-until g c = λ sound f r. elim c.answer.ensures.taken [
  | inl memory ↦ inl memory
  | inr took ↦ inr (let total = taken_until c.args.layout.now.members sound c.args.bytes.now f r in omega (arith, took, total))
]

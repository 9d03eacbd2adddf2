-- Answers as they are replied.
use Rattle.std.proofs.Common.{◌≡◌, ℕ, [], refl}
use Rattle.pss_base.specs.declared.pid.Pid.{Pid}
use Rattle.type_layout.specs.declared.schema.Schema.{Schema}
use Rattle.type_layout.specs.Types.{PlainValue}
use Rattle.pss_machine.specs.declared.operation.Op.{Op}
use Rattle.pss_machine.specs.declared.operation.Op.TheVariants as op
use Rattle.pss_machine.specs.Operations.{plain_op}
use Rattle.pss_machine.specs.Stepping.{value_text}

-- what is no get has no value
pub no_text : (S : Schema) (o : Op) (v : PlainValue) → ((p : Pid) (i : ℕ) → o ≡ op.Get p i → ⊥) → [] ≡ value_text S (plain_op o) v
no_text S (op.Create serial home values) v other = refl
no_text S (op.FindKey home key bytes) v other = refl
no_text S (op.FindPid p) v other = refl
no_text S (op.FindShort home serial) v other = refl
no_text S (op.Exists p) v other = refl
no_text S (op.Get p i) v other = absurd (other p i refl)
no_text S (op.Set p i value) v other = refl
no_text S (op.Destroy p) v other = refl
no_text S (op.Follow p i) v other = refl
no_text S (op.Count home) v other = refl
no_text S (op.List home) v other = refl

-- What commands come to, by the words that they have.
use Rattle.std.proofs.Common.{◌≡◌, sym, subst}
use Rattle.std.specs.Prelude.{Result, IfOk}
use Rattle.pss_machine.specs.declared.command.Command.{Command}
use Rattle.pss_machine.specs.declared.reply.Reply.{Reply}
use Rattle.pss_machine.specs.Kept.{Kept}
use Rattle.connector_parts.specs.declared.parts.Parts.{Parts}
use Rattle.connector_parts.specs.Stands.{IsAt, Comes}

-- a call that may end without a reply
pub performs : {E : Type 0} (old new : Parts) (x y : Command) (result : Result Reply E) → x ≡ y → IfOk result (λ reply. (k : Kept) → IsAt old k → Comes old k y reply new) → IfOk result (λ reply. (k : Kept) → IsAt old k → Comes old k x reply new)
performs old new x y result is = subst (λ (z : Command). IfOk result (λ reply. (k : Kept) → IsAt old k → Comes old k z reply new)) (sym is)

-- a call that has a reply
pub replies : (old new : Parts) (x y : Command) (reply : Reply) → x ≡ y → ((k : Kept) → IsAt old k → Comes old k y reply new) → (k : Kept) → IsAt old k → Comes old k x reply new
replies old new x y reply is = subst (λ (z : Command). (k : Kept) → IsAt old k → Comes old k z reply new) (sym is)

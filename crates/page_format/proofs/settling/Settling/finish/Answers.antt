use Rattle.std.proofs.Common.{◌+◌, ◌∙◌, List, ap, arith, subst, sym}
use Rattle.pss_base.specs.declared.put.Put.{Put}
use Rattle.page_format.specs.Objects.{entries_left}
use Rattle.page_format.specs.Written.{AreStorable}
use Rattle.page_format.proofs.Settled.{objects_are}
use Rattle.page_format.proofs.settling.Settling.finish.Goals as goal

pub returns-in-Ok-clause-settled : goal.returns-in-Ok-clause-settled
returns-in-Ok-clause-settled c puts so_far = ap entries_left c.into_vec.ensures ∙ objects_are puts _ _ (c.in-Ok.ensures puts (c.args.self.serial + 1) (omega arith) so_far)

pub returns-in-Ok-clause-storable : goal.returns-in-Ok-clause-storable
returns-in-Ok-clause-storable c puts so_far = subst (λ (l : List Put). AreStorable (entries_left l)) (sym c.into_vec.ensures) (c.in-Ok.ensures puts (c.args.self.serial + 1) (omega arith) so_far).before.storable

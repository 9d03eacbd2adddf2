use Rattle.std.proofs.Common.{refl}
use Rattle.pss_machine.specs.Moving.{without_owner, without_transaction_of}
use Rattle.connector_parts.proofs.Goings.{accounts_alike}
use Rattle.connector_parts.proofs.parts.Parts.finish.Goals as goal

pub returns-clause-finished : goal.returns-clause-finished
returns-clause-finished g c k own tx stands = record {
  accounts = accounts_alike c.args.self.now.schema c.leave.new.self (without_owner k c.args.owner) (without_transaction_of k c.args.owner) (c.leave.ensures c.args.self.now.schema k stands.accounts) refl refl refl refl refl refl refl;
  attended = c.finish.ensures k own tx stands.attended;
}

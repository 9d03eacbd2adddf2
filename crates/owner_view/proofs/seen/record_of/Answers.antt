use Rattle.cdr_codec.proofs.Members.{if_ok}
use Rattle.owner_view.proofs.Showing.{spells}
use Rattle.owner_view.proofs.seen.record_of.Goals as goal

pub returns-in-Stored : goal.returns-in-Stored
returns-in-Stored c = if_ok c.stored_record.result _ _ (λ made tells s. tells (spells c.args.schema.now c.args.seen c.in-Stored.home c.in-Stored.bytes c.in-Stored.is c.layout_at.result.now.members c.layout_at.ensures s)) c.stored_record.ensures

use Rattle.std.proofs.Common.{List, ℕ, refl, subst}
use Rattle.pss_machine.specs.declared.level.Level.TheVariants as level
use Rattle.pss_machine.specs.declared.session.Kind.TheVariants as kind
use Rattle.pss_machine.specs.Moving.{with_owner, with_session}
use Rattle.owner_accounts.specs.Accounts.{AreAccounts}
use Rattle.pss_copies.specs.Seats.{Attends}
use Rattle.connector_parts.proofs.Bounds.{owners_left}
use Rattle.session_calls.proofs.Comings.{basic_opens}
use Rattle.session_calls.proofs.opening.open_basic.Goals as goal

pub open-requires : goal.open-requires
open-requires c = record { schema = c.args.parts.now.schema; kept = c.requires.kept; are = c.requires.at.stands.accounts; number = owners_left c.args.parts.now c.requires.kept c.requires.at }

pub returns-clause-moved : goal.returns-clause-moved
returns-clause-moved c k at =
    basic_opens c.args.parts.now _ k at refl c.args.name.now c.args.access c.in_ok-owner.owner (c.in_ok-owner.ensures.number c.args.parts.now.schema k at.stands.accounts)
    (subst (λ (n : List ℕ). AreAccounts c.args.parts.now.schema c.open.new.self (with_owner k n level.Basic)) c.in_ok-to_bytes.ensures (c.in_ok-owner.ensures.opened c.args.parts.now.schema k at.stands.accounts))
    (subst (λ (n : List ℕ). Attends (with_owner k c.args.name.now level.Basic) c.args.parts.now.attended → Attends (with_session (with_owner k c.args.name.now level.Basic) n (kind.Basic c.in_ok-owner.owner) c.args.access) c.open-2.new.self) c.in_ok-to_bytes-2.ensures
    (c.in_ok-open.ensures.opened (with_owner k c.args.name.now level.Basic)))

use Rattle.std.proofs.Common.{ℕ, ◌+◌, Option, refl, ap, subst}
use Rattle.pss_machine.specs.declared.command.Command.TheVariants as command
use Rattle.pss_machine.specs.declared.reply.Reply.TheVariants as reply
use Rattle.type_layout.specs.Schemas.{given}
use Rattle.incarnations.specs.Meaning.{AreCopies}
use Rattle.pss_machine.specs.Effects.{does, Holds}
use Rattle.pss_machine.specs.Kept.{copies_of}
use Rattle.pss_machine.specs.Deciding.{recounting, counting}
use Rattle.connector_parts.specs.Stands.{Comes}
use Rattle.connector_parts.proofs.Decisions.{no_session, found_as, replied}
use Rattle.session_calls.proofs.Moves.{with_attended}
use Rattle.session_calls.proofs.Holdings.{count_left, no_entry, recounted}
use Rattle.session_calls.proofs.holding.dup.Goals as goal

pub returns-in_default : goal.returns-in_default
returns-in_default c k at = no_session c.args.parts.now k at c.args.name.now _ (command.Dup c.args.name.now c.args.entry) (λ s session. recounting k s c.args.entry (λ count. count + 1)) refl c.as_slice.ensures (c.in_default.ensures k at.stands)

pub dup-requires : goal.dup-requires
dup-requires c = count_left c.args.parts.now c.requires.kept c.requires.at (subst AreCopies c.copies.ensures c.copies_hold.ensures) c.in-Some.found.number c.in-Some-entry_number.number

pub returns-in_default-entry_number : goal.returns-in_default-entry_number
returns-in_default-entry_number c k at =
    no_entry c.args.parts.now k at c.args.name.now c.in-Some.found (found_as k _ c.args.name.now c.in-Some.found c.as_slice.ensures (c.in-Some.ensures k at.stands)) c.args.entry c.in_default-entry_number.ensures (λ s e. does (Holds s (counting c.args.entry (e.count + 1) (copies_of k s))) (reply.Count (e.count + 1))) (command.Dup c.args.name.now c.args.entry) refl

pub returns-in-Some-dup : goal.returns-in-Some-dup
returns-in-Some-dup c k at =
    replied c.args.parts.now _ k (command.Dup c.args.name.now c.args.entry) (reply.Count c.in-Some-dup.count) (reply.Count c.from.result) (ap reply.Count c.from.ensures)
    (subst (λ (q : Option ℕ). Comes c.args.parts.now k (command.Dup c.args.name.now c.args.entry) (given q reply.NoEntry reply.Count) (with_attended c.args.parts.now c.dup.new.self)) c.in-Some-dup.is
    (subst (λ (n : ℕ). Comes c.args.parts.now k (command.Dup c.args.name.now n) (given c.dup.result reply.NoEntry reply.Count) (with_attended c.args.parts.now c.dup.new.self)) c.in-Some-entry_number.ensures
    (recounted c.args.parts.now k at c.args.name.now c.in-Some.found (found_as k _ c.args.name.now c.in-Some.found c.as_slice.ensures (c.in-Some.ensures k at.stands)) c.in-Some-entry_number.number (λ count. count + 1) (command.Dup c.args.name.now c.in-Some-entry_number.number) refl c.dup.new.self c.dup.result (c.dup.ensures.answer k at.stands.attended) (c.dup.ensures.counted k at.stands.attended))))

pub returns-in-None : goal.returns-in-None
returns-in-None c k at =
    subst (λ (q : Option ℕ). Comes c.args.parts.now k (command.Dup c.args.name.now c.args.entry) (given q reply.NoEntry reply.Count) (with_attended c.args.parts.now c.dup.new.self)) c.in-None.is
    (subst (λ (n : ℕ). Comes c.args.parts.now k (command.Dup c.args.name.now n) (given c.dup.result reply.NoEntry reply.Count) (with_attended c.args.parts.now c.dup.new.self)) c.in-Some-entry_number.ensures
    (recounted c.args.parts.now k at c.args.name.now c.in-Some.found (found_as k _ c.args.name.now c.in-Some.found c.as_slice.ensures (c.in-Some.ensures k at.stands)) c.in-Some-entry_number.number (λ count. count + 1) (command.Dup c.args.name.now c.in-Some-entry_number.number) refl c.dup.new.self c.dup.result (c.dup.ensures.answer k at.stands.attended) (c.dup.ensures.counted k at.stands.attended)))

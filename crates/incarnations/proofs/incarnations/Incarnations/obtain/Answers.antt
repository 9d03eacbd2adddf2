use Rattle.std.proofs.Common.{◌≡◌, ◌<◌, ◌+◌, ◌-◌, ◌^◌, sym, ap, ◌∙◌, subst, arith}
use Rattle.std.specs.Prelude.{IsSomeAnd, MatchOption}
use Rattle.std.specs.Option.{option_map}
use Rattle.pss_machine.specs.declared.session.View.TheVariants.{Committed}
use Rattle.incarnations.specs.Meaning.{slot, with_count, with_entry, length_of, HasNoEntry, IsNew, IsAgain}
use Rattle.incarnations.specs.Stock.{meaning_of}
use Rattle.incarnations.proofs.Seen.{entry_seen, last_seen, last_there, object_entry, object_pid}
use Rattle.incarnations.proofs.Entered.{none_for}
use Rattle.incarnations.proofs.incarnations.Incarnations.obtain.Goals as goal

pub unreachable-requires : goal.unreachable-requires
unreachable-requires c = last_there c.self.inside.stock c.args.self.now c.self.view_is c.args.session c.requires.session c.in_default.ensures

pub unreachable-requires-in_default-get : goal.unreachable-requires-in_default-get
unreachable-requires-in_default-get c = object_entry c.self.inside.stock c.self.invariant c.args.session c.args.pid Committed c.in-Some-get.number c.in-Some-get.ensures c.in_default-get.ensures

pub overflow_add-was : goal.overflow_add-was
overflow_add-was c = let small = c.requires.count c.in-Some-get.number c.in-Some-get-2.was.entry (entry_seen c.self.inside.stock c.args.self.now c.self.view_is (slot c.args.session c.in-Some-get.number) c.in-Some-get-2.was c.in-Some-get-2.ensures) (object_pid c.self.inside.stock c.self.invariant c.args.session c.args.pid Committed c.in-Some-get.number c.in-Some-get.ensures c.in-Some-get-2.was c.in-Some-get-2.ensures) in omega (arith, small)

pub enter-requires-clause-room : goal.enter-requires-clause-room
enter-requires-clause-room c =
    let size : c.in-Some.home.entries ≡ length_of c.args.self.now c.args.session =
    c.self.invariant.counts.sessions c.args.session c.in-Some.home.entries (ap (option_map (λ r. r.entries)) (sym c.in-Some.ensures)) ∙ ap (λ m. length_of m c.args.session) c.self.view_is in
    omega (arith, size, c.requires.room)

pub enter-requires-clause-number : goal.enter-requires-clause-number
enter-requires-clause-number c =
    subst (λ o. IsSomeAnd o (λ last. last < 2 ^ 32 - 1)) (last_seen c.self.inside.stock c.args.self.now c.self.view_is c.args.session c.in-Some.home c.in-Some.ensures)
    (c.requires.number (subst (λ m. HasNoEntry m c.args.session c.args.pid) c.self.view_is (none_for c.self.inside.stock c.self.invariant c.args.session c.in-Some.home (sym c.in-Some.ensures) c.args.pid (sym c.in-None.ensures))))

pub returns-in-Some-get-2-clause-ok : goal.returns-in-Some-get-2-clause-ok
returns-in-Some-get-2-clause-ok c =
    subst (λ o. MatchOption o (IsNew c.args.self.now (meaning_of c.recount.new.stock) c.args.session c.args.pid c.in-Some-get.number) (IsAgain c.args.self.now (meaning_of c.recount.new.stock) c.args.session c.args.pid c.in-Some-get.number)) (sym (entry_seen c.self.inside.stock c.args.self.now c.self.view_is (slot c.args.session c.in-Some-get.number) c.in-Some-get-2.was c.in-Some-get-2.ensures))
    (record {
      same = object_pid c.self.inside.stock c.self.invariant c.args.session c.args.pid Committed c.in-Some-get.number c.in-Some-get.ensures c.in-Some-get-2.was c.in-Some-get-2.ensures;
      is = c.recount.ensures.counted ∙ ap (λ m. with_entry m (slot c.args.session c.in-Some-get.number) (with_count (c.in-Some-get-2.was.entry.count + 1) c.in-Some-get-2.was.entry)) c.self.view_is;
    })

use Rattle.std.proofs.Common.{◌≡◌, ◌<◌, ◌-◌, inl, inr, Some, refl, sym, ap, ◌∙◌, subst, arith}
use Rattle.std.specs.Prelude.{MatchOption}
use Rattle.std.specs.Option.{option_map}
use Rattle.incarnations.specs.declared.names.Entry.{Entry}
use Rattle.incarnations.specs.Meaning.{slot, with_count, with_entry, IsReleased, IsGone}
use Rattle.incarnations.specs.Stock.{meaning_of}
use Rattle.incarnations.proofs.Seen.{entry_seen, entry_none, erased_gone}
use Rattle.incarnations.proofs.Sets.{entry_is}
use Rattle.incarnations.proofs.incarnations.Incarnations.release.Goals as goal

pub returns-then-count-gt1-clause-answer : goal.returns-then-count-gt1-clause-answer
returns-then-count-gt1-clause-answer g c = sym (ap (option_map (λ (e : Entry). e.count - 1)) (entry_seen c.self.inside.stock c.args.self.now c.self.view_is (slot c.args.session c.args.number) c.in-Some.was c.in-Some.ensures))

pub returns-then-count-gt1-clause-released : goal.returns-then-count-gt1-clause-released
returns-then-count-gt1-clause-released g c =
    subst (λ o. MatchOption o (meaning_of c.recount.new.stock ≡ c.args.self.now) (IsReleased c.args.self.now (meaning_of c.recount.new.stock) (slot c.args.session c.args.number))) (sym (entry_seen c.self.inside.stock c.args.self.now c.self.view_is (slot c.args.session c.args.number) c.in-Some.was c.in-Some.ensures))
    (inr (c.if-count-gt1.true, c.recount.ensures.counted ∙ ap (λ m. with_entry m (slot c.args.session c.args.number) (with_count (c.in-Some.was.entry.count - 1) c.in-Some.was.entry)) c.self.view_is))

pub returns-else-count-gt1-clause-answer : goal.returns-else-count-gt1-clause-answer
returns-else-count-gt1-clause-answer g c =
    let none : 0 ≡ c.in-Some.was.entry.count - 1 = omega (arith, c.if-count-gt1.false) in
    ap Some none ∙ sym (ap (option_map (λ (e : Entry). e.count - 1)) (entry_seen c.self.inside.stock c.args.self.now c.self.view_is (slot c.args.session c.args.number) c.in-Some.was c.in-Some.ensures))

pub returns-else-count-gt1-clause-released : goal.returns-else-count-gt1-clause-released
returns-else-count-gt1-clause-released g c =
    let positive : 0 < c.in-Some.was.entry.count = c.self.invariant.numbers.counts (slot c.args.session c.args.number) c.in-Some.was.entry (entry_is c.self.inside.stock c.self.invariant (slot c.args.session c.args.number) c.in-Some.was (sym c.in-Some.ensures)) in
    let one : c.in-Some.was.entry.count ≡ 1 = omega (arith, c.if-count-gt1.false, positive) in
    subst (λ o. MatchOption o (meaning_of c.erase.new.stock ≡ c.args.self.now) (IsReleased c.args.self.now (meaning_of c.erase.new.stock) (slot c.args.session c.args.number))) (sym (entry_seen c.self.inside.stock c.args.self.now c.self.view_is (slot c.args.session c.args.number) c.in-Some.was c.in-Some.ensures))
    (inl (one, subst (λ m. IsGone m (meaning_of c.erase.new.stock) (slot c.args.session c.args.number)) c.self.view_is (erased_gone c.self.inside.stock c.erase.new.stock c.erase.ensures.sound (slot c.args.session c.args.number) c.erase.ensures.erased)))

pub returns-in-None-clause-answer : goal.returns-in-None-clause-answer
returns-in-None-clause-answer g c = sym (ap (option_map (λ (e : Entry). e.count - 1)) (entry_none c.self.inside.stock c.args.self.now c.self.view_is (slot c.args.session c.args.number) c.in-None.ensures))

pub returns-in-None-clause-released : goal.returns-in-None-clause-released
returns-in-None-clause-released g c = subst (λ o. MatchOption o (c.args.self.now ≡ c.args.self.now) (IsReleased c.args.self.now c.args.self.now (slot c.args.session c.args.number))) (sym (entry_none c.self.inside.stock c.args.self.now c.self.view_is (slot c.args.session c.args.number) c.in-None.ensures)) refl

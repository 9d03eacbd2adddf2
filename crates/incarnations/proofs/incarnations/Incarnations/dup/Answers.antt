use Rattle.std.proofs.Common.{◌≡◌, ◌<◌, ◌+◌, ◌-◌, ◌^◌, refl, sym, ap, ◌∙◌, subst, arith}
use Rattle.std.specs.Prelude.{IfSome, MatchOption}
use Rattle.std.specs.Option.{option_map}
use Rattle.incarnations.specs.declared.names.Entry.{Entry}
use Rattle.incarnations.specs.Meaning.{slot, with_count, with_entry}
use Rattle.incarnations.specs.Stock.{meaning_of}
use Rattle.incarnations.proofs.Seen.{entry_seen, entry_none}
use Rattle.incarnations.proofs.incarnations.Incarnations.dup.Goals as goal

pub overflow_add-count : goal.overflow_add-count
overflow_add-count c = let small = subst (λ o. IfSome o (λ (e : Entry). e.count < 2 ^ 32 - 1)) (entry_seen c.self.inside.stock c.args.self.now c.self.view_is (slot c.args.session c.args.number) c.in-Some.was c.in-Some.ensures) c.requires in omega (arith, small)

pub returns-in-Some-clause-answer : goal.returns-in-Some-clause-answer
returns-in-Some-clause-answer c = sym (ap (option_map (λ (e : Entry). e.count + 1)) (entry_seen c.self.inside.stock c.args.self.now c.self.view_is (slot c.args.session c.args.number) c.in-Some.was c.in-Some.ensures))

pub returns-in-Some-clause-counted : goal.returns-in-Some-clause-counted
returns-in-Some-clause-counted c =
    subst (λ o. MatchOption o (meaning_of c.recount.new.stock ≡ c.args.self.now) (λ e. meaning_of c.recount.new.stock ≡ with_entry c.args.self.now (slot c.args.session c.args.number) (with_count (e.count + 1) e))) (sym (entry_seen c.self.inside.stock c.args.self.now c.self.view_is (slot c.args.session c.args.number) c.in-Some.was c.in-Some.ensures))
    (c.recount.ensures.counted ∙ ap (λ m. with_entry m (slot c.args.session c.args.number) (with_count (c.in-Some.was.entry.count + 1) c.in-Some.was.entry)) c.self.view_is)

pub returns-in-None-clause-answer : goal.returns-in-None-clause-answer
returns-in-None-clause-answer c = sym (ap (option_map (λ (e : Entry). e.count + 1)) (entry_none c.self.inside.stock c.args.self.now c.self.view_is (slot c.args.session c.args.number) c.in-None.ensures))

pub returns-in-None-clause-counted : goal.returns-in-None-clause-counted
returns-in-None-clause-counted c =
    subst (λ o. MatchOption o (c.args.self.now ≡ c.args.self.now) (λ e. c.args.self.now ≡ with_entry c.args.self.now (slot c.args.session c.args.number) (with_count (e.count + 1) e))) (sym (entry_none c.self.inside.stock c.args.self.now c.self.view_is (slot c.args.session c.args.number) c.in-None.ensures)) refl

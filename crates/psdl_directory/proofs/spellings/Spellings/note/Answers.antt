use Rattle.std.proofs.Common.{◌≡◌, ◌∙◌, ℕ, List, sym, ap, rules}
use Rattle.psdl_directory.specs.inner.Spelt.{number_in}
use Rattle.psdl_directory.proofs.Spelt.{distinct_after, kept}
use Rattle.psdl_directory.proofs.spellings.Spellings.note.Goals as goal

pub invariant_of-self : goal.invariant_of-self
invariant_of-self c =
    let same : c.in_ok-spelled-in-None.spelled.items ≡ c.args.name.now = search rules in
    record {
      distinct = distinct_after c.args.self.now.numbers c.insert.new.self c.in_ok-spelled-in-None.spelled _ c.insert.result (ap (λ (l : List ℕ). number_in c.args.self.now.numbers l) same ∙ sym c.in-None.ensures.value) (c.new-number.ensures ∙ c.len.ensures.len)
          c.insert.ensures.updates c.insert.ensures.old c.insert.ensures.len c.insert.ensures.err c.args.self.now.distinct;
    }

pub returns-in_ok-insert-in-None-clause-kept : goal.returns-in_ok-insert-in-None-clause-kept
returns-in_ok-insert-in-None-clause-kept c =
    let same : c.in_ok-spelled-in-None.spelled.items ≡ c.args.name.now = search rules in
    kept c.args.self.now.numbers c.insert.new.self c.in_ok-spelled-in-None.spelled.items _ c.in_ok-insert-in-None.ensures.updates.1 c.in_ok-insert-in-None.ensures.updates.3
    (ap (λ (l : List ℕ). number_in c.args.self.now.numbers l) same ∙ sym c.in-None.ensures.value)

use Rattle.psdl_tree.specs.Views.{constant_view}
use Rattle.std.proofs.Common.{ℕ, Option, ap, sym, ◌∙◌}
use Rattle.psdl_standings.specs.inner.TypeNodes.{type_at}
use Rattle.psdl_standings.specs.inner.TypeTables.{entry_type}
use Rattle.psdl_standings.proofs.Goings.{goes_on}
use Rattle.psdl_standings.proofs.Texted.{constant_valued, constant_untyped, constant_told, constant_nothing}
use Rattle.psdl_standings.proofs.walk.Walk.constant.Goals as goal

pub returns-in_ok-told-in-Some-clause-noted : goal.returns-in_ok-told-in-Some-clause-noted
returns-in_ok-told-in-Some-clause-noted c =
    let x = c.constant_type.new.self in
    constant_valued c.args.self.now x c.args.spot (constant_view c.args.constant.now) (type_at x.types c.in-Some.number) c.valued.new.self.faults c.in_ok-number.ensures.goes c.in_ok-number.ensures.noted
    (ap (λ (o : Option ℕ). entry_type x.types o) (sym c.in-Some.is) ∙ c.in_ok-number.ensures.is) c.in_ok-told-in-Some.ensures.noted

pub returns-in_ok-told-in-Some-clause-told : goal.returns-in_ok-told-in-Some-clause-told
returns-in_ok-told-in-Some-clause-told c =
    let x = c.constant_type.new.self in
    constant_told c.args.self.now x c.args.spot (constant_view c.args.constant.now) (type_at x.types c.in-Some.number) _ c.in_ok-number.ensures.goes (ap (λ (o : Option ℕ). entry_type x.types o) (sym c.in-Some.is) ∙ c.in_ok-number.ensures.is)
    c.in_ok-told-in-Some.ensures.told

pub returns-in_ok-assessed-in-None-clause-noted : goal.returns-in_ok-assessed-in-None-clause-noted
returns-in_ok-assessed-in-None-clause-noted c =
    let x = c.constant_type.new.self in
    constant_untyped c.args.self.now x c.args.spot (constant_view c.args.constant.now) c.assessed.new.self.faults c.in_ok-number.ensures.goes c.in_ok-number.ensures.noted (ap (λ (o : Option ℕ). entry_type x.types o) (sym c.in-None.is) ∙ c.in_ok-number.ensures.is)
    c.in_ok-assessed-in-None.ensures.noted

pub returns-in_ok-told-in-Some-clause-goes : goal.returns-in_ok-told-in-Some-clause-goes
returns-in_ok-told-in-Some-clause-goes c = goes_on c.args.self.now c.constant_type.new.self c.valued.new.self c.in_ok-number.ensures.goes c.in_ok-told-in-Some.ensures.goes

pub returns-in_ok-assessed-in-None-clause-goes : goal.returns-in_ok-assessed-in-None-clause-goes
returns-in_ok-assessed-in-None-clause-goes c = goes_on c.args.self.now c.constant_type.new.self c.assessed.new.self c.in_ok-number.ensures.goes c.in_ok-assessed-in-None.ensures.goes

pub returns-in_ok-assessed-in-None-clause-told : goal.returns-in_ok-assessed-in-None-clause-told
returns-in_ok-assessed-in-None-clause-told c =
    constant_nothing c.args.self.now c.args.spot (constant_view c.args.constant.now) (ap (λ (o : Option ℕ). entry_type c.constant_type.new.self.types o) (sym c.in-None.is) ∙ c.in_ok-number.ensures.is)

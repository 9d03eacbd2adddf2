use Rattle.psdl_rules.specs.inner.Scopes.{has_name}
use Rattle.psdl_rules.proofs.Noted.{noted_step, scope_step, scope_end}
use Rattle.psdl_rules.proofs.redefined_inside.redefined_in.Goals as goal

pub loop-identifier-preserved : goal.loop-identifier-preserved
loop-identifier-preserved c =
    let xs = c.args.identifiers.now in
    let i = c.loop-identifier.identifier-index in
    let x = c.identifier-item.result in
    let before = c.loop-identifier.invariant in
    record {
      noted = noted_step xs i x (has_name c.loop-identifier.names) (has_name c.redefined_identifier.new.names) c.loop-identifier-test.true c.identifier-item.is before.noted c.in_ok-redefined_identifier.ensures.names;
      so_far = scope_step xs i x (has_name c.loop-identifier.names) c.loop-identifier.least c.redefined_identifier.new.least _ c.loop-identifier-test.true c.identifier-item.is before.noted before.so_far c.in_ok-redefined_identifier.ensures.noted;
    }

pub returns : goal.returns
returns c = scope_end c.args.identifiers.now c.loop-identifier.identifier-index c.loop-identifier.least _ c.loop-identifier-test.false c.loop-identifier.invariant.so_far

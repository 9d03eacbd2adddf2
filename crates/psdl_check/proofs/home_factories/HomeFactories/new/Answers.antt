use Rattle.psdl_check.proofs.home_factories.HomeFactories.new.Goals as goal

pub invariant_of-result : goal.invariant_of-result
invariant_of-result c = record { rising = c.requires; had = c.in_ok-graph.ensures }

use Rattle.lock_table.specs.inner.Links.{Grows, IsReady}
use Rattle.lock_table.proofs.Added.{HaveRows}
use Rattle.lock_table.proofs.grants.make_places.Given as goal

abbrev pub invariant-loop-at : goal.invariant-loop-at
invariant-loop-at l = record { grows : Grows l.fn.links l.links; ready : IsReady l.links l.locks; rows : HaveRows l.links l.locks l.at }

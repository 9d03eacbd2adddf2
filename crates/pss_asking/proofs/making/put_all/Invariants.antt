use Rattle.type_layout.specs.Views.{plain_values}
use Rattle.pss_asking.proofs.Putting.{ArePut}
use Rattle.pss_asking.proofs.making.put_all.Given as goal

abbrev pub invariant-loop-place : goal.invariant-loop-place
invariant-loop-place l = ArePut l.numbers (plain_values l.fn.given) (plain_values l.fn.values) l.place (plain_values l.given) (plain_values l.values)

-- What may open in a bracket.
use Rattle.std.proofs.Common.{◌≡◌, ℕ, zero, suc, ◌-◌, ◌<◌, refl, arith}
use Rattle.part_readers.specs.Reading.{many}
use Rattle.psdl_syntax.specs.Productions.{expression_inside, expression_at, sequence_inside, sequence_inner_at, type_spec_at, is_inside, definition_at, definitions_inside}

pub inside_is : (d : ℕ) → 0 < d → expression_at (d - 1) ≡ expression_inside d
unfolding expression_at expression_inside
inside_is zero h = absurd (omega arith)
inside_is (suc d) h = let e : suc d - 1 ≡ d = omega arith in rw e refl

pub sequence_inside_is : (d : ℕ) → 0 < d → sequence_inner_at (d - 1) ≡ sequence_inside d
unfolding sequence_inner_at sequence_inside type_spec_at
sequence_inside_is zero h = absurd (omega arith)
sequence_inside_is (suc d) h = let e : suc d - 1 ≡ d = omega arith in rw e refl

pub definitions_inside_is : (d : ℕ) → 0 < d → many is_inside (definition_at (d - 1)) ≡ definitions_inside d
unfolding definition_at definitions_inside
definitions_inside_is zero h = absurd (omega arith)
definitions_inside_is (suc d) h = let e : suc d - 1 ≡ d = omega arith in rw e refl

-- The values of constants.
use Rattle.std.proofs.Common.{◌≡◌, false, ◌||◌, Option, refl, ◌∙◌}
use Rattle.std.specs.Prelude.{not}
use Rattle.pss_base.specs.declared.place.Place.{Place}
use Rattle.psdl_tree.specs.Trees.{Expression}
use Rattle.type_layout.specs.Schemas.{given}
use Rattle.psdl_directory.specs.declared.fault.CheckFault.{CheckFault}
use Rattle.psdl_directory.specs.declared.fault.CheckKind.TheVariants.{ConstRange}
use Rattle.psdl_directory.specs.Fault.{fault_if, lesser}
use Rattle.psdl_directory.specs.Noting.{noting}
use Rattle.psdl_standings.specs.declared.assessment.Assessment.{Assessment}
use Rattle.psdl_standings.specs.declared.body_faults.BodyFaults.{BodyFaults}
use Rattle.psdl_standings.specs.declared.range.Range.{Range as RangeNode}
use Rattle.psdl_standings.specs.declared.spot.Spot.{Spot}
use Rattle.psdl_standings.specs.declared.walk.Walk.{Walk}
use Rattle.psdl_standings.specs.Expressions.{expression_place}
use Rattle.psdl_standings.specs.Ranges.{of_value}
use Rattle.psdl_standings.specs.Values.{Assessed, is_within}
use Rattle.psdl_standings.specs.inner.Assessments.{seen}
use Rattle.psdl_standings.specs.inner.Constants.{assessed_in, with_texts, number_noted}
use Rattle.psdl_standings.specs.inner.Widths.{range_view}
use Rattle.psdl_standings.proofs.Ranging.{value_noted}

-- the operands, and then the whole by its range
pub number_by_parts : (w : Walk) (spot : Spot) (e : Expression) (r : RangeNode) (a : Assessment) (place : Place) (now : BodyFaults) (values : Option CheckFault) → place ≡ expression_place e → a ≡ seen (assessed_in w spot r.width e) → now ≡ with_texts w spot e
    → values ≡ lesser (noting now.values (fault_if (a.leaves || given a.value false (λ z. not (is_within r.least r.most z))) ConstRange place)) a.zero
    → record { names = now.names; strings = now.strings; values = values; selves = now.selves } ≡ number_noted w spot (range_view r) e
number_by_parts w spot e r a place now values is_place is_a is_now h =
    let whole : Assessed = assessed_in w spot r.width e in
    let is_values : values ≡ noting now.values (of_value (range_view r) e whole) = (rw (is_a, is_place) at h) ∙ value_noted now.values (range_view r) e whole in
    rw (is_values, is_now) refl

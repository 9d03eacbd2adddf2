-- Values that are noted by their range.
use Rattle.std.proofs.Common.{◌≡◌, ℕ, List, [], ◌∷◌, map, false, ◌||◌, Option, Some, refl, sym, ap, ◌∙◌}
use Rattle.std.specs.Prelude.{not}
use Rattle.pss_base.specs.declared.place.Place.{Place}
use Rattle.psdl_tree.specs.Trees.{Expression}
use Rattle.type_layout.specs.Schemas.{given}
use Rattle.psdl_directory.specs.declared.fault.CheckFault.{CheckFault}
use Rattle.psdl_directory.specs.declared.fault.CheckKind.TheVariants.{ConstRange, ConstZero}
use Rattle.psdl_directory.specs.Fault.{fault, fault_if, lesser, least}
use Rattle.psdl_directory.specs.Noting.{noting}
use Rattle.psdl_directory.proofs.Noting.{lesser-assoc, lesser_none, noting-append}
use Rattle.psdl_standings.specs.declared.assessment.Assessment.{Assessment}
use Rattle.psdl_standings.specs.declared.body_faults.BodyFaults.{BodyFaults}
use Rattle.psdl_standings.specs.declared.range.Range.{Range as RangeNode}
use Rattle.psdl_standings.specs.Expressions.{operands, expression_place}
use Rattle.psdl_standings.specs.Ranges.{is_out, of_value, from_one}
use Rattle.psdl_standings.specs.Standings.{Range}
use Rattle.psdl_standings.specs.Values.{Assessed, assessed, is_within}
use Rattle.psdl_standings.specs.inner.Assessments.{seen}
use Rattle.psdl_standings.specs.inner.Sights.{Scene, value_at}
use Rattle.psdl_standings.specs.inner.Walks.{noted, bounded}
use Rattle.psdl_standings.specs.inner.Widths.{range_view}

noting_from : (first : Option CheckFault) (fs : List CheckFault) → noting first fs ≡ lesser first (least fs)
noting_from first [] = sym (lesser_none first)
noting_from first (f ∷ fs) = noting_from (lesser first (Some f)) fs ∙ lesser-assoc first (Some f) (least fs)

-- of the divisions by 0 the first is enough
pub value_noted : (first : Option CheckFault) (r : Range) (e : Expression) (a : Assessed) → lesser (noting first (fault_if (is_out r a) ConstRange (expression_place e))) (least (map (fault ConstZero) a.zeros)) ≡ noting first (of_value r e a)
value_noted first r e a =
    sym (noting-append first (fault_if (is_out r a) ConstRange (expression_place e)) (map (fault ConstZero) a.zeros)
    ∙ noting_from (noting first (fault_if (is_out r a) ConstRange (expression_place e))) (map (fault ConstZero) a.zeros))

pub bound_noted : (s : Scene) (most : ℕ) (old now : BodyFaults) (e : Expression) (r : RangeNode) (a : Assessment) (place : Place) (values : Option CheckFault) → range_view r ≡ from_one most → place ≡ expression_place e
    → a ≡ seen (assessed (value_at s) (Some 64) e) → now ≡ noted s old (operands e)
    → values ≡ lesser (noting now.values (fault_if (a.leaves || given a.value false (λ z. not (is_within r.least r.most z))) ConstRange place)) a.zero
    → record { names = now.names; strings = now.strings; values = values; selves = now.selves } ≡ bounded s most old e
bound_noted s most old now e r a place values is_r is_place is_a is_now h =
    let whole : Assessed = assessed (value_at s) (Some 64) e in
    let is_values : values ≡ noting now.values (of_value (from_one most) e whole) =
    (rw (is_a, is_place) at h) ∙ value_noted now.values (range_view r) e whole ∙ ap (λ (x : Range). noting now.values (of_value x e whole)) is_r in
    rw (is_values, is_now) refl

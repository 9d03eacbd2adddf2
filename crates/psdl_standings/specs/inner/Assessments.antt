-- What a part of an expression comes to, as the program keeps it: of the divisions by 0 the first alone.
use Rattle.std.specs.Prelude.{ℕ, map, Option, Some, None, ◌||◌}
use Rattle.std.specs.Option.{option_and_then}
use Rattle.pss_base.specs.declared.place.Place.{Place}
use Rattle.psdl_tree.specs.declared.expressions.UnarySign.{UnarySign}
use Rattle.psdl_standings.specs.declared.assessment.Assessment.{Assessment}
use Rattle.psdl_directory.specs.declared.fault.CheckKind.TheVariants.{ConstZero}
use Rattle.psdl_standings.specs.declared.operator.Operator.{Operator}
use Rattle.psdl_standings.specs.Values.{Assessed, value_by, leaves_range, shifts_too_far, zero_divisor, sign_leaves, signed_by, ranged}
use Rattle.psdl_directory.specs.Fault.{fault, lesser, least}

abbrev pub seen : Assessed → Assessment
seen a = record { value = a.value; leaves = a.leaves; zero = least (map (fault ConstZero) a.zeros) }

abbrev pub operated_on : Operator → Place → Assessment → Assessment → Assessment
operated_on operator place a b = record {
  value = value_by operator a.value b.value;
  leaves = a.leaves || b.leaves || leaves_range operator a.value b.value || shifts_too_far operator b.value;
  zero = lesser a.zero (lesser b.zero (least (map (fault ConstZero) (zero_divisor operator place b.value))));
}

abbrev pub signed_on : Option ℕ → Option UnarySign → Assessment → Assessment
signed_on width None a = a
signed_on width (Some sign) a = record {
  value = option_and_then ranged (option_and_then (signed_by width sign.operator) a.value);
  leaves = a.leaves || sign_leaves width sign.operator a.value;
  zero = a.zero;
}

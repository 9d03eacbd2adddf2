-- Whether two states of an object are the same.
use Rattle.std.specs.Prelude.{Option, Some, None, Bool, true, false, ◌&&◌, not, ◌==◌}
use Rattle.std.specs.Ordering.{int_eq}
use Rattle.std.specs.Str.{bytes_eq}
use Rattle.pss_base.specs.declared.pid.Pid.{Pid}
use Rattle.type_layout.specs.Types.{PlainValue, Int, Character, Truth, Ordinal, Text, Items, Parts, Ref, PlainValues, no_values, value_and, values_of}
use Rattle.pss_catalog.specs.Catalog.{Object}

abbrev pub same_truth : Bool → Bool → Bool
same_truth true b = b
same_truth false b = not b

abbrev pub same_pid : Pid → Pid → Bool
same_pid p q = p.home == q.home && p.serial == q.serial

abbrev pub same_reference : Option Pid → Option Pid → Bool
same_reference None None = true
same_reference (Some p) (Some q) = same_pid p q
same_reference _ _ = false

abbrev mutual
  pub same_value : PlainValue → PlainValue → Bool
  same_value (Int a) (Int b) = int_eq a b
  same_value (Character a) (Character b) = a == b
  same_value (Truth a) (Truth b) = same_truth a b
  same_value (Ordinal a) (Ordinal b) = a == b
  same_value (Text a) (Text b) = bytes_eq a b
  same_value (Items a) (Items b) = same_values a b
  same_value (Parts a) (Parts b) = same_values a b
  same_value (Ref a) (Ref b) = same_reference a b
  same_value _ _ = false

  pub same_values : PlainValues → PlainValues → Bool
  same_values no_values no_values = true
  same_values (value_and v vs) (value_and w ws) = same_value v w && same_values vs ws
  same_values _ _ = false

abbrev pub same_object : Object → Object → Bool
same_object x y = x.home.0 == y.home.0 && same_values (values_of x.values) (values_of y.values)

-- both are not there, or are the same object
abbrev pub same_state : Option Object → Option Object → Bool
same_state None None = true
same_state (Some x) (Some y) = same_object x y
same_state _ _ = false

-- C15: an expression divides by 0.
use Rattle.std.specs.Prelude.{List, map}
use Rattle.psdl_directory.specs.declared.fault.CheckFault.{CheckFault}
use Rattle.psdl_directory.specs.declared.fault.CheckKind.TheVariants.{ConstZero}
use Rattle.psdl_directory.specs.Fault.{fault}
use Rattle.psdl_standings.specs.Values.{Assessed}

-- each divisor that is 0
abbrev pub by_zero : Assessed → List CheckFault
by_zero a = map (fault ConstZero) a.zeros

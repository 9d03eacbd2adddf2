-- How much there may be at once.
use Rattle.pss_machine.specs.declared.limits.Limits.{Limits}

-- the limits of the program
abbrev pub standard : Limits
standard = record { total = 67108864; sessions = 64; transactions = 64; changes = 256; entries = 65535 }

-- The program's exit status.
use Rattle.std.specs.Prelude.{ℕ}
use Rattle.pss_serving.specs.declared.status.Status.{Status}
use Rattle.pss_serving.specs.declared.status.Status.TheVariants as status

-- the exit status that tells how the call ended
abbrev pub code_of : Status → ℕ
code_of status.Ok = 0
code_of status.Usage = 1
code_of status.SchemaRefused = 2
code_of status.StoreRefused = 3
code_of status.NoMemory = 4
code_of status.ReadFault = 5
code_of status.DiskFault = 6
code_of status.SpeakFault = 7
code_of status.ScriptTooLong = 8

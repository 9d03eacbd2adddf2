-- What is known of a station of the system.
use Rattle.std.specs.Prelude.{ℕ}
use Rattle.std.specs.declared.option.Option.{Option}
use Rattle.pss_disk.specs.declared.real.RealStation.{RealStation}

-- how often its disk has failed
abbrev pub file_faults : {F O : Type 0} → RealStation F O → ℕ
file_faults s = s.disk_faults

-- how often its speech has failed
abbrev pub speech_faults : {F O : Type 0} → RealStation F O → ℕ
speech_faults s = s.speak_faults

-- the file that is its disk, where there is one
abbrev pub file_of : {F O : Type 0} → RealStation F O → Option F
file_of s = s.file

-- the writer of std that it speaks to
abbrev pub writer_of : {F O : Type 0} → RealStation F O → O
writer_of s = s.out

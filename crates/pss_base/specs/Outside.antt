-- What is known of a reader of the system.
use Rattle.std.specs.Prelude.{ℕ}
use Rattle.std.specs.declared.option.Option.{Option}
use Rattle.pss_base.specs.declared.source.StdSource.{StdSource}

-- how often it has failed
abbrev pub source_faults : {R : Type 0} → StdSource R → ℕ
source_faults s = s.faults

-- the reader of std that it reads, where there is one
abbrev pub reader_of : {R : Type 0} → StdSource R → Option R
reader_of s = s.inner

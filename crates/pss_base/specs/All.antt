-- What reading all bytes gives.
use Rattle.std.specs.Prelude.{ℕ, ◌≡◌, ◌<◌, List, length, take, Bool, true, false, Result, Ok, Err, IfSome}
use Rattle.std.specs.declared.option.Option.{Option}
use Rattle.pss_base.specs.declared.whole.ReadAll.{ReadAll}
use Rattle.pss_base.specs.declared.whole.ReadAll.TheVariants.{OverLimit, ReadFault, NoMemory}

-- why not all bytes were read
abbrev pub IsRefused : ReadAll → ℕ → Option (List ℕ) → Type 0
IsRefused (OverLimit bytes) limit left = (length bytes ≡ limit) × IfSome left (λ all. (limit < length all) × (bytes ≡ take limit all))
IsRefused ReadFault limit left = Unit {0}
IsRefused NoMemory limit left = Unit {0}

-- the source failed
abbrev pub is_faulty : Result (List ℕ) ReadAll → Bool
is_faulty (Ok bytes) = false
is_faulty (Err (OverLimit bytes)) = false
is_faulty (Err ReadFault) = true
is_faulty (Err NoMemory) = false

-- The steps that a loop has yet to take.
use Rattle.std.proofs.Common.{◌≡◌, ℕ, suc, ◌-◌, ◌+◌, ◌≤◌, ◌<◌, List, Ok, refl, arith}
use Rattle.type_layout.specs.Types.{PlainType, PlainFields, no_fields, field_and, PlainValue}
use Rattle.cdr_codec.specs.declared.fault.Stop.{Stop}
use Rattle.cdr_codec.specs.declared.fault.Stop.TheVariants as errors
use Rattle.cdr_codec.specs.Reading.{Fails, Reader, value_at}
use Rattle.cdr_codec.specs.Taken.{IsFault, Counter, times_take, value_takes, fields_take}

pub times_more : {A : Type 0} (one : Reader A) (taken : Counter) (n i : ℕ) (bytes : List ℕ) (at : ℕ) (v : A) (after old new total : ℕ) → i < n → one bytes at ≡ Ok (v, after) → new ≡ old + taken bytes at
    → old + times_take one taken (n - i) bytes at ≡ total → new + times_take one taken (n - (i + 1)) bytes after ≡ total
unfolding times_take
times_more one taken n i bytes at v after old new total lt h took so_far =
    let k : n - i ≡ suc (n - (i + 1)) = omega arith in
    let step : times_take one taken (n - i) bytes at ≡ taken bytes at + times_take one taken (n - (i + 1)) bytes after = rw (k, h) refl in
    omega (arith, step, took, so_far)

pub times_stop : {A : Type 0} (e : Stop) (one : Reader A) (taken : Counter) (n i : ℕ) (bytes : List ℕ) (at old new total : ℕ) → i < n → Fails e (one bytes at) → (IsFault e → new ≡ old + taken bytes at)
    → old + times_take one taken (n - i) bytes at ≡ total → IsFault e → new ≡ total
unfolding times_take
times_stop errors.Memory one taken n i bytes at old new total lt h took so_far fault = absurd fault
times_stop (errors.Fault f) one taken n i bytes at old new total lt h took so_far fault =
    let k : n - i ≡ suc (n - (i + 1)) = omega arith in
    let step : times_take one taken (n - i) bytes at ≡ taken bytes at + 0 = rw (k, h) refl in
    let here = took fault in
    omega (arith, step, here, so_far)

pub times_end : {A : Type 0} (one : Reader A) (taken : Counter) (n i : ℕ) (bytes : List ℕ) (at steps total : ℕ) → n ≤ i → steps + times_take one taken (n - i) bytes at ≡ total → steps ≡ total
unfolding times_take
times_end one taken n i bytes at steps total le so_far =
    let k : n - i ≡ 0 = omega arith in
    let step : times_take one taken (n - i) bytes at ≡ 0 = rw k refl in
    omega (arith, step, so_far)

-- the same over the types of the parts
pub fields_more : (name : List ℕ) (t : PlainType) (ts : PlainFields) (bytes : List ℕ) (at : ℕ) (v : PlainValue) (after old new total : ℕ) → value_at t bytes at ≡ Ok (v, after) → new ≡ old + value_takes t bytes at
    → old + fields_take (field_and name t ts) bytes at ≡ total → new + fields_take ts bytes after ≡ total
unfolding fields_take
fields_more name t ts bytes at v after old new total h took so_far =
    let step : fields_take (field_and name t ts) bytes at ≡ value_takes t bytes at + fields_take ts bytes after = rw h refl in
    omega (arith, step, took, so_far)

pub fields_stop_steps : (e : Stop) (name : List ℕ) (t : PlainType) (ts : PlainFields) (bytes : List ℕ) (at old new total : ℕ) → Fails e (value_at t bytes at) → (IsFault e → new ≡ old + value_takes t bytes at)
    → old + fields_take (field_and name t ts) bytes at ≡ total → IsFault e → new ≡ total
unfolding fields_take
fields_stop_steps errors.Memory name t ts bytes at old new total h took so_far fault = absurd fault
fields_stop_steps (errors.Fault f) name t ts bytes at old new total h took so_far fault =
    let step : fields_take (field_and name t ts) bytes at ≡ value_takes t bytes at + 0 = rw h refl in
    let here = took fault in
    omega (arith, step, here, so_far)

pub fields_end : (bytes : List ℕ) (at steps total : ℕ) → steps + fields_take no_fields bytes at ≡ total → steps ≡ total
unfolding fields_take
fields_end bytes at steps total so_far = omega (arith, so_far)

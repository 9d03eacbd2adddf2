-- What lies in memory as bytes passes the test of bytes.
use Rattle.std.proofs.Common.{ℕ, suc, ◌≡◌, ◌<◌, List, [], ◌∷◌, true, refl}
use Rattle.std.specs.Prelude.{slice_index}
use Rattle.std.proofs.lemmas.Bool.{lt-ltb}
use Rattle.type_layout.specs.Values.{are_bytes}

pub bytes_pass : (bytes : List ℕ) → ((i : ℕ) → slice_index bytes i < 256) → are_bytes bytes ≡ true
bytes_pass [] small = refl
bytes_pass (b ∷ bytes) small = rw (lt-ltb b 256 (small 0)) (bytes_pass bytes (λ i. small (suc i)))

-- The journal of a store: bodies behind gates, and what an image of the store holds there.
use Rattle.std.specs.Prelude.{ℕ, ◌≡◌, ◌≢◌, ◌⊎◌, ◌+◌, ◌<◌, ◌≤◌, List, [], ◌∷◌, ◌++◌, length, slice_get, Some, IfSome}
use Rattle.std.specs.declared.option.Option.{Option}
use Rattle.std.specs.Int.{to_be_bytes, w32, w64}
use Rattle.pss_disk.specs.Moments.{IsImage, Moment}
use Rattle.pss_disk.specs.Parts.{Stands, number4, octet_at}

-- the first octet of the journal in the store, and the first one behind it
abbrev pub journal_start : ℕ
journal_start = 262144

abbrev pub journal_end : ℕ
journal_end = 4456448

-- a gate is open where its octet is A5, and else closed, whatever it holds
abbrev pub IsOpen : List ℕ → ℕ → Type 0
IsOpen image gate = octet_at image gate ≡ 165

abbrev pub IsClosed : List ℕ → ℕ → Type 0
IsClosed image gate = octet_at image gate ≢ 165

-- the epoch and the length of a body
unfoldable pub header : ℕ → ℕ → List ℕ
header epoch len = to_be_bytes w64 epoch ++ to_be_bytes w32 len

-- an open gate, the header and the body
abbrev pub spelled : ℕ → List ℕ → List ℕ
spelled epoch body = 165 ∷ (header epoch (length body) ++ body)

-- the gate behind a record whose body has so many octets
abbrev pub behind : ℕ → ℕ → ℕ
behind gate len = gate + 13 + len

-- a record fits where its octets and the gate behind it lie in the journal
abbrev pub Fits : ℕ → ℕ → Type 0
Fits gate len = behind gate len < journal_end

-- the epoch behind a gate is this one
abbrev pub HasEpoch : ℕ → List ℕ → ℕ → Type 0
HasEpoch epoch image gate = Stands image (gate + 1) (to_be_bytes w64 epoch)

-- from a gate on the records of these bodies stand one behind the other, up to a last gate
abbrev pub Chain : ℕ → List ℕ → ℕ → List (List ℕ) → ℕ → Type 0
Chain epoch image gate [] last = last ≡ gate
Chain epoch image gate (body ∷ bodies) last = Fits gate (length body) × Stands image gate (spelled epoch body) × Chain epoch image (behind gate (length body)) bodies last

-- the gate ends the journal: it is closed, or it is the first one and has another epoch behind it
abbrev pub Ends : ℕ → List ℕ → ℕ → Type 0
Ends epoch image gate = IsClosed image gate ⊎ ((gate ≡ journal_start) × (HasEpoch epoch image gate → ⊥))

-- an open gate is wrong: it is not the first one and has another epoch behind it, or a record that does not fit
abbrev pub IsWrong : ℕ → List ℕ → ℕ → Type 0
IsWrong epoch image gate =
    IsOpen image gate × (((gate ≢ journal_start) × (HasEpoch epoch image gate → ⊥)) ⊎ (HasEpoch epoch image gate × (Fits gate (number4 image (gate + 9)) → ⊥)))

-- where the journal of an epoch ends: its last gate
pub record Position : Type 0 where
  pub end : ℕ
  pub epoch : ℕ

-- the image holds these bodies, in order, up to this position
pub record Holds (position : Position) (bodies : List (List ℕ)) (image : List ℕ) : Type 0 where
  pub chain : Chain position.epoch image journal_start bodies position.end
  pub ends : Ends position.epoch image position.end

-- behind some records of the epoch stands a gate that is wrong
pub record IsDamaged (epoch at : ℕ) (image : List ℕ) : Type 0 where
  pub bodies : List (List ℕ)
  pub chain : Chain epoch image journal_start bodies at
  pub wrong : IsWrong epoch image at

-- the image holds these bodies, and the gate behind them is there and closed
pub record IsReady (position : Position) (bodies : List (List ℕ)) (image : List ℕ) : Type 0 where
  pub chain : Chain position.epoch image journal_start bodies position.end
  pub gate : ℕ
  pub there : slice_get image position.end ≡ Some gate
  pub closed : gate ≢ 165

-- the position behind one more body of so many octets
abbrev pub advanced : ℕ → Position → Position
advanced len position = record { end = behind position.end len; epoch = position.epoch }

-- each image holds the bodies before, or these and the new one
abbrev pub HoldsEither : Position → List (List ℕ) → List ℕ → Moment → Type 0
HoldsEither position before body m =
    IfSome m.disk (λ disk. (image : List ℕ) → IsImage disk image → Holds position before image ⊎ Holds (advanced (length body) position) (before ++ body ∷ []) image)

-- where the content is told, each image is no shorter than it
abbrev pub NoShorter : Option (List ℕ) → Moment → Type 0
NoShorter content m = IfSome content (λ c. IfSome m.disk (λ disk. (image : List ℕ) → IsImage disk image → length c ≤ length image))

-- a record and the closed gate behind it
abbrev pub framed : ℕ → List ℕ → List ℕ
framed epoch body = spelled epoch body ++ 0 ∷ []

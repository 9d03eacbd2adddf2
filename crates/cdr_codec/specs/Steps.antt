-- How many steps the reading of a record takes.
use Rattle.std.specs.Prelude.{ℕ, ◌+◌, List, Bool, true, false, count_by}
use Rattle.std.proofs.Common.{inl, inr}
use Rattle.type_layout.specs.Types.{PlainMember}
use Rattle.cdr_codec.specs.declared.fault.RecordFault.{RecordFault}
use Rattle.cdr_codec.specs.Primitives.{Primitive, Pad, Letters, Piece, record_pieces, IsRefused}

-- a step is one number with the padding in front of it, or one string with its length
abbrev pub is_step : Primitive → Bool
is_step Pad = false
is_step (Letters n) = false
is_step _ = true

-- how many of the pieces are steps
abbrev pub steps_of : List Piece → ℕ
steps_of ps = count_by (λ p. is_step p.what) ps

-- a step begins with its padding, and the octets of a string begin none
abbrev pub begun : Primitive → ℕ
begun (Letters n) = 0
begun _ = 1

-- the steps up to what was refused
abbrev pub steps_until : {members : List PlainMember} {bytes : List ℕ} {f : RecordFault} → IsRefused members bytes f → ℕ
steps_until (inl r) = steps_of r.cut.front + begun r.cut.next.what
steps_until {members} (inr r) = steps_of (record_pieces members r.values)

-- How long the lines of members are, and that the lists of their references are right.
use Rattle.std.specs.Prelude.{ℕ, ◌+◌, List, [], ◌∷◌}
use Rattle.type_layout.specs.declared.home.HomeNo.{HomeNo}
use Rattle.type_layout.specs.Types.{PlainType}
use Rattle.type_layout.specs.ShapeText.{member_line}
use Rattle.psdl_standings.specs.TextLengths.{cut}
use Rattle.psdl_check.specs.declared.members.TypedMember.{TypedMember}
use Rattle.psdl_check.specs.inner.LineLengths.{line_length}
use Rattle.psdl_check.specs.inner.TypedMembers.{typed_view}

-- with the lines of members behind what stands in front, cut at each
abbrev pub members_behind : List PlainType → (ℕ → List HomeNo) → ℕ → List TypedMember → ℕ
members_behind types homes front [] = front
members_behind types homes front (m ∷ ms) = members_behind types homes (cut (front + line_length (member_line (typed_view types homes m)))) ms

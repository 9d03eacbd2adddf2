-- Members that have the numbers of their types.
use Rattle.std.proofs.Common.{◌≡◌, ℕ, zero, suc, ◌+◌, ◌<◌, List, [], ◌∷◌, length, get_or, refl, ap, ◌∙◌, arith, length-append}
use Rattle.std.specs.List.{flat_map}
use Rattle.type_layout.specs.declared.home.HomeNo.{HomeNo}
use Rattle.type_layout.specs.Types.{PlainType}
use Rattle.type_layout.specs.ShapeText.{member_line}
use Rattle.psdl_check.specs.declared.members.TypedMember.{TypedMember}
use Rattle.psdl_check.specs.inner.MemberLines.{members_behind}
use Rattle.psdl_standings.specs.SmallTypes.{IsSmall}
use Rattle.psdl_standings.specs.TextLengths.{cut}
use Rattle.psdl_check.specs.inner.SmallTypes.{HasSmallTypes}
use Rattle.psdl_check.specs.inner.TypedMembers.{type_by, typed_view, typed_views}
use Rattle.psdl_standings.proofs.Lettering.{cut_both}

-- what is cut at each line is cut in all
pub lines_whole : (types : List PlainType) (homes : ℕ → List HomeNo) (front : ℕ) (ms : List TypedMember) → members_behind types homes (cut front) ms ≡ cut (front + length (flat_map member_line (typed_views types homes ms)))
lines_whole types homes front [] = omega arith
lines_whole types homes front (m ∷ ms) =
    let line : List ℕ = member_line (typed_view types homes m) in
    let rest : List ℕ = flat_map member_line (typed_views types homes ms) in
    ap (λ (n : ℕ). members_behind types homes n ms) (cut_both front (length line)) ∙ lines_whole types homes (front + length line) ms
    ∙ ap cut (omega (arith, length-append line rest))

pub lines_behind : (types : List PlainType) (homes : ℕ → List HomeNo) (whole front : ℕ) (ms : List TypedMember) → whole ≡ cut (front + 0)
    → members_behind types homes whole ms ≡ cut (front + length (flat_map member_line (typed_views types homes ms)))
lines_behind types homes whole front ms is =
    let same : front + 0 ≡ front = omega arith in
    ap (λ (n : ℕ). members_behind types homes n ms) (is ∙ ap cut same) ∙ lines_whole types homes front ms

-- where all members have small types, each has
pub small_at : (types : List PlainType) (homes : ℕ → List HomeNo) (ms : List TypedMember) (i : ℕ) (m : TypedMember) → HasSmallTypes (typed_views types homes ms) → i < length ms → m ≡ get_or ms i m
    → IsSmall (type_by types homes m.member_type)
small_at types homes [] i m small lt is = absurd (omega (arith, lt))
small_at types homes (x ∷ ms) zero m small lt is = rw is (small 0 (typed_view types homes x) refl)
small_at types homes (x ∷ ms) (suc i) m small lt is = small_at types homes ms i m (λ j v at. small (suc j) v at) (omega (arith, lt)) is

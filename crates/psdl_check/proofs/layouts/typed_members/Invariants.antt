use Rattle.std.proofs.Common.{◌≡◌, ◌≤◌, List, ℕ, map, take, length, Some}
use Rattle.type_layout.specs.declared.home.HomeNo.{HomeNo}
use Rattle.type_layout.specs.Types.{PlainType}
use Rattle.psdl_members.specs.Bodies.{member_views}
use Rattle.psdl_standings.specs.Standings.{all_there}
use Rattle.psdl_standings.specs.States.{type_kept, AreKeptBelow}
use Rattle.psdl_check.specs.inner.TypedMembers.{typed_views, AreThere, laid}
use Rattle.psdl_check.proofs.layouts.typed_members.Given as goal

abbrev pub invariant-loop-place : goal.invariant-loop-place
invariant-loop-place l =
    record {
      within : l.place ≤ length l.members;
      views : (types : List PlainType) (homes : ℕ → List HomeNo) → all_there (laid (member_views (take l.place l.members)) (map (type_kept types homes) l.kept)) ≡ Some (typed_views types homes l.typed.items);
      there : (types count : ℕ) → AreKeptBelow types count l.kept → AreThere types count l.typed.items;
    }

-- The orders by which finite maps are keyed, and letters that tell keys apart.
use Rattle.std.specs.Prelude.{ℕ, List, [], ◌∷◌}
use Rattle.std.specs.declared.cmp.Ordering.{Ordering}
use Rattle.std.specs.Ordering.{nat_cmp}
use Rattle.std.specs.Cmp.Lexicographic.{slice_cmp}
use Rattle.pss_base.specs.declared.session.SessionNo.{SessionNo}
use Rattle.pss_machine.specs.declared.session.View.{View}
use Rattle.pss_machine.specs.declared.session.View.TheVariants.{Committed, Own, Kept}
use Rattle.incarnations.specs.declared.names.Slot.{Slot}
use Rattle.incarnations.specs.declared.names.BodyName.{BodyName}
use Rattle.incarnations.specs.declared.names.ObjectName.{ObjectName}

abbrev pub view_letters : View → List ℕ
view_letters Committed = []
view_letters (Own n) = n.0 ∷ []
view_letters (Kept s) = 0 ∷ s.0 ∷ []

abbrev pub session_letters : SessionNo → List ℕ
session_letters s = s.0 ∷ []

abbrev pub slot_letters : Slot → List ℕ
slot_letters x = x.session.0 ∷ x.number ∷ []

abbrev pub object_letters : ObjectName → List ℕ
object_letters x = x.session.0 ∷ x.pid.home ∷ x.pid.serial ∷ []

abbrev pub body_letters : BodyName → List ℕ
body_letters x = x.pid.home ∷ x.pid.serial ∷ view_letters x.view

-- sessions by their numbers
abbrev pub session_cmp : SessionNo → SessionNo → Ordering
session_cmp a b = slice_cmp nat_cmp (session_letters a) (session_letters b)

-- entries by session and number
abbrev pub slot_cmp : Slot → Slot → Ordering
slot_cmp a b = slice_cmp nat_cmp (slot_letters a) (slot_letters b)

-- objects of sessions by session and identifier
abbrev pub object_cmp : ObjectName → ObjectName → Ordering
object_cmp a b = slice_cmp nat_cmp (object_letters a) (object_letters b)

-- bodies by identifier and view
abbrev pub body_cmp : BodyName → BodyName → Ordering
body_cmp a b = slice_cmp nat_cmp (body_letters a) (body_letters b)

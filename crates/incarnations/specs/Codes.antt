-- How names and what is kept under them are stored.
use Rattle.std.specs.Prelude.{ℕ, ◌≡◌, ◌⊎◌, Option, Some, None, refl}
use Rattle.std.proofs.Common.{inl, inr}
use Rattle.std.specs.Coded.{Coded, code_by, coded×, coded⊎, coded_ℕ, coded_option}
use Rattle.pss_base.specs.declared.pid.Pid.{Pid}
use Rattle.pss_base.specs.declared.session.SessionNo.{SessionNo}
use Rattle.pss_machine.specs.declared.session.View.{View}
use Rattle.pss_machine.specs.declared.session.View.TheVariants.{Committed, Own, Kept}
use Rattle.std.specs.Prelude.{List}
use Rattle.type_layout.specs.Types.{PlainValue}
use Rattle.type_layout.specs.Codes.{record_code}
use Rattle.link_pool.specs.Names.{row_code, col_code, node_code}
use Rattle.link_pool.specs.declared.names.Row.{Row}
use Rattle.link_pool.specs.declared.names.Col.{Col}
use Rattle.link_pool.specs.declared.names.Node.{Node}
use Rattle.incarnations.specs.declared.names.BodyName.{BodyName}
use Rattle.incarnations.specs.declared.names.ObjectName.{ObjectName}
use Rattle.incarnations.specs.declared.names.SessionRecord.{SessionRecord}
use Rattle.incarnations.specs.declared.names.BodyPlace.{BodyPlace}
use Rattle.incarnations.specs.declared.names.BodyRecord.{BodyRecord}
use Rattle.incarnations.specs.declared.names.Slot.{Slot}
use Rattle.incarnations.specs.declared.names.Entry.{Entry}
use Rattle.incarnations.specs.declared.names.EntryRecord.{EntryRecord}

abbrev pub session_code : Coded SessionNo
session_code = code_by ℕ coded_ℕ (λ s. s.0) (λ n. record { 0 = n }) (λ _. refl)

abbrev pub pid_code : Coded Pid
pid_code = code_by (ℕ × ℕ) (coded× coded_ℕ coded_ℕ) (λ p. (p.home, p.serial)) (λ q. record { home = q.0; serial = q.1 }) (λ _. refl)

abbrev pub slot_code : Coded Slot
slot_code = code_by (SessionNo × ℕ) (coded× session_code coded_ℕ) (λ x. (x.session, x.number)) (λ q. record { session = q.0; number = q.1 }) (λ _. refl)

-- a view as the sum of its kinds
abbrev pub kind_of_view : View → Option (ℕ ⊎ ℕ)
kind_of_view Committed = None
kind_of_view (Own n) = Some (inl n.0)
kind_of_view (Kept s) = Some (inr s.0)

abbrev pub view_of_kind : Option (ℕ ⊎ ℕ) → View
view_of_kind None = Committed
view_of_kind (Some k) = by_sum k
  where
    by_sum : ℕ ⊎ ℕ → View
    by_sum (inl n) = Own (record { 0 = n })
    by_sum (inr n) = Kept (record { 0 = n })

pub view_again : (v : View) → view_of_kind (kind_of_view v) ≡ v
view_again Committed = refl
view_again (Own n) = refl
view_again (Kept s) = refl

abbrev pub view_code : Coded View
view_code = code_by (Option (ℕ ⊎ ℕ)) (coded_option (coded⊎ coded_ℕ coded_ℕ)) kind_of_view view_of_kind view_again

abbrev pub entry_code : Coded Entry
entry_code = code_by (Pid × (ℕ × Option View)) (coded× pid_code (coded× coded_ℕ (coded_option view_code))) (λ e. (e.pid, (e.count, e.view))) (λ q. record { pid = q.0; count = q.1.0; view = q.1.1 }) (λ _. refl)

abbrev pub entry_record_code : Coded EntryRecord
entry_record_code = code_by (Entry × Node) (coded× entry_code node_code) (λ r. (r.entry, r.node)) (λ q. record { entry = q.0; node = q.1 }) (λ _. refl)

abbrev pub session_record_code : Coded SessionRecord
session_record_code =
    code_by (Col × (Row × (ℕ × (ℕ × ℕ)))) (coded× col_code (coded× row_code (coded× coded_ℕ (coded× coded_ℕ coded_ℕ)))) (λ r. (r.col, (r.row, (r.last, (r.entries, r.attached)))))
    (λ q. record { col = q.0; row = q.1.0; last = q.1.1.0; entries = q.1.1.1.0; attached = q.1.1.1.1 }) (λ _. refl)

abbrev pub object_code : Coded ObjectName
object_code = code_by (SessionNo × Pid) (coded× session_code pid_code) (λ x. (x.session, x.pid)) (λ q. record { session = q.0; pid = q.1 }) (λ _. refl)

abbrev pub body_name_code : Coded BodyName
body_name_code = code_by (Pid × View) (coded× pid_code view_code) (λ x. (x.pid, x.view)) (λ q. record { pid = q.0; view = q.1 }) (λ _. refl)

abbrev pub body_place_code : Coded BodyPlace
body_place_code = code_by (Row × ℕ) (coded× row_code coded_ℕ) (λ r. (r.row, r.entries)) (λ q. record { row = q.0; entries = q.1 }) (λ _. refl)

abbrev pub body_record_code : Coded BodyRecord
body_record_code = code_by (BodyPlace × List PlainValue) (coded× body_place_code record_code) (λ r. (r.place, r.value)) (λ q. record { place = q.0; value = q.1 }) (λ _. refl)

-- Following a member of which it is known to what it refers.
use Rattle.std.specs.Prelude.{ℕ, ◌≡◌, Option, Some}
use Rattle.std.specs.List.{slice_get}
use Rattle.pss_base.specs.declared.owner.OwnerNo.{OwnerNo}
use Rattle.pss_base.specs.declared.pid.Pid.{Pid}
use Rattle.type_layout.specs.declared.schema.Schema.{Schema}
use Rattle.type_layout.specs.Types.{Ref}
use Rattle.pss_catalog.specs.Catalog.{Object, Catalog}
use Rattle.pss_machine.specs.Alone.{object_of}
use Rattle.pss_machine.specs.Operations.{Follow, Ask}
use Rattle.pss_machine.specs.Owners.{Owners, view}
use Rattle.storage_home.specs.declared.parts.Parts.{Parts as Homes}
use Rattle.tx_session.specs.Owners.{MayAct}

-- the member of the object refers to this one, or to none
pub record RefersTo (M : Catalog) (p : Pid) (member : ℕ) (to : Option Pid) : Type 0 where
  pub object : Object
  pub there : object_of M p ≡ Some object
  pub refers : slice_get object.values member ≡ Some (Ref to)

-- an owner may follow a member of the object, which refers to this one, or to none, in what the owner sees
pub record MayFollow (S : Schema) (homes : Homes) (owners : Owners) (n : OwnerNo) (p : Pid) (to : Option Pid) : Type 0 where
  pub member : ℕ
  pub act : MayAct S homes owners n (Ask (Follow p member))
  pub refers : RefersTo (view act.sees.catalog act.sees.owner) p member to

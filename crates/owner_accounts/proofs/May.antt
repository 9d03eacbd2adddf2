-- What owners may do.
use Rattle.std.proofs.Common.{ℕ, ◌≡◌, ◌<◌, Option, Some, ap, ◌∙◌, arith}
use Rattle.std.specs.Prelude.{unwrap_or}
use Rattle.std.specs.FinMap.{get, len}
use Rattle.pss_base.specs.declared.owner.OwnerNo.{OwnerNo}
use Rattle.pss_base.specs.declared.pid.Pid.{Pid}
use Rattle.type_layout.specs.declared.schema.Schema.{Schema}
use Rattle.pss_catalog.specs.Catalog.{Object, IsUnique}
use Rattle.pss_catalog.proofs.Uniqueness.{found_over}
use Rattle.pss_machine.specs.Changes.{listed}
use Rattle.pss_machine.specs.Operations.{PlainOp}
use Rattle.pss_machine.specs.Owners.{Owners, view}
use Rattle.pss_laws.proofs.Nets.{last_listed}
use Rattle.owner_view.specs.Seen.{Fits}
use Rattle.owner_view.specs.Homes.{fits_sound}
use Rattle.tx_session.specs.Owners.{owners_in, MaySee, MayAct}
use Rattle.tx_session.specs.Following.{MayFollow as OwnerFollows}
use Rattle.owner_accounts.specs.declared.accounts.Accounts.{Accounts}
use Rattle.owner_accounts.specs.Steps.{IsOwner, MayStep, MayFollow}
use Rattle.owner_accounts.proofs.Runs.{sound_at, fine_at, keeping_at}

module _ {S : Schema} {a : Accounts} {n : OwnerNo} (by : IsOwner S a n) where
  pub there : get (owners_in a.owners) n.0 ≡ Some by.owner
  there = ap (λ (o : Owners). get o n.0) by.are.owners ∙ by.there

  pub fits_at : (s : ℕ) (x : Object) → get by.owner.changes s ≡ Some (Some x) → Fits S x
  fits_at s x at =
      let fine = (fine_at S by.limits by.kept by.reached).views n.0 by.owner by.there s x (found_over by.kept.catalog (listed by.owner.changes) s ∙ ap (λ o. unwrap_or o (get by.kept.catalog s)) (last_listed by.owner.changes s ∙ at)) in
      fits_sound S x (fine.home, fine.fits)

  abbrev pub may_see : MaySee S a.homes (owners_in a.owners) n
  may_see = record { catalog = by.kept.catalog; owner = by.owner; kept = by.are.catalog; there = there; fits = fits_at }

  pub unique_at : IsUnique S (view by.kept.catalog by.owner)
  unique_at = ((sound_at S by.limits by.kept by.reached).each n.0 by.owner by.there).unique

  pub few_at : len by.owner.changes < 4294967295
  few_at = omega (arith, (keeping_at S by.limits by.kept by.reached).few n.0 by.owner by.there, by.reached.changes)

abbrev pub may_act : {S : Schema} {a : Accounts} {n : OwnerNo} {op : PlainOp} (m : MayStep S a n op) → MayAct S a.homes (owners_in a.owners) n op
may_act m = record { sees = may_see m.by; fits_op = m.fits; unique = unique_at m.by; few = few_at m.by }

abbrev pub may_follow : {S : Schema} {a : Accounts} {n : OwnerNo} {p : Pid} {to : Option Pid} (m : MayFollow S a n p to) → OwnerFollows S a.homes (owners_in a.owners) n p to
may_follow m = record { member = m.member; act = may_act m.step; refers = m.refers }

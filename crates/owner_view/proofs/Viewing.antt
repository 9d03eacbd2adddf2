-- What a view has at a serial.
use Rattle.std.proofs.Common.{◌≡◌, ℕ, false, ◌==◌, List, Option, Some, None, sym, ap, ◌∙◌}
use Rattle.std.specs.Prelude.{unwrap_or, nat_eq}
use Rattle.pss_base.specs.declared.pid.Pid.{Pid}
use Rattle.type_layout.specs.declared.home.HomeNo.{HomeNo}
use Rattle.type_layout.specs.declared.key.KeyNo.{KeyNo}
use Rattle.type_layout.specs.Schemas.{given}
use Rattle.owner_view.specs.Seen.{IsShown, home_seen}
use Rattle.owner_view.proofs.Showing.{home_shown}
use Rattle.std.specs.FinMap.{get}
use Rattle.type_layout.specs.declared.schema.Schema.{Schema}
use Rattle.pss_catalog.specs.Catalog.{Object, Catalog, has}
use Rattle.pss_machine.specs.Changes.{Changes}
use Rattle.owner_view.specs.declared.seen.Seen.{Seen}
use Rattle.owner_view.specs.declared.view.View.{View}
use Rattle.owner_view.specs.Views.{seen_with, IsHolder, IsOwnHolder}
use Rattle.owner_view.specs.Stored.{Sees, Shows, IsSeenAt}
use Rattle.owner_view.proofs.Holding.{seen_at}

-- what is known without regard to keys
abbrev pub shows_of : {C : Type 0} {shows : C → Schema → Catalog → Type 0} {view : View C} → Sees shows view → Shows shows view
shows_of v = record { catalog = v.catalog; sound = v.sound; shown = v.shown; fits = v.fits }

-- what was not changed is seen as it was committed
pub untouched : (S : Schema) (M : Catalog) (c : Changes) (s : ℕ) (o : Option Seen) → get c s ≡ None → IsSeenAt S M s o → IsSeenAt S (seen_with M c) s o
untouched S M c s None is none = seen_at M c s ∙ ap (λ o. unwrap_or o (get M s)) is ∙ none
untouched S M c s (Some seen) is there = (there.0, seen_at M c s ∙ ap (λ o. unwrap_or o (get M s)) is ∙ there.1, there.2, there.3)

-- what was changed is seen as it is now
pub touched : (M : Catalog) (c : Changes) (s : ℕ) (state : Option Object) → get c s ≡ Some state → get (seen_with M c) s ≡ state
touched M c s state is = seen_at M c s ∙ ap (λ o. unwrap_or o (get M s)) is

pub has_seen : (S : Schema) (M : Catalog) (pid : Pid) (seen : Seen) (home : HomeNo) → home ≡ home_seen seen → IsSeenAt S M pid.serial (Some seen) → nat_eq home.0 pid.home ≡ has M pid
has_seen S M pid seen home is there =
    let same : home ≡ there.0.home = is ∙ home_shown S seen (record { object = there.0; fits = there.2; is = there.3 }) in
    ap (λ (h : HomeNo). nat_eq h.0 pid.home) same ∙ sym (ap (λ o. given o false (λ (x : Object). x.home.0 == pid.home)) there.1)

-- a changed object that holds a key is its holder in the view
pub own_holds : (S : Schema) (M : Catalog) (c : Changes) (k : KeyNo) (bytes : List ℕ) (s : ℕ) → IsOwnHolder S c k bytes (Some s) → IsHolder S (seen_with M c) k bytes (Some s)
own_holds S M c k bytes s own = (own.0, touched M c s (Some own.0) own.1, own.2)

abbrev pub shown_at : (S : Schema) (V : Catalog) (s : ℕ) (seen : Seen) → IsSeenAt S V s (Some seen) → IsShown S seen
shown_at S V s seen there = record { object = there.0; fits = there.2; is = there.3 }

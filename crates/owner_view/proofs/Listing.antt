-- The first objects of a view, from those that were committed.
use Rattle.std.proofs.Common.{◌≡◌, Bool, List, [], ◌∷◌, Option, Some, None, refl, ap, ◌∙◌}
use Rattle.std.specs.Prelude.{if◌then◌else◌}
use Rattle.pss_base.specs.declared.pid.Pid.{Pid}
use Rattle.pss_catalog.specs.Catalog.{Object, Catalog, pid_of, pids_where, without, placed}
use Rattle.pss_catalog.specs.Changes.{Change, over, with_state}
use Rattle.pss_catalog.proofs.Listing.{listed_without, listed_with}

-- ---- one change more

-- the list without the serial, and with the object where it passes
abbrev pub changed_list : (Object → Bool) → Change → List Pid → List Pid
changed_list test c pids = by c.state
  where
    by : Option Object → List Pid
    by None = without c.serial pids
    by (Some object) = if test object then placed (pid_of (c.serial, object)) (without c.serial pids) else without c.serial pids

-- each change after the other
abbrev pub changed_lists : (Object → Bool) → List Change → List Pid → List Pid
changed_lists test [] pids = pids
changed_lists test (c ∷ cs) pids = changed_lists test cs (changed_list test c pids)

pub listed_after : (test : Object → Bool) (M : Catalog) (cs : List Change) → pids_where test (over M cs) ≡ changed_lists test cs (pids_where test M)
listed_after test M [] = refl
listed_after test M (c ∷ cs) = listed_after test (with_state M c.serial c.state) cs ∙ ap (changed_lists test cs) (one c.state)
  where
    one : (state : Option Object) → pids_where test (with_state M c.serial state) ≡ changed_list test (record { serial = c.serial; state = state }) (pids_where test M)
    one None = listed_without test M c.serial
    one (Some object) = listed_with test M c.serial object

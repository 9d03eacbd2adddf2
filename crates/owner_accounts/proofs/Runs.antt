-- What holds where a run has come.
use Rattle.std.proofs.Common.{◌≡◌, [], ◌∷◌, ◌++◌, Some, None, sym, ap, ◌∙◌, subst}
use Rattle.std.specs.Ordering.{nat_cmp}
use Rattle.std.specs.FinMap.{get-empty}
use Rattle.type_layout.specs.declared.schema.Schema.{Schema}
use Rattle.pss_machine.specs.declared.limits.Limits.{Limits}
use Rattle.pss_machine.specs.declared.command.Command.{Command}
use Rattle.pss_machine.specs.Owners.{Owner}
use Rattle.pss_machine.specs.Kept.{Kept}
use Rattle.pss_machine.specs.Deciding.{decision}
use Rattle.pss_machine.specs.Moving.{moved}
use Rattle.pss_machine.specs.Run.{Machine, Says, first}
use Rattle.pss_machine.proofs.Running.{run_append}
use Rattle.pss_laws.specs.Sound.{IsSound}
use Rattle.pss_laws.proofs.Turns.{run_sound, first_sound, good_given}
use Rattle.pss_laws.proofs.Fine.{Fine, all_fine}
use Rattle.pss_laws.proofs.Storing.{Keeping, run_keeping}
use Rattle.owner_accounts.specs.Reached.{IsReached}

no_owner : {A : Type 0} (owner : Owner) → None ≡ Some owner → A
no_owner owner e = absurd (cc)

module _ (S : Schema) (limits : Limits) (k : Kept) (r : IsReached S limits k) where
  first_is : IsSound S (first r.catalog r.next).kept
  first_is = first_sound S r.catalog r.next r.good.unique (good_given S r.catalog r.next r.good)

  pub sound_at : IsSound S k
  sound_at = subst (IsSound S) (sym r.is) (run_sound S limits r.lines (first r.catalog r.next) first_is)

  pub fine_at : Fine S limits k.catalog k.next k.owners
  fine_at = subst (λ (j : Kept). Fine S limits j.catalog j.next j.owners) (sym r.is) (all_fine S limits r.catalog r.next r.lines r.sound r.total r.good)

  pub keeping_at : Keeping limits k.catalog k.owners
  keeping_at =
      subst (λ (j : Kept). Keeping limits j.catalog j.owners) (sym r.is)
      (run_keeping S limits r.lines (first r.catalog r.next) first_is (record { homes = λ i x e. no_owner x (sym (get-empty nat_cmp i) ∙ e); few = λ i x e. no_owner x (sym (get-empty nat_cmp i) ∙ e) }))

  -- a command leads on
  pub reached_on : (command : Command) → IsReached S limits (moved k (decision S limits k command).effect)
  reached_on command = record {
    sound = r.sound;
    total = r.total;
    changes = r.changes;
    catalog = r.catalog;
    next = r.next;
    good = r.good;
    lines = r.lines ++ Says command ∷ [];
    is = ap (λ (j : Kept). moved j (decision S limits j command).effect) r.is ∙ sym (ap (λ (q : Machine). q.kept) (run_append S limits (first r.catalog r.next) r.lines (Says command ∷ [])));
  }

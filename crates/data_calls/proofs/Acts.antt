-- Sessions that are found, as they act for owners.
use Rattle.std.proofs.Common.{◌≡◌, ℕ, List, Some, None, sym, ap, ◌∙◌}
use Rattle.std.specs.FinMap.{get}
use Rattle.pss_base.specs.declared.session.SessionNo.{SessionNo}
use Rattle.pss_machine.specs.declared.reply.Reply.TheVariants as reply
use Rattle.pss_machine.specs.Sessions.{acts_for}
use Rattle.pss_machine.specs.Kept.{Kept}
use Rattle.pss_copies.specs.Ruled.{IsOwned}
use Rattle.connector_parts.specs.declared.parts.Parts.{Parts}
use Rattle.pss_session.specs.declared.register.Found.{Found}
use Rattle.connector_parts.specs.Stands.{IsAt}
use Rattle.connector_parts.specs.Found.{IsFound}
use Rattle.connector_parts.proofs.Bounds.{own_at}
use Rattle.data_calls.specs.declared.acting.Acting.{Acting}
use Rattle.data_calls.specs.Acting.{ActsFor, IsNamed, IsIdle}
use Rattle.data_calls.proofs.Actors.{acts_owned, acts_open, acts_with, idle_session}

module _ (c : Parts) (k : Kept) (at : IsAt c k) (name : List ℕ) (found : Found) (is : IsFound k name found) where
  pub is_acting : (acting : Acting) → ActsFor is.session found acting → IsNamed k name acting
  is_acting acting acts =
      let of = acts_owned is.session acting.owner acts.acts in
      let owned : IsOwned k.owners is.session acting.owner = (own_at c k at).each found.number.0 is.session acting.owner is.there of in
      record {
        is = record {
          session = is.session;
          there = ap (λ (s : SessionNo). get k.sessions s.0) acts.number ∙ is.there;
          access_is = sym is.access_is ∙ sym acts.access_is;
          owner = owned.owner;
          owner_there = owned.there;
          acts_is = acts.acts;
          acts = acts_with k.owners is.session acting.owner owned.owner acts.acts owned.there;
          of = of;
          basic_is = acts.basic_is;
          level = owned.kind ∙ acts.basic_is;
          goes_on = acts_open is.session acting.owner acts.acts;
        };
        named = is.named ∙ ap (λ (s : SessionNo). Some (s.0, is.session)) (sym acts.number);
      }

  -- it acts for nobody
  pub is_idle : acts_for is.session ≡ None → IsIdle c k name reply.NoTx
  is_idle idle asked = idle_session c.schema c.limits k name asked found.number is.session is.named idle

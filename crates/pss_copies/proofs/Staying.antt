-- An entry that stands on a body already stays there.
use Rattle.std.proofs.Common.{◌≡◌, ℕ, ◌==◌, Bool, true, false, cond, Option, Some, None, IsSome, refl, sym, ap, ◌∙◌, subst, inl, inr}
use Rattle.std.specs.Prelude.{◌⊎◌, if◌then◌else◌}
use Rattle.std.specs.Option.{option_map}
use Rattle.std.specs.FinMap.{get, insert}
use Rattle.std.proofs.lemmas.Bool.{eq-eqb}
use Rattle.pss_base.specs.declared.session.SessionNo.{SessionNo}
use Rattle.type_layout.specs.Schemas.{given}
use Rattle.pss_machine.specs.Copies.{Entry as PlainEntry, entry_numbered, at_entry, with_stand, is_attached, stand_in, attached}
use Rattle.pss_machine.specs.Kept.{Kept, copies_of}
use Rattle.pss_machine.specs.Moving.{seen_in}
use Rattle.pss_machine.proofs.Maps.{same_or_apart}
use Rattle.pss_machine.proofs.Logic.{none_some}
use Rattle.incarnations.specs.declared.names.Entry.{Entry}
use Rattle.incarnations.specs.Meaning.{AreCopies, entry_at}
use Rattle.pss_copies.specs.declared.parts.Parts.{Parts}
use Rattle.pss_copies.specs.Told.{entry_told, IsTold, AreTold}
use Rattle.pss_copies.specs.Seats.{Attends, seated_at}
use Rattle.pss_copies.proofs.Numbered.{numbered_at}
use Rattle.pss_copies.proofs.Entered.{apart_test, told_put}
use Rattle.pss_copies.proofs.Held.{told_at, copies_there}

module _ (k : Kept) (a : Parts) (s : SessionNo) (n : ℕ) (f : PlainEntry) (are : AreCopies a.copies) (at : Attends k a) (there : entry_numbered (copies_of k s) n ≡ Some f) (on : is_attached f ≡ true) where
  has : get k.copies s.0 ≡ Some (copies_of k s)
  has = by (entry_at a.copies s n) refl (sym there ∙ told_at a.copies k.copies are at.seats.told s n)
    where
      by : (o : Option Entry) → entry_at a.copies s n ≡ o → Some f ≡ option_map (entry_told a.copies n) o → get k.copies s.0 ≡ Some (copies_of k s)
      by None was told = absurd (none_some (sym told))
      by (Some e) was told = copies_there a.copies k.copies are at.seats.told s n e was

  keeps : (y : PlainEntry) → (attached k.catalog (seen_in k.owners k.sessions s) y).number ≡ y.number
  keeps y = by (is_attached y)
    where
      by : (b : Bool) → (if b then y else with_stand (stand_in k.catalog y.pid (seen_in k.owners k.sessions s y.pid)) y).number ≡ y.number
      by true = refl
      by false = refl

  same : (q : ℕ) → entry_numbered (at_entry n (attached k.catalog (seen_in k.owners k.sessions s)) (copies_of k s)) q ≡ entry_numbered (copies_of k s) q
  same q = numbered_at n (attached k.catalog (seen_in k.owners k.sessions s)) keeps q (copies_of k s) ∙ by (same_or_apart q n)
    where
      stays : attached k.catalog (seen_in k.owners k.sessions s) f ≡ f
      stays = ap (λ (b : Bool). if b then f else with_stand (stand_in k.catalog f.pid (seen_in k.owners k.sessions s f.pid)) f) on

      by : ((q ≡ n) ⊎ (q ≡ n → ⊥)) → cond (q == n) (option_map (attached k.catalog (seen_in k.owners k.sessions s)) (entry_numbered (copies_of k s) q)) (entry_numbered (copies_of k s) q) ≡ entry_numbered (copies_of k s) q
      by (inr ne) = ap (λ b. cond b (option_map (attached k.catalog (seen_in k.owners k.sessions s)) (entry_numbered (copies_of k s) q)) (entry_numbered (copies_of k s) q)) (apart_test q n ne)
      by (inl is) =
          ap (λ b. cond b (option_map (attached k.catalog (seen_in k.owners k.sessions s)) (entry_numbered (copies_of k s) q)) (entry_numbered (copies_of k s) q)) (eq-eqb q n is)
          ∙ ap (option_map (attached k.catalog (seen_in k.owners k.sessions s))) (ap (entry_numbered (copies_of k s)) is ∙ there)
          ∙ ap Some stays
          ∙ sym (ap (entry_numbered (copies_of k s)) is ∙ there)

  pub attached_stays : Attends (seated_at k s n) a
  attached_stays = record {
    sessions = at.sessions;
    next = at.next;
    seats = record {
      told = subst (AreTold a.copies) (sym (ap (λ o. given o k.copies (λ c. insert k.copies s.0 (at_entry n (attached k.catalog (seen_in k.owners k.sessions s)) c))) has))
          (told_put a.copies a.copies k.copies s (at_entry n (attached k.catalog (seen_in k.owners k.sessions s)) (copies_of k s)) at.seats.told (subst IsSome (sym has) refl) (record { last = was.last; entries = λ q. same q ∙ was.entries q }) (λ t ne. refl) (λ t ne q. refl));
      seated = at.seats.seated;
      valued = at.seats.valued;
    };
  }
    where
      was : IsTold a.copies s (copies_of k s)
      was = at.seats.told.each s (copies_of k s) has

-- The values of a session's own copies, as the tables have them.
use Rattle.std.proofs.Common.{◌≡◌, ℕ, true, false, List, Option, Some, None, IsSome, refl, sym, ap, ◌∙◌, subst}
use Rattle.std.specs.Prelude.{is_some}
use Rattle.std.specs.Option.{option_map, option_and_then}
use Rattle.std.specs.FinMap.{get}
use Rattle.pss_base.specs.declared.pid.Pid.{Pid}
use Rattle.pss_base.specs.declared.session.SessionNo.{SessionNo}
use Rattle.type_layout.specs.Types.{PlainValue}
use Rattle.type_layout.specs.Schemas.{given}
use Rattle.pss_machine.specs.declared.session.View.{View}
use Rattle.pss_machine.specs.declared.session.View.TheVariants.{Committed, Own, Kept as InCopy}
use Rattle.pss_machine.specs.Copies.{Stand, Loose, Shared, Copied, entry_numbered}
use Rattle.pss_machine.specs.Kept.{Kept, copies_of}
use Rattle.pss_machine.specs.Stepping.{copied_values}
use Rattle.pss_machine.proofs.Logic.{none_some, same_some}
use Rattle.incarnations.specs.declared.names.Entry.{Entry}
use Rattle.incarnations.specs.Meaning.{Meaning, AreCopies, slot, body, body_of, body_under, entry_at}
use Rattle.pss_copies.specs.declared.parts.Parts.{Parts}
use Rattle.pss_copies.specs.Told.{stand_told, entry_told}
use Rattle.pss_copies.specs.Seats.{Attends}
use Rattle.pss_copies.proofs.Held.{told_at}
use Rattle.data_calls.proofs.Own.{own_view, own_stands}

module _ (k : Kept) (a : Parts) (are : AreCopies a.copies) (at : Attends k a) (s : SessionNo) (n : ℕ) where
  told : (e : Entry) → entry_at a.copies s n ≡ Some e → entry_numbered (copies_of k s) n ≡ Some (entry_told a.copies n e)
  told e there = told_at a.copies k.copies are at.seats.told s n ∙ ap (option_map (entry_told a.copies n)) there

  -- no entry
  pub none_copied : entry_at a.copies s n ≡ None → copied_values (copies_of k s) (Some n) ≡ None
  none_copied none =
      let is : entry_numbered (copies_of k s) n ≡ None = told_at a.copies k.copies are at.seats.told s n ∙ ap (option_map (entry_told a.copies n)) none in
      rw is refl

  -- an entry whose object has an own copy stands on it
  pub with_body : (e : Entry) → entry_at a.copies s n ≡ Some e → IsSome (get a.copies.bodies (body e.pid (InCopy s))) → option_and_then (get a.copies.bodies) (body_under a.copies (slot s n)) ≡ copied_values (copies_of k s) (Some n)
  with_body e there has = by (get a.copies.bodies (body e.pid (InCopy s))) refl has
    where
      view : e.view ≡ Some (InCopy s)
      view = own_stands k.owners k.sessions a.copies are at.seats.seated s n e there has

      under : body_under a.copies (slot s n) ≡ Some (body e.pid (InCopy s))
      under = ap (option_and_then body_of) there ∙ ap (option_map (body e.pid)) view

      by : (o : Option (List PlainValue)) → get a.copies.bodies (body e.pid (InCopy s)) ≡ o → IsSome o → option_and_then (get a.copies.bodies) (body_under a.copies (slot s n)) ≡ copied_values (copies_of k s) (Some n)
      by None is h = absurd cc
      by (Some values) is h =
          let stand : stand_told a.copies e.pid e.view ≡ Copied values = ap (stand_told a.copies e.pid) view ∙ ap (λ o. given o Loose Copied) is in
          let entry = told e there in
          let some : copied_values (copies_of k s) (Some n) ≡ Some values = rw entry (rw stand refl) in
          ap (option_and_then (get a.copies.bodies)) under ∙ is ∙ sym some

  -- an entry whose object has none stands on no copy
  pub without_body : (e : Entry) → entry_at a.copies s n ≡ Some e → get a.copies.bodies (body e.pid (InCopy s)) ≡ None → copied_values (copies_of k s) (Some n) ≡ None
  without_body e there none = by e.view refl
    where
      finish : (stand : Stand) → stand_told a.copies e.pid e.view ≡ stand → ((values : List PlainValue) → stand ≡ Copied values → ⊥) → copied_values (copies_of k s) (Some n) ≡ None
      finish Loose is other = (let entry = told e there in rw entry (rw is refl))
      finish Shared is other = (let entry = told e there in rw entry (rw is refl))
      finish (Copied values) is other = absurd (other values refl)

      by : (o : Option View) → e.view ≡ o → copied_values (copies_of k s) (Some n) ≡ None
      by None is = finish Loose (ap (stand_told a.copies e.pid) is) (λ values h. cc)
      by (Some Committed) is = finish Shared (ap (stand_told a.copies e.pid) is) (λ values h. cc)
      by (Some (Own m)) is = finish Shared (ap (stand_told a.copies e.pid) is) (λ values h. cc)
      by (Some (InCopy t)) is =
          let seat = at.seats.seated (slot s n) e (InCopy t) there is in
          let same : t ≡ s = own_view k.owners s t seat.session e.pid seat.seen in
          finish Loose (ap (stand_told a.copies e.pid) is ∙ ap (λ (q : SessionNo). given (get a.copies.bodies (body e.pid (InCopy q))) Loose Copied) same ∙ ap (λ o. given o Loose Copied) none) (λ values h. cc)

  -- an entry on an own copy has its values
  on_copy : (e : Entry) → entry_at a.copies s n ≡ Some e → (t : SessionNo) → e.view ≡ Some (InCopy t) → option_and_then (get a.copies.bodies) (body_under a.copies (slot s n)) ≡ copied_values (copies_of k s) (Some n)
  on_copy e there t view = by (get a.copies.bodies (body e.pid (InCopy t))) refl
    where
      under : body_under a.copies (slot s n) ≡ Some (body e.pid (InCopy t))
      under = ap (option_and_then body_of) there ∙ ap (option_map (body e.pid)) view

      by : (o : Option (List PlainValue)) → get a.copies.bodies (body e.pid (InCopy t)) ≡ o → option_and_then (get a.copies.bodies) (body_under a.copies (slot s n)) ≡ copied_values (copies_of k s) (Some n)
      by None is =
          let stand : stand_told a.copies e.pid e.view ≡ Loose = ap (stand_told a.copies e.pid) view ∙ ap (λ o. given o Loose Copied) is in
          let entry = told e there in
          let none : copied_values (copies_of k s) (Some n) ≡ None = rw entry (rw stand refl) in
          ap (option_and_then (get a.copies.bodies)) under ∙ is ∙ sym none
      by (Some values) is =
          let stand : stand_told a.copies e.pid e.view ≡ Copied values = ap (stand_told a.copies e.pid) view ∙ ap (λ o. given o Loose Copied) is in
          let entry = told e there in
          let some : copied_values (copies_of k s) (Some n) ≡ Some values = rw entry (rw stand refl) in
          ap (option_and_then (get a.copies.bodies)) under ∙ is ∙ sym some

  -- one on no own copy has none
  on_none : (e : Entry) → entry_at a.copies s n ≡ Some e → (o : Option View) → e.view ≡ o → ((t : SessionNo) → o ≡ Some (InCopy t) → ⊥) → copied_values (copies_of k s) (Some n) ≡ None
  on_none e there None is other = (let entry = told e there in let stand : stand_told a.copies e.pid e.view ≡ Loose = ap (stand_told a.copies e.pid) is in rw entry (rw stand refl))
  on_none e there (Some Committed) is other = (let entry = told e there in let stand : stand_told a.copies e.pid e.view ≡ Shared = ap (stand_told a.copies e.pid) is in rw entry (rw stand refl))
  on_none e there (Some (Own m)) is other = (let entry = told e there in let stand : stand_told a.copies e.pid e.view ≡ Shared = ap (stand_told a.copies e.pid) is in rw entry (rw stand refl))
  on_none e there (Some (InCopy t)) is other = absurd (other t refl)

  -- the values of an own copy are those of the body
  pub values_same : (copied values : List PlainValue) → copied_values (copies_of k s) (Some n) ≡ Some copied → option_and_then (get a.copies.bodies) (body_under a.copies (slot s n)) ≡ Some values → copied ≡ values
  values_same copied values has kept = by (entry_at a.copies s n) refl
    where
      on : (e : Entry) → entry_at a.copies s n ≡ Some e → (o : Option View) → e.view ≡ o → copied ≡ values
      on e there None view = absurd (none_some (sym (on_none e there None view (λ t h. cc)) ∙ has))
      on e there (Some Committed) view = absurd (none_some (sym (on_none e there (Some Committed) view (λ t h. cc)) ∙ has))
      on e there (Some (Own m)) view = absurd (none_some (sym (on_none e there (Some (Own m)) view (λ t h. cc)) ∙ has))
      on e there (Some (InCopy t)) view = same_some (sym has ∙ sym (on_copy e there t view) ∙ kept)

      by : (o : Option Entry) → entry_at a.copies s n ≡ o → copied ≡ values
      by None there = absurd (none_some (sym (none_copied there) ∙ has))
      by (Some e) there = on e there e.view refl

-- ---- by the object of the entry

module _ (k : Kept) (a : Parts) (m : Meaning) (same : m ≡ a.copies) (are : AreCopies m) (at : Attends k a) (s : SessionNo) (n : ℕ) (pid : Pid) (named : Some pid ≡ option_map (λ e. e.pid) (entry_at m s n)) where
  are_here : AreCopies a.copies
  are_here = subst AreCopies same are

  entry_here : (e : Entry) × (entry_at a.copies s n ≡ Some e) × (e.pid ≡ pid)
  entry_here = by (entry_at a.copies s n) refl (subst (λ (x : Meaning). Some pid ≡ option_map (λ e. e.pid) (entry_at x s n)) same named)
    where
      by : (o : Option Entry) → entry_at a.copies s n ≡ o → Some pid ≡ option_map (λ e. e.pid) o → (e : Entry) × (entry_at a.copies s n ≡ Some e) × (e.pid ≡ pid)
      by None is e = absurd (none_some (sym e))
      by (Some x) is e = (x, is, sym (same_some e))

  body_here : get m.bodies (body pid (InCopy s)) ≡ get a.copies.bodies (body entry_here.0.pid (InCopy s))
  body_here = ap (λ (x : Meaning). get x.bodies (body pid (InCopy s))) same ∙ ap (λ (p : Pid). get a.copies.bodies (body p (InCopy s))) (sym entry_here.2)

  pub copied_has : is_some (get m.bodies (body pid (InCopy s))) ≡ true → option_and_then (get m.bodies) (body_under m (slot s n)) ≡ copied_values (copies_of k s) (Some n)
  copied_has has =
      ap (λ (x : Meaning). option_and_then (get x.bodies) (body_under x (slot s n))) same
      ∙ with_body k a are_here at s n entry_here.0 entry_here.1 (some_there (get a.copies.bodies (body entry_here.0.pid (InCopy s))) (ap is_some (sym body_here) ∙ has))
    where
      some_there : (o : Option (List PlainValue)) → is_some o ≡ true → IsSome o
      some_there None h = absurd (cc)
      some_there (Some values) h = refl

  pub copied_none : is_some (get m.bodies (body pid (InCopy s))) ≡ false → None ≡ copied_values (copies_of k s) (Some n)
  copied_none has = sym (without_body k a are_here at s n entry_here.0 entry_here.1 (none_there (get a.copies.bodies (body entry_here.0.pid (InCopy s))) (ap is_some (sym body_here) ∙ has)))
    where
      none_there : (o : Option (List PlainValue)) → is_some o ≡ false → o ≡ None
      none_there None h = refl
      none_there (Some values) h = absurd (cc)

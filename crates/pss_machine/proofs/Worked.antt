-- Cases at small limits, worked out step by step.
use Rattle.std.proofs.Common.{◌≡◌, ℕ, ◌-◌, ◌==◌, Bool, true, false, not, ◌&&◌, List, [], ◌∷◌, length, map, Option, Some, None, refl, sym, ap, ◌∙◌, arith}
use Rattle.std.specs.Prelude.{Result, Ok, filter, find, unwrap_or, is_some, nat_le, nat_lt, sum, codes, ◌^◌, if◌then◌else◌}
use Rattle.std.specs.Option.{option_map}
use Rattle.std.specs.Ordering.{nat_cmp}
use Rattle.std.specs.Str.{bytes_eq}
use Rattle.std.specs.Cmp.{nat_cmp_total}
use Rattle.std.specs.FinMap.{empty, insert, entries, len, contains_key, entries-insert, len-entries, len-empty, get-empty}
use Rattle.std.specs.FinMap.Entries.{put}
use Rattle.pss_base.specs.declared.owner.OwnerNo.{OwnerNo}
use Rattle.type_layout.specs.Schemas.{given}
use Rattle.pss_catalog.specs.Catalog.{Object, weight, total}
use Rattle.pss_catalog.specs.Changes.{over}
use Rattle.pss_machine.specs.declared.command.Command.TheVariants as command
use Rattle.pss_machine.specs.declared.reply.Reply.{Reply}
use Rattle.pss_machine.specs.declared.reply.Reply.TheVariants as reply
use Rattle.pss_machine.specs.declared.lock.Need.{Need}
use Rattle.pss_machine.specs.Needs.{hold_up}
use Rattle.pss_machine.specs.Changes.{Changes, change_of, listed}
use Rattle.pss_machine.specs.Same.{same_state}
use Rattle.pss_machine.specs.Operations.{Create, Busy}
use Rattle.pss_machine.specs.Owners.{Owner, Step, net, blocker}
use Rattle.pss_machine.specs.Sessions.{Session, session_named}
use Rattle.pss_machine.specs.Copies.{Copies, no_copies, number_for}
use Rattle.pss_machine.specs.Kept.{actor_in, copies_of}
use Rattle.pss_machine.specs.Asking.{Asked, refused_where, obtaining}
use Rattle.pss_machine.specs.Effects.{Decision, Steps, Flushes, does, says}
use Rattle.pss_machine.specs.Stepping.{within, step_of, reply_to, decided}
use Rattle.pss_machine.specs.Deciding.{flushing}
use Rattle.pss_machine.specs.Worked.{marks, mark, small, the_session, owner_with, only_with, none_made, one_made, two_made, one_entry, two_entries, created, flushed, AreAtSmallLimits}
use Rattle.pss_machine.proofs.Maps.{insert_here, insert_apart}
use Rattle.pss_machine.proofs.AtLimits.{decision_asks}

-- ---- small maps

no_length : {A : Type 0} (es : List A) → length es ≡ 0 → es ≡ []
no_length [] e = refl
no_length (x ∷ es) e = absurd (omega arith)

module _ (A : Type 0) where
  entries_none : entries (empty {X = A} {R = nat_cmp}) ≡ []
  entries_none = no_length (entries (empty {X = A} {R = nat_cmp})) (sym (len-entries (empty {X = A} {R = nat_cmp})) ∙ len-empty nat_cmp A)

  entries_one : (x : A) → entries (insert (empty {X = A} {R = nat_cmp}) 1 x) ≡ (1, x) ∷ []
  entries_one x = entries-insert nat_cmp_total empty 1 x ∙ ap (put nat_cmp 1 x) entries_none

  entries_two : (x y : A) → entries (insert (insert (empty {X = A} {R = nat_cmp}) 1 x) 2 y) ≡ (1, x) ∷ (2, y) ∷ []
  entries_two x y = entries-insert nat_cmp_total (insert empty 1 x) 2 y ∙ ap (put nat_cmp 2 y) (entries_one x)

len_none : len none_made ≡ 0
len_none = len-empty nat_cmp (Option Object)

len_one : len one_made ≡ 1
len_one = len-entries one_made ∙ ap length (entries_one (Option Object) (Some mark))

len_two : len two_made ≡ 2
len_two = len-entries two_made ∙ ap length (entries_two (Option Object) (Some mark) (Some mark))

-- ---- the only session

module _ (next : ℕ) (changes : Changes) (copies : Copies) where
  named : session_named (only_with next changes copies).sessions (codes "s") ≡ Some (1, the_session)
  named = ap (find (λ e. bytes_eq e.1.name (codes "s"))) (entries_one Session the_session)

  acts : actor_in (only_with next changes copies).owners the_session ≡ Some (record { number = record { 0 = 1 }; owner = owner_with changes })
  acts = ap (option_map (λ owner. record { number = record { 0 = 1 }; owner = owner })) (insert_here empty 1 (owner_with changes))

  seated : copies_of (only_with next changes copies) (record { 0 = 1 }) ≡ copies
  seated = ap (λ o. unwrap_or o no_copies) (insert_here empty 1 copies)

  -- what `create` comes to, by the limits
  created_by : created next changes copies ≡ (decided marks (only_with next changes copies) (record { 0 = 1 }) (record { number = record { 0 = 1 }; owner = owner_with changes }) (within (small 34) next (owner_with changes) copies (obtaining (Create next mark)))).reply
  created_by =
      ap (λ (d : Decision). d.reply)
      (decision_asks marks (small 34) (only_with next changes copies) (record { 0 = 1 }) the_session (Ok (obtaining (Create next mark))) (codes "s") named (command.Create (codes "s") (codes "Marks") (record { column = 15; text = [] })) refl refl)
      ∙ ap (λ o. (given o (says reply.NoTx) (λ a. decided marks (only_with next changes copies) (record { 0 = 1 }) a (within (small 34) next a.owner (copies_of (only_with next changes copies) (record { 0 = 1 })) (obtaining (Create next mark))))).reply) acts
      ∙ ap (λ c. (decided marks (only_with next changes copies) (record { 0 = 1 }) (record { number = record { 0 = 1 }; owner = owner_with changes }) (within (small 34) next (owner_with changes) c (obtaining (Create next mark)))).reply) seated

  -- no other owner is there
  free : (wanted : List Need) → blocker (only_with next changes copies).owners (record { 0 = 1 }) wanted ≡ None
  free wanted = ap (λ es. option_map {U = OwnerNo} (λ e. record { 0 = e.0 }) (find (λ e. not (e.0 == 1) && hold_up e.1.locks wanted) es)) (entries_one Owner (owner_with changes))

  abbrev the_step : Step
  the_step = step_of marks (only_with next changes copies).catalog (owner_with changes) (copies_of (only_with next changes copies) (record { 0 = 1 })) (obtaining (Create next mark))

  -- the object is made, and the session has an entry for it
  made : (decided marks (only_with next changes copies) (record { 0 = 1 }) (record { number = record { 0 = 1 }; owner = owner_with changes }) (Ok (obtaining (Create next mark)))).reply ≡ reply.Entry (number_for copies (record { home = 1; serial = next })) (record { home = 1; serial = next })
  made =
      ap (λ o. (given o (does (Steps (record { 0 = 1 }) (record { 0 = 1 }) the_step (obtaining (Create next mark))) (reply_to marks (only_with next changes copies) (copies_of (only_with next changes copies) (record { 0 = 1 })) (obtaining (Create next mark)) the_step.answer)) (λ b. says (reply_to marks (only_with next changes copies) (copies_of (only_with next changes copies) (record { 0 = 1 })) (obtaining (Create next mark)) (Busy b)))).reply) (free the_step.needs)
      ∙ ap (λ c. reply.Entry (number_for c (record { home = 1; serial = next })) (record { home = 1; serial = next })) seated

-- by the numbers alone
abbrev limited : Bool → ℕ → ℕ → Copies → Result Asked Reply
limited has changed next copies =
    refused_where (not has && nat_le 2 changed) reply.Many (refused_where (next == 2 ^ 64 - 1) reply.Serials (refused_where (nat_le 2 (length copies.entries)) reply.Entries (Ok (obtaining (Create next mark)))))

-- where the next serial is new, a refusal or the entry
created_is : (next : ℕ) (changes : Changes) (copies : Copies) (changed : ℕ) → contains_key changes next ≡ false → len changes ≡ changed
    → created next changes copies ≡ (decided marks (only_with next changes copies) (record { 0 = 1 }) (record { number = record { 0 = 1 }; owner = owner_with changes }) (limited false changed next copies)).reply
created_is next changes copies changed new count =
    created_by next changes copies
    ∙ (λ i. (decided marks (only_with next changes copies) (record { 0 = 1 }) (record { number = record { 0 = 1 }; owner = owner_with changes }) (limited (new i) (count i) next copies)).reply)

-- ---- the cases

new_to_one : (next : ℕ) → (next ≡ 1 → ⊥) → contains_key one_made next ≡ false
new_to_one next apart = ap is_some (insert_apart empty 1 (Some mark) next apart ∙ get-empty nat_cmp next)

new_to_two : (next : ℕ) → (next ≡ 1 → ⊥) → (next ≡ 2 → ⊥) → contains_key two_made next ≡ false
new_to_two next one two = ap is_some (insert_apart one_made 2 (Some mark) next two) ∙ new_to_one next one

-- two objects of 17 octets each
net_two : net (empty {X = Object} {R = nat_cmp}) (owner_with two_made) ≡ record { serial = 1; state = Some mark } ∷ record { serial = 2; state = Some mark } ∷ []
net_two =
    (λ i. filter (λ c. not (same_state c.state (get-empty {X = Object} nat_cmp c.serial i))) (listed two_made))
    ∙ ap (λ es. filter (λ c. not (same_state c.state None)) (map change_of es)) (entries_two (Option Object) (Some mark) (Some mark))

total_two : total marks (over (empty {X = Object} {R = nat_cmp}) (net (empty {X = Object} {R = nat_cmp}) (owner_with two_made))) ≡ 34
total_two =
    ap (λ cs. total marks (over (empty {X = Object} {R = nat_cmp}) cs)) net_two
    ∙ ap (λ es. sum (map (λ e. weight marks e.1) es)) (entries_two Object mark mark)

flushed_is : (most : ℕ) → flushed most two_made ≡ (if nat_lt most 34 then reply.Full else reply.Done)
flushed_is most =
    ap (λ o. (given o (says reply.NoSession) (λ e. flushing marks (small most) (only_with 3 two_made two_entries) e.1)).reply) (named 3 two_made two_entries)
    ∙ ap (λ o. (given o (says reply.Done) (λ owner. if nat_lt most (total marks (over empty (net empty owner))) then says reply.Full else does (Flushes (record { 0 = 1 })) reply.Done)).reply) (insert_here empty 1 (owner_with two_made))
    ∙ ap (λ octets. (if nat_lt most octets then says reply.Full else does (Flushes (record { 0 = 1 })) reply.Done).reply) total_two
    ∙ by (nat_lt most 34)
  where
    by : (b : Bool) → (if b then says reply.Full else does (Flushes (record { 0 = 1 })) reply.Done).reply ≡ (if b then reply.Full else reply.Done)
    by true = refl
    by false = refl

pub at_small_limits : AreAtSmallLimits
at_small_limits = record {
  one_change = created_is 2 one_made one_entry 1 (new_to_one 2 (λ e. omega (arith, e))) len_one ∙ made 2 one_made one_entry;
  two_changes = created_is 3 two_made one_entry 2 (new_to_two 3 (λ e. omega (arith, e)) (λ e. omega (arith, e))) len_two;
  last_serial_but_one = created_is 18446744073709551614 one_made one_entry 1 (new_to_one 18446744073709551614 (λ e. omega (arith, e))) len_one ∙ made 18446744073709551614 one_made one_entry;
  last_serial = created_is 18446744073709551615 one_made one_entry 1 (new_to_one 18446744073709551615 (λ e. omega (arith, e))) len_one;
  one_with_entry = created_is 3 none_made one_entry 0 (ap is_some (get-empty nat_cmp 3)) len_none ∙ made 3 none_made one_entry;
  two_with_entries = created_is 3 none_made two_entries 0 (ap is_some (get-empty nat_cmp 3)) len_none;
  all_refuse = created_is 18446744073709551615 two_made two_entries 2 (new_to_two 18446744073709551615 (λ e. omega (arith, e)) (λ e. omega (arith, e))) len_two;
  with_room = flushed_is 34;
  without_room = flushed_is 33;
}

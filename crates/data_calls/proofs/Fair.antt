-- What commands ask is fair: it fits the schema, takes the next serial, and is about the object of its entry.
use Rattle.std.proofs.Common.{arith, ◌≡◌, ℕ, zero, suc, ◌==◌, ◌<◌, ◌&&◌, Bool, true, false, not, cond, List, [], ◌∷◌, length, Option, Some, None, IsSome, refl, sym, ap, ◌∙◌, subst, inl, inr}
use Rattle.std.proofs.lemmas.Bool.{eq-eqb}
use Rattle.std.specs.Prelude.{◌⊎◌, IsSomeAnd, Result, Ok, Err, ok_or, find, if◌then◌else◌}
use Rattle.std.specs.List.{slice_get}
use Rattle.std.specs.Option.{option_map}
use Rattle.std.specs.Ordering.{nat_cmp}
use Rattle.std.specs.FinMap.{get, insert, empty, entries, get-empty}
use Rattle.pss_base.specs.declared.pid.Pid.{Pid}
use Rattle.pss_base.specs.declared.owner.OwnerNo.{OwnerNo}
use Rattle.pss_base.specs.declared.session.SessionNo.{SessionNo}
use Rattle.type_layout.specs.declared.schema.Schema.{Schema}
use Rattle.type_layout.specs.declared.schema.Home.{Home}
use Rattle.type_layout.specs.Types.{PlainMember}
use Rattle.type_layout.specs.Sound.{IsSoundSchema}
use Rattle.type_layout.specs.Schemas.{given, home_at, members_at}
use Rattle.pss_machine.specs.declared.limits.Limits.{Limits}
use Rattle.pss_machine.specs.declared.lock.Need.{Need}
use Rattle.pss_machine.specs.declared.command.Rest.{Rest}
use Rattle.pss_machine.specs.declared.command.Command.{Command}
use Rattle.pss_machine.specs.declared.reply.Reply.{Reply}
use Rattle.pss_machine.specs.declared.reply.Reply.TheVariants as reply
use Rattle.pss_machine.specs.Operations.{FindKey, FindPid, FindShort, Exists, Get, Follow, Count, ListOf, PlainOp, Create, Set, Destroy, Ask, Busy}
use Rattle.pss_machine.specs.Homes.{home_of, member_at}
use Rattle.pss_machine.specs.Names.{member_named, factory_named, key_named}
use Rattle.pss_machine.specs.Values.{types_of, made_of}
use Rattle.type_layout.specs.Keys.{chosen, key_members}
use Rattle.pss_machine.specs.Needs.{hold_up}
use Rattle.pss_machine.specs.Owners.{Owner, Owners, blocker}
use Rattle.pss_machine.specs.Sessions.{Session, is_read_only}
use Rattle.pss_machine.specs.Copies.{Copies, Entry, entry_numbered}
use Rattle.pss_machine.specs.Kept.{Kept, Actor, actor_in, copies_of}
use Rattle.pss_machine.specs.Allowed.{TakesNext, May, MayStep}
use Rattle.pss_machine.specs.Asking.{Asked, ◌>>=◌, refused_where, obtaining, only, by_entry, read_values, read_home, read_entry, Place, read_member, as_writer, is_reference, read_value, creating, making, finding, shortening, asking_whether, getting, setting, destroying, following, asking_of_home}
use Rattle.pss_machine.specs.Effects.{Steps, Decision, does, says}
use Rattle.pss_machine.specs.Stepping.{within, step_of, reply_to, decided, data_command}
use Rattle.pss_machine.specs.Deciding.{decision}
use Rattle.pss_machine.proofs.Allowing.{decision_right}
use Rattle.pss_machine.proofs.Cases.{of_if}
use Rattle.pss_machine.proofs.Found.{found_there}
use Rattle.pss_machine.proofs.Maps.{same_or_apart, insert_apart}
use Rattle.pss_machine.proofs.Logic.{none_some, same_some, true_false}
use Rattle.pss_laws.specs.Good.{FitsSchema}
use Rattle.pss_laws.proofs.Coming.{Okay, okay_then, okay_where}
use Rattle.pss_laws.proofs.Fitting.{steps_fit, StepFits}
use Rattle.owner_view.specs.Fitting.{FitsOp}
use Rattle.data_calls.specs.Asking.{object_in, NamesObject}

-- ---- what holds of the machine's steps holds of what is asked

-- what is found passes the test
pub found_passes : {A : Type 0} (test : A → Bool) (xs : List A) (x : A) → find test xs ≡ Some x → test x ≡ true
found_passes test [] x is = absurd (none_some is)
found_passes test (y ∷ xs) x is = by (test y) refl is (found_passes test xs x)
  where
    by : (b : Bool) → test y ≡ b → cond b (Some y) (find test xs) ≡ Some x → (find test xs ≡ Some x → test x ≡ true) → test x ≡ true
    by true at is rest = ap test (sym (same_some is)) ∙ at
    by false at is rest = rest is

module _ (S : Schema) (limits : Limits) (k : Kept) (s : SessionNo) (session : Session) (n : OwnerNo) (owner : Owner) where
  -- with this owner alone
  abbrev pub only_one : Owners
  only_one = insert empty n.0 owner

  abbrev pub alone_in : Kept
  alone_in = record k { owners = only_one }

  none_blocks : (wanted : List Need) → blocker only_one n wanted ≡ None
  none_blocks wanted = by (find (λ e. not (e.0 == n.0) && hold_up e.1.locks wanted) (entries only_one)) refl
    where
      apart : (a b : Bool) → (not a && b) ≡ true → a ≡ true → ⊥
      apart true b e h = true_false e refl
      apart false b e h = true_false h refl

      no : (e : ℕ × Owner) → get only_one e.0 ≡ Some e.1 → ((e.0 ≡ n.0) ⊎ (e.0 ≡ n.0 → ⊥)) → (not (e.0 == n.0) && hold_up e.1.locks wanted) ≡ true → ⊥
      no e there (inl same) passes = apart (e.0 == n.0) (hold_up e.1.locks wanted) passes (eq-eqb e.0 n.0 same)
      no e there (inr other) passes = none_some (sym (get-empty nat_cmp e.0) ∙ sym (insert_apart empty n.0 owner e.0 other) ∙ there)

      by : (o : Option (ℕ × Owner)) → find (λ e. not (e.0 == n.0) && hold_up e.1.locks wanted) (entries only_one) ≡ o → option_map {U = OwnerNo} (λ e. record { 0 = e.0 }) o ≡ None
      by None is = refl
      by (Some e) is =
          absurd (no e (found_there (λ e. not (e.0 == n.0) && hold_up e.1.locks wanted) only_one e is) (same_or_apart e.0 n.0)
          (found_passes (λ (e : ℕ × Owner). not (e.0 == n.0) && hold_up e.1.locks wanted) (entries only_one) e is))

  comes_alone : (asked : Asked) → actor_in only_one session ≡ Some (record { number = n; owner = owner }) → within limits k.next owner (copies_of k s) asked ≡ Ok asked
      → data_command S limits alone_in s session (Ok asked) ≡ does (Steps n s (step_of S k.catalog owner (copies_of k s) asked) asked) (reply_to S alone_in (copies_of k s) asked (step_of S k.catalog owner (copies_of k s) asked).answer)
  comes_alone asked acts limited =
      ap (λ o. given o (says reply.NoTx) (λ (actor : Actor). decided S alone_in s actor (Ok asked >>= within limits k.next actor.owner (copies_of k s)))) acts
      ∙ ap (decided S alone_in s (record { number = n; owner = owner })) limited
      ∙ ap (λ o. given o (does (Steps n s (step_of S k.catalog owner (copies_of k s) asked) asked) (reply_to S alone_in (copies_of k s) asked (step_of S k.catalog owner (copies_of k s) asked).answer))
      (λ b. says (reply_to S alone_in (copies_of k s) asked (Busy b)))) (none_blocks (step_of S k.catalog owner (copies_of k s) asked).needs)

  pub asked_fits : IsSoundSchema S → (command : Command) (asked : Asked) → actor_in only_one session ≡ Some (record { number = n; owner = owner })
      → decision S limits alone_in command ≡ data_command S limits alone_in s session (Ok asked) → within limits k.next owner (copies_of k s) asked ≡ Ok asked
      → FitsSchema S asked.op × TakesNext k.next asked.op
  asked_fits sound command asked acts decides limited =
      let one = decides ∙ comes_alone asked acts limited in
      let fits : FitsSchema S asked.op = subst (λ (d : Decision). StepFits S sound limits alone_in d.effect) one (steps_fit S sound limits alone_in command) in
      let may : MayStep S limits alone_in n s (step_of S k.catalog owner (copies_of k s) asked) asked = subst (λ (d : Decision). May S limits alone_in d.effect) one (decision_right S limits alone_in command) in
      (fits, may.serial)

-- ---- members that are read

abbrev pub HasMember : Schema → PlainOp → Type 0
HasMember S (Ask (Get p member)) = member < length (members_at S (home_of p))
HasMember S (Ask (Follow p member)) = member < length (members_at S (home_of p))
HasMember S _ = Unit {0}

home_some : (o : Option Home) → IsSome o → (home : Home) × (o ≡ Some home)
home_some None h = absurd cc
home_some (Some home) h = (home, refl)

pub fits_op : (S : Schema) (op : PlainOp) → FitsSchema S op → HasMember S op → FitsOp S op
fits_op S (Create serial object) fits has = (let h = home_some (home_at S object.home) fits.0 in record { home = h.0; there = h.1; is_record = fits.1 })
fits_op S (Set p member value) fits has = fits
fits_op S (Destroy p) fits has = tt
fits_op S (Ask (FindKey h k bytes)) fits has = tt
fits_op S (Ask (FindPid p)) fits has = tt
fits_op S (Ask (FindShort h serial)) fits has = tt
fits_op S (Ask (Exists p)) fits has = tt
fits_op S (Ask (Get p member)) fits has = has
fits_op S (Ask (Follow p member)) fits has = has
fits_op S (Ask (Count h)) fits has = tt
fits_op S (Ask (ListOf h)) fits has = tt

-- ---- by the words

-- it names the entry of its object, and a member that is there
pub record IsNamedRight (S : Schema) (copies : Copies) (asked : Asked) : Type 0 where
  pub named : NamesObject copies asked
  pub member : HasMember S asked.op

-- nothing is named
abbrev pub NoMember : PlainOp → Type 0
NoMember op = (S : Schema) → HasMember S op

abbrev pub NamesNone : Asked → Type 0
NamesNone asked = (asked.entry ≡ None) × NoMember asked.op

okay_through : {A B : Type 0} (P : A → Type 0) (Q : B → Type 0) (r : Result A Reply) (f : A → Result B Reply) → Okay P r → ((x : A) → P x → Okay Q (f x)) → Okay Q (r >>= f)
okay_through P Q (Ok x) f h g = g x h
okay_through P Q (Err refusal) f h g = tt

named_none : (S : Schema) (copies : Copies) (asked : Asked) → NamesNone asked → IsNamedRight S copies asked
named_none S copies asked none = record { named = λ n is. absurd (none_some (sym none.0 ∙ is)); member = none.1 S }

module _ (S : Schema) (copies : Copies) where
  abbrev pub Right : Result Asked Reply → Type 0
  Right r = Okay (IsNamedRight S copies) r

  right_none : (asked : Asked) → NamesNone asked → IsNamedRight S copies asked
  right_none asked none = named_none S copies asked none

  pub creating_right : (next : ℕ) (session : Session) (home : List ℕ) (rest : Rest) → Right (creating S next session home rest)
  creating_right next session home rest =
      okay_then (IsNamedRight S copies) (read_home S home) _ (λ h. okay_then (IsNamedRight S copies) (read_values (types_of (members_at S h)) rest) _ (λ vs. okay_where (IsNamedRight S copies) (is_read_only session) reply.ReadOnly (Ok (obtaining (Create next (record { home = h; values = vs }))))
      (right_none (obtaining (Create next (record { home = h; values = vs }))) (refl, λ S. tt))))

  pub making_right : (next : ℕ) (session : Session) (home factory : List ℕ) (rest : Rest) → Right (making S next session home factory rest)
  making_right next session home factory rest =
      okay_then (IsNamedRight S copies) (read_home S home) _
      (λ h. okay_then (IsNamedRight S copies) (ok_or (factory_named S h factory) reply.NoFactory) _
      (λ f. okay_then (IsNamedRight S copies) (read_values (types_of (chosen (members_at S h) f.members)) rest) _
      (λ vs. okay_where (IsNamedRight S copies) (is_read_only session) reply.ReadOnly (Ok (obtaining (Create next (record { home = h; values = made_of (members_at S h) f.members vs }))))
      (right_none (obtaining (Create next (record { home = h; values = made_of (members_at S h) f.members vs }))) (refl, λ S. tt)))))

  pub finding_right : (f : PlainOp → Asked) → ((op : PlainOp) → NoMember op → NamesNone (f op)) → (home key : List ℕ) (rest : Rest) → Right (finding S home key rest >>= λ op. Ok (f op))
  finding_right f right home key rest =
      okay_through NoMember (IsNamedRight S copies) (finding S home key rest) (λ op. Ok (f op))
      (okay_then NoMember (read_home S home) _ (λ h. okay_then NoMember (ok_or (key_named S h key) reply.NoKey) _ (λ k. okay_then NoMember (read_values (types_of (key_members S k)) rest) _ (λ vs S. tt))))
      (λ op none. right_none (f op) (right op none))

  pub shortening_right : (home : List ℕ) (serial : ℕ) → Right (shortening S home serial)
  shortening_right home serial = okay_then (IsNamedRight S copies) (read_home S home) _ (λ h. right_none (obtaining (Ask (FindShort h serial))) (refl, λ S. tt))

  pub whether_right : (n : ℕ) → Right (asking_whether copies n)
  whether_right n = okay_then (IsNamedRight S copies) (read_entry copies n) _ (λ e. right_none (only (Ask (Exists e.pid))) (refl, λ S. tt))

  pub destroying_right : (session : Session) (n : ℕ) → Right (destroying session copies n)
  destroying_right session n =
      okay_then (IsNamedRight S copies) (read_entry copies n) _ (λ e. okay_where (IsNamedRight S copies) (is_read_only session) reply.ReadOnly (Ok (only (Destroy e.pid))) (right_none (only (Destroy e.pid)) (refl, λ S. tt)))

  pub counting_right : (home : List ℕ) → Right (asking_of_home S home (λ h. Ask (Count h)))
  counting_right home = okay_then (IsNamedRight S copies) (read_home S home) _ (λ h. right_none (only (Ask (Count h))) (refl, λ S. tt))

  pub listing_right : (home : List ℕ) → Right (asking_of_home S home (λ h. Ask (ListOf h)))
  listing_right home = okay_then (IsNamedRight S copies) (read_home S home) _ (λ h. right_none (only (Ask (ListOf h))) (refl, λ S. tt))

  pub looking_right : (pid : Pid) → Right (Ok (obtaining (Ask (FindPid pid))))
  looking_right pid = right_none (obtaining (Ask (FindPid pid))) (refl, λ S. tt)

  -- ---- commands that name an entry

  below : {A : Type 0} (xs : List A) (i : ℕ) (x : A) → slice_get xs i ≡ Some x → i < length xs
  below [] i x e = absurd (none_some e)
  below (y ∷ xs) zero x e = omega arith
  below (y ∷ xs) (suc i) x e = (let rest = below xs i x e in omega (arith, rest))

  place_there : (pid : Pid) (word : List ℕ) → Okay (λ (place : Place). place.number < length (members_at S (home_of pid))) (read_member S pid word)
  place_there pid word = by_name (member_named S (home_of pid) word)
    where
      by_member : (i : ℕ) (o : Option PlainMember) → member_at S (home_of pid) i ≡ o
          → Okay (λ (place : Place). place.number < length (members_at S (home_of pid))) (ok_or (given o None (λ member. Some (record { number = i; member = member }))) reply.NoMember)
      by_member i None at = tt
      by_member i (Some m) at = below (members_at S (home_of pid)) i m at

      by_name : (o : Option ℕ)
          → Okay (λ (place : Place). place.number < length (members_at S (home_of pid))) (ok_or (given o None (λ i. given (member_at S (home_of pid) i) None (λ member. Some (record { number = i; member = member })))) reply.NoMember)
      by_name None = tt
      by_name (Some i) = by_member i (member_at S (home_of pid) i) refl

  names_it : (n : ℕ) (e : Entry) (asked : Asked) → entry_numbered copies n ≡ Some e → asked.entry ≡ Some n → object_in asked.op ≡ Some e.pid → NamesObject copies asked
  names_it n e asked there named of m is =
      let same : n ≡ m = same_some (sym named ∙ is) in
      subst (λ (o : Option Entry). IsSomeAnd o (λ e. object_in asked.op ≡ Some e.pid)) (sym there ∙ ap (entry_numbered copies) same) of

  of_entry : (n : ℕ) (f : Entry → Result Asked Reply) → ((e : Entry) → entry_numbered copies n ≡ Some e → Right (f e)) → Right (read_entry copies n >>= f)
  of_entry n f h = by (entry_numbered copies n) refl
    where
      by : (o : Option Entry) → entry_numbered copies n ≡ o → Right (ok_or o reply.NoEntry >>= f)
      by None is = tt
      by (Some e) is = h e is

  pub getting_right : (n : ℕ) (word : List ℕ) → Right (getting S copies n word)
  getting_right n word = of_entry n (λ e. read_member S e.pid word >>= λ place. Ok (by_entry n (Ask (Get e.pid place.number))))
      (λ e there. okay_through (λ (place : Place). place.number < length (members_at S (home_of e.pid))) (IsNamedRight S copies) (read_member S e.pid word) (λ place. Ok (by_entry n (Ask (Get e.pid place.number)))) (place_there e.pid word)
      (λ place lt. record { named = names_it n e (by_entry n (Ask (Get e.pid place.number))) there refl refl; member = lt }))

  pub following_right : (n : ℕ) (word : List ℕ) → Right (following S copies n word)
  following_right n word = of_entry n (λ e. read_member S e.pid word >>= λ place. if is_reference place.member.type then Ok (record { op = Ask (Follow e.pid place.number); entry = Some n; obtains = true }) else Err reply.NotRef)
      (λ e there. okay_through (λ (place : Place). place.number < length (members_at S (home_of e.pid))) (IsNamedRight S copies) (read_member S e.pid word) (λ place. if is_reference place.member.type then Ok (record { op = Ask (Follow e.pid place.number); entry = Some n; obtains = true }) else Err reply.NotRef) (place_there e.pid word)
      (λ place lt. of_if (λ (r : Result Asked Reply). Okay (IsNamedRight S copies) r) (is_reference place.member.type) (Ok (record { op = Ask (Follow e.pid place.number); entry = Some n; obtains = true })) (Err reply.NotRef)
      (record { named = names_it n e (record { op = Ask (Follow e.pid place.number); entry = Some n; obtains = true }) there refl refl; member = lt }) tt))

  pub setting_right : (session : Session) (n : ℕ) (word : List ℕ) (rest : Rest) → Right (setting S session copies n word rest)
  setting_right session n word rest = of_entry n (λ e. read_member S e.pid word >>= λ place. read_value place.member rest >>= λ v. as_writer session (refused_where place.member.readonly reply.ReadOnly (Ok (by_entry n (Set e.pid place.number v)))))
      (λ e there. okay_then (IsNamedRight S copies) (read_member S e.pid word) _ (λ place. okay_then (IsNamedRight S copies) (read_value place.member rest) _
      (λ v. okay_where (IsNamedRight S copies) (is_read_only session) reply.ReadOnly (refused_where place.member.readonly reply.ReadOnly (Ok (by_entry n (Set e.pid place.number v))))
      (okay_where (IsNamedRight S copies) place.member.readonly reply.ReadOnly (Ok (by_entry n (Set e.pid place.number v))) (record { named = names_it n e (by_entry n (Set e.pid place.number v)) there refl refl; member = tt })))))

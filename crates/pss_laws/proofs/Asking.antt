-- Commands count and list objects of homes that are there.
use Rattle.std.proofs.Common.{arith, ◌≡◌, ℕ, zero, suc, ◌<◌, Bool, true, false, cond, List, [], ◌∷◌, length, Option, Some, None, refl, subst}
use Rattle.std.specs.Prelude.{IsSome, ◌+◌, Result, Ok, find, nat_lt, ok_or}
use Rattle.std.specs.List.{slice_get, position_or_len}
use Rattle.std.specs.Option.{option_map, option_or}
use Rattle.std.proofs.lemmas.Bool.Decides.{nat_tests}
use Rattle.pss_base.specs.declared.session.SessionNo.{SessionNo}
use Rattle.type_layout.specs.declared.schema.Schema.{Schema}
use Rattle.type_layout.specs.Scopes.{Provided}
use Rattle.type_layout.specs.declared.home.HomeNo.{HomeNo}
use Rattle.type_layout.specs.Schemas.{home_at}
use Rattle.type_layout.specs.Sound.{IsSoundSchema}
use Rattle.pss_machine.specs.declared.limits.Limits.{Limits}
use Rattle.pss_machine.specs.declared.command.Rest.{Rest}
use Rattle.pss_machine.specs.declared.command.Command.{Command}
use Rattle.pss_machine.specs.declared.command.Command.TheVariants as command
use Rattle.pss_machine.specs.declared.reply.Reply.{Reply}
use Rattle.pss_machine.specs.declared.reply.Reply.TheVariants as reply
use Rattle.pss_machine.specs.Operations.{Count, ListOf, PlainOp, Ask}
use Rattle.pss_machine.specs.Names.{is_name_of, is_name_in, home_named}
use Rattle.pss_machine.specs.Sessions.{Session}
use Rattle.pss_machine.specs.Copies.{Copies}
use Rattle.pss_machine.specs.Kept.{Kept, copies_of}
use Rattle.pss_machine.specs.Asking.{Asked, ◌>>=◌, obtaining, only, creating, making, finding, shortening, asking_whether, getting, setting, destroying, following, asking_of_home}
use Rattle.pss_machine.specs.Effects.{Effect, Steps}
use Rattle.pss_machine.specs.Deciding.{decision}
use Rattle.pss_laws.specs.Operations.{AsksOfHomes}
use Rattle.pss_laws.specs.Asked.{StepsOfHomes}
use Rattle.pss_laws.proofs.Coming.{Okay, okay_then, okay_where, asked_by, Comes, comes}

-- ---- homes that are named are there

pub within_list : {A : Type 0} (xs : List A) (n : ℕ) → n < length xs → IsSome (slice_get xs n)
within_list [] n lt = absurd (omega arith)
within_list (x ∷ xs) zero lt = refl
within_list (x ∷ xs) (suc n) lt = within_list xs n (omega arith)

pub found_at : {A : Type 0} (test : A → Bool) (xs : List A) (x : A) → find test xs ≡ Some x → (j : ℕ) × (slice_get xs j ≡ Some x)
found_at test [] x e = absurd cc
found_at {A} test (y ∷ ys) x e = by_test (test y) e (λ e. found_at test ys x e)
  where
    by_test : (b : Bool) → cond b (Some y) (find test ys) ≡ Some x → (find test ys ≡ Some x → (j : ℕ) × (slice_get ys j ≡ Some x)) → (j : ℕ) × (slice_get (y ∷ ys) j ≡ Some x)
    by_test true e rest = (0, e)
    by_test false e rest = (suc (rest e).0, (rest e).1)

module _ (S : Schema) (sound : IsSoundSchema S) where
  abbrev pub AtHome : Option HomeNo → Type 0
  AtHome None = Unit {0}
  AtHome (Some h) = IsSome (home_at S h)

  by_position : (word : List ℕ) (b : Bool) → nat_lt (position_or_len (is_name_of word) S.homes) (length S.homes) ≡ b → (other : Option HomeNo) → AtHome other
      → AtHome (option_or (option_map (λ n. record { 0 = n + 1 }) (cond b (Some (position_or_len (is_name_of word) S.homes)) None)) other)
  by_position word false e other h = h
  by_position word true e other h = numbered (position_or_len (is_name_of word) S.homes) (within_list S.homes (position_or_len (is_name_of word) S.homes) (less (position_or_len (is_name_of word) S.homes) (length S.homes) e))
    where
      numbered : (n : ℕ) → IsSome (slice_get S.homes n) → IsSome (home_at S (record { 0 = n + 1 }))
      numbered n there = subst (λ (m : ℕ). IsSome (home_at S (record { 0 = m }))) (one_more n) there
        where
          one_more : (n : ℕ) → suc n ≡ n + 1
          one_more n = omega arith

      less : (m n : ℕ) → nat_lt m n ≡ true → m < n
      less m n e = grind (arith, nat_tests)

  provided_home : (word : List ℕ) (o : Option Provided) → find (is_name_in word) S.provided ≡ o → AtHome (option_map (λ (provided : Provided). provided.home) o)
  provided_home word None e = tt
  provided_home word (Some p) e = (let at = found_at (is_name_in word) S.provided p e in sound.provided_there at.0 p at.1)

  pub named_there : (word : List ℕ) → AtHome (home_named S word)
  named_there word =
      by_position word (nat_lt (position_or_len (is_name_of word) S.homes) (length S.homes)) refl (option_map (λ (provided : Provided). provided.home) (find (is_name_in word) S.provided)) (provided_home word (find (is_name_in word) S.provided) refl)

-- ---- what is asked

module _ (S : Schema) where
  abbrev OkayFits : Result Asked Reply → Type 0
  OkayFits r = Okay (λ asked. AsksOfHomes S asked.op) r

  creating_fits : (next : ℕ) (session : Session) (home : List ℕ) (rest : Rest) → OkayFits (creating S next session home rest)
  creating_fits next session home rest = grind (arith, okay_then, okay_where)

  making_fits : (next : ℕ) (session : Session) (home factory : List ℕ) (rest : Rest) → OkayFits (making S next session home factory rest)
  making_fits next session home factory rest = grind (arith, okay_then, okay_where)

  setting_fits : (session : Session) (copies : Copies) (n : ℕ) (word : List ℕ) (rest : Rest) → OkayFits (setting S session copies n word rest)
  setting_fits session copies n word rest = grind (arith, okay_then, okay_where)

  find_fits : (home key : List ℕ) (rest : Rest) → OkayFits (finding S home key rest >>= λ op. Ok (obtaining op))
  find_fits home key rest = grind (arith, okay_then, okay_where)

  findref_fits : (home key : List ℕ) (rest : Rest) → OkayFits (finding S home key rest >>= λ op. Ok (only op))
  findref_fits home key rest = grind (arith, okay_then, okay_where)

  shortening_fits : (home : List ℕ) (serial : ℕ) → OkayFits (shortening S home serial)
  shortening_fits home serial = grind (arith, okay_then, okay_where)

  whether_fits : (copies : Copies) (n : ℕ) → OkayFits (asking_whether copies n)
  whether_fits copies n = grind (arith, okay_then, okay_where)

  getting_fits : (copies : Copies) (n : ℕ) (word : List ℕ) → OkayFits (getting S copies n word)
  getting_fits copies n word = grind (arith, okay_then, okay_where)

  destroying_fits : (session : Session) (copies : Copies) (n : ℕ) → OkayFits (destroying session copies n)
  destroying_fits session copies n = grind (arith, okay_then, okay_where)

  following_fits : (copies : Copies) (n : ℕ) (word : List ℕ) → OkayFits (following S copies n word)
  following_fits copies n word = grind (arith, okay_then, okay_where)

  home_fits : IsSoundSchema S → (home : List ℕ) (ask : HomeNo → PlainOp) → ((h : HomeNo) → IsSome (home_at S h) → AsksOfHomes S (ask h)) → OkayFits (asking_of_home S home ask)
  home_fits sound home ask h = by_home (home_named S home) (named_there S sound home)
    where
      by_home : (o : Option HomeNo) → AtHome S sound o → OkayFits (ok_or o reply.NoHome >>= λ i. Ok (only (ask i)))
      by_home None there = tt
      by_home (Some i) there = h i there

module _ (S : Schema) (limits : Limits) (k : Kept) (sound : IsSoundSchema S) where
  all_fit : (command : Command) (s : SessionNo) (session : Session) → OkayFits S (asked_by S k command s session)
  all_fit (command.Create name home values) s session = creating_fits S k.next session home values
  all_fit (command.Make name home factory values) s session = making_fits S k.next session home factory values
  all_fit (command.Find name home key values) s session = find_fits S home key values
  all_fit (command.FindRef name home key values) s session = findref_fits S home key values
  all_fit (command.Pid name pid) s session = tt
  all_fit (command.Short name home serial) s session = shortening_fits S home serial
  all_fit (command.Exists name n) s session = whether_fits S (copies_of k s) n
  all_fit (command.Get name n member) s session = getting_fits S (copies_of k s) n member
  all_fit (command.Set name n member value) s session = setting_fits S session (copies_of k s) n member value
  all_fit (command.Destroy name n) s session = destroying_fits S session (copies_of k s) n
  all_fit (command.Follow name n member) s session = following_fits S (copies_of k s) n member
  all_fit (command.Count name home) s session = home_fits S sound home (λ h. Ask (Count h)) (λ h there. there)
  all_fit (command.List name home) s session = home_fits S sound home (λ h. Ask (ListOf h)) (λ h there. there)
  all_fit _ s session = tt

  steps_of_homes : (effect : Effect) → Comes (λ s asked. AsksOfHomes S asked.op) (λ s copies. Unit {0}) effect → StepsOfHomes S effect
  steps_of_homes (Steps n s step asked) h = h
  steps_of_homes _ h = tt

  pub asks_of_homes : (command : Command) → StepsOfHomes S (decision S limits k command).effect
  asks_of_homes command =
      steps_of_homes (decision S limits k command).effect
      (comes S limits k (λ s asked. AsksOfHomes S asked.op) (λ s copies. Unit {0}) (record { asked = all_fit; counted = λ s n count. tt; freed = λ s. tt; refreshed = λ s session. tt }) command)

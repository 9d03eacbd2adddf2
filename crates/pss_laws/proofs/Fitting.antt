-- What commands ask for fits the schema.
use Rattle.std.proofs.Common.{arith, ◌≡◌, ℕ, List, [], ◌∷◌, Option, Some, None, refl}
use Rattle.std.specs.Prelude.{IsSome, Result, Ok, Err, ok_or, find, slice_index_or}
use Rattle.std.specs.Str.{bytes_eq}
use Rattle.pss_base.specs.declared.pid.Pid.{Pid}
use Rattle.pss_base.specs.declared.session.SessionNo.{SessionNo}
use Rattle.type_layout.specs.declared.schema.Schema.{Schema}
use Rattle.type_layout.specs.declared.schema.Home.{Home}
use Rattle.type_layout.specs.declared.home.HomeNo.{HomeNo}
use Rattle.type_layout.specs.declared.schema.Factory.{Factory}
use Rattle.type_layout.specs.Types.{PlainValue, PlainMember, Ref}
use Rattle.type_layout.specs.Values.{Of}
use Rattle.type_layout.specs.Sound.{AreMembers, IsSoundLayout, IsSoundSchema}
use Rattle.type_layout.specs.Defaults.{default_record}
use Rattle.type_layout.specs.Keys.{chosen}
use Rattle.type_layout.specs.Schemas.{given, home_at, members_at}
use Rattle.pss_machine.specs.declared.limits.Limits.{Limits}
use Rattle.pss_machine.specs.declared.command.Rest.{Rest}
use Rattle.pss_machine.specs.declared.command.Command.{Command}
use Rattle.pss_machine.specs.declared.command.Command.TheVariants as command
use Rattle.pss_machine.specs.declared.reply.Reply.{Reply}
use Rattle.pss_machine.specs.declared.reply.Reply.TheVariants as reply
use Rattle.pss_machine.specs.Operations.{Count, ListOf, Create, Set, Ask}
use Rattle.pss_machine.specs.Homes.{home_of, member_at}
use Rattle.pss_machine.specs.Names.{home_named, factory_named, member_named}
use Rattle.pss_machine.specs.Values.{types_of, made_of}
use Rattle.pss_machine.specs.Sessions.{Session, is_read_only}
use Rattle.pss_machine.specs.Copies.{Copies}
use Rattle.pss_machine.specs.Kept.{Kept, copies_of}
use Rattle.pss_machine.specs.Asking.{Asked, ◌>>=◌, refused_where, obtaining, only, by_entry, read_values, read_home, read_entry, Place, read_member, as_writer, read_value, creating, making, finding, shortening, asking_whether, getting, setting, destroying, following, asking_of_home}
use Rattle.pss_machine.specs.Effects.{Effect}
use Rattle.pss_machine.specs.Deciding.{decision}
use Rattle.pss_laws.specs.Good.{FitsSchema}
use Rattle.pss_laws.proofs.Coming.{Okay, okay_then, okay_where, asked_by, Comes, comes}
use Rattle.pss_laws.proofs.Asking.{AtHome, named_there, found_at}
use Rattle.pss_laws.proofs.Records.{default_fits, AllOf, all_record, read_fits, made_fits}

okay_through : {A B : Type 0} (P : A → Type 0) (Q : B → Type 0) (r : Result A Reply) (f : A → Result B Reply) → Okay P r → ((x : A) → P x → Okay Q (f x)) → Okay Q (r >>= f)
okay_through P Q (Ok x) f h g = g x h
okay_through P Q (Err refusal) f h g = tt

module _ (S : Schema) (sound : IsSoundSchema S) where
  abbrev OkayFits : Result Asked Reply → Type 0
  OkayFits r = Okay (λ asked. FitsSchema S asked.op) r

  home_there : (word : List ℕ) → Okay (λ h. IsSome (home_at S h)) (read_home S word)
  home_there word = by_home (home_named S word) (named_there S sound word)
    where
      by_home : (o : Option HomeNo) → AtHome S sound o → Okay (λ h. IsSome (home_at S h)) (ok_or o reply.NoHome)
      by_home None there = tt
      by_home (Some h) there = there

  writing : (session : Session) (asked : Asked) → FitsSchema S asked.op → OkayFits (as_writer session (Ok asked))
  writing session asked fits = okay_where (λ asked. FitsSchema S asked.op) (is_read_only session) reply.ReadOnly (Ok asked) fits

  creating_fits : (next : ℕ) (session : Session) (home : List ℕ) (rest : Rest) → OkayFits (creating S next session home rest)
  creating_fits next session home rest =
      okay_through (λ h. IsSome (home_at S h)) (λ asked. FitsSchema S asked.op) (read_home S home) _ (home_there home)
      (λ h there. okay_through (AllOf (types_of (members_at S h))) (λ asked. FitsSchema S asked.op) (read_values (types_of (members_at S h)) rest) _ (read_fits (types_of (members_at S h)) rest)
      (λ vs all. writing session (obtaining (Create next (record { home = h; values = vs }))) (there, all_record (members_at S h) vs all)))

  -- a factory's members are there
  factory_there : (h : HomeNo) (word : List ℕ) → Okay (λ (f : Factory). AreMembers f.members (members_at S h)) (ok_or (factory_named S h word) reply.NoFactory)
  factory_there h word = by_home (home_at S h) refl
    where
      by_found : (home : Home) → home_at S h ≡ Some home → (o : Option Factory) → find (λ factory. bytes_eq word factory.name) home.factories ≡ o → Okay (λ (f : Factory). AreMembers f.members home.layout.members) (ok_or o reply.NoFactory)
      by_found home at None e = tt
      by_found home at (Some f) e = (let place = found_at (λ (factory : Factory). bytes_eq word factory.name) home.factories f e in sound.factories h home at place.0 f place.1)

      by_home : (o : Option Home) → home_at S h ≡ o → Okay (λ (f : Factory). AreMembers f.members (given o [] (λ home. home.layout.members))) (ok_or (given o None (λ home. find (λ factory. bytes_eq word factory.name) home.factories)) reply.NoFactory)
      by_home None at = tt
      by_home (Some home) at = by_found home at (find (λ factory. bytes_eq word factory.name) home.factories) refl

  layout_sound : (h : HomeNo) → IsSoundLayout (members_at S h)
  layout_sound h = by_home (home_at S h) refl
    where
      by_home : (o : Option Home) → home_at S h ≡ o → IsSoundLayout (given o [] (λ home. home.layout.members))
      by_home None at = λ i m e. absurd (no m e)
        where
          no : (m : PlainMember) → None ≡ Some m → ⊥
          no m e = cc
      by_home (Some home) at = sound.layouts h home at

  making_fits : (next : ℕ) (session : Session) (home factory : List ℕ) (rest : Rest) → OkayFits (making S next session home factory rest)
  making_fits next session home factory rest =
      okay_through (λ h. IsSome (home_at S h)) (λ asked. FitsSchema S asked.op) (read_home S home) _ (home_there home)
      (λ h there. okay_through (λ (f : Factory). AreMembers f.members (members_at S h)) (λ asked. FitsSchema S asked.op) (ok_or (factory_named S h factory) reply.NoFactory) _ (factory_there h factory)
      (λ f members. okay_through (AllOf (types_of (chosen (members_at S h) f.members))) (λ asked. FitsSchema S asked.op) (read_values (types_of (chosen (members_at S h) f.members)) rest) _ (read_fits (types_of (chosen (members_at S h) f.members)) rest)
      (λ vs all. writing session (obtaining (Create next (record { home = h; values = made_of (members_at S h) f.members vs })))
      (there, made_fits (members_at S h) f.members vs (default_record (members_at S h)) members.0 all (default_fits (members_at S h) (layout_sound h))))))

  member_there : (pid : Pid) (word : List ℕ) → Okay (λ (place : Place). member_at S (home_of pid) place.number ≡ Some place.member) (read_member S pid word)
  member_there pid word = by_name (member_named S (home_of pid) word)
    where
      by_member : (i : ℕ) (o : Option PlainMember) → member_at S (home_of pid) i ≡ o → Okay (λ (place : Place). member_at S (home_of pid) place.number ≡ Some place.member) (ok_or (given o None (λ member. Some (record { number = i; member = member }))) reply.NoMember)
      by_member i None at = tt
      by_member i (Some m) at = at

      by_name : (o : Option ℕ)
          → Okay (λ (place : Place). member_at S (home_of pid) place.number ≡ Some place.member) (ok_or (given o None (λ i. given (member_at S (home_of pid) i) None (λ member. Some (record { number = i; member = member })))) reply.NoMember)
      by_name None = tt
      by_name (Some i) = by_member i (member_at S (home_of pid) i) refl

  value_fits : (member : PlainMember) (rest : Rest) → Okay (Of member.type) (read_value member rest)
  value_fits member rest = okay_through (AllOf (member.type ∷ [])) (Of member.type) (read_values (member.type ∷ []) rest) _ (read_fits (member.type ∷ []) rest) (λ vs all. first_of vs all)
    where
      first_of : (vs : List PlainValue) → AllOf (member.type ∷ []) vs → Of member.type (slice_index_or vs 0 (Ref None))
      first_of [] all = absurd all
      first_of (v ∷ vs) all = all.0

  setting_fits : (session : Session) (copies : Copies) (n : ℕ) (word : List ℕ) (rest : Rest) → OkayFits (setting S session copies n word rest)
  setting_fits session copies n word rest =
      okay_then (λ asked. FitsSchema S asked.op) (read_entry copies n) _
      (λ e. okay_through (λ (place : Place). member_at S (home_of e.pid) place.number ≡ Some place.member) (λ asked. FitsSchema S asked.op) (read_member S e.pid word) _ (member_there e.pid word)
      (λ place at. okay_through (Of place.member.type) (λ asked. FitsSchema S asked.op) (read_value place.member rest) _ (value_fits place.member rest)
      (λ v of. okay_where (λ asked. FitsSchema S asked.op) (is_read_only session) reply.ReadOnly (refused_where place.member.readonly reply.ReadOnly (Ok (by_entry n (Set e.pid place.number v))))
      (okay_where (λ asked. FitsSchema S asked.op) place.member.readonly reply.ReadOnly (Ok (by_entry n (Set e.pid place.number v))) (place.member, at, of)))))

  find_fits : (home key : List ℕ) (rest : Rest) → OkayFits (finding S home key rest >>= λ op. Ok (obtaining op))
  find_fits home key rest = grind (arith, okay_then, okay_where)

  findref_fits : (home key : List ℕ) (rest : Rest) → OkayFits (finding S home key rest >>= λ op. Ok (only op))
  findref_fits home key rest = grind (arith, okay_then, okay_where)

  shortening_fits : (home : List ℕ) (serial : ℕ) → OkayFits (shortening S home serial)
  shortening_fits home serial = grind (arith, okay_then, okay_where)

  whether_fits : (copies : Copies) (n : ℕ) → OkayFits (asking_whether copies n)
  whether_fits copies n = grind (arith, okay_then, okay_where)

  getting_fits : (copies : Copies) (n : ℕ) (word : List ℕ) → OkayFits (getting S copies n word)
  getting_fits copies n word = grind (arith, okay_then, okay_where)

  destroying_fits : (session : Session) (copies : Copies) (n : ℕ) → OkayFits (destroying session copies n)
  destroying_fits session copies n = grind (arith, okay_then, okay_where)

  following_fits : (copies : Copies) (n : ℕ) (word : List ℕ) → OkayFits (following S copies n word)
  following_fits copies n word = grind (arith, okay_then, okay_where)

  count_fits : (home : List ℕ) → OkayFits (asking_of_home S home (λ h. Ask (Count h)))
  count_fits home = grind (arith, okay_then, okay_where)

  list_fits : (home : List ℕ) → OkayFits (asking_of_home S home (λ h. Ask (ListOf h)))
  list_fits home = grind (arith, okay_then, okay_where)

  module _ (limits : Limits) (k : Kept) where
    all_fit : (command : Command) (s : SessionNo) (session : Session) → OkayFits (asked_by S k command s session)
    all_fit (command.Create name home values) s session = creating_fits k.next session home values
    all_fit (command.Make name home factory values) s session = making_fits k.next session home factory values
    all_fit (command.Find name home key values) s session = find_fits home key values
    all_fit (command.FindRef name home key values) s session = findref_fits home key values
    all_fit (command.Pid name pid) s session = tt
    all_fit (command.Short name home serial) s session = shortening_fits home serial
    all_fit (command.Exists name n) s session = whether_fits (copies_of k s) n
    all_fit (command.Get name n member) s session = getting_fits (copies_of k s) n member
    all_fit (command.Set name n member value) s session = setting_fits session (copies_of k s) n member value
    all_fit (command.Destroy name n) s session = destroying_fits session (copies_of k s) n
    all_fit (command.Follow name n member) s session = following_fits (copies_of k s) n member
    all_fit (command.Count name home) s session = count_fits home
    all_fit (command.List name home) s session = list_fits home
    all_fit _ s session = tt

    abbrev pub StepFits : Effect → Type 0
    StepFits effect = Comes (λ s asked. FitsSchema S asked.op) (λ s copies. Unit {0}) effect

    pub steps_fit : (command : Command) → StepFits (decision S limits k command).effect
    steps_fit command = comes S limits k (λ s asked. FitsSchema S asked.op) (λ s copies. Unit {0}) (record { asked = all_fit; counted = λ s n count. tt; freed = λ s. tt; refreshed = λ s session. tt }) command

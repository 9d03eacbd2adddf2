-- A follow names the entry of the object that it follows from, and no command gives an entry another copy.
use Rattle.std.proofs.Common.{arith, ◌≡◌, ℕ, true, List, Option, Some, None, refl, sym, ap, ◌∙◌}
use Rattle.std.specs.Prelude.{Result, Ok, Err, ok_or, if◌then◌else◌}
use Rattle.std.specs.FinMap.{get}
use Rattle.pss_base.specs.declared.pid.Pid.{Pid}
use Rattle.pss_base.specs.declared.session.SessionNo.{SessionNo}
use Rattle.type_layout.specs.declared.schema.Schema.{Schema}
use Rattle.type_layout.specs.Types.{PlainValue}
use Rattle.type_layout.specs.Schemas.{given}
use Rattle.pss_machine.specs.declared.limits.Limits.{Limits}
use Rattle.pss_machine.specs.declared.command.Rest.{Rest}
use Rattle.pss_machine.specs.declared.command.Command.{Command}
use Rattle.pss_machine.specs.declared.command.Command.TheVariants as command
use Rattle.pss_machine.specs.declared.reply.Reply.{Reply}
use Rattle.pss_machine.specs.declared.reply.Reply.TheVariants as reply
use Rattle.pss_machine.specs.Operations.{Follow, Count, ListOf, PlainOp, Ask}
use Rattle.pss_machine.specs.Sessions.{Session}
use Rattle.pss_machine.specs.Copies.{Stand, Loose, Shared, Copied, Copies, Entry, entry_numbered, body_in, same_view}
use Rattle.pss_machine.specs.declared.session.View.TheVariants.{Kept as InCopy}
use Rattle.pss_machine.specs.Kept.{Kept, copies_of}
use Rattle.pss_machine.specs.Asking.{Asked, ◌>>=◌, obtaining, only, is_reference, read_member, creating, making, finding, shortening, asking_whether, getting, setting, destroying, following, asking_of_home}
use Rattle.pss_machine.specs.Effects.{Effect}
use Rattle.pss_machine.specs.Stepping.{copied_values}
use Rattle.pss_machine.specs.Deciding.{decision}
use Rattle.pss_machine.proofs.Cases.{of_if}
use Rattle.pss_laws.proofs.Coming.{Okay, okay_then, okay_where, asked_by, Comes, comes}
use Rattle.pss_laws.proofs.Stands.{EntriesFrom, AllFrom, counting_from, detached_one, one_of}

-- the entry that is named
abbrev pub named_in : Copies → Option ℕ → Option Entry
named_in copies named = given named None (entry_numbered copies)

-- it is of the object that is followed from
abbrev pub NamesIt : Copies → PlainOp → Option ℕ → Type 0
NamesIt copies (Ask (Follow p member)) named = (e : Entry) → named_in copies named ≡ Some e → e.pid ≡ p
NamesIt copies _ named = Unit {0}

module _ (S : Schema) (copies : Copies) where
  abbrev OkayNames : Result Asked Reply → Type 0
  OkayNames r = Okay (λ asked. NamesIt copies asked.op asked.entry) r

  creating_names : (next : ℕ) (session : Session) (home : List ℕ) (rest : Rest) → OkayNames (creating S next session home rest)
  creating_names next session home rest = grind (arith, okay_then, okay_where)

  making_names : (next : ℕ) (session : Session) (home factory : List ℕ) (rest : Rest) → OkayNames (making S next session home factory rest)
  making_names next session home factory rest = grind (arith, okay_then, okay_where)

  setting_names : (session : Session) (n : ℕ) (word : List ℕ) (rest : Rest) → OkayNames (setting S session copies n word rest)
  setting_names session n word rest = grind (arith, okay_then, okay_where)

  find_names : (home key : List ℕ) (rest : Rest) → OkayNames (finding S home key rest >>= λ op. Ok (obtaining op))
  find_names home key rest = grind (arith, okay_then, okay_where)

  findref_names : (home key : List ℕ) (rest : Rest) → OkayNames (finding S home key rest >>= λ op. Ok (only op))
  findref_names home key rest = grind (arith, okay_then, okay_where)

  shortening_names : (home : List ℕ) (serial : ℕ) → OkayNames (shortening S home serial)
  shortening_names home serial = grind (arith, okay_then, okay_where)

  whether_names : (n : ℕ) → OkayNames (asking_whether copies n)
  whether_names n = grind (arith, okay_then, okay_where)

  getting_names : (n : ℕ) (word : List ℕ) → OkayNames (getting S copies n word)
  getting_names n word = grind (arith, okay_then, okay_where)

  destroying_names : (session : Session) (n : ℕ) → OkayNames (destroying session copies n)
  destroying_names session n = grind (arith, okay_then, okay_where)

  count_names : (home : List ℕ) → OkayNames (asking_of_home S home (λ h. Ask (Count h)))
  count_names home = grind (arith, okay_then, okay_where)

  list_names : (home : List ℕ) → OkayNames (asking_of_home S home (λ h. Ask (ListOf h)))
  list_names home = grind (arith, okay_then, okay_where)

  following_names : (n : ℕ) (word : List ℕ) → OkayNames (following S copies n word)
  following_names n word = by_entry (entry_numbered copies n) refl
    where
      by_entry : (o : Option Entry) → entry_numbered copies n ≡ o
          → OkayNames (ok_or o reply.NoEntry >>= λ e. read_member S e.pid word >>= λ place. if is_reference place.member.type then Ok (record { op = Ask (Follow e.pid place.number); entry = Some n; obtains = true }) else Err reply.NotRef)
      by_entry None at = tt
      by_entry (Some e) at =
          okay_then (λ asked. NamesIt copies asked.op asked.entry) (read_member S e.pid word) (λ place. if is_reference place.member.type then Ok (record { op = Ask (Follow e.pid place.number); entry = Some n; obtains = true }) else Err reply.NotRef)
          (λ place. of_if OkayNames (is_reference place.member.type) (Ok (record { op = Ask (Follow e.pid place.number); entry = Some n; obtains = true })) (Err reply.NotRef) (λ x is. same_pid x (sym at ∙ is)) tt)
        where
          same_pid : (x : Entry) → Some e ≡ Some x → x.pid ≡ e.pid
          same_pid x is = (let one : e ≡ x = cc in ap (λ (y : Entry). y.pid) (sym one))

module _ (S : Schema) (limits : Limits) (k : Kept) (Q : Pid → List PlainValue → Type 0) (from : AllFrom Q k.copies) where
  -- of a step that it names its entry, of entries that they stand as before
  abbrev pub Goes : Effect → Type 0
  Goes effect = Comes (λ s asked. NamesIt (copies_of k s) asked.op asked.entry) (λ s copies. EntriesFrom Q copies.entries) effect

  all_name : (command : Command) (s : SessionNo) (session : Session) → OkayNames S (copies_of k s) (asked_by S k command s session)
  all_name (command.Create name home values) s session = creating_names S (copies_of k s) k.next session home values
  all_name (command.Make name home factory values) s session = making_names S (copies_of k s) k.next session home factory values
  all_name (command.Find name home key values) s session = find_names S (copies_of k s) home key values
  all_name (command.FindRef name home key values) s session = findref_names S (copies_of k s) home key values
  all_name (command.Pid name pid) s session = tt
  all_name (command.Short name home serial) s session = shortening_names S (copies_of k s) home serial
  all_name (command.Exists name n) s session = whether_names S (copies_of k s) n
  all_name (command.Get name n member) s session = getting_names S (copies_of k s) n member
  all_name (command.Set name n member value) s session = setting_names S (copies_of k s) session n member value
  all_name (command.Destroy name n) s session = destroying_names S (copies_of k s) session n
  all_name (command.Follow name n member) s session = following_names S (copies_of k s) n member
  all_name (command.Count name home) s session = count_names S (copies_of k s) home
  all_name (command.List name home) s session = list_names S (copies_of k s) home
  all_name _ s session = tt

  of_session : (s : SessionNo) → EntriesFrom Q (copies_of k s).entries
  of_session s = one_of Q k.copies s.0 (get k.copies s.0) refl from

  pub goes : (command : Command) → Goes (decision S limits k command).effect
  goes command = comes S limits k (λ s asked. NamesIt (copies_of k s) asked.op asked.entry) (λ s copies. EntriesFrom Q copies.entries) (record {
    asked = all_name;
    counted = λ s n count. counting_from Q n count (copies_of k s) (of_session s);
    freed = λ s. tt;
    refreshed = λ s session. detached_one Q (body_in k.owners s session) (λ body. same_view body.view (InCopy s)) (copies_of k s) (of_session s);
  }) command

-- the values of a copy are those that the named entry stands on
pub copied_is : (copies : Copies) (named : Option ℕ) (values : List PlainValue) → copied_values copies named ≡ Some values → (e : Entry) × (named_in copies named ≡ Some e) × (e.stand ≡ Copied values)
copied_is copies None values is = absurd cc
copied_is copies (Some n) values is = by_found (entry_numbered copies n) refl
  where
    by_stand : (e : Entry) (stand : Stand) → e.stand ≡ stand → entry_numbered copies n ≡ Some e → (e : Entry) × (entry_numbered copies n ≡ Some e) × (e.stand ≡ Copied values)
    by_stand e Loose stands at = (let none : copied_values copies (Some n) ≡ None = rw at (rw stands refl) in let no : None ≡ Some values = sym none ∙ is in absurd cc)
    by_stand e Shared stands at = (let none : copied_values copies (Some n) ≡ None = rw at (rw stands refl) in let no : None ≡ Some values = sym none ∙ is in absurd cc)
    by_stand e (Copied vs) stands at =
        let some : copied_values copies (Some n) ≡ Some vs = rw at (rw stands refl) in
        let both : Some vs ≡ Some values = sym some ∙ is in
        let same : vs ≡ values = cc in
        (e, at, stands ∙ ap Copied same)

    by_found : (o : Option Entry) → entry_numbered copies n ≡ o → (e : Entry) × (entry_numbered copies n ≡ Some e) × (e.stand ≡ Copied values)
    by_found None at = (let none : copied_values copies (Some n) ≡ None = rw at refl in let no : None ≡ Some values = sym none ∙ is in absurd cc)
    by_found (Some e) at = by_stand e e.stand refl at

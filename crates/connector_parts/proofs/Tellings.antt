-- The names of owners, and the objects of entries.
use Rattle.std.proofs.Common.{ℕ, ◌≡◌, [], Option, Some, None, refl, sym, ap, ◌∙◌}
use Rattle.std.specs.Prelude.{Result, Ok, Err, IfOk}
use Rattle.std.specs.Option.{option_map}
use Rattle.std.specs.FinMap.{get}
use Rattle.pss_base.specs.declared.pid.Pid.{Pid}
use Rattle.pss_base.specs.declared.owner.OwnerNo.{OwnerNo}
use Rattle.pss_base.specs.declared.session.SessionNo.{SessionNo}
use Rattle.type_layout.specs.Schemas.{given}
use Rattle.pss_machine.specs.Copies.{entry_numbered}
use Rattle.pss_machine.specs.Kept.{Kept, Title, name_of, copies_of}
use Rattle.owner_titles.specs.declared.called.Called.{Called}
use Rattle.owner_titles.specs.Meaning.{Meaning as Titles, AreTitles, title_of}
use Rattle.incarnations.specs.declared.names.Entry.{Entry}
use Rattle.incarnations.specs.Meaning.{Meaning, entry_at, AreCopies}
use Rattle.pss_copies.specs.Told.{AreTold, entry_told}
use Rattle.pss_copies.proofs.Held.{told_at}

pub if_ok : {A E : Type 0} (P Q : A → Type 0) (result : Result A E) → ((x : A) → P x → Q x) → IfOk result P → IfOk result Q
if_ok P Q (Ok x) more h = more x h
if_ok P Q (Err e) more h = tt

-- the name of an owner is that under which it is called
pub name_told : (k : Kept) (titles : Titles) → AreTitles titles k → (n : OwnerNo) (o : Option Called) → o ≡ get titles.called n.0 → given o [] (λ c. c.name) ≡ name_of k n
name_told k titles are n o is = mapped o ∙ ap (λ (q : Option Called). given (option_map title_of q) [] (λ t. t.name)) is ∙ ap (λ (q : Option Title). given q [] (λ t. t.name)) (sym (are.titles n.0))
  where
    mapped : (q : Option Called) → given q [] (λ c. c.name) ≡ given (option_map title_of q) [] (λ t. t.name)
    mapped None = refl
    mapped (Some c) = refl

-- the object of an entry is the machine's
pub pid_told : (k : Kept) (m : Meaning) → AreCopies m → AreTold m k.copies → (s : SessionNo) (n : ℕ) → option_map (λ e. e.pid) (entry_at m s n) ≡ option_map (λ e. e.pid) (entry_numbered (copies_of k s) n)
pid_told k m are told s n = mapped (entry_at m s n) ∙ sym (ap (option_map {U = Pid} (λ e. e.pid)) (told_at m k.copies are told s n))
  where
    mapped : (o : Option Entry) → option_map {U = Pid} (λ e. e.pid) o ≡ option_map {U = Pid} (λ e. e.pid) (option_map (entry_told m n) o)
    mapped None = refl
    mapped (Some e) = refl

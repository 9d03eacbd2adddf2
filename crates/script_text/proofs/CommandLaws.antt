-- Lines and what they say.
use Rattle.std.proofs.Common.{◌≡◌, ℕ, List, [], ◌∷◌, ◌++◌, Bool, true, false, refl, sym, ◌∙◌, ap, subst, append_assoc, Option, Some, None, Ok, Err}
use Rattle.std.proofs.lemmas.List.{map-append}
use Rattle.std.specs.Prelude.{Result, codes, IsTrue}
use Rattle.pss_machine.specs.declared.command.Rest.{Rest}
use Rattle.pss_machine.specs.declared.command.Command.{Command}
use Rattle.pss_machine.specs.declared.command.Command.TheVariants as command
use Rattle.pss_machine.specs.Run.{Said, Silent, Says, Wrong}
use Rattle.script_text.specs.declared.verb.AloneVerb.TheVariants.{Checkpoint, Stat, History}
use Rattle.script_text.specs.declared.verb.SessionVerb.TheVariants.{Close, Suspend, Status, FreeAll, Flush, Refresh}
use Rattle.script_text.specs.declared.verb.TransactionVerb.TheVariants.{Commit, Rollback}
use Rattle.script_text.specs.declared.verb.HomeVerb.TheVariants.{Home, Count, List as Lists}
use Rattle.script_text.specs.declared.verb.KeyVerb.TheVariants.{Make, Find, FindRef}
use Rattle.script_text.specs.declared.verb.EntryVerb.TheVariants.{Exists, Destroy, PidOf, Dup, Release}
use Rattle.script_text.specs.declared.verb.MemberVerb.TheVariants.{Get, Follow}
use Rattle.script_text.specs.declared.verb.Verb.{Verb}
use Rattle.script_text.specs.declared.verb.Verb.TheVariants as verb
use Rattle.script_text.specs.Words.{Word, words, whole, column_of}
use Rattle.script_text.specs.Parts.{Fixed}
use Rattle.script_text.specs.Spelling.{Spelling, spelling, Spells, IsSpelled, Fits, texts_of, CanStand, CannotGoOn, IsWrongAt, begins_comment, is_silent, Reads}
use Rattle.script_text.specs.Meaning.{verb_text, verb_of, form, Row, given, row_in, built, command_in, said_by, said_in, meaning}
use Rattle.script_text.specs.Telling.{LinesSayOneThing}
use Rattle.script_text.proofs.VerbLaws.{verb_spelled, verb_again}
use Rattle.script_text.proofs.RowLaws.{row_parts, row_values, AreApart, RowSpells, row_sound, row_complete, RowFits, RowCannot, row_stops, rest_words, rest_end, column_kept}

-- what is said behind a verb
abbrev RowOf : Verb → Type 0
RowOf v = Row (form v).kinds (form v).has_values

-- how the command is written
abbrev written : (v : Verb) → RowOf v → Spelling
written v row = record { parts = Fixed (verb_text v) ∷ row_parts (form v).kinds (form v).has_values row; values = row_values (form v).kinds (form v).has_values row }

built_spelling : (v : Verb) (row : RowOf v) → spelling (built v row) ≡ written v row
built_spelling verb.Open row = refl
built_spelling verb.Begin row = refl
built_spelling verb.Start row = refl
built_spelling verb.End row = refl
built_spelling verb.Create row = refl
built_spelling verb.Pid row = refl
built_spelling verb.Short row = refl
built_spelling verb.Set row = refl
built_spelling (verb.Session Close) row = refl
built_spelling (verb.Session Suspend) row = refl
built_spelling (verb.Session Status) row = refl
built_spelling (verb.Transaction Commit) row = refl
built_spelling (verb.Transaction Rollback) row = refl
built_spelling (verb.Home Home) row = refl
built_spelling (verb.Key Make) row = refl
built_spelling (verb.Key Find) row = refl
built_spelling (verb.Key FindRef) row = refl
built_spelling (verb.Entry Exists) row = refl
built_spelling (verb.Member Get) row = refl
built_spelling (verb.Entry Destroy) row = refl
built_spelling (verb.Member Follow) row = refl
built_spelling (verb.Home Count) row = refl
built_spelling (verb.Home Lists) row = refl
built_spelling (verb.Entry PidOf) row = refl
built_spelling (verb.Entry Dup) row = refl
built_spelling (verb.Entry Release) row = refl
built_spelling (verb.Session FreeAll) row = refl
built_spelling (verb.Session Flush) row = refl
built_spelling (verb.Session Refresh) row = refl
built_spelling (verb.Alone Checkpoint) row = refl
built_spelling (verb.Alone Stat) row = refl
built_spelling (verb.Alone History) row = refl

-- a command by its verb
record FormOf (c : Command) : Type 0 where
  pub v : Verb
  pub row : RowOf v
  pub same : built v row ≡ c

form_of : (c : Command) → FormOf c
form_of (command.OpenSession s tx write) = record { v = verb.Open; row = (s, (tx, (write, tt))); same = refl }
form_of (command.Close s) = record { v = verb.Session Close; row = (s, tt); same = refl }
form_of (command.Begin t serializable) = record { v = verb.Begin; row = (t, (serializable, tt)); same = refl }
form_of (command.Start s t) = record { v = verb.Start; row = (s, (t, tt)); same = refl }
form_of (command.Suspend s) = record { v = verb.Session Suspend; row = (s, tt); same = refl }
form_of (command.End s ok) = record { v = verb.End; row = (s, (ok, tt)); same = refl }
form_of (command.Status s) = record { v = verb.Session Status; row = (s, tt); same = refl }
form_of (command.Commit t) = record { v = verb.Transaction Commit; row = (t, tt); same = refl }
form_of (command.Rollback t) = record { v = verb.Transaction Rollback; row = (t, tt); same = refl }
form_of (command.Home s home) = record { v = verb.Home Home; row = (s, (home, tt)); same = refl }
form_of (command.Create s home values) = record { v = verb.Create; row = (s, (home, values)); same = refl }
form_of (command.Make s home factory values) = record { v = verb.Key Make; row = (s, (home, (factory, values))); same = refl }
form_of (command.Find s home key values) = record { v = verb.Key Find; row = (s, (home, (key, values))); same = refl }
form_of (command.FindRef s home key values) = record { v = verb.Key FindRef; row = (s, (home, (key, values))); same = refl }
form_of (command.Pid s pid) = record { v = verb.Pid; row = (s, (pid, tt)); same = refl }
form_of (command.Short s home serial) = record { v = verb.Short; row = (s, (home, (serial, tt))); same = refl }
form_of (command.Exists s entry) = record { v = verb.Entry Exists; row = (s, (entry, tt)); same = refl }
form_of (command.Get s entry member) = record { v = verb.Member Get; row = (s, (entry, (member, tt))); same = refl }
form_of (command.Set s entry member value) = record { v = verb.Set; row = (s, (entry, (member, value))); same = refl }
form_of (command.Destroy s entry) = record { v = verb.Entry Destroy; row = (s, (entry, tt)); same = refl }
form_of (command.Follow s entry member) = record { v = verb.Member Follow; row = (s, (entry, (member, tt))); same = refl }
form_of (command.Count s home) = record { v = verb.Home Count; row = (s, (home, tt)); same = refl }
form_of (command.List s home) = record { v = verb.Home Lists; row = (s, (home, tt)); same = refl }
form_of (command.PidOf s entry) = record { v = verb.Entry PidOf; row = (s, (entry, tt)); same = refl }
form_of (command.Dup s entry) = record { v = verb.Entry Dup; row = (s, (entry, tt)); same = refl }
form_of (command.Release s entry) = record { v = verb.Entry Release; row = (s, (entry, tt)); same = refl }
form_of (command.FreeAll s) = record { v = verb.Session FreeAll; row = (s, tt); same = refl }
form_of (command.Flush s) = record { v = verb.Session Flush; row = (s, tt); same = refl }
form_of (command.Refresh s) = record { v = verb.Session Refresh; row = (s, tt); same = refl }
form_of command.Checkpoint = record { v = verb.Alone Checkpoint; row = tt; same = refl }
form_of command.Stat = record { v = verb.Alone Stat; row = tt; same = refl }
form_of command.History = record { v = verb.Alone History; row = tt; same = refl }

apart : (v : Verb) → AreApart (form v).kinds
apart verb.Open = (tt, (refl, (refl, tt)))
apart verb.Begin = (tt, (refl, tt))
apart verb.Start = (tt, (tt, tt))
apart verb.End = (tt, (refl, tt))
apart verb.Create = (tt, (tt, tt))
apart verb.Pid = (tt, (tt, tt))
apart verb.Short = (tt, (tt, (tt, tt)))
apart verb.Set = (tt, (tt, (tt, tt)))
apart (verb.Alone v) = tt
apart (verb.Session v) = (tt, tt)
apart (verb.Transaction v) = (tt, tt)
apart (verb.Home v) = (tt, (tt, tt))
apart (verb.Key v) = (tt, (tt, (tt, tt)))
apart (verb.Entry v) = (tt, (tt, tt))
apart (verb.Member v) = (tt, (tt, (tt, tt)))

no_comment : (v : Verb) → begins_comment (verb_text v) ≡ false
no_comment verb.Open = refl
no_comment verb.Begin = refl
no_comment verb.Start = refl
no_comment verb.End = refl
no_comment verb.Create = refl
no_comment verb.Pid = refl
no_comment verb.Short = refl
no_comment verb.Set = refl
no_comment (verb.Session Close) = refl
no_comment (verb.Session Suspend) = refl
no_comment (verb.Session Status) = refl
no_comment (verb.Transaction Commit) = refl
no_comment (verb.Transaction Rollback) = refl
no_comment (verb.Home Home) = refl
no_comment (verb.Key Make) = refl
no_comment (verb.Key Find) = refl
no_comment (verb.Key FindRef) = refl
no_comment (verb.Entry Exists) = refl
no_comment (verb.Member Get) = refl
no_comment (verb.Entry Destroy) = refl
no_comment (verb.Member Follow) = refl
no_comment (verb.Home Count) = refl
no_comment (verb.Home Lists) = refl
no_comment (verb.Entry PidOf) = refl
no_comment (verb.Entry Dup) = refl
no_comment (verb.Entry Release) = refl
no_comment (verb.Session FreeAll) = refl
no_comment (verb.Session Flush) = refl
no_comment (verb.Session Refresh) = refl
no_comment (verb.Alone Checkpoint) = refl
no_comment (verb.Alone Stat) = refl
no_comment (verb.Alone History) = refl

-- ---- first words

-- the words are those of a command: the first is its verb
first_fits : (c : Command) (text : List ℕ) (texts : List (List ℕ)) → Fits (spelling c).parts (spelling c).values (text ∷ texts)
    → (v : Verb) × (row : RowOf v) × (text ≡ verb_text v) × RowFits (form v).kinds (form v).has_values row texts
first_fits c text texts h =
    let f = form_of c in
    let spelled : Fits (written f.v f.row).parts (written f.v f.row).values (text ∷ texts) =
    subst (λ s. Fits s.parts s.values (text ∷ texts)) (ap spelling (sym f.same) ∙ built_spelling f.v f.row) h in
    (f.v, f.row, spelled.0, spelled.1)

first_spelled : (c : Command) (rest : Rest) (w : Word) (ws : List Word) → Spells (spelling c).parts (spelling c).values rest (w ∷ ws)
    → (v : Verb) × (row : RowOf v) × (built v row ≡ c) × (w.text ≡ verb_text v) × RowSpells (form v).kinds (form v).has_values row w.rest ws
first_spelled c rest w ws h =
    let f = form_of c in
    let spelled : Spells (written f.v f.row).parts (written f.v f.row).values rest (w ∷ ws) =
    subst (λ s. Spells s.parts s.values rest (w ∷ ws)) (ap spelling (sym f.same) ∙ built_spelling f.v f.row) h in
    (f.v, f.row, f.same, spelled.0, spelled.1)

none_spelled : (c : Command) (rest : Rest) → Spells (spelling c).parts (spelling c).values rest [] → ⊥
none_spelled c rest h =
    let f = form_of c in
    subst (λ s. Spells s.parts s.values rest []) (ap spelling (sym f.same) ∙ built_spelling f.v f.row) h

-- the verb of a word that is one
verb_is : (word : List ℕ) (v u : Verb) → verb_of word ≡ Some v → word ≡ verb_text u → u ≡ v
verb_is word v u e is = let again : Some u ≡ Some v = sym (subst (λ w. verb_of w ≡ Some u) (sym is) (verb_again u)) ∙ e in cc

verb_found : (word : List ℕ) (u : Verb) → word ≡ verb_text u → verb_of word ≡ Some u
verb_found word u is = subst (λ w. verb_of w ≡ Some u) (sym is) (verb_again u)

-- ---- fronts

can_stand_first : (xs ys : List Word) → CanStand (xs ++ ys) → CanStand xs
can_stand_first xs ys h =
    let texts : texts_of (xs ++ ys) ++ h.1 ≡ texts_of xs ++ (texts_of ys ++ h.1) =
    ap (λ l. l ++ h.1) (map-append (λ w. w.text) xs ys) ∙ append_assoc (texts_of xs) (texts_of ys) h.1 in
    (h.0, texts_of ys ++ h.1, subst (λ l. Fits (spelling h.0).parts (spelling h.0).values l) texts h.2)

-- ---- what a line says, it reads as

nothing_stands : CanStand []
nothing_stands = (command.Checkpoint, codes "checkpoint" ∷ [], (refl, refl))

-- no command begins with a word that is no verb
no_verb : (w : Word) → verb_of w.text ≡ None → CanStand ([] ++ w ∷ []) → ⊥
no_verb w none h =
    let f = first_fits h.0 w.text h.1 h.2 in
    absurd (let some = verb_found w.text f.0 f.2 in cc)

wrong_verb : (line : List ℕ) (w : Word) (ws : List Word) → words line ≡ w ∷ ws → verb_of w.text ≡ None → IsWrongAt line w.column
wrong_verb line w ws is none = record {
  front = [];
  behind = w ∷ ws;
  all = is;
  before = nothing_stands;
  after = no_verb w none;
  no_command = λ c h. not_spelled c (subst (λ l. Spells (spelling c).parts (spelling c).values (whole line) l) is h);
  at = refl;
}
  where
    not_spelled : (c : Command) → Spells (spelling c).parts (spelling c).values (whole line) (w ∷ ws) → ⊥
    not_spelled c h =
        let f = first_spelled c (whole line) w ws h in
        absurd (let some = verb_found w.text f.0 f.3 in cc)

-- a verb, and behind it words that say no row of its
wrong_behind : (line : List ℕ) (w : Word) (ws : List Word) (v : Verb) (column : ℕ) → words line ≡ w ∷ ws → verb_of w.text ≡ Some v → command_in v w.rest ≡ Err column → row_in (form v).kinds (form v).has_values w.rest ≡ Err column
    → IsWrongAt line column
wrong_behind line w ws v column is some none stops_at =
    let stops = row_stops (form v).kinds (form v).has_values w.rest column (apart v) stops_at in
    let rest = rest_words (whole line) w ws is in
    record {
      front = w ∷ stops.front;
      behind = stops.behind;
      all = is ∙ ap (λ l. w ∷ l) (rest ∙ stops.all);
      before = (built v stops.row, stops.more, subst (λ s. Fits s.parts s.values (texts_of (w ∷ stops.front) ++ stops.more)) (sym (built_spelling v stops.row)) (verb_spelled w.text v some, stops.before));
      after = cannot stops.front stops.behind stops.after;
      no_command = λ c h. not_spelled c (subst (λ l. Spells (spelling c).parts (spelling c).values (whole line) l) is h);
      at = stops.at ∙ column_kept (whole line) w stops.behind (rest_end (whole line) w ws is);
    }
  where
    cannot : (front behind : List Word) → RowCannot (form v).kinds (form v).has_values front behind → CannotGoOn (w ∷ front) behind
    cannot front [] h = tt
    cannot front (u ∷ us) h = λ stands.
        let texts : texts_of (front ++ u ∷ []) ++ stands.1 ≡ texts_of front ++ u.text ∷ stands.1 =
        ap (λ l. l ++ stands.1) (map-append (λ w. w.text) front (u ∷ [])) ∙ append_assoc (texts_of front) (u.text ∷ []) stands.1 in
        let f = first_fits stands.0 w.text (texts_of (front ++ u ∷ []) ++ stands.1) stands.2 in
        let one : f.0 ≡ v = verb_is w.text v f.0 some f.2 in
        subst (λ x. (row : RowOf x) → RowFits (form x).kinds (form x).has_values row (texts_of front ++ u.text ∷ stands.1) → ⊥) (sym one) (λ row fits. h row stands.1 fits) f.1
        (subst (λ l. RowFits (form f.0).kinds (form f.0).has_values f.1 l) texts f.3)

    not_spelled : (c : Command) → Spells (spelling c).parts (spelling c).values (whole line) (w ∷ ws) → ⊥
    not_spelled c h =
        let f = first_spelled c (whole line) w ws h in
        let one : f.0 ≡ v = verb_is w.text v f.0 some f.3 in
        subst (λ x. (row : RowOf x) → RowSpells (form x).kinds (form x).has_values row w.rest ws → ⊥) (sym one)
        (λ row spelled. absurd (let read = row_complete (form v).kinds (form v).has_values w.rest row (apart v) (subst (λ l. RowSpells (form v).kinds (form v).has_values row w.rest l) (rest_words (whole line) w ws is) spelled) in cc)) f.1 f.4

-- a line whose first word is a verb
verb_reads : (line : List ℕ) (w : Word) (ws : List Word) (v : Verb) → words line ≡ w ∷ ws → begins_comment w.text ≡ false → verb_of w.text ≡ Some v → Reads line (said_by (command_in v w.rest))
verb_reads line w ws v is loud some = by (row_in (form v).kinds (form v).has_values w.rest) refl
  where
    by : (r : Result (RowOf v) ℕ) → row_in (form v).kinds (form v).has_values w.rest ≡ r → Reads line (said_by (command_in v w.rest))
    by (Ok row) read =
        let spelled = row_sound (form v).kinds (form v).has_values w.rest row read in
        let there : RowSpells (form v).kinds (form v).has_values row w.rest ws = subst (λ l. RowSpells (form v).kinds (form v).has_values row w.rest l) (sym (rest_words (whole line) w ws is)) spelled in
        let says : command_in v w.rest ≡ Ok (built v row) = rw read refl in
        let command_spelled : Spells (spelling (built v row)).parts (spelling (built v row)).values (whole line) (w ∷ ws) =
        subst (λ s. Spells s.parts s.values (whole line) (w ∷ ws)) (sym (built_spelling v row)) (verb_spelled w.text v some, there) in
        subst (λ r. Reads line (said_by r)) (sym says) (subst (λ l. Spells (spelling (built v row)).parts (spelling (built v row)).values (whole line) l) (sym is) command_spelled)
    by (Err column) read =
        let says : command_in v w.rest ≡ Err column = rw read refl in
        subst (λ r. Reads line (said_by r)) (sym says) (subst (λ l. is_silent l ≡ false) (sym is) loud, wrong_behind line w ws v column is some says read)

reads_meaning : (line : List ℕ) → Reads line (meaning line)
reads_meaning line = by (words line) refl
  where
    by_verb : (w : Word) (ws : List Word) → words line ≡ w ∷ ws → begins_comment w.text ≡ false → (o : Option Verb) → verb_of w.text ≡ o
        → Reads line (given o (Wrong w.column) (λ v. said_by (command_in v w.rest)))
    by_verb w ws is loud None none = (subst (λ l. is_silent l ≡ false) (sym is) loud, wrong_verb line w ws is none)
    by_verb w ws is loud (Some v) some = verb_reads line w ws v is loud some

    by_first : (w : Word) (ws : List Word) → words line ≡ w ∷ ws → (b : Bool) → begins_comment w.text ≡ b → Reads line (said_in (w ∷ ws))
    by_first w ws is true quiet = rw quiet (subst (λ l. IsTrue (is_silent l)) (sym is) quiet)
    by_first w ws is false loud = rw loud (by_verb w ws is loud (verb_of w.text) refl)

    by : (ws : List Word) → words line ≡ ws → Reads line (said_in ws)
    by [] is = subst (λ l. IsTrue (is_silent l)) (sym is) refl
    by (w ∷ ws) is = by_first w ws is (begins_comment w.text) refl

-- ---- a line says nothing else

-- two places where words cannot go on are one
one_place : (before xs ys xs' ys' : List Word) → xs ++ ys ≡ xs' ++ ys' → CanStand (before ++ xs) → CannotGoOn (before ++ xs) ys → CanStand (before ++ xs') → CannotGoOn (before ++ xs') ys' → ys ≡ ys'
one_place before [] ys [] ys' e can cannot can' cannot' = e
one_place before [] ys (x ∷ xs') ys' e can cannot can' cannot' =
    absurd (let c : CannotGoOn (before ++ []) (x ∷ (xs' ++ ys')) = subst (λ l. CannotGoOn (before ++ []) l) e cannot in
    let there : CanStand (before ++ x ∷ []) = can_stand_first (before ++ x ∷ []) xs' (subst CanStand (sym (append_assoc before (x ∷ []) xs')) can') in
    c (subst CanStand (sym (append_assoc before [] (x ∷ []))) there))
one_place before (x ∷ xs) ys [] ys' e can cannot can' cannot' =
    absurd (let c : CannotGoOn (before ++ []) (x ∷ (xs ++ ys)) = subst (λ l. CannotGoOn (before ++ []) l) (sym e) cannot' in
    let there : CanStand (before ++ x ∷ []) = can_stand_first (before ++ x ∷ []) xs (subst CanStand (sym (append_assoc before (x ∷ []) xs)) can) in
    c (subst CanStand (sym (append_assoc before [] (x ∷ []))) there))
one_place before (x ∷ xs) ys (x' ∷ xs') ys' e can cannot can' cannot' =
    let same : x' ≡ x = cc in
    let others : xs ++ ys ≡ xs' ++ ys' = cc in
    let moved = append_assoc before (x ∷ []) xs in
    let can'' : CanStand (before ++ x ∷ xs') = subst (λ z. CanStand (before ++ z ∷ xs')) same can' in
    let cannot'' : CannotGoOn (before ++ x ∷ xs') ys' = subst (λ z. CannotGoOn (before ++ z ∷ xs') ys') same cannot' in
    let moved' = append_assoc before (x ∷ []) xs' in
    one_place (before ++ x ∷ []) xs ys xs' ys' others (subst CanStand (sym moved) can) (subst (λ l. CannotGoOn l ys) (sym moved) cannot)
    (subst CanStand (sym moved') can'') (subst (λ l. CannotGoOn l ys') (sym moved') cannot'')

one_wrong : (line : List ℕ) (column column' : ℕ) → IsWrongAt line column → IsWrongAt line column' → column ≡ column'
one_wrong line column column' x y =
    let same = one_place [] x.front x.behind y.front y.behind (sym x.all ∙ y.all) x.before x.after y.before y.after in
    x.at ∙ ap (column_of (whole line)) same ∙ sym y.at

silent_means : (line : List ℕ) → is_silent (words line) ≡ true → Silent ≡ meaning line
silent_means line quiet = by (words line) quiet
  where
    by : (ws : List Word) → is_silent ws ≡ true → Silent ≡ said_in ws
    by [] quiet = refl
    by (w ∷ ws) quiet = rw quiet refl

command_means : (line : List ℕ) (c : Command) → IsSpelled line c → Says c ≡ meaning line
command_means line c h = by (words line) refl h
  where
    by : (ws : List Word) → words line ≡ ws → Spells (spelling c).parts (spelling c).values (whole line) ws → Says c ≡ said_in ws
    by [] is h = absurd (none_spelled c (whole line) h)
    by (w ∷ ws) is h =
        let f = first_spelled c (whole line) w ws h in
        let loud : begins_comment w.text ≡ false = ap begins_comment f.3 ∙ no_comment f.0 in
        let some = verb_found w.text f.0 f.3 in
        let read = row_complete (form f.0).kinds (form f.0).has_values w.rest f.1 (apart f.0) (subst (λ l. RowSpells (form f.0).kinds (form f.0).has_values f.1 w.rest l) (rest_words (whole line) w ws is) f.4) in
        rw (loud, some, read) (ap Says (sym f.2))

not_both : (line : List ℕ) (column : ℕ) (said : Said) → is_silent (words line) ≡ false → IsWrongAt line column → Reads line said → Wrong column ≡ said
not_both line column Silent loud wrong h = absurd (let quiet : is_silent (words line) ≡ true = h in cc)
not_both line column (Says c) loud wrong h = absurd (wrong.no_command c h)
not_both line column (Wrong column') loud wrong h = ap Wrong (one_wrong line column column' wrong h.1)

other_means : (line : List ℕ) (other : Said) → Reads line other → other ≡ meaning line
other_means line Silent h = silent_means line h
other_means line (Says c) h = command_means line c h
other_means line (Wrong column) h = not_both line column (meaning line) h.0 h.1 (reads_meaning line)

pub lines_say_one_thing : LinesSayOneThing
lines_say_one_thing line = (reads_meaning line, other_means line)

-- From what reading gives to what a line says.
use Rattle.std.proofs.Common.{◌≡◌, ℕ, List, [], ◌∷◌, ◌++◌, length, true, false, refl, sym, ◌∙◌, ap, subst, arith, Option, Some, None, Ok, Err}
use Rattle.std.specs.Prelude.{Result, codes}
use Rattle.pss_machine.specs.declared.command.Rest.{Rest}
use Rattle.pss_machine.specs.declared.command.Command.TheVariants as command
use Rattle.pss_machine.specs.declared.command.Command.{Command}
use Rattle.pss_machine.specs.Run.{Said, Silent, Says, Wrong}
use Rattle.script_text.specs.declared.fault.CommandFault.{CommandFault}
use Rattle.script_text.specs.declared.verb.Verb.{Verb}
use Rattle.script_text.specs.declared.verb.Verb.TheVariants as Verb
use Rattle.script_text.specs.declared.verb.MemberVerb.TheVariants as MemberVerb
use Rattle.script_text.specs.Words.{Word, begins_word, words, words_from, words_in}
use Rattle.script_text.specs.Parts.{is_name}
use Rattle.script_text.specs.Spelling.{is_silent, Reads}
use Rattle.script_text.specs.Meaning.{Kind, OfName, OfEntry, OfWord, Value, value_of, step, entry_of, verb_of, given, command_in, said_by, said_in, meaning}
use Rattle.script_text.specs.Telling.{Exactly, Tells}
use Rattle.script_text.proofs.CommandLaws.{lines_say_one_thing}
use Rattle.script_text.proofs.RowLaws.{step_some, nothing_none}

-- what is told of a first word, by the command that is in the line
abbrev pub command_from : Word → Result Command ℕ
command_from w = given (verb_of w.text) (Err w.column) (λ v. command_in v w.rest)

by_verb : (w : Word) (o : Option Verb) → said_by (given o (Err w.column) (λ v. command_in v w.rest)) ≡ given o (Wrong w.column) (λ v. said_by (command_in v w.rest))
by_verb w None = refl
by_verb w (Some v) = refl

loud_means : (line : List ℕ) (w : Word) (ws : List Word) → words line ≡ w ∷ ws → is_silent (words line) ≡ false → meaning line ≡ said_by (command_from w)
loud_means line w ws is loud =
    let loud_word : is_silent (w ∷ ws) ≡ false = subst (λ l. is_silent l ≡ false) is loud in
    ap said_in is ∙ (rw loud_word (sym (by_verb w (verb_of w.text))))

pub command_said : (line : List ℕ) (w : Word) (ws : List Word) (c : Command) → words line ≡ w ∷ ws → is_silent (words line) ≡ false → command_from w ≡ Ok c → Says c ≡ meaning line
command_said line w ws c is loud e = ap said_by (sym e) ∙ sym (loud_means line w ws is loud)

-- so of a get
verb_get : verb_of (codes "get") ≡ Some (Verb.Member MemberVerb.Get)
unfolding verb_of
verb_get = refl

pub get_said : (line : List ℕ) (w : Word) (ws : List Word) (c : Command) → words line ≡ w ∷ ws → is_silent (words line) ≡ false → w.text ≡ codes "get" → command_in (Verb.Member MemberVerb.Get) w.rest ≡ Ok c → meaning line ≡ Says c
get_said line w ws c is loud text e =
    sym (command_said line w ws c is loud (ap (λ t. given (verb_of t) (Err w.column) (λ v. command_in v w.rest)) text ∙ ap (λ o. given o (Err w.column) (λ v. command_in v w.rest)) verb_get ∙ e))

pub fault_said : (line : List ℕ) (w : Word) (ws : List Word) (column : ℕ) → words line ≡ w ∷ ws → is_silent (words line) ≡ false → command_from w ≡ Err column → Wrong column ≡ meaning line
fault_said line w ws column is loud e = ap said_by (sym e) ∙ sym (loud_means line w ws is loud)

-- what a line means it says, and nothing else
exactly : (line : List ℕ) (said : Said) → said ≡ meaning line → Exactly (Reads line) said
exactly line said e = subst (λ s. Exactly (Reads line) s) (sym e) (lines_say_one_thing line)

-- what is told of a line that means it, it says
pub tells_exactly : (line : List ℕ) (r : Result (Option Command) CommandFault) → Tells (λ said. said ≡ meaning line) r → Tells (Exactly (Reads line)) r
tells_exactly line (Ok None) e = exactly line Silent e
tells_exactly line (Ok (Some c)) e = exactly line (Says c) e
tells_exactly line (Err fault) e = exactly line (Wrong fault.column) e

-- ---- a get by words with one space between them

step_of : (k : Kind) (rest : Rest) (w : Word) (ws : List Word) (x : Value k) → words_in rest ≡ w ∷ ws → value_of k w.text ≡ Some x → step k rest ≡ Ok (x, w.rest)
step_of k rest w ws x is says = step_some k rest w ws is ∙ ap (λ (o : Option (Value k)). given o (Err w.column) (λ x. Ok (x, w.rest))) says

named : (text : List ℕ) → is_name text ≡ true → value_of OfName text ≡ Some text
named text is = rw is refl

nothing : (rest : Rest) → length rest.text ≡ 0 → words_in rest ≡ []
nothing rest none = by rest.text none
  where
    by : (text : List ℕ) → length text ≡ 0 → words_from rest.column text ≡ []
    by [] e = refl
    by (b ∷ bs) e = absurd (omega (arith, e))

pub get_row : (rest : Rest) (w v u : Word) (n : ℕ) → words_in rest ≡ w ∷ words_in w.rest → is_name w.text ≡ true → words_in w.rest ≡ v ∷ words_in v.rest → entry_of v.text ≡ Some n → words_in v.rest ≡ u ∷ words_in u.rest → length u.rest.text ≡ 0
    → command_in (Verb.Member MemberVerb.Get) rest ≡ Ok (command.Get w.text n u.text)
get_row rest w v u n first is_named second is_entry third none =
    rw (step_of OfName rest w (words_in w.rest) w.text first (named w.text is_named), step_of OfEntry w.rest v (words_in v.rest) n second is_entry, step_of OfWord v.rest u (words_in u.rest) u.text third refl, nothing_none u.rest (nothing u.rest none)) refl

-- the first word of a line that begins with `get` and no further byte of a word
abbrev get_word : List ℕ → Word
get_word behind = record { text = codes "get"; column = 1; rest = record { column = 4; text = behind } }

get_first : (behind : List ℕ) → begins_word behind ≡ false → words (codes "get" ++ behind) ≡ get_word behind ∷ words_from 4 behind
get_first behind spaced = rw spaced refl

pub get_line : (line behind : List ℕ) (c : Command) → line ≡ codes "get" ++ behind → begins_word behind ≡ false → command_in (Verb.Member MemberVerb.Get) (record { column = 4; text = behind }) ≡ Ok c → meaning line ≡ Says c
get_line line behind c is spaced e =
    let at : words line ≡ get_word behind ∷ words_from 4 behind = ap words is ∙ get_first behind spaced in
    get_said line (get_word behind) (words_from 4 behind) c at (ap is_silent at) refl e

-- How each command is written, and what a line says.
use Rattle.std.specs.Prelude.{ℕ, ◌≡◌, List, [], ◌∷◌, ◌++◌, map, codes, Option, Some, None, Bool, true, false, ◌==◌, IsTrue, if◌then◌else◌}
use Rattle.pss_machine.specs.declared.command.Rest.{Rest}
use Rattle.pss_machine.specs.declared.command.Command.{Command}
use Rattle.pss_machine.specs.declared.command.Command.TheVariants as command
use Rattle.pss_machine.specs.Run.{Said, Silent, Says, Wrong}
use Rattle.script_text.specs.Words.{Word, words, whole, column_of}
use Rattle.script_text.specs.Parts.{Part, Fixed, Name, Free, Entry, Object, Serial, IsWritten}

-- the words of a command, and the rest of the line behind them where its values stand there
pub record Spelling : Type 0 where
  pub parts : List Part
  pub values : Option Rest

abbrev pub no_more : List Part → Spelling
no_more parts = record { parts = parts; values = None }

abbrev pub and_values : List Part → Rest → Spelling
and_values parts rest = record { parts = parts; values = Some rest }

-- a word of the commands themselves, or one of two
abbrev pub word : List ℕ → Part
word text = Fixed text

abbrev pub either : Bool → List ℕ → List ℕ → Part
either b one other = Fixed (if b then one else other)

abbrev pub spelling : Command → Spelling
spelling (command.OpenSession s tx write) = no_more (word (codes "open") ∷ Name s ∷ either tx (codes "tx") (codes "basic") ∷ either write (codes "rw") (codes "ro") ∷ [])
spelling (command.Close s) = no_more (word (codes "close") ∷ Name s ∷ [])
spelling (command.Begin t serializable) = no_more (word (codes "begin") ∷ Name t ∷ either serializable (codes "SERIALIZABLE") (codes "READ_COMMITTED") ∷ [])
spelling (command.Start s t) = no_more (word (codes "start") ∷ Name s ∷ Name t ∷ [])
spelling (command.Suspend s) = no_more (word (codes "suspend") ∷ Name s ∷ [])
spelling (command.End s ok) = no_more (word (codes "end") ∷ Name s ∷ either ok (codes "ok") (codes "fail") ∷ [])
spelling (command.Status s) = no_more (word (codes "status") ∷ Name s ∷ [])
spelling (command.Commit t) = no_more (word (codes "commit") ∷ Name t ∷ [])
spelling (command.Rollback t) = no_more (word (codes "rollback") ∷ Name t ∷ [])
spelling (command.Home s home) = no_more (word (codes "home") ∷ Name s ∷ Free home ∷ [])
spelling (command.Create s home values) = and_values (word (codes "create") ∷ Name s ∷ Free home ∷ []) values
spelling (command.Make s home factory values) = and_values (word (codes "make") ∷ Name s ∷ Free home ∷ Free factory ∷ []) values
spelling (command.Find s home key values) = and_values (word (codes "find") ∷ Name s ∷ Free home ∷ Free key ∷ []) values
spelling (command.FindRef s home key values) = and_values (word (codes "findref") ∷ Name s ∷ Free home ∷ Free key ∷ []) values
spelling (command.Pid s pid) = no_more (word (codes "pid") ∷ Name s ∷ Object pid ∷ [])
spelling (command.Short s home serial) = no_more (word (codes "short") ∷ Name s ∷ Free home ∷ Serial serial ∷ [])
spelling (command.Exists s entry) = no_more (word (codes "exists") ∷ Name s ∷ Entry entry ∷ [])
spelling (command.Get s entry member) = no_more (word (codes "get") ∷ Name s ∷ Entry entry ∷ Free member ∷ [])
spelling (command.Set s entry member value) = and_values (word (codes "set") ∷ Name s ∷ Entry entry ∷ Free member ∷ []) value
spelling (command.Destroy s entry) = no_more (word (codes "destroy") ∷ Name s ∷ Entry entry ∷ [])
spelling (command.Follow s entry member) = no_more (word (codes "follow") ∷ Name s ∷ Entry entry ∷ Free member ∷ [])
spelling (command.Count s home) = no_more (word (codes "count") ∷ Name s ∷ Free home ∷ [])
spelling (command.List s home) = no_more (word (codes "list") ∷ Name s ∷ Free home ∷ [])
spelling (command.PidOf s entry) = no_more (word (codes "pidof") ∷ Name s ∷ Entry entry ∷ [])
spelling (command.Dup s entry) = no_more (word (codes "dup") ∷ Name s ∷ Entry entry ∷ [])
spelling (command.Release s entry) = no_more (word (codes "release") ∷ Name s ∷ Entry entry ∷ [])
spelling (command.FreeAll s) = no_more (word (codes "freeall") ∷ Name s ∷ [])
spelling (command.Flush s) = no_more (word (codes "flush") ∷ Name s ∷ [])
spelling (command.Refresh s) = no_more (word (codes "refresh") ∷ Name s ∷ [])
spelling command.Checkpoint = no_more (word (codes "checkpoint") ∷ [])
spelling command.Stat = no_more (word (codes "stat") ∷ [])
spelling command.History = no_more (word (codes "history") ∷ [])

-- ---- lines

-- the words write the parts, one each, and behind them stands nothing more, or the values; `rest` is the line from the first word on
abbrev pub Spells : List Part → Option Rest → Rest → List Word → Type 0
Spells [] None rest ws = ws ≡ []
Spells [] (Some values) rest ws = values ≡ rest
Spells (part ∷ parts) values rest [] = ⊥
Spells (part ∷ parts) values rest (w ∷ ws) = IsWritten part w.text × Spells parts values w.rest ws

-- the line is a spelling of the command
abbrev pub IsSpelled : List ℕ → Command → Type 0
IsSpelled line c = Spells (spelling c).parts (spelling c).values (whole line) (words line)

-- the same of the texts of words alone; what stands in the values may be any
abbrev pub Fits : List Part → Option Rest → List (List ℕ) → Type 0
Fits [] None texts = texts ≡ []
Fits [] (Some values) texts = Unit {0}
Fits (part ∷ parts) values [] = ⊥
Fits (part ∷ parts) values (text ∷ texts) = IsWritten part text × Fits parts values texts

abbrev pub texts_of : List Word → List (List ℕ)
texts_of ws = map (λ w. w.text) ws

-- with more words behind them, these are the words of a command and its values
abbrev pub CanStand : List Word → Type 0
CanStand ws = (c : Command) × (more : List (List ℕ)) × Fits (spelling c).parts (spelling c).values (texts_of ws ++ more)

-- the first of the words behind others cannot stand there
abbrev pub CannotGoOn : List Word → List Word → Type 0
CannotGoOn front [] = Unit {0}
CannotGoOn front (w ∷ ws) = CanStand (front ++ w ∷ []) → ⊥

-- The line spells no command, and this is the column of its first word that cannot stand, or one past its end where
-- a word is missing.
pub record IsWrongAt (line : List ℕ) (column : ℕ) : Type 0 where
  -- the words that can stand, and the others
  pub front : List Word
  pub behind : List Word
  pub all : words line ≡ front ++ behind
  pub before : CanStand front
  pub after : CannotGoOn front behind
  pub no_command : (c : Command) → IsSpelled line c → ⊥
  pub at : column ≡ column_of (whole line) behind

-- a word that begins with `#`
abbrev pub begins_comment : List ℕ → Bool
begins_comment [] = false
begins_comment (b ∷ bs) = b == 35

-- there are no words, or the first begins with `#`
abbrev pub is_silent : List Word → Bool
is_silent [] = true
is_silent (w ∷ ws) = begins_comment w.text

-- what a line says
abbrev pub Reads : List ℕ → Said → Type 0
Reads line Silent = IsTrue (is_silent (words line))
Reads line (Says c) = IsSpelled line c
Reads line (Wrong column) = (is_silent (words line) ≡ false) × IsWrongAt line column

-- The words behind a verb, and what they say.
use Rattle.std.proofs.Common.{◌≡◌, ℕ, ◌+◌, List, [], ◌∷◌, ◌++◌, Bool, true, false, cond, refl, sym, ◌∙◌, ap, subst, arith, Option, Some, None, Ok, Err}
use Rattle.std.specs.Prelude.{Result, decimal}
use Rattle.pss_base.specs.PidText.{pid_text, short_pid_text}
use Rattle.pss_base.specs.Blanks.{is_blank}
use Rattle.pss_machine.specs.declared.command.Rest.{Rest}
use Rattle.script_text.specs.Words.{Word, begins_word, onto_first, one_byte, words_from, words_in, end_of, column_of}
use Rattle.script_text.specs.Parts.{Part, IsWritten}
use Rattle.script_text.specs.Spelling.{Spells, Fits, texts_of}
use Rattle.script_text.specs.Meaning.{Kind, OfName, OfWord, OfEntry, OfPid, OfSerial, OneOf, Value, value_of, Row, given, ◌>>=◌, step, nothing_in, row_in}
use Rattle.script_text.proofs.KindLaws.{part, IsApart, value_sound, value_complete}

abbrev pub row_parts : (ks : List Kind) → (has_values : Bool) → Row ks has_values → List Part
row_parts [] has_values row = []
row_parts (k ∷ ks) has_values row = part k row.0 ∷ row_parts ks has_values row.1

abbrev pub row_values : (ks : List Kind) → (has_values : Bool) → Row ks has_values → Option Rest
row_values [] false row = None
row_values [] true row = Some row
row_values (k ∷ ks) has_values row = row_values ks has_values row.1

abbrev pub AreApart : List Kind → Type 0
AreApart [] = Unit {0}
AreApart (k ∷ ks) = IsApart k × AreApart ks

-- ---- what is behind a word

-- the other words are those behind the first one, and the end is the same
pub record Goes (rest : Rest) (w : Word) (ws : List Word) : Type 0 where
  pub words : ws ≡ words_in w.rest
  pub end : end_of w.rest ≡ end_of rest

goes_on : (column : ℕ) (text : List ℕ) (w : Word) (ws : List Word) → words_from column text ≡ w ∷ ws → Goes (record { column = column; text = text }) w ws
goes_on column [] w ws e = absurd (cc)
goes_on column (b ∷ bs) w ws e = by (goes_on (column + 1) bs) (is_blank b) (begins_word bs) refl refl e
  where
    Next : Type 0
    Next = (w : Word) (ws : List Word) → words_from (column + 1) bs ≡ w ∷ ws → Goes (record { column = column + 1; text = bs }) w ws

    later : Goes (record { column = column + 1; text = bs }) w ws → Goes (record { column = column; text = b ∷ bs }) w ws
    later g = record { words = g.words; end = omega (arith, g.end) }

    onto : Next → (us : List Word) → words_from (column + 1) bs ≡ us → onto_first column b us ≡ w ∷ ws → Goes (record { column = column; text = b ∷ bs }) w ws
    onto next [] is e = absurd (cc)
    onto next (u ∷ us) is e =
        let g = next u us is in
        let first : record { text = b ∷ u.text; column = column; rest = u.rest } ≡ w = cc in
        let others : us ≡ ws = cc in
        let behind : u.rest ≡ w.rest = ap (λ x. x.rest) first in
        record { words = sym others ∙ g.words ∙ ap words_in behind; end = ap end_of (sym behind) ∙ omega (arith, g.end) }

    by : Next → (t u : Bool) → is_blank b ≡ t → begins_word bs ≡ u → cond t (words_from (column + 1) bs) (cond u (onto_first column b (words_from (column + 1) bs)) (one_byte column b bs ∷ words_from (column + 1) bs)) ≡ w ∷ ws
        → Goes (record { column = column; text = b ∷ bs }) w ws
    by next true u is is' e = later (next w ws e)
    by next false true is is' e = onto next (words_from (column + 1) bs) refl e
    by next false false is is' e =
        let first : one_byte column b bs ≡ w = cc in
        let others : words_from (column + 1) bs ≡ ws = cc in
        record { words = sym others ∙ ap (λ x. words_in x.rest) first; end = ap (λ x. end_of x.rest) (sym first) ∙ omega arith }

pub goes : (rest : Rest) (w : Word) (ws : List Word) → words_in rest ≡ w ∷ ws → Goes rest w ws
goes rest w ws e = goes_on rest.column rest.text w ws e

pub rest_words : (rest : Rest) (w : Word) (ws : List Word) → words_in rest ≡ w ∷ ws → ws ≡ words_in w.rest
rest_words rest w ws e = (goes rest w ws e).words

pub rest_end : (rest : Rest) (w : Word) (ws : List Word) → words_in rest ≡ w ∷ ws → end_of w.rest ≡ end_of rest
rest_end rest w ws e = (goes rest w ws e).end

-- ---- steps

step_none : (k : Kind) (rest : Rest) → words_in rest ≡ [] → step k rest ≡ Err (end_of rest)
unfolding step
step_none k rest e = rw e refl

pub step_some : (k : Kind) (rest : Rest) (w : Word) (ws : List Word) → words_in rest ≡ w ∷ ws → step k rest ≡ given (value_of k w.text) (Err w.column) (λ x. Ok (x, w.rest))
unfolding step
step_some k rest w ws e = rw e refl

pub nothing_none : (rest : Rest) → words_in rest ≡ [] → nothing_in rest ≡ Ok tt
unfolding nothing_in
nothing_none rest e = rw e refl

nothing_some : (rest : Rest) (w : Word) (ws : List Word) → words_in rest ≡ w ∷ ws → nothing_in rest ≡ Err w.column
unfolding nothing_in
nothing_some rest w ws e = rw e refl

-- the row where the first word is of the kind
row_some : (k : Kind) (ks : List Kind) (v : Bool) (rest : Rest) (w : Word) (ws : List Word) (x : Value k) → words_in rest ≡ w ∷ ws → value_of k w.text ≡ Some x
    → row_in (k ∷ ks) v rest ≡ (row_in ks v w.rest >>= λ row. Ok (x, row))
row_some k ks v rest w ws x e is = rw (step_some k rest w ws e, is) refl

row_none : (k : Kind) (ks : List Kind) (v : Bool) (rest : Rest) (w : Word) (ws : List Word) → words_in rest ≡ w ∷ ws → value_of k w.text ≡ None → row_in (k ∷ ks) v rest ≡ Err w.column
row_none k ks v rest w ws e is = rw (step_some k rest w ws e, is) refl

row_lacks : (k : Kind) (ks : List Kind) (v : Bool) (rest : Rest) → words_in rest ≡ [] → row_in (k ∷ ks) v rest ≡ Err (end_of rest)
row_lacks k ks v rest e = rw (step_none k rest e) refl

-- a row with a value in front
abbrev with_first : (k : Kind) (ks : List Kind) (v : Bool) → Value k → Result (Row ks v) ℕ → Result (Row (k ∷ ks) v) ℕ
with_first k ks v x r = r >>= λ row. Ok (x, row)

-- ---- what was read is spelled

abbrev pub RowSpells : (ks : List Kind) → (v : Bool) → Row ks v → Rest → List Word → Type 0
RowSpells ks v row rest ws = Spells (row_parts ks v row) (row_values ks v row) rest ws

pub row_sound : (ks : List Kind) (v : Bool) (rest : Rest) (row : Row ks v) → row_in ks v rest ≡ Ok row → RowSpells ks v row rest (words_in rest)
row_sound [] false rest row e = by (words_in rest) refl
  where
    by : (ws : List Word) → words_in rest ≡ ws → ws ≡ []
    by [] is = refl
    by (w ∷ ws) is = absurd (let no = nothing_some rest w ws is in cc)
row_sound [] true rest row e = cc
row_sound (k ∷ ks) v rest row e = by (row_sound ks v) (words_in rest) refl
  where
    Others : Type 0
    Others = (rest : Rest) (row : Row ks v) → row_in ks v rest ≡ Ok row → RowSpells ks v row rest (words_in rest)

    behind : Others → (w : Word) (ws : List Word) → words_in rest ≡ w ∷ ws → (x : Value k) → value_of k w.text ≡ Some x → (r : Result (Row ks v) ℕ) → row_in ks v w.rest ≡ r → with_first k ks v x r ≡ Ok row → RowSpells (k ∷ ks) v row rest (w ∷ ws)
    behind next w ws is x value (Err column) read e = absurd (cc)
    behind next w ws is x value (Ok others) read e =
        let same : (x, others) ≡ row = cc in
        let spelled = next w.rest others read in
        subst (λ r. RowSpells (k ∷ ks) v r rest (w ∷ ws)) same (value_sound k w.text x value, subst (λ l. RowSpells ks v others w.rest l) (sym (rest_words rest w ws is)) spelled)

    first : Others → (w : Word) (ws : List Word) → words_in rest ≡ w ∷ ws → (o : Option (Value k)) → value_of k w.text ≡ o → RowSpells (k ∷ ks) v row rest (w ∷ ws)
    first next w ws is None value = absurd (let no = row_none k ks v rest w ws is value in cc)
    first next w ws is (Some x) value = behind next w ws is x value (row_in ks v w.rest) refl (sym (row_some k ks v rest w ws x is value) ∙ e)

    by : Others → (ws : List Word) → words_in rest ≡ ws → RowSpells (k ∷ ks) v row rest ws
    by next [] is = absurd (let no = row_lacks k ks v rest is in cc)
    by next (w ∷ ws) is = first next w ws is (value_of k w.text) refl

-- ---- what is spelled is read

pub row_complete : (ks : List Kind) (v : Bool) (rest : Rest) (row : Row ks v) → AreApart ks → RowSpells ks v row rest (words_in rest) → row_in ks v rest ≡ Ok row
row_complete [] false rest row apart h = nothing_none rest h
row_complete [] true rest row apart h = ap (λ r. Ok r) (sym h)
row_complete (k ∷ ks) v rest row apart h = by (λ rest' h'. row_complete ks v rest' row.1 apart.1 h') (words_in rest) refl h
  where
    Others : Type 0
    Others = (rest : Rest) → RowSpells ks v row.1 rest (words_in rest) → row_in ks v rest ≡ Ok row.1

    by : Others → (ws : List Word) → words_in rest ≡ ws → RowSpells (k ∷ ks) v row rest ws → row_in (k ∷ ks) v rest ≡ Ok row
    by next [] is h = absurd h
    by next (w ∷ ws) is h =
        let value = value_complete k row.0 w.text apart.0 h.0 in
        let others = next w.rest (subst (λ l. RowSpells ks v row.1 w.rest l) (rest_words rest w ws is) h.1) in
        row_some k ks v rest w ws row.0 is value ∙ (rw others refl)

-- ---- where no row is read

abbrev pub RowFits : (ks : List Kind) → (v : Bool) → Row ks v → List (List ℕ) → Type 0
RowFits ks v row texts = Fits (row_parts ks v row) (row_values ks v row) texts

-- some value of a kind, with its text
sample : (k : Kind) → (x : Value k) × (text : List ℕ) × IsWritten (part k x) text
sample OfName = (97 ∷ [], 97 ∷ [], (refl, refl))
sample OfWord = (97 ∷ [], 97 ∷ [], refl)
sample OfEntry = (0, 105 ∷ decimal 0, (omega arith, refl))
sample OfPid = (record { home = 0; serial = 0 }, pid_text (record { home = 0; serial = 0 }), ((omega arith, omega arith), refl))
sample OfSerial = (0, short_pid_text 0, (omega arith, refl))
sample (OneOf one other) = (true, one, refl)

some_row : (ks : List Kind) (v : Bool) → (row : Row ks v) × (texts : List (List ℕ)) × RowFits ks v row texts
some_row [] false = (tt, [], refl)
some_row [] true = (record { column = 1; text = [] }, [], tt)
some_row (k ∷ ks) v =
    let first = sample k in
    let others = some_row ks v in
    ((first.0, others.0), first.1 ∷ others.1, (first.2, others.2))

-- no row has the first of these words behind others
abbrev pub RowCannot : (ks : List Kind) → (v : Bool) → List Word → List Word → Type 0
RowCannot ks v front [] = Unit {0}
RowCannot ks v front (w ∷ ws) = (row : Row ks v) (more : List (List ℕ)) → RowFits ks v row (texts_of front ++ w.text ∷ more) → ⊥

pub record RowStops (ks : List Kind) (v : Bool) (rest : Rest) (column : ℕ) : Type 0 where
  pub front : List Word
  pub behind : List Word
  pub all : words_in rest ≡ front ++ behind
  pub row : Row ks v
  pub more : List (List ℕ)
  pub before : RowFits ks v row (texts_of front ++ more)
  pub after : RowCannot ks v front behind
  pub at : column ≡ column_of rest behind

pub column_kept : (rest : Rest) (w : Word) (behind : List Word) → end_of w.rest ≡ end_of rest → column_of w.rest behind ≡ column_of rest behind
column_kept rest w [] e = e
column_kept rest w (u ∷ us) e = refl

pub row_stops : (ks : List Kind) (v : Bool) (rest : Rest) (column : ℕ) → AreApart ks → row_in ks v rest ≡ Err column → RowStops ks v rest column
row_stops [] true rest column apart e = absurd (cc)
row_stops [] false rest column apart e = by (words_in rest) refl
  where
    by : (ws : List Word) → words_in rest ≡ ws → RowStops [] false rest column
    by [] is = absurd (let no = nothing_none rest is in cc)
    by (w ∷ ws) is =
        let said = nothing_some rest w ws is in
        record { front = []; behind = w ∷ ws; all = is; row = tt; more = []; before = refl; after = λ row more h. absurd (cc); at = cc }
row_stops (k ∷ ks) v rest column apart e = by (λ rest' e'. row_stops ks v rest' column apart.1 e') (words_in rest) refl
  where
    Others : Type 0
    Others = (rest : Rest) → row_in ks v rest ≡ Err column → RowStops ks v rest column

    here : (ws : List Word) → words_in rest ≡ ws → RowCannot (k ∷ ks) v [] ws → column ≡ column_of rest ws → RowStops (k ∷ ks) v rest column
    here ws is cannot at =
        let some = some_row (k ∷ ks) v in
        record { front = []; behind = ws; all = is; row = some.0; more = some.1; before = some.2; after = cannot; at = at }

    later : (w : Word) (ws : List Word) → words_in rest ≡ w ∷ ws → (x : Value k) → value_of k w.text ≡ Some x → RowStops ks v w.rest column → RowStops (k ∷ ks) v rest column
    later w ws is x value stops = record {
      front = w ∷ stops.front;
      behind = stops.behind;
      all = is ∙ ap (λ l. w ∷ l) (rest_words rest w ws is ∙ stops.all);
      row = (x, stops.row);
      more = stops.more;
      before = (value_sound k w.text x value, stops.before);
      after = cannot stops.behind stops.after;
      at = stops.at ∙ column_kept rest w stops.behind (rest_end rest w ws is);
    }
      where
        cannot : (behind : List Word) → RowCannot ks v stops.front behind → RowCannot (k ∷ ks) v (w ∷ stops.front) behind
        cannot [] h = tt
        cannot (u ∷ us) h = λ row more fits. h row.1 more fits.1

    behind : Others → (w : Word) (ws : List Word) → words_in rest ≡ w ∷ ws → (x : Value k) → value_of k w.text ≡ Some x → (r : Result (Row ks v) ℕ) → row_in ks v w.rest ≡ r → with_first k ks v x r ≡ Err column → RowStops (k ∷ ks) v rest column
    behind next w ws is x value (Ok others) read e = absurd (cc)
    behind next w ws is x value (Err c) read e =
        let same : c ≡ column = cc in
        later w ws is x value (next w.rest (read ∙ ap (λ n. Err n) same))

    first : Others → (w : Word) (ws : List Word) → words_in rest ≡ w ∷ ws → (o : Option (Value k)) → value_of k w.text ≡ o → RowStops (k ∷ ks) v rest column
    first next w ws is None value =
        let said = row_none k ks v rest w ws is value in
        here (w ∷ ws) is (λ row more fits. absurd (let some = value_complete k row.0 w.text apart.0 fits.0 in cc)) (cc)
    first next w ws is (Some x) value = behind next w ws is x value (row_in ks v w.rest) refl (sym (row_some k ks v rest w ws x is value) ∙ e)

    by : Others → (ws : List Word) → words_in rest ≡ ws → RowStops (k ∷ ks) v rest column
    by next [] is = let said = row_lacks k ks v rest is in here [] is tt (cc)
    by next (w ∷ ws) is = first next w ws is (value_of k w.text) refl

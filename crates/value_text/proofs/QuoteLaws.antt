-- What the readers of bytes between quotes owe to them.
use Rattle.std.proofs.Common.{◌≡◌, ℕ, zero, suc, ◌+◌, ◌*◌, ◌<◌, Bool, true, false, cond, eqb, List, [], ◌∷◌, ◌++◌, length, Option, Some, None, refl, sym, ap, subst, ◌∙◌, arith, append_assoc, length-append}
use Rattle.std.specs.Prelude.{not, ◌||◌, ◌&&◌}
use Rattle.std.specs.Char.{is_digit, digit_value}
use Rattle.std.proofs.lemmas.Bool.{eqb-true, eq-eqb}
use Rattle.type_layout.specs.Types.{Char, Str, Character, Text}
use Rattle.value_text.specs.Letters.{is_raw, is_escaped, SpellsByte, SpellBytes}
use Rattle.value_text.specs.Texts.{joined, Writes, Spells}
use Rattle.value_text.specs.Reading.{◌>>=◌, given, seen, behind, digits_at, escape_at, byte_at, bytes_at, character_at, string_at}
use Rattle.value_text.proofs.Owing.{Took, Takes, ReadsAnywhere, some_is, pair_is, bind_some, seen_takes}

-- ---- one byte in front

pub behind_takes : (b : ℕ) (text rest : List ℕ) → behind b text ≡ Some rest → text ≡ b ∷ rest
behind_takes b [] rest e = absurd cc
behind_takes b (c ∷ text) rest e = by_test (eqb c b) refl e
  where
    by_test : (t : Bool) → eqb c b ≡ t → cond t (Some text) None ≡ Some rest → c ∷ text ≡ b ∷ rest
    by_test true same e = (let first : c ≡ b = eqb-true c b same in let others : text ≡ rest = some_is text rest e in cc)
    by_test false other e = absurd cc

pub behind_none : (b c : ℕ) (rest : List ℕ) → eqb c b ≡ false → behind b (c ∷ rest) ≡ None
behind_none b c rest other = rw other refl

-- ---- one byte between quotes

digits_take : (quote : ℕ) (text : List ℕ) (c : ℕ) (rest : List ℕ) → digits_at text ≡ Some (c, rest) → (high : ℕ) × (low : ℕ) × (text ≡ high ∷ low ∷ rest) × ((is_digit high 16 && is_digit low 16) ≡ true) × (c ≡ digit_value high * 16 + digit_value low)
digits_take quote [] c rest e = absurd cc
digits_take quote (high ∷ []) c rest e = absurd cc
digits_take quote (high ∷ low ∷ text) c rest e = by_test (is_digit high 16 && is_digit low 16) refl e
  where
    by_test : (t : Bool) → (is_digit high 16 && is_digit low 16) ≡ t → cond {A = Option (ℕ × List ℕ)} t (Some (digit_value high * 16 + digit_value low, text)) None ≡ Some (c, rest) → (h : ℕ) × (l : ℕ) × (high ∷ low ∷ text ≡ h ∷ l ∷ rest) × ((is_digit h 16 && is_digit l 16) ≡ true) × (c ≡ digit_value h * 16 + digit_value l)
    by_test true both e =
        let same = pair_is (digit_value high * 16 + digit_value low) c text rest e in
        (high, low, ap (λ (l : List ℕ). high ∷ low ∷ l) same.1, both, sym same.0)
    by_test false both e = absurd cc

escape_takes : (quote : ℕ) (text : List ℕ) (c : ℕ) (rest : List ℕ) → escape_at quote text ≡ Some (c, rest) → Took (SpellsByte quote) (92 ∷ text) c rest
escape_takes quote [] c rest e = absurd cc
escape_takes quote (b ∷ text) c rest e = by_escape (is_escaped quote b) refl (eqb b 120) refl e
  where
    by_escape : (s : Bool) → is_escaped quote b ≡ s → (t : Bool) → eqb b 120 ≡ t → cond s (Some (b, text)) (cond t (digits_at text) None) ≡ Some (c, rest) → Took (SpellsByte quote) (92 ∷ b ∷ text) c rest
    by_escape true escaped t test e =
        let same = pair_is b c text rest e in
        record { front = 92 ∷ b ∷ []; written = (refl, escaped, sym same.0); split = ap (λ (l : List ℕ). 92 ∷ b ∷ l) same.1 }
    by_escape false escaped true test e =
        let d = digits_take quote text c rest e in
        let is : b ≡ 120 = eqb-true b 120 test in
        record { front = 92 ∷ b ∷ d.0 ∷ d.1 ∷ []; written = (refl, is, d.3, d.4); split = ap (λ (l : List ℕ). 92 ∷ b ∷ l) d.2 }
    by_escape false escaped false test e = absurd cc

pub byte_takes : (quote : ℕ) → Takes (byte_at quote) (SpellsByte quote)
unfolding byte_at
byte_takes quote [] c rest e = absurd cc
byte_takes quote (b ∷ text) c rest e = by_first (eqb b 92) refl (is_raw quote b) refl e
  where
    by_first : (s : Bool) → eqb b 92 ≡ s → (t : Bool) → is_raw quote b ≡ t → cond s (escape_at quote text) (cond t (Some (b, text)) None) ≡ Some (c, rest) → Took (SpellsByte quote) (b ∷ text) c rest
    by_first true escape t raw e = (let is : b ≡ 92 = eqb-true b 92 escape in subst (λ (k : ℕ). Took (SpellsByte quote) (k ∷ text) c rest) (sym is) (escape_takes quote text c rest e))
    by_first false escape true raw e =
        let same = pair_is b c text rest e in
        record { front = b ∷ []; written = (raw, sym same.0); split = ap (λ (l : List ℕ). b ∷ l) same.1 }
    by_first false escape false raw e = absurd cc

-- a quote that is no `\` and no `x`
pub record IsQuote (quote : ℕ) : Type 0 where
  pub slash : eqb 92 quote ≡ false
  pub letter : is_escaped quote 120 ≡ false

pub single_quote : IsQuote 39
single_quote = record { slash = refl; letter = refl }

pub double_quote : IsQuote 34
double_quote = record { slash = refl; letter = refl }

-- what stands for itself is no `\` and no quote
raw_is_plain : (quote b : ℕ) → is_raw quote b ≡ true → (eqb b 92 ≡ false) × (eqb b quote ≡ false)
raw_is_plain quote b h = by_tests (eqb b quote) (eqb b 92) (eqb b 10) (eqb b 0) h
  where
    by_tests : (p q r s : Bool) → not (p || q || r || s) ≡ true → (q ≡ false) × (p ≡ false)
    by_tests true q r s h = absurd cc
    by_tests false true r s h = absurd cc
    by_tests false false r s h = (refl, refl)

pub byte_reads : (quote : ℕ) → IsQuote quote → ReadsAnywhere (byte_at quote) (SpellsByte quote)
unfolding byte_at
byte_reads quote is c [] rest w = absurd w
byte_reads quote is c (b ∷ []) rest w = rw (w.0, (raw_is_plain quote b w.0).0, w.1) refl
byte_reads quote is c (a ∷ b ∷ []) rest w = rw (w.0, w.1, w.2) refl
byte_reads quote is c (a ∷ x ∷ high ∷ []) rest w = absurd w
byte_reads quote is c (a ∷ x ∷ high ∷ low ∷ []) rest w = rw (w.0, w.1, is.letter, w.2, w.3) refl
byte_reads quote is c (a ∷ x ∷ high ∷ low ∷ more ∷ others) rest w = absurd w

-- a byte does not begin with the quote, and has a text
not_quote : (quote : ℕ) → IsQuote quote → (c : ℕ) (front rest : List ℕ) → SpellsByte quote c front → (behind quote (front ++ rest) ≡ None) × (0 < length front)
not_quote quote is c [] rest w = absurd w
not_quote quote is c (b ∷ []) rest w = (behind_none quote b rest (raw_is_plain quote b w.0).1, omega arith)
not_quote quote is c (a ∷ b ∷ []) rest w = (behind_none quote a (b ∷ rest) (ap (λ (k : ℕ). eqb k quote) w.0 ∙ is.slash), omega arith)
not_quote quote is c (a ∷ x ∷ high ∷ []) rest w = absurd w
not_quote quote is c (a ∷ x ∷ high ∷ low ∷ []) rest w = (behind_none quote a (x ∷ high ∷ low ∷ rest) (ap (λ (k : ℕ). eqb k quote) w.0 ∙ is.slash), omega arith)
not_quote quote is c (a ∷ x ∷ high ∷ low ∷ more ∷ others) rest w = absurd w

-- ---- bytes up to a quote

abbrev pub BytesIn : ℕ → List ℕ → List ℕ → Type 0
BytesIn quote cs text = (pieces : List (List ℕ)) × SpellBytes quote cs pieces × (text ≡ joined pieces ++ quote ∷ [])

-- what is read behind a first byte
abbrev others_of : ℕ → ℕ → ℕ × List ℕ → Option (List ℕ × List ℕ)
others_of quote n first = bytes_at quote n first.1 >>= λ others. Some (first.0 ∷ others.0, others.1)

pub bytes_take : (quote n : ℕ) → Takes (bytes_at quote n) (BytesIn quote)
unfolding bytes_at
bytes_take quote zero text cs rest e = absurd cc
bytes_take quote (suc n) text cs rest e = by_end (behind quote text) refl e (bytes_take quote n)
  where
    by_end : (o : Option (List ℕ)) → behind quote text ≡ o → given o (byte_at quote text >>= others_of quote n) (λ after. Some ([], after)) ≡ Some (cs, rest) → Takes (bytes_at quote n) (BytesIn quote) → Took (BytesIn quote) text cs rest
    by_end (Some after) end e take =
        let none : List ℕ = [] in
        let same = pair_is none cs after rest e in
        record {
          front = quote ∷ [];
          written = ([], subst (λ (l : List ℕ). SpellBytes quote l []) same.0 tt, refl);
          split = behind_takes quote text after end ∙ ap (λ (l : List ℕ). quote ∷ l) same.1;
        }
    by_end None end e take =
        let a = bind_some (byte_at quote text) (others_of quote n) (cs, rest) e in
        let b = bind_some (bytes_at quote n a.0.1) (λ others. Some (a.0.0 ∷ others.0, others.1)) (cs, rest) a.2 in
        let t = byte_takes quote text a.0.0 a.0.1 a.1 in
        let u = take a.0.1 b.0.0 b.0.1 b.1 in
        let made : List ℕ × List ℕ = (a.0.0 ∷ b.0.0, b.0.1) in
        subst (λ (m : List ℕ × List ℕ). Took (BytesIn quote) text m.0 m.1) (some_is made (cs, rest) b.2) (record {
          front = t.front ++ u.front;
          written = (t.front ∷ u.written.0, (t.written, u.written.1), ap (λ (l : List ℕ). t.front ++ l) u.written.2 ∙ sym (append_assoc t.front (joined u.written.0) (quote ∷ [])));
          split = t.split ∙ ap (λ (l : List ℕ). t.front ++ l) u.split ∙ sym (append_assoc t.front u.front b.0.1);
        })

bytes_read : (quote : ℕ) → IsQuote quote → (n : ℕ) (cs : List ℕ) (pieces : List (List ℕ)) (rest : List ℕ) → SpellBytes quote cs pieces → length (joined pieces) < n → bytes_at quote n (joined pieces ++ quote ∷ rest) ≡ Some (cs, rest)
unfolding bytes_at
bytes_read quote is zero cs pieces rest w lt = absurd (omega arith)
bytes_read quote is (suc n) [] [] rest w lt = rw (eq-eqb quote quote refl) refl
bytes_read quote is (suc n) [] (t ∷ ts) rest w lt = absurd w
bytes_read quote is (suc n) (c ∷ cs) [] rest w lt = absurd w
bytes_read quote is (suc n) (c ∷ cs) (t ∷ ts) rest w lt =
    let more = joined ts ++ quote ∷ rest in
    let cut : joined (t ∷ ts) ++ quote ∷ rest ≡ t ++ more = append_assoc t (joined ts) (quote ∷ rest) in
    let q = not_quote quote is c t more w.0 in
    let one = byte_reads quote is c t more w.0 in
    let size : length (joined (t ∷ ts)) ≡ length t + length (joined ts) = length-append t (joined ts) in
    let others = bytes_read quote is n cs ts rest w.1 (omega arith) in
    ap (bytes_at quote (suc n)) cut ∙ rw (q.0, one, others) refl

-- ---- characters and strings

character_took : Takes character_at (λ c text. (piece : List ℕ) × SpellsByte 39 c piece × (text ≡ 39 ∷ (piece ++ 39 ∷ [])))
unfolding character_at
character_took text c rest e =
    let a = bind_some (behind 39 text) (λ inside. byte_at 39 inside >>= λ x. behind 39 x.1 >>= λ r. Some (x.0, r)) (c, rest) e in
    let b = bind_some (byte_at 39 a.0) (λ x. behind 39 x.1 >>= λ r. Some (x.0, r)) (c, rest) a.2 in
    let d = bind_some (behind 39 b.0.1) (λ r. Some (b.0.0, r)) (c, rest) b.2 in
    let t = byte_takes 39 a.0 b.0.0 b.0.1 b.1 in
    let made : ℕ × List ℕ = (b.0.0, d.0) in
    subst (λ (m : ℕ × List ℕ). Took (λ c text. (piece : List ℕ) × SpellsByte 39 c piece × (text ≡ 39 ∷ (piece ++ 39 ∷ []))) text m.0 m.1) (some_is made (c, rest) d.2) (record {
      front = 39 ∷ (t.front ++ 39 ∷ []);
      written = (t.front, t.written, refl);
      split = behind_takes 39 text a.0 a.1 ∙ ap (λ (l : List ℕ). 39 ∷ l) (t.split ∙ ap (λ (l : List ℕ). t.front ++ l) (behind_takes 39 b.0.1 d.0 d.1) ∙ sym (append_assoc t.front (39 ∷ []) d.0));
    })

pub character_takes : Takes (seen Character character_at) (Writes Char)
character_takes = seen_takes Character character_at (λ c text. (piece : List ℕ) × SpellsByte 39 c piece × (text ≡ 39 ∷ (piece ++ 39 ∷ []))) (Writes Char) (λ c text w. w) character_took

pub character_reads : ReadsAnywhere (seen Character character_at) (Spells Char)
unfolding character_at
character_reads (Character c) front rest w =
    let piece = w.1.0 in
    let whole : front ++ rest ≡ 39 ∷ (piece ++ 39 ∷ rest) = ap (λ (l : List ℕ). l ++ rest) w.1.2 ∙ ap (λ (l : List ℕ). 39 ∷ l) (append_assoc piece (39 ∷ []) rest) in
    let one = byte_reads 39 single_quote c piece (39 ∷ rest) w.1.1 in
    ap (seen Character character_at) whole ∙ rw one refl
character_reads _ front rest w = absurd w.0

string_took : Takes string_at (λ cs text. (pieces : List (List ℕ)) × SpellBytes 34 cs pieces × (text ≡ 34 ∷ (joined pieces ++ 34 ∷ [])))
unfolding string_at
string_took text cs rest e =
    let a = bind_some (behind 34 text) (λ inside. bytes_at 34 (length inside) inside) (cs, rest) e in
    let t = bytes_take 34 (length a.0) a.0 cs rest a.2 in
    record {
      front = 34 ∷ t.front;
      written = (t.written.0, t.written.1, ap (λ (l : List ℕ). 34 ∷ l) t.written.2);
      split = behind_takes 34 text a.0 a.1 ∙ ap (λ (l : List ℕ). 34 ∷ l) t.split;
    }

pub string_takes : (bound : ℕ) → Takes (seen Text string_at) (Writes (Str bound))
string_takes bound = seen_takes Text string_at (λ cs text. (pieces : List (List ℕ)) × SpellBytes 34 cs pieces × (text ≡ 34 ∷ (joined pieces ++ 34 ∷ []))) (Writes (Str bound)) (λ cs text w. w) string_took

pub string_reads : (bound : ℕ) → ReadsAnywhere (seen Text string_at) (Spells (Str bound))
unfolding string_at
string_reads bound (Text cs) front rest w =
    let pieces = w.1.0 in
    let inside = joined pieces ++ 34 ∷ rest in
    let whole : front ++ rest ≡ 34 ∷ inside = ap (λ (l : List ℕ). l ++ rest) w.1.2 ∙ ap (λ (l : List ℕ). 34 ∷ l) (append_assoc (joined pieces) (34 ∷ []) rest) in
    let some = bytes_read 34 double_quote (length inside) cs pieces rest w.1.1 (omega (arith, length-append (joined pieces) (34 ∷ rest))) in
    ap (seen Text string_at) whole ∙ rw some refl
string_reads bound _ front rest w = absurd w.0

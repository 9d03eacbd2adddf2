-- What is seen of a value by the words of a get, and what comes of it.
use Rattle.std.proofs.Common.{◌≡◌, ◌<◌, ℕ, Bool, List, [], ◌++◌, ℤ, Option, Some, None, length, drop, refl, sym, ap, ◌∙◌, subst, arith, inl, inr}
use Rattle.std.specs.Prelude.{Result, Ok, ok_or, position}
use Rattle.std.specs.Str.{bytes_eq}
use Rattle.std.specs.Option.{option_map}
use Rattle.std.proofs.Math.Seq.{drop-append_seam}
use Rattle.std.proofs.lemmas.Grind.{common_steps}
use Rattle.std.proofs.lemmas.Option.{slice_get_cases}
use Rattle.std.specs.Fmt.{signed_decimal}
use Rattle.pss_base.specs.declared.pid.Pid.{Pid}
use Rattle.pss_base.specs.declared.session.SessionNo.{SessionNo}
use Rattle.type_layout.specs.declared.schema.Schema.{Schema}
use Rattle.type_layout.specs.declared.home.HomeNo.{HomeNo}
use Rattle.type_layout.specs.Types.{PlainValue, Int, PlainMember}
use Rattle.type_layout.specs.Schemas.{given, members_at}
use Rattle.type_layout.specs.Values.{Of}
use Rattle.value_text.specs.Printed.{printed}
use Rattle.value_text.proofs.Printing.{number_prints}
use Rattle.pss_machine.specs.declared.command.Command.TheVariants as command
use Rattle.pss_machine.specs.declared.reply.Reply.{Reply}
use Rattle.pss_machine.specs.declared.reply.Reply.TheVariants as reply
use Rattle.pss_machine.specs.Operations.{Get, Ask}
use Rattle.pss_machine.specs.Homes.{home_of, member_at}
use Rattle.pss_machine.specs.Names.{member_named}
use Rattle.pss_machine.specs.Copies.{Copies, Entry, entry_numbered}
use Rattle.pss_machine.specs.Kept.{Kept, copies_of}
use Rattle.pss_machine.specs.Asking.{Asked, ◌>>=◌, by_entry, read_member, getting}
use Rattle.pss_machine.specs.Stepping.{value_text}
use Rattle.pss_machine.specs.Effects.{Decision}
use Rattle.pss_machine.specs.Moving.{moved}
use Rattle.pss_machine.proofs.Logic.{none_some}
use Rattle.incarnations.specs.Meaning.{Meaning, AreCopies, entry_at}
use Rattle.pss_copies.specs.Told.{AreTold}
use Rattle.connector_parts.specs.declared.parts.Parts.{Parts}
use Rattle.connector_parts.specs.Stands.{Stands, IsAt, Comes}
use Rattle.connector_parts.proofs.Tellings.{pid_told}
use Rattle.data_calls.specs.declared.acting.Acting.{Acting}
use Rattle.data_calls.specs.Asking.{Asks, MayTake, Follows, decision_on}
use Rattle.data_calls.specs.Replying.{IsOfMember}
use Rattle.data_calls.specs.Glances.{IsReading, IsGlance, IsSeen, added}
use Rattle.data_calls.proofs.Fair.{getting_right}
use Rattle.data_calls.proofs.Words.{asks}
use Rattle.data_calls.proofs.Taking.{told_as, told_decides}
use Rattle.data_calls.proofs.Glances.{may_take, is_glance, may_print}

-- ---- members by their names

inside : {A : Type 0} (p : A → Bool) (xs : List A) (i : ℕ) → position p xs ≡ Some i → i < length xs
inside p xs i e = grind (arith, common_steps)

pub named_there : (S : Schema) (h : HomeNo) (word : List ℕ) (i : ℕ) → member_named S h word ≡ Some i → (m : PlainMember) × (member_at S h i ≡ Some m)
named_there S h word i is =
    elim (slice_get_cases (members_at S h) i).1 [
      | inl x ↦ (x.0, x.2)
      | inr past ↦ (let lt : i < length (members_at S h) = inside (λ (member : PlainMember). bytes_eq word member.name) (members_at S h) i is in absurd (omega (arith, lt, past.0)))
    ]

-- ---- texts

pub typed_text : (S : Schema) (p : Pid) (i : ℕ) (v : PlainValue) (m : PlainMember) → member_at S (home_of p) i ≡ Some m → printed m.type v ≡ value_text S (Ask (Get p i)) v
typed_text S p i v m at = sym (ap (λ (o : Option PlainMember). given o [] (λ m. printed m.type v)) at)

pub number_text : (S : Schema) (p : Pid) (i : ℕ) (v : PlainValue) (z : ℤ) → v ≡ Int z → IsOfMember S p i v → signed_decimal z ≡ value_text S (Ask (Get p i)) v
number_text S p i v z is m =
    let of : Of m.member.type (Int z) = subst (Of m.member.type) is m.of in
    sym (number_prints m.member.type z of) ∙ ap (printed m.member.type) (sym is) ∙ typed_text S p i v m.member m.there

-- ---- the object of an entry

pub object_told : (c : Parts) (k : Kept) → IsAt c k → (m : Meaning) → m ≡ c.attended.copies → AreCopies m → (s : SessionNo) (number n : ℕ) → number ≡ n → (p : Pid) → option_map (λ e. e.pid) (entry_at m s number) ≡ Some p → option_map (λ e. e.pid) (entry_numbered (copies_of k s) n) ≡ Some p
object_told c k at m is are s number n same p seen =
    ap (λ (n : ℕ). option_map {U = Pid} (λ e. e.pid) (entry_numbered (copies_of k s) n)) (sym same) ∙ sym (pid_told k m are (subst (λ (m : Meaning). AreTold m k.copies) (sym is) at.stands.attended.seats.told) s number) ∙ seen

-- ---- what is asked

getting_by : (S : Schema) (p : Pid) (n i : ℕ) (word : List ℕ) (m : PlainMember) → member_named S (home_of p) word ≡ Some i → member_at S (home_of p) i ≡ Some m
    → (read_member S p word >>= λ place. Ok (by_entry n (Ask (Get p place.number)))) ≡ Ok (by_entry n (Ask (Get p i)))
getting_by S p n i word m named there = rw (named, there) refl

pub getting_is : (S : Schema) (copies : Copies) (n : ℕ) (word : List ℕ) (p : Pid) (i : ℕ) → option_map (λ e. e.pid) (entry_numbered copies n) ≡ Some p → member_named S (home_of p) word ≡ Some i → getting S copies n word ≡ Ok (by_entry n (Ask (Get p i)))
getting_is S copies n word p i object named = by (entry_numbered copies n) refl object
  where
    step : (e : Entry) → e.pid ≡ p → (read_member S e.pid word >>= λ place. Ok (by_entry n (Ask (Get e.pid place.number)))) ≡ Ok (by_entry n (Ask (Get p i)))
    step e same = ap (λ (q : Pid). read_member S q word >>= λ place. Ok (by_entry n (Ask (Get q place.number)))) same ∙ getting_by S p n i word (named_there S (home_of p) word i named).0 named (named_there S (home_of p) word i named).1

    some : {x y : Pid} → Some x ≡ Some y → x ≡ y
    some e = cc

    by : (o : Option Entry) → entry_numbered copies n ≡ o → option_map (λ e. e.pid) o ≡ Some p → getting S copies n word ≡ Ok (by_entry n (Ask (Get p i)))
    by None at seen = absurd (none_some seen)
    by (Some e) at seen = ap (λ (o : Option Entry). ok_or o reply.NoEntry >>= λ e. read_member S e.pid word >>= λ place. Ok (by_entry n (Ask (Get e.pid place.number)))) at ∙ step e (some seen)

-- ---- a get by its words

module _ (c : Parts) (k : Kept) (at : IsAt c k) (name : List ℕ) (n : ℕ) (word : List ℕ) (acting : Acting) (p : Pid) (member : ℕ) (v : PlainValue) (seen : IsSeen c k name n word acting p member v) where
  abbrev pub asked : Asked
  asked = by_entry n (Ask (Get p member))

  abbrev words : SessionNo → Result Asked Reply
  words s = getting c.schema (copies_of k s) n word

  pub asked_is : words acting.session ≡ Ok asked
  asked_is = getting_is c.schema (copies_of k acting.session) n word p member seen.object seen.member_is

  abbrev by_words : Asks c acting (words acting.session)
  by_words = asks c k at name acting seen.named (command.Get name n word) (λ s session. words s) (λ owners. refl) (getting_right c.schema (copies_of k acting.session) n word)

  abbrev pub asks_it : Asks c acting (Ok asked)
  asks_it = told_as by_words (Ok asked) asked_is

  abbrev pub reading : IsReading asked
  reading = record { p = p; member = member; op_is = refl; only = refl }

  abbrev pub take : MayTake c acting asked
  take = may_take asks_it reading

  pub glance : IsGlance take v
  glance = is_glance take reading seen.basic seen.are seen.values v seen.has seen.stands

  -- the value is of its member's type
  pub of_member : IsOfMember c.schema p member v
  of_member =
      let there = named_there c.schema (home_of p) word member seen.member_is in
      record { member = there.0; there = there.1; of = may_print take reading glance p member there.0 refl there.1 }

  -- what comes of the step is what comes of the command
  pub comes_of : (new : Parts) (r : Reply) → Follows c k (decision_on asks_it) r new → Comes c k (command.Get name n word) r new
  comes_of new r f =
      let d : decision_on by_words ≡ decision_on asks_it = told_decides by_words (Ok asked) asked_is in
      record {
        reply_is = f.reply_is ∙ ap (λ (d : Decision). d.reply) (sym d ∙ sym by_words.decides);
        stay = f.stay;
        stands = subst (λ (d : Decision). Stands new (moved k d.effect)) (sym d ∙ sym by_words.decides) f.stands;
      }

-- ---- lines

pub added_is : (old new text : List ℕ) → new ≡ old ++ text → added old new ≡ text
added_is old new text grown = ap (drop (length old)) grown ∙ drop-append_seam old text

pub grown_by : (old new text : List ℕ) → new ≡ old ++ text → new ≡ old ++ added old new
grown_by old new text grown = grown ∙ ap (λ (t : List ℕ). old ++ t) (sym (added_is old new text grown))

-- How many steps the reading of a record takes.
use Rattle.std.proofs.Common.{◌≡◌, ℕ, ◌+◌, List, [], ◌++◌, Result, Ok, Err, refl, sym, ap, ◌∙◌, arith, ◌⊎◌, inl, inr}
use Rattle.std.specs.Prelude.{IfOk}
use Rattle.std.proofs.lemmas.List.{append-nil}
use Rattle.type_layout.specs.Types.{PlainValue, PlainMember, values_of}
use Rattle.type_layout.specs.Values.{IsRecord, layout_fields}
use Rattle.type_layout.specs.Sound.{IsSoundLayout}
use Rattle.type_layout.specs.Spelling.{record_spelling}
use Rattle.cdr_codec.specs.declared.fault.RecordFault.{RecordFault}
use Rattle.cdr_codec.specs.declared.fault.RecordFault.TheVariants.{NoMemory}
use Rattle.cdr_codec.specs.Primitives.{Flag, aligned, field_pieces, record_pieces, IsRefused}
use Rattle.cdr_codec.specs.Reading.{judged_at, Answers, record_at}
use Rattle.cdr_codec.specs.Steps.{steps_of, steps_until}
use Rattle.cdr_codec.specs.Taken.{fields_take, members_take}
use Rattle.cdr_codec.specs.Laws.{AreOctets}
use Rattle.cdr_codec.proofs.Ones.{MayBe}
use Rattle.cdr_codec.proofs.Types.{judged_law}
use Rattle.cdr_codec.proofs.Counts.{Counts, both_counts, number_counts, fields_count}
use Rattle.cdr_codec.proofs.Records.{sound_fields, record_spelled, spelled_is, found_if}

members_count : (members : List PlainMember) → IsSoundLayout members → (vs : List PlainValue) → IsRecord members vs → Counts (members_take members) (record_spelled members vs)
unfolding members_take
members_count members sound vs fits =
    both_counts (judged_at Flag) (aligned Flag) (MayBe Flag) (judged_law Flag tt 0 (omega arith, refl)) 0 (omega arith, refl)
    (λ bytes at. 1) (number_counts Flag (refl, refl) 0) (λ n. fields_take (layout_fields members)) (field_pieces (layout_fields members) (values_of vs)) (fields_count (layout_fields members) (sound_fields members sound) (values_of vs) fits) (members_take members) (λ bytes at. refl)

-- octets that begin with a record
record_takes : (members : List PlainMember) → IsSoundLayout members → (bytes : List ℕ) (vs : List PlainValue) (rest : List ℕ) → IsRecord members vs → bytes ≡ record_spelling members vs ++ rest → members_take members bytes 0 ≡ steps_of (record_pieces members vs)
record_takes members sound bytes vs rest fits whole = (members_count members sound vs fits).whole bytes 0 rest (omega arith) (whole ∙ ap (λ (l : List ℕ). l ++ rest) (sym (spelled_is members vs)))

pub taken_if : (members : List PlainMember) → IsSoundLayout members → (bytes : List ℕ) (result : Result (List PlainValue) RecordFault) (old new : ℕ) → AreOctets bytes → Answers result (record_at members bytes) → (result ≡ Err NoMemory) ⊎ (new ≡ old + members_take members bytes 0) → IfOk result (λ vs. new ≡ old + steps_of (record_pieces members vs))
taken_if members sound bytes (Ok vs) old new o e (inl memory) = absurd cc
taken_if members sound bytes (Ok vs) old new o e (inr took) =
    let found = found_if members sound bytes (Ok vs) o e in
    let total = record_takes members sound bytes vs [] found.0 (found.1 ∙ sym (append-nil (record_spelling members vs))) in
    omega (arith, took, total)
taken_if members sound bytes (Err f) old new o e took = tt

pub taken_until : (members : List PlainMember) → IsSoundLayout members → (bytes : List ℕ) (f : RecordFault) (r : IsRefused members bytes f) → members_take members bytes 0 ≡ steps_until r
taken_until members sound bytes f (inl r) = (members_count members sound r.values r.is_record).until bytes 0 f (omega arith) r.cut
taken_until members sound bytes f (inr r) = record_takes members sound bytes r.values r.rest r.is_record r.whole

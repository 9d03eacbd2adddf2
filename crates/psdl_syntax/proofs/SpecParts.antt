-- A type and the parts of a sequence type, as functions read them.
use Rattle.std.proofs.Common.{◌≡◌, ℕ, ◌-◌, ◌<◌, List, true, false, Option, Ok, refl, ap, sym, ◌∙◌}
use Rattle.psdl_tokens.specs.declared.token.Mark.TheVariants as marks
use Rattle.psdl_tokens.specs.declared.token.Keyword.TheVariants as keywords
use Rattle.part_readers.specs.declared.refusal.Refusal.{Refusal}
use Rattle.part_readers.specs.declared.refusal.Refusal.TheVariants.{Memory, Fault as Faulty}
use Rattle.part_readers.specs.Reading.{Fails, starts}
use Rattle.psdl_syntax.specs.declared.fault.Fault.{Fault}
use Rattle.psdl_tree.specs.Trees.{Expression, TypeSpec, Sequence, PlainType, PlainSpec}
use Rattle.psdl_syntax.specs.Seen.{Seen}
use Rattle.psdl_syntax.specs.Productions.{Reads, word_at, sign_at, sign_part, is_word, opened, sequence_with, sequence_inside, sequence_inner_at, type_spec_with, type_spec_at, plain_type_at}
use Rattle.psdl_syntax.proofs.Depths.{sequence_inside_is}

abbrev Inner : Type 0
Inner = TypeSpec × Option Expression

inside : (d : ℕ) (toks : List Seen) → 0 < d → sequence_inner_at (d - 1) toks ≡ sequence_inside d toks
inside d toks lt = ap (λ (r : Reads Inner). r toks) (sequence_inside_is d lt)

pub sequence_gives : (d : ℕ) (toks word mid end rest : List Seen) (x : Inner) → 0 < d → word_at keywords.Sequence toks ≡ Ok (tt, word) → opened (sign_part marks.Less) d word ≡ Ok (tt, mid) → sequence_inner_at (d - 1) mid ≡ Ok (x, end) → sign_at marks.Greater end ≡ Ok (tt, rest) → sequence_with (sequence_inside d) d toks ≡ Ok (x, rest)
unfolding sequence_with
sequence_gives d toks word mid end rest x lt first open_read inner close =
    let e : sequence_inside d mid ≡ Ok (x, end) = sym (inside d mid lt) ∙ inner in
    rw (first, open_read, e, close) refl

pub word_fails : (refusal : Refusal Fault) (d : ℕ) (toks : List Seen) → Fails refusal (word_at keywords.Sequence toks) → Fails refusal (sequence_with (sequence_inside d) d toks)
unfolding sequence_with
word_fails Memory d toks h = tt
word_fails (Faulty f) d toks h = rw h refl

pub open_fails : (refusal : Refusal Fault) (d : ℕ) (toks word : List Seen) → word_at keywords.Sequence toks ≡ Ok (tt, word) → Fails refusal (opened (sign_part marks.Less) d word) → Fails refusal (sequence_with (sequence_inside d) d toks)
unfolding sequence_with
open_fails Memory d toks word first h = tt
open_fails (Faulty f) d toks word first h = rw (first, h) refl

pub inner_fails : (refusal : Refusal Fault) (d : ℕ) (toks word mid : List Seen) → 0 < d → word_at keywords.Sequence toks ≡ Ok (tt, word) → opened (sign_part marks.Less) d word ≡ Ok (tt, mid) → Fails refusal (sequence_inner_at (d - 1) mid) → Fails refusal (sequence_with (sequence_inside d) d toks)
unfolding sequence_with
inner_fails Memory d toks word mid lt first open_read h = tt
inner_fails (Faulty f) d toks word mid lt first open_read h = rw (first, open_read, sym (inside d mid lt) ∙ h) refl

pub close_fails : (refusal : Refusal Fault) (d : ℕ) (toks word mid end : List Seen) (x : Inner) → 0 < d → word_at keywords.Sequence toks ≡ Ok (tt, word) → opened (sign_part marks.Less) d word ≡ Ok (tt, mid) → sequence_inner_at (d - 1) mid ≡ Ok (x, end) → Fails refusal (sign_at marks.Greater end) → Fails refusal (sequence_with (sequence_inside d) d toks)
unfolding sequence_with
close_fails Memory d toks word mid end x lt first open_read inner h = tt
close_fails (Faulty f) d toks word mid end x lt first open_read inner h = rw (first, open_read, sym (inside d mid lt) ∙ inner, h) refl

pub spec_gives : (d : ℕ) (toks rest : List Seen) (x : TypeSpec) (bound : Option Expression) → starts (is_word keywords.Sequence) toks ≡ true → sequence_with (sequence_inside d) d toks ≡ Ok ((x, bound), rest) → type_spec_at d toks ≡ Ok (Sequence x bound, rest)
unfolding type_spec_at type_spec_with
spec_gives d toks rest x bound there h = rw (there, h) refl

pub spec_fails : (refusal : Refusal Fault) (d : ℕ) (toks : List Seen) → starts (is_word keywords.Sequence) toks ≡ true → Fails refusal (sequence_with (sequence_inside d) d toks) → Fails refusal (type_spec_at d toks)
unfolding type_spec_at type_spec_with
spec_fails Memory d toks there h = tt
spec_fails (Faulty f) d toks there h = rw (there, h) refl

pub plain_gives : (d : ℕ) (toks rest : List Seen) (x : PlainType) → starts (is_word keywords.Sequence) toks ≡ false → plain_type_at d toks ≡ Ok (x, rest) → type_spec_at d toks ≡ Ok (PlainSpec x, rest)
unfolding type_spec_at type_spec_with
plain_gives d toks rest x absent h = rw (absent, h) refl

pub plain_fails : (refusal : Refusal Fault) (d : ℕ) (toks : List Seen) → starts (is_word keywords.Sequence) toks ≡ false → Fails refusal (plain_type_at d toks) → Fails refusal (type_spec_at d toks)
unfolding type_spec_at type_spec_with
plain_fails Memory d toks absent h = tt
plain_fails (Faulty f) d toks absent h = rw (absent, h) refl

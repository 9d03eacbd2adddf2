-- How far a run has come.
use Rattle.std.proofs.Common.{◌≡◌, ◌⊎◌, ⊎_elim, ℕ, ◌+◌, ◌-◌, ◌<◌, ◌≤◌, ◌==◌, List, [], ◌∷◌, ◌++◌, length, map, Bool, true, false, not, nat_lt, take, slice_index, if◌then◌else◌, IsTrue, None, Some, refl, sym, ◌∙◌, ap, subst, arith, length-append, length-take-le, ltb-false}
use Rattle.std.specs.declared.option.Option.{Option}
use Rattle.std.specs.Io.KnownBytes.{Consumes, IsAtEnd, append_known, prepend_known}
use Rattle.std.specs.Str.Lines.{strip_carriage_return}
use Rattle.std.proofs.KnownBytes.{Consumes-trans}
use Rattle.pss_base.specs.Lines.{bytes_of, line_of}
use Rattle.pss_base.specs.Reading.{Reading, new_reading, TakesLine, NextLine, is_read_fault, goes_on as is_live_after}
use Rattle.pss_base.specs.declared.lines.LineStep.{LineStep}
use Rattle.pss_base.specs.declared.lines.LineStep.TheVariants.{Line, TooLong, End, Limit, ReadFault, NoMemory}
use Rattle.pss_base.proofs.LineLaws.{Raw, IsRun, all_bytes, all_ended, run-append, all_ended-append, all_bytes-append, map-append}
use Rattle.line_service.specs.Turns.{TurnOf, after, said, IsLine}
use Rattle.line_service.specs.Runs.{Limits}
use Rattle.line_service.proofs.Saying.{append_known-nil, append_known-append, after-append, said-append}

-- these lines were taken from a script
pub record Taken (limits : Limits) (before : Option (List ℕ)) (r : Reading) (rest : Option (List ℕ)) : Type 0 where
  pub raws : List Raw
  pub shape : IsRun raws
  pub ended : r.at_end ≡ false → all_ended raws ≡ true
  pub at_end : IsTrue r.at_end → IsAtEnd rest
  pub taken : Consumes before rest (all_bytes raws)
  pub lines : limits.lines ≡ r.lines_left + length raws
  pub bytes : limits.bytes ≡ r.bytes_left + length (all_bytes raws)

pub taken_none : (a : Option (List ℕ)) → Consumes a (prepend_known [] a) []
taken_none None = tt
taken_none (Some x) = refl

unfoldable pub none_taken : (limits : Limits) (before : Option (List ℕ)) → Taken limits before (new_reading limits.lines limits.bytes) (prepend_known [] before)
none_taken limits before = record {
  raws = [];
  shape = tt;
  ended = λ _. refl;
  at_end = λ e. cc;
  taken = taken_none before;
  lines = omega arith;
  bytes = omega arith;
}

unfoldable pub taken_more : (limits : Limits) (before : Option (List ℕ)) (r r' : Reading) (rest rest' : Option (List ℕ)) (line : LineStep)
    → Taken limits before r rest → TakesLine r r' rest rest' line → Taken limits before r' rest'
taken_more limits before r r' rest rest' line p t = record {
  raws = p.raws ++ t.raw ∷ [];
  shape = run-append p.raws t.raw p.shape (p.ended t.more) t.one (λ e. (t.last e).0);
  ended = λ e. all_ended-append p.raws t.raw (p.ended t.more) (still t.raw.1 r'.at_end t.end e);
  at_end = λ e. (t.last (was t.raw.1 r'.at_end t.end e)).1;
  taken = subst (Consumes before rest') (sym (all_bytes-append p.raws t.raw)) (Consumes-trans before rest rest' (all_bytes p.raws) (bytes_of t.raw) p.taken t.taken);
  lines = omega (arith, p.lines, t.lines, length-append p.raws (t.raw ∷ []));
  bytes = omega (arith, p.bytes, t.bytes, ap length (all_bytes-append p.raws t.raw), length-append (all_bytes p.raws) (bytes_of t.raw));
}
  where
    still : (ended end : Bool) → end ≡ not ended → end ≡ false → ended ≡ true
    still true end is e = refl
    still false end is e = cc

    was : (ended end : Bool) → end ≡ not ended → IsTrue end → ended ≡ false
    was true end is e = cc
    was false end is e = refl

-- they were served: from each state that it was in at first, the machine came to the state after them, and their replies were spoken
pub record Served {State : Type 0} (turn : TurnOf State) (WasIn IsIn : State → Type 0) (raws : List Raw) (old new : Option (List ℕ)) : Type 0 where
  pub state : (s : State) → WasIn s → IsIn (after turn s (map line_of raws))
  pub spoken : (s : State) → WasIn s → new ≡ append_known old (said turn s (map line_of raws))

module _ {State : Type 0} (turn : TurnOf State) (WasIn : State → Type 0) (old : Option (List ℕ)) where
  pub none_served : Served turn WasIn WasIn [] old old
  none_served = record { state = λ s is. is; spoken = λ s is. append_known-nil old }

  pub served_more : (IsIn IsIn' : State → Type 0) (raws : List Raw) (raw : Raw) (mid new : Option (List ℕ)) (line : LineStep) → line ≡ line_of raw → Served turn WasIn IsIn raws old mid
      → ((s : State) → IsIn s → IsIn' (turn s line).0) → ((s : State) → IsIn s → new ≡ append_known mid (turn s line).1)
      → Served turn WasIn IsIn' (raws ++ raw ∷ []) old new
  served_more IsIn IsIn' raws raw mid new line told so_far goes says = record {
    state = λ s is. subst IsIn' (sym (there s)) (goes (after turn s (map line_of raws)) (so_far.state s is));
    spoken = λ s is.
        says (after turn s (map line_of raws)) (so_far.state s is)
        ∙ ap (λ a. append_known a (turn (after turn s (map line_of raws)) line).1) (so_far.spoken s is)
        ∙ append_known-append old (said turn s (map line_of raws)) (turn (after turn s (map line_of raws)) line).1
        ∙ ap (append_known old) (sym (all_said s));
  }
    where
      all_lines : map line_of (raws ++ raw ∷ []) ≡ map line_of raws ++ line ∷ []
      all_lines = map-append line_of raws (raw ∷ []) ∙ ap (λ l. map line_of raws ++ l ∷ []) (sym told)

      there : (s : State) → after turn s (map line_of (raws ++ raw ∷ [])) ≡ (turn (after turn s (map line_of raws)) line).0
      there s = ap (after turn s) all_lines ∙ after-append turn s (map line_of raws) line

      all_said : (s : State) → said turn s (map line_of (raws ++ raw ∷ [])) ≡ said turn s (map line_of raws) ++ (turn (after turn s (map line_of raws)) line).1
      all_said s = ap (said turn s) all_lines ∙ said-append turn s (map line_of raws) line

-- how far a run has come: lines were taken, they were served, and so many were
pub record Progress {State : Type 0} (turn : TurnOf State) (WasIn IsIn : State → Type 0) (limits : Limits) (before : Option (List ℕ)) (r : Reading) (rest old new : Option (List ℕ)) (first count : ℕ) : Type 0 where
  pub taken : Taken limits before r rest
  pub served : Served turn WasIn IsIn taken.raws old new
  pub counted : count ≡ first + length taken.raws

module _ {State : Type 0} (turn : TurnOf State) (WasIn : State → Type 0) (limits : Limits) (before old : Option (List ℕ)) (first : ℕ) where
  pub begun : Progress turn WasIn WasIn limits before (new_reading limits.lines limits.bytes) (prepend_known [] before) old old first first
  unfolding none_taken
  begun = record { taken = none_taken limits before; served = none_served turn WasIn old; counted = omega arith }

  pub goes_on : (IsIn IsIn' : State → Type 0) (r r' : Reading) (rest rest' mid new : Option (List ℕ)) (count count' : ℕ) (line : LineStep) → Progress turn WasIn IsIn limits before r rest old mid first count
      → TakesLine r r' rest rest' line → ((s : State) → IsIn s → IsIn' (turn s line).0) → ((s : State) → IsIn s → new ≡ append_known mid (turn s line).1) → count' ≡ count + 1
      → Progress turn WasIn IsIn' limits before r' rest' old new first count'
  unfolding taken_more
  goes_on IsIn IsIn' r r' rest rest' mid new count count' line p t goes says one = record {
    taken = taken_more limits before r r' rest rest' line p.taken t;
    served = served_more turn WasIn old IsIn IsIn' p.taken.raws t.raw mid new line t.told p.served goes says;
    counted = omega (arith, one, p.counted, length-append p.taken.raws (t.raw ∷ []));
  }

  -- fewer lines than may be were served
  pub few : (IsIn : State → Type 0) (r r' : Reading) (rest rest' mid : Option (List ℕ)) (count most : ℕ) (line : LineStep) → Progress turn WasIn IsIn limits before r rest old mid first count
      → TakesLine r r' rest rest' line → first + limits.lines ≤ most → count < most
  few IsIn r r' rest rest' mid count most line p t within = omega (arith, p.counted, p.taken.lines, t.lines, within)

-- a line that was told was taken
pub takes_of : (r r' : Reading) (rest rest' : Option (List ℕ)) (line : LineStep) → NextLine r r' rest rest' line → ((text : List ℕ) × (line ≡ Line text)) ⊎ (line ≡ TooLong) → TakesLine r r' rest rest' line
takes_of r r' rest rest' (Line text) s is = s
takes_of r r' rest rest' TooLong s is = s
takes_of r r' rest rest' End s is = ⊎_elim (λ e. let f = e.1 in cc) (λ f. cc) is
takes_of r r' rest rest' Limit s is = ⊎_elim (λ e. let f = e.1 in cc) (λ f. cc) is
takes_of r r' rest rest' ReadFault s is = ⊎_elim (λ e. let f = e.1 in cc) (λ f. cc) is
takes_of r r' rest rest' NoMemory s is = ⊎_elim (λ e. let f = e.1 in cc) (λ f. cc) is

pub not_fault : (line : LineStep) → ((text : List ℕ) × (line ≡ Line text)) ⊎ (line ≡ TooLong) → is_read_fault line ≡ false
not_fault line is = ⊎_elim (λ e. rw e.1) (λ e. rw e) is

pub still_live : (line : LineStep) (live : Bool) → live ≡ is_live_after line → ((text : List ℕ) × (line ≡ Line text)) ⊎ (line ≡ TooLong) → IsTrue live
still_live line live e is = e ∙ ⊎_elim (λ f. ap is_live_after f.1) (λ f. ap is_live_after f) is

strip-shorter : (xs : List ℕ) → length (strip_carriage_return xs) ≤ length xs
strip-shorter xs = by_end (slice_index xs (length xs - 1) == 13)
  where
    by_end : (t : Bool) → length (let l : List ℕ = (if t then take (length xs - 1) xs else xs) in l) ≤ length xs
    by_end true = omega (arith, length-take-le (length xs - 1) xs (omega arith))
    by_end false = omega arith

-- a line that is told has at most 65,536 bytes
pub line_is_served : (raw : Raw) → IsLine (line_of raw)
line_is_served raw = by_length (nat_lt 65536 (length raw.0)) (λ e. ltb-false 65536 (length raw.0) e)
  where
    short : (t : Bool) → length raw.0 ≤ 65536 → length (let l : List ℕ = (if t then strip_carriage_return raw.0 else raw.0) in l) ≤ 65536
    short true few = omega (arith, strip-shorter raw.0)
    short false few = few

    by_length : (t : Bool) → (t ≡ false → length raw.0 ≤ 65536) → (let l : LineStep = (if t then TooLong else Line (if raw.1 then strip_carriage_return raw.0 else raw.0)) in IsLine l)
    by_length true few = tt
    by_length false few = short raw.1 (few refl)

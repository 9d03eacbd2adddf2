-- What was read of a line is one step.
use Rattle.std.proofs.Common.{◌≡◌, ◌≢◌, ◌⊎◌, inr, ℕ, ◌-◌, ◌<◌, ◌≤◌, List, [], ◌∷◌, length, take, Bool, true, false, not, nat_lt, if◌then◌else◌, ◌==◌, IsTrue, refl, sym, ◌∙◌, ap, subst, arith, length-append, Result, Ok, Err}
use Rattle.std.proofs.lemmas.Grind.{common_steps}
use Rattle.std.proofs.lemmas.List.{take_all}
use Rattle.std.specs.declared.option.Option.{Option}
use Rattle.std.specs.Str.Lines.{strip_carriage_return}
use Rattle.std.specs.Io.KnownBytes.{Consumes}
use Rattle.pss_base.specs.Lines.{bytes_of}
use Rattle.pss_base.specs.Reading.{Reading, TakesLine, NextLine, most_bytes}
use Rattle.pss_base.specs.Parts.{PartOf, StopsAt, told_of, stopped_by, is_stopped_by_fault, reading_after}
use Rattle.pss_base.specs.declared.part.Part.{Part}
use Rattle.pss_base.specs.declared.part.Stop.{Stop}
use Rattle.pss_base.specs.declared.part.Stop.TheVariants.{Limit, ReadFault, NoMemory}
use Rattle.pss_base.specs.declared.lines.LineStep.{LineStep}
use Rattle.pss_base.specs.declared.lines.LineStep.TheVariants.{Line, TooLong, End}

over_by : (n b m : ℕ) → m ≡ most_bytes n b → (n ≡ 0) ⊎ (m ≡ b)
over_by n b m is = grind (arith, common_steps)

abbrev pub is_fault : Stop → Bool
is_fault Limit = false
is_fault ReadFault = true
is_fault NoMemory = false

pub stops : (old new : Reading) (before after : Option (List ℕ)) (stop : Stop) → (IsTrue (is_fault stop) → new.ahead ≡ []) → old.at_end ≡ false → StopsAt stop (most_bytes old.lines_left old.bytes_left) before after → NextLine old new before after (stopped_by stop)
stops old new before after Limit empty open_ at = record { part = at.0; next = at.1; taken = at.2; one = at.3; more = open_; over = over_by old.lines_left old.bytes_left _ at.4 }
stops old new before after ReadFault empty open_ at = (at, empty refl, open_)
stops old new before after NoMemory empty open_ at = (at, open_)

pub fault_as : (r : Result Part Stop) (stop : Stop) (P : Type 0) → r ≡ Err stop → (IsTrue (is_stopped_by_fault r) → P) → IsTrue (is_fault stop) → P
fault_as (Ok part) stop P e f t = cc
fault_as (Err Limit) stop P e f t = absurd (let same : Limit ≡ stop = cc in let u : is_fault Limit ≡ true = ap is_fault same ∙ t in cc)
fault_as (Err ReadFault) stop P e f t = f refl
fault_as (Err NoMemory) stop P e f t = absurd (let same : NoMemory ≡ stop = cc in let u : is_fault NoMemory ≡ true = ap is_fault same ∙ t in cc)

not_less : (a b : ℕ) → nat_lt a b ≡ false → b ≤ a
not_less a b f = grind (arith, common_steps)

chosen : (b : Bool) (x y : LineStep) → (b ≡ false → x ≡ y) → (let l : LineStep = (if b then TooLong else x) in l) ≡ (if b then TooLong else y)
chosen true x y h = refl
chosen false x y h = h refl

-- the text that was kept serves where the line isn't longer
pub told : (longest n : ℕ) (body kept : List ℕ) (ended : Bool) → kept ≡ take longest body → n ≡ length body
    → (let step : LineStep = (if nat_lt longest n then TooLong else Line (if ended then strip_carriage_return kept else kept)) in step)
    ≡ (if nat_lt longest (length body) then TooLong else Line (if ended then strip_carriage_return body else body))
told longest n body kept ended is count =
    rw count (chosen (nat_lt longest (length body)) _ _ (λ f. let same : kept ≡ body = is ∙ take_all longest body (not_less longest (length body) f) in rw same))

pub as_step : (long : Bool) (text : List ℕ) (old new : Reading) (before after : Option (List ℕ)) → TakesLine old new before after (if long then TooLong else Line text) → NextLine old new before after (if long then TooLong else Line text)
as_step true text old new before after takes = takes
as_step false text old new before after takes = takes

no_bytes : (body : List ℕ) (ended : Bool) → 0 ≡ length (bytes_of (body, ended)) → bytes_of (body, ended) ≡ []
no_bytes body ended none = grind (arith, common_steps)

no_feed : (body : List ℕ) (ended : Bool) → 0 ≡ length (bytes_of (body, ended)) → ended ≡ false
no_feed body true none = absurd (omega (arith, none, length-append body (10 ∷ [])))
no_feed body false none = refl

some_lines : (n b size : ℕ) → size ≤ most_bytes n b → size ≢ 0 → 0 < n
some_lines n b size le ne = grind (arith, common_steps)

most_within : (n b : ℕ) → most_bytes n b ≤ b
most_within n b = grind (arith, common_steps)

size_open : (body : List ℕ) (ended : Bool) → ended ≡ false → length (bytes_of (body, ended)) ≡ length body
size_open body ended e = rw e

pub takes : (old new : Reading) (part : Part) (before after : Option (List ℕ)) → PartOf part (most_bytes old.lines_left old.bytes_left) before after → part.size ≢ 0
    → new.lines_left ≡ old.lines_left - 1 → new.bytes_left ≡ old.bytes_left - part.size → new.at_end ≡ not part.ended → old.at_end ≡ false
    → TakesLine old new before after (told_of part)
takes old new part before after is some lines bytes end open_ = record {
  raw = (is.body, part.ended);
  one = is.so_far.one;
  taken = is.taken;
  told = told 65536 part.count is.body part.text part.ended is.so_far.text is.so_far.count;
  lines = omega (arith, lines, some_lines old.lines_left old.bytes_left part.size is.fits some);
  bytes = omega (arith, bytes, is.size, is.fits, most_within old.lines_left old.bytes_left);
  last = λ e. (omega (arith, some, is.size, size_open is.body part.ended e), is.last e);
  more = open_;
  end = end;
}

ends : (old new : Reading) (part : Part) (most : ℕ) (before after : Option (List ℕ)) → PartOf part most before after → part.size ≡ 0 → NextLine old new before after End
ends old new part most before after is none =
    let empty : bytes_of (is.body, part.ended) ≡ [] = no_bytes is.body part.ended (sym none ∙ is.size) in
    (subst (Consumes before after) empty is.taken, inr (is.last (no_feed is.body part.ended (sym none ∙ is.size))))

is_none : (n : ℕ) → (n == 0) ≡ true → n ≡ 0
is_none n e = grind (arith, common_steps)

is_some_size : (n : ℕ) → (n == 0) ≡ false → n ≢ 0
is_some_size n e = grind (arith, common_steps)

by_size : (b : Bool) (old mid : Reading) (part : Part) (before after : Option (List ℕ)) → (part.size == 0) ≡ b → PartOf part (most_bytes old.lines_left old.bytes_left) before after
    → mid.lines_left ≡ old.lines_left → mid.bytes_left ≡ old.bytes_left → old.at_end ≡ false
    → let new : Reading = record { ahead = mid.ahead; lines_left = if b then mid.lines_left else mid.lines_left - 1; bytes_left = mid.bytes_left - part.size; at_end = not part.ended; live = mid.live } in
    NextLine old new before after (if b then End else told_of part)
by_size true old mid part before after e is lines bytes open_ = ends old mid part _ before after is (is_none part.size e)
by_size false old mid part before after e is lines bytes open_ =
    as_step (nat_lt 65536 part.count) _ old _ before after
    (takes old _ part before after is (is_some_size part.size e) (ap (λ n. n - 1) lines) (ap (λ n. n - part.size) bytes) refl open_)

pub after_part : (old mid : Reading) (part : Part) (before after : Option (List ℕ)) → PartOf part (most_bytes old.lines_left old.bytes_left) before after
    → mid.lines_left ≡ old.lines_left → mid.bytes_left ≡ old.bytes_left → old.at_end ≡ false
    → NextLine old (reading_after mid part) before after (if part.size == 0 then End else told_of part)
after_part old mid part before after = by_size (part.size == 0) old mid part before after refl

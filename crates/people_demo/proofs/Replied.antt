-- What a show counts are the replies of the machine, and what it keeps is what the lines of a script make.
use Rattle.std.proofs.Common.{ℕ, ◌≡◌, ◌+◌, ◌∙◌, ap, refl, sym, Bool, false, List, [], ◌∷◌, ◌++◌, map, Option, Some, None}
use Rattle.std.specs.Option.{is_some, option_map, option_to_list}
use Rattle.pss_base.specs.declared.lines.LineStep.{LineStep}
use Rattle.type_layout.specs.declared.schema.Schema.{Schema}
use Rattle.pss_catalog.specs.Catalog.{Catalog}
use Rattle.pss_machine.specs.declared.limits.Limits.{Limits}
use Rattle.pss_machine.specs.declared.reply.Reply.{Reply}
use Rattle.pss_machine.specs.Limits.{standard}
use Rattle.pss_machine.specs.Kept.{Kept}
use Rattle.pss_machine.specs.Run.{Machine, Said, Says, Silent, Wrong, first, replies, reply_of, turn}
use Rattle.line_service.specs.Turns.{after}
use Rattle.script_service.specs.Turns.{cleared_after, kept_after, saved_after, start, told_by, turn_from}
use Rattle.people_demo.specs.People.{people}
use Rattle.people_demo.specs.Tally.{counted_from, no_tally, tally_of, with_answer}
use Rattle.people_demo.specs.declared.tally.Tally.{Tally}
use Rattle.people_demo.specs.inner.Showing.{Showing, begun, served, served_all}

pub running_after : (s : Showing) (lines : List LineStep) → (served_all s lines).running ≡ after turn_from s.running lines
running_after s [] = refl
running_after s (line ∷ lines) = running_after (served s line) lines

abbrev at : Schema → Limits → Kept → Option ℕ → Bool → Tally → ℕ → Showing
at S limits k saved cleared tally n = record { running = record { schema = S; limits = limits; kept = k; saved = saved; cleared = cleared }; tally = tally; lines = n }

turn_kept : (S : Schema) (limits : Limits) (q : Machine) (told : Said) → (turn S limits q told).kept ≡ kept_after S limits q.kept told
turn_kept S limits q Silent = refl
turn_kept S limits q (Wrong column) = refl
turn_kept S limits q (Says command) = refl

counted_first : (tally : Tally) (answer : Option Reply) (rest : List Reply) → counted_from (with_answer tally answer) rest ≡ counted_from tally (option_to_list answer ++ rest)
counted_first tally None rest = refl
counted_first tally (Some reply) rest = refl

tally_run : (S : Schema) (limits : Limits) (q : Machine) (saved : Option ℕ) (cleared : Bool) (tally : Tally) (n : ℕ) (lines : List LineStep) → (served_all (at S limits q.kept saved cleared tally n) lines).tally ≡ counted_from tally (replies S limits q (map told_by lines))
tally_run S limits q saved cleared tally n [] = refl
tally_run S limits q saved cleared tally n (line ∷ lines) =
    let told = told_by line in
    let answer = reply_of S limits q.kept told in
    let saved' = saved_after S limits q.kept saved told in
    let cleared' = cleared_after cleared told in
    ap (λ (k : Kept). (served_all (at S limits k saved' cleared' (with_answer tally answer) (n + 1)) lines).tally) (sym (turn_kept S limits q told))
    ∙ tally_run S limits (turn S limits q told) saved' cleared' (with_answer tally answer) (n + 1) lines
    ∙ counted_first tally answer (replies S limits (turn S limits q told) (map told_by lines))

pub tally_is : (M : Catalog) (next : ℕ) (is_told : Bool) (lines : List LineStep) → (served_all (begun M next is_told) lines).tally ≡ tally_of (replies people standard (first M next) (map told_by lines))
tally_is M next is_told lines = tally_run people standard (first M next) (start people standard M next is_told).saved false no_tally 0 lines

-- ---- the next serial stays told

map_some : {A B : Type 0} (f : A → B) (o : Option A) → is_some (option_map f o) ≡ is_some o
map_some f None = refl
map_some f (Some x) = refl

pub saved_told : (s : Showing) (lines : List LineStep) → is_some (served_all s lines).running.saved ≡ is_some s.running.saved
saved_told s [] = refl
saved_told s (line ∷ lines) = saved_told (served s line) lines ∙ map_some _ s.running.saved

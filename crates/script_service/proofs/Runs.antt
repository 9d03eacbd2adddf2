-- Lines that are served one after another are a run of the machine.
use Rattle.std.proofs.Common.{ℕ, ◌≡◌, ◌∙◌, ap, refl, sym, Bool, false, List, [], ◌∷◌, ◌++◌, map, Option, Some, None}
use Rattle.std.specs.Prelude.{if◌then◌else◌}
use Rattle.std.specs.Option.{option_to_list}
use Rattle.pss_base.specs.declared.lines.LineStep.{LineStep}
use Rattle.type_layout.specs.declared.schema.Schema.{Schema}
use Rattle.pss_machine.specs.declared.limits.Limits.{Limits}
use Rattle.pss_machine.specs.declared.reply.Reply.{Reply}
use Rattle.pss_machine.specs.Kept.{Kept}
use Rattle.pss_machine.specs.Run.{Said, Silent, Says, Wrong, Machine, first, turn, run, reply_of, replies}
use Rattle.line_service.specs.Turns.{after, said}
use Rattle.script_service.specs.Turns.{Running, told_by, kept_after, saved_after, cleared_after, turn_from, spoken_for, all_spoken, LinesAreRun}

abbrev pub keeping : Schema → Limits → Kept → Option ℕ → Bool → Running
keeping S limits k saved cleared = record { schema = S; limits = limits; kept = k; saved = saved; cleared = cleared }

pub turn_kept : (S : Schema) (limits : Limits) (q : Machine) (told : Said) → (turn S limits q told).kept ≡ kept_after S limits q.kept told
turn_kept S limits q Silent = refl
turn_kept S limits q (Wrong column) = refl
turn_kept S limits q (Says command) = refl

after_run : (S : Schema) (limits : Limits) (q : Machine) (saved : Option ℕ) (cleared : Bool) (lines : List LineStep) → (after turn_from (keeping S limits q.kept saved cleared) lines).kept ≡ (run S limits q (map told_by lines)).kept
after_run S limits q saved cleared [] = refl
after_run S limits q saved cleared (line ∷ lines) =
    let told = told_by line in
    ap (λ k. (after turn_from (keeping S limits k (saved_after S limits q.kept saved told) (cleared_after cleared told)) lines).kept) (sym (turn_kept S limits q told))
    ∙ after_run S limits (turn S limits q told) (saved_after S limits q.kept saved told) (cleared_after cleared told) lines

spoken_first : (reply : Option Reply) (rest : List Reply) → spoken_for reply ++ all_spoken rest ≡ all_spoken (option_to_list reply ++ rest)
spoken_first None rest = refl
spoken_first (Some reply) rest = refl

said_run : (S : Schema) (limits : Limits) (q : Machine) (saved : Option ℕ) (cleared : Bool) (lines : List LineStep) → said turn_from (keeping S limits q.kept saved cleared) lines ≡ all_spoken (replies S limits q (map told_by lines))
said_run S limits q saved cleared [] = refl
said_run S limits q saved cleared (line ∷ lines) =
    let told = told_by line in
    ap (λ k. spoken_for (reply_of S limits q.kept told) ++ said turn_from (keeping S limits k (saved_after S limits q.kept saved told) (cleared_after cleared told)) lines) (sym (turn_kept S limits q told))
    ∙ ap (λ bytes. spoken_for (reply_of S limits q.kept told) ++ bytes) (said_run S limits (turn S limits q told) (saved_after S limits q.kept saved told) (cleared_after cleared told) lines)
    ∙ spoken_first (reply_of S limits q.kept told) (replies S limits (turn S limits q told) (map told_by lines))

pub lines_run : LinesAreRun
lines_run S limits M next is_told lines =
    let saved : Option ℕ = if is_told then Some next else None in
    (after_run S limits (first M next) saved false lines, said_run S limits (first M next) saved false lines)

-- The run that is worked out, turn by turn, and what the law of serial runs says of it.
use Rattle.std.proofs.Common.{sym, ◌≡◌, List, [], ◌∷◌, refl, ap, subst, ◌∙◌}
use Rattle.std.specs.FinMap.{empty}
use Rattle.pss_machine.specs.Limits.{standard}
use Rattle.pss_machine.specs.Beside.{Member}
use Rattle.pss_machine.specs.Run.{Machine, Said, Says, first, turn, run}
use Rattle.pss_machine.specs.Serial.{Serial, catalog_after}
use Rattle.pss_laws.specs.Worked.{marks, opens_a, opens_b, begins_t, starts_t, creates_b, ends_b, commits_t, creates_a, flushes_a, begins_u, starts_u, counts_b, commits_u, lines, worked, history, trace, HistoryIsWorked, TraceIsWorked, FirstIsAlone, LastIsAlone, CatalogIsWorked}
use Rattle.pss_laws.proofs.Turns.{good_given}
use Rattle.pss_laws.proofs.History.{Listed, each_run}
use Rattle.pss_laws.proofs.Fine.{empty_good}
use Rattle.pss_laws.proofs.WorkedSchema.{marks_sound}
use Rattle.pss_laws.proofs.WorkedStates.{q0, q1, q2, q3, q4, q5, q6, q7, q8, q9, q10, q11, q12, q13, q14}
use Rattle.pss_laws.proofs.WorkedTurns.{first_is, turn_1, turn_2, turn_3, turn_4, turn_5, turn_6, turn_7, turn_8, turn_9, turn_10, turn_11, turn_12, turn_13, turn_14}

-- a turn, and the rest of a run
goes_on : (q p last : Machine) (x : Said) (xs : List Said) → turn marks standard q x ≡ p → run marks standard p xs ≡ last → run marks standard q (x ∷ xs) ≡ last
goes_on q p last x xs is rest = ap (λ (r : Machine). run marks standard r xs) is ∙ rest

-- the lines behind each
from_13 : List Said
from_13 = Says commits_u ∷ []

from_12 : List Said
from_12 = Says ends_b ∷ from_13

from_11 : List Said
from_11 = Says counts_b ∷ from_12

from_10 : List Said
from_10 = Says starts_u ∷ from_11

from_9 : List Said
from_9 = Says begins_u ∷ from_10

from_8 : List Said
from_8 = Says flushes_a ∷ from_9

from_7 : List Said
from_7 = Says creates_a ∷ from_8

from_6 : List Said
from_6 = Says commits_t ∷ from_7

from_5 : List Said
from_5 = Says ends_b ∷ from_6

from_4 : List Said
from_4 = Says creates_b ∷ from_5

from_3 : List Said
from_3 = Says starts_t ∷ from_4

from_2 : List Said
from_2 = Says begins_t ∷ from_3

from_1 : List Said
from_1 = Says opens_b ∷ from_2

from_0 : List Said
from_0 = Says opens_a ∷ from_1

lines_are : lines ≡ from_0
unfolding lines from_0 from_1 from_2 from_3 from_4 from_5 from_6 from_7 from_8 from_9 from_10 from_11 from_12 from_13
lines_are = refl

ran_13 : run marks standard q13 from_13 ≡ q14
unfolding from_13
ran_13 = goes_on q13 q14 q14 (Says commits_u) [] turn_14 refl

ran_12 : run marks standard q12 from_12 ≡ q14
unfolding from_12
ran_12 = goes_on q12 q13 q14 (Says ends_b) from_13 turn_13 ran_13

ran_11 : run marks standard q11 from_11 ≡ q14
unfolding from_11
ran_11 = goes_on q11 q12 q14 (Says counts_b) from_12 turn_12 ran_12

ran_10 : run marks standard q10 from_10 ≡ q14
unfolding from_10
ran_10 = goes_on q10 q11 q14 (Says starts_u) from_11 turn_11 ran_11

ran_9 : run marks standard q9 from_9 ≡ q14
unfolding from_9
ran_9 = goes_on q9 q10 q14 (Says begins_u) from_10 turn_10 ran_10

ran_8 : run marks standard q8 from_8 ≡ q14
unfolding from_8
ran_8 = goes_on q8 q9 q14 (Says flushes_a) from_9 turn_9 ran_9

ran_7 : run marks standard q7 from_7 ≡ q14
unfolding from_7
ran_7 = goes_on q7 q8 q14 (Says creates_a) from_8 turn_8 ran_8

ran_6 : run marks standard q6 from_6 ≡ q14
unfolding from_6
ran_6 = goes_on q6 q7 q14 (Says commits_t) from_7 turn_7 ran_7

ran_5 : run marks standard q5 from_5 ≡ q14
unfolding from_5
ran_5 = goes_on q5 q6 q14 (Says ends_b) from_6 turn_6 ran_6

ran_4 : run marks standard q4 from_4 ≡ q14
unfolding from_4
ran_4 = goes_on q4 q5 q14 (Says creates_b) from_5 turn_5 ran_5

ran_3 : run marks standard q3 from_3 ≡ q14
unfolding from_3
ran_3 = goes_on q3 q4 q14 (Says starts_t) from_4 turn_4 ran_4

ran_2 : run marks standard q2 from_2 ≡ q14
unfolding from_2
ran_2 = goes_on q2 q3 q14 (Says begins_t) from_3 turn_3 ran_3

ran_1 : run marks standard q1 from_1 ≡ q14
unfolding from_1
ran_1 = goes_on q1 q2 q14 (Says opens_b) from_2 turn_2 ran_2

ran_0 : run marks standard q0 from_0 ≡ q14
unfolding from_0
ran_0 = goes_on q0 q1 q14 (Says opens_a) from_1 turn_1 ran_1

worked_is : worked ≡ q14
unfolding worked
worked_is = ap (λ (xs : List Said). run marks standard (first empty 1) xs) lines_are ∙ ap (λ (q : Machine). run marks standard q from_0) first_is ∙ ran_0

history_of_last : q14.lists.history ≡ history
unfolding q14
history_of_last = refl

trace_of_last : q14.lists.trace ≡ trace
unfolding q14
trace_of_last = refl

pub history_is : HistoryIsWorked
history_is = ap (λ (q : Machine). q.lists.history) worked_is ∙ history_of_last

pub trace_is : TraceIsWorked
trace_is = ap (λ (q : Machine). q.lists.trace) worked_is ∙ trace_of_last

-- ---- the law

run_is_listed : Listed marks empty worked.kept.catalog worked.kept.owners worked.lists
unfolding worked
run_is_listed = (each_run marks marks_sound standard empty 1 lines (empty_good marks).unique (good_given marks empty 1 (empty_good marks))).listed

members_are_serial : Serial marks empty history
members_are_serial = subst (λ (members : List Member). Serial marks empty members) history_is run_is_listed.serial

pub first_alone : FirstIsAlone
first_alone = (members_are_serial.0.0.0, members_are_serial.0.1)

pub last_alone : LastIsAlone
last_alone = (members_are_serial.1.1.0.0.0, members_are_serial.1.1.0.1)

pub catalog_is : CatalogIsWorked
catalog_is = sym run_is_listed.now ∙ ap (λ (members : List Member). catalog_after empty members) history_is

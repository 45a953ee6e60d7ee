-- The steps of the story may be taken, and where they lead.
use Rattle.std.proofs.Common.{List, [], ◌∷◌, ◌++◌, arith}
use Rattle.std.proofs.lemmas.Bool.Decides.{nat_tests}
use Rattle.hm_rounds.specs.State.{State}
use Rattle.hm_rounds.specs.After.{after}
use Rattle.hm_rounds.specs.Runs.{Taken, run, MayRun, IsOpening}
use Rattle.hm_rounds.specs.Story.{MissesOne, IsCopiedOut, start, both_join, one_copies, other_copies, other_is_clean, reads_old_name, both_are_clean, mark_tells, scans_again, clean_again, second_is_clean, both_free, first_round, story, other_kinds}

-- the story begins with an opening
pub start_opens : IsOpening start
start_opens = grind (arith, nat_tests)

-- the states between the lists of steps
abbrev joined : State
joined = run start both_join

abbrev copied : State
copied = run joined one_copies

abbrev both_copied : State
both_copied = run copied other_copies

abbrev one_clean : State
one_clean = run both_copied other_is_clean

abbrev marked : State
marked = run one_clean reads_old_name

abbrev both_clean : State
both_clean = run marked both_are_clean

abbrev told : State
told = run both_clean mark_tells

abbrev scanned : State
scanned = run told scans_again

abbrev again : State
again = run scanned clean_again

abbrev ended : State
ended = run again second_is_clean

-- these steps may be taken
may_join : MayRun start both_join
may_join = grind (arith, nat_tests)

-- these steps may be taken
may_copy : MayRun joined one_copies
may_copy = grind (arith, nat_tests)

-- these steps may be taken
may_copy_too : MayRun copied other_copies
may_copy_too = grind (arith, nat_tests)

-- these steps may be taken
may_be_clean : MayRun both_copied other_is_clean
may_be_clean = grind (arith, nat_tests)

-- these steps may be taken
may_read : MayRun one_clean reads_old_name
may_read = grind (arith, nat_tests)

-- these steps may be taken
may_both_be_clean : MayRun marked both_are_clean
may_both_be_clean = grind (arith, nat_tests)

-- these steps may be taken
may_tell : MayRun both_clean mark_tells
may_tell = grind (arith, nat_tests)

-- these steps may be taken
may_scan_again : MayRun told scans_again
may_scan_again = grind (arith, nat_tests)

-- these steps may be taken
may_be_clean_again : MayRun scanned clean_again
may_be_clean_again = grind (arith, nat_tests)

-- these steps may be taken
may_end : MayRun again second_is_clean
may_end = grind (arith, nat_tests)

-- these steps may be taken
may_free : MayRun ended both_free
may_free = grind (arith, nat_tests)

-- lists of steps that may be taken one behind the other may be taken as one
behind : (s : State) (first more : List Taken) → MayRun s first → MayRun (run s first) more
    → MayRun s (first ++ more)
behind s [] more may next = next
behind s (step ∷ rest) more may next =
    let t : State = after s step.caller step.bare step.step in
    (may.0, behind t rest more may.1 next)

-- what comes behind each list of steps
abbrev from_again : List Taken
from_again = second_is_clean ++ both_free

abbrev from_scanned : List Taken
from_scanned = clean_again ++ from_again

abbrev from_told : List Taken
from_told = scans_again ++ from_scanned

abbrev from_both_clean : List Taken
from_both_clean = mark_tells ++ from_told

abbrev from_marked : List Taken
from_marked = both_are_clean ++ from_both_clean

abbrev from_one_clean : List Taken
from_one_clean = reads_old_name ++ from_marked

abbrev from_both_copied : List Taken
from_both_copied = other_is_clean ++ from_one_clean

abbrev from_copied : List Taken
from_copied = other_copies ++ from_both_copied

abbrev from_joined : List Taken
from_joined = one_copies ++ from_copied

-- the whole story may be taken
pub story_may : MayRun start story
story_may = behind start both_join from_joined may_join (
    behind joined one_copies from_copied may_copy (
    behind copied other_copies from_both_copied may_copy_too (
    behind both_copied other_is_clean from_one_clean may_be_clean (
    behind one_clean reads_old_name from_marked may_read (
    behind marked both_are_clean from_both_clean may_both_be_clean (
    behind both_clean mark_tells from_told may_tell (
    behind told scans_again from_scanned may_scan_again (
    behind scanned clean_again from_again may_be_clean_again (
    behind again second_is_clean both_free may_end may_free)))))))))

-- so may steps of the other kinds
pub others_may : MayRun start other_kinds
others_may = grind (arith, nat_tests)

-- after the first round both have replied Clean, and caller 0 still holds version 1
pub round_misses : MissesOne (run start first_round) 0 1
round_misses = grind (arith, nat_tests)

-- in the end both regions are freed
pub first_freed : IsCopiedOut (run start story) 0 1 2
first_freed = grind (arith, nat_tests)

-- and so is that of the other caller
pub other_freed : IsCopiedOut (run start story) 1 11 12
other_freed = grind (arith, nat_tests)

-- A hand that follows a move in steps has then what the move leaves.
use Rattle.std.proofs.Common.{◌≡◌, ◌≤◌, ℕ, Bool, true, false, Option, IfSome, if◌then◌else◌, refl, arith}
use Rattle.hm_core.proofs.Words.{Act, Looks, Builds, Known, Move, Shape, HandState, CanPublish, hand_after, publishes}
use Rattle.hm_moves.specs.declared.moving.Act.TheVariants.{Ticks, Shifts}
use Rattle.hm_moves.specs.declared.moving.Tick.TheVariants.{LoadStage, MoveStage, LoadReply, StoreReply}
use Rattle.hm_moves.specs.declared.moving.Shift.TheVariants.{LoadRoles, Join, Turn, Reuse}
use Rattle.hm_moves.specs.Cycles.{found_end}
use Rattle.hm_core.specs.Hands.{CanWork, ending, hand_bared, hand_noted, hand_readied, hand_worked, scans}

zero_or : (b : Bool) (n : ℕ) → (if b then 0 else n) ≤ n
zero_or true n = omega arith
zero_or false n = omega arith

-- a cursor never goes on by what an act does to stage and regions
pub cursor_readied : (s : Shape) (q : ℕ) (h : HandState) (act : Act) (x : ℕ)
    → (hand_readied s q h act x).cycle.scan.cursor ≤ h.cycle.scan.cursor
cursor_readied s q h (Looks l) x = omega arith
cursor_readied s q h (Builds b) x = omega arith
cursor_readied s q h (Ticks LoadStage) x = omega arith
cursor_readied s q h (Ticks (MoveStage from to)) x = omega arith
cursor_readied s q h (Ticks (LoadReply of)) x = omega arith
cursor_readied s q h (Ticks (StoreReply reply)) x = omega arith
cursor_readied s q h (Shifts (LoadRoles of)) x = zero_or (scans h.cycle.clock) h.cycle.scan.cursor
cursor_readied s q h (Shifts (Join region roles)) x = omega arith
cursor_readied s q h (Shifts (Turn region roles)) x = omega arith
cursor_readied s q h (Shifts (Reuse roles)) x = omega arith

-- there is room then for what the act publishes
pub room_readied : (s : Shape) (q : ℕ) (h : HandState) (act : Act) (x : ℕ)
    → IfSome (publishes act x) (CanPublish h)
    → IfSome (publishes act x) (CanPublish (hand_readied s q h act x))
room_readied s q h (Looks l) x room = tt
room_readied s q h (Builds b) x room = room
room_readied s q h (Ticks t) x room = tt
room_readied s q h (Shifts f) x room = tt

-- so the rest of the move can be followed
pub work_readied : (s : Shape) (q : ℕ) (h : HandState) (m : Move) (x : ℕ) (found : Option Known)
    → CanWork h m x found → CanWork (hand_noted s (hand_readied s q h m.act x) m found) m x found
work_readied s q h m x found can = record {
  found = can.found;
  fresh = can.fresh;
  room = room_readied s q h m.act x can.room;
  one = can.one;
  word = can.word;
}

-- the hand after all steps, once its end is noted
pub followed : (s : Shape) (q : ℕ) (h : HandState) (act : Act) (scan : Bool)
    (let_go : Option Known) (x : ℕ) (found : Option Known)
    → let m : Move = record { act = act; scan = scan; let_go = let_go } in
    hand_bared s (hand_worked
    (hand_noted s (hand_readied s q (ending h (found_end act x)) act x) m found) m x found)
    ≡ hand_after s q h m x found
followed s q h (Looks l) scan let_go x found = refl
followed s q h (Builds b) scan let_go x found = refl
followed s q h (Ticks LoadStage) scan let_go x found = refl
followed s q h (Ticks (MoveStage from to)) scan let_go x found = refl
followed s q h (Ticks (LoadReply of)) scan let_go x found = refl
followed s q h (Ticks (StoreReply reply)) scan let_go x found = refl
followed s q h (Shifts (LoadRoles of)) scan let_go x found = refl
followed s q h (Shifts (Join region roles)) scan let_go x found = refl
followed s q h (Shifts (Turn region roles)) scan let_go x found = refl
followed s q h (Shifts (Reuse roles)) scan let_go x found = refl

-- The phases of the stage, the roles of regions, and what callers reply.
use Rattle.std.specs.Prelude.{ℕ, Bool, true, false}

-- a cycle goes through these phases in this order, and may come back from Second to First
pub data Phase : Type 0 where
  Idle Join First Second : Phase

-- a region is empty, written into, full, or given up by a join of its owner
pub data Role : Type 0 where
  Free To Old From : Role

-- a caller replies that it has joined, that it is clean, or that it is not
pub data Reply : Type 0 where
  Joined Clean Dirty : Reply

-- a caller may reply so to a phase
abbrev pub is_answer : Phase → Reply → Bool
is_answer Idle reply = false
is_answer Join Joined = true
is_answer Join Clean = false
is_answer Join Dirty = false
is_answer First Joined = false
is_answer First Clean = true
is_answer First Dirty = false
is_answer Second Joined = false
is_answer Second Clean = true
is_answer Second Dirty = true

-- a phase has a place in the cycle
abbrev pub phase_place : Phase → ℕ
phase_place Idle = 0
phase_place Join = 1
phase_place First = 2
phase_place Second = 3

-- a caller scans in First
abbrev pub is_first : Phase → Bool
is_first Idle = false
is_first Join = false
is_first First = true
is_first Second = false

-- a round is under way in First and in Second
abbrev pub is_round : Phase → Bool
is_round Idle = false
is_round Join = false
is_round First = true
is_round Second = true

-- a region is in from-space, or dead
abbrev pub is_from : Role → Bool
is_from Free = false
is_from To = false
is_from Old = false
is_from From = true

-- a region is kept by its owner in To and in Old
abbrev pub is_kept : Role → Bool
is_kept Free = false
is_kept To = true
is_kept Old = true
is_kept From = false

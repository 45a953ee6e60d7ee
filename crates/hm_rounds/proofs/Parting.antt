-- A step leaves the part of every other caller, and every word but one.
use Rattle.std.proofs.Common.{◌≡◌, ◌≢◌, ℕ, Bool, arith}
use Rattle.std.proofs.lemmas.Bool.Decides.{nat_tests}
use Rattle.hm_rounds.specs.State.{State}
use Rattle.hm_rounds.specs.Steps.{Step}
use Rattle.hm_rounds.specs.After.{after}
use Rattle.hm_rounds.specs.Allowed.{Allowed}
use Rattle.hm_rounds.specs.Parts.{Word, part_of, SaysSame, word_of}

-- each fact of another caller stays
module _ (s : State) (i : ℕ) (b : Bool) (step : Step) (m : ℕ) (other : m ≢ i) where
  seen_else : (after s i b step).clock.seen m ≡ s.clock.seen m
  seen_else = grind (arith, nat_tests)

  seen_done_else : (after s i b step).clock.seen_done m ≡ s.clock.seen_done m
  seen_done_else = grind (arith, nat_tests)

  seen_phase_else : (after s i b step).clock.seen_phase m ≡ s.clock.seen_phase m
  seen_phase_else = grind (arith, nat_tests)

  replied_else : (after s i b step).clock.replied m ≡ s.clock.replied m
  replied_else = grind (arith, nat_tests)

  reply_else : (after s i b step).clock.reply m ≡ s.clock.reply m
  reply_else = grind (arith, nat_tests)

  known_else : (k : ℕ) → (after s i b step).clock.known m k ≡ s.clock.known m k
  known_else k = grind (arith, nat_tests)

  known_reply_else : (k : ℕ) → (after s i b step).clock.known_reply m k ≡ s.clock.known_reply m k
  known_reply_else k = grind (arith, nat_tests)

  last_else : (after s i b step).ties.last m ≡ s.ties.last m
  last_else = grind (arith, nat_tests)

  joined_else : (after s i b step).ties.done m ≡ s.ties.done m
  joined_else = grind (arith, nat_tests)

  loaded_else : (k : ℕ) → (after s i b step).masks.loaded m k ≡ s.masks.loaded m k
  loaded_else k = grind (arith, nat_tests)

  from_else : (k : ℕ) → (after s i b step).masks.from m k ≡ s.masks.from m k
  from_else k = grind (arith, nat_tests)

  mark_else : (after s i b step).scan.mark m ≡ s.scan.mark m
  mark_else = grind (arith, nat_tests)

  passed_else : (k l : ℕ) → (after s i b step).scan.passed m k l ≡ s.scan.passed m k l
  passed_else k l = grind (arith, nat_tests)

  ends_else : (k l : ℕ) → (after s i b step).scan.ends m k l ≡ s.scan.ends m k l
  ends_else k l = grind (arith, nat_tests)

  held_else : (k : ℕ) → (after s i b step).hands.held m k ≡ s.hands.held m k
  held_else k = grind (arith, nat_tests)

  next_else : (after s i b step).hands.next m ≡ s.hands.next m
  next_else = grind (arith, nat_tests)

  written_else : (k : ℕ) → (after s i b step).hands.written m k ≡ s.hands.written m k
  written_else k = grind (arith, nat_tests)

  bare_else : (after s i b step).bare m ≡ s.bare m
  bare_else = grind (arith, nat_tests)

  -- so its part stays
  pub part_else : part_of (after s i b step) m ≡ part_of s m
  part_else = λ x. record {
    seen = seen_else x;
    seen_done = seen_done_else x;
    seen_phase = seen_phase_else x;
    replied = replied_else x;
    reply = reply_else x;
    known = λ k. known_else k x;
    known_reply = λ k. known_reply_else k x;
    last = last_else x;
    joined = joined_else x;
    loaded = λ k. loaded_else k x;
    from = λ k. from_else k x;
    mark = mark_else x;
    passed = λ k l. passed_else k l x;
    ends = λ k l. ends_else k l x;
    held = λ k. held_else k x;
    next = next_else x;
    written = λ k. written_else k x;
    bare = bare_else x;
  }

-- a word that is not the step's says the same afterwards
pub words_else : (s : State) (i : ℕ) (b : Bool) (step : Step) (word : Word) → Allowed s i step
    → word ≢ word_of s i step → SaysSame s (after s i b step) word
words_else s i b step word may other = grind (arith, nat_tests)

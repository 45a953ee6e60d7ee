-- Tends, one after another.
use Rattle.std.proofs.Common.{◌≡◌, ◌≤◌, ◌+◌, ℕ, refl, ◌∙◌, arith}
use Rattle.hm_model.specs.declared.worker.Tended.{Tended}
use Rattle.hm_model.specs.declared.worker.Tended.TheVariants.{Nothing, Joined, Scanned, Looked, Replied, Advanced, Overtaken, Freed, Waits, NoRoom, Spent}
use Rattle.hm_model.specs.Sight.{Sight}
use Rattle.hm_model.specs.Tending.{KeepsNames, moves_after}
use Rattle.hm_model.proofs.SightFacts.{same_caller_then}

-- a tend moves the stage at most once, and not where it answers otherwise than Advanced
pub moved_most : (t : Tended) (n : ℕ) → moves_after t n ≤ n + 1
moved_most Nothing n = omega arith
moved_most Joined n = omega arith
moved_most (Scanned copied) n = omega arith
moved_most Looked n = omega arith
moved_most (Replied clean) n = omega arith
moved_most Advanced n = omega arith
moved_most (Overtaken stage) n = omega arith
moved_most (Freed versions) n = omega arith
moved_most (Waits caller) n = omega arith
moved_most NoRoom n = omega arith
moved_most Spent n = omega arith

pub moved_none : (t : Tended) (n : ℕ) → (t ≡ Advanced → ⊥) → moves_after t n ≡ n
moved_none Nothing n other = refl
moved_none Joined n other = refl
moved_none (Scanned copied) n other = refl
moved_none Looked n other = refl
moved_none (Replied clean) n other = refl
moved_none Advanced n other = absurd (other refl)
moved_none (Overtaken stage) n other = refl
moved_none (Freed versions) n other = refl
moved_none (Waits caller) n other = refl
moved_none NoRoom n other = refl
moved_none Spent n other = refl

module _ {U : Type 0} where
  -- no tend
  pub names_none : (c : Sight U) → KeepsNames c c
  names_none c = record {
    caller = record { heap = refl; usage = refl; start = refl; number = refl; span = refl };
    seen = refl;
    mine = refl;
    roots = refl;
  }

  -- one after another
  pub names_then : (c d f : Sight U) → KeepsNames c d → KeepsNames d f → KeepsNames c f
  names_then c d f h k = record {
    caller = same_caller_then c d f h.caller k.caller;
    seen = k.seen ∙ h.seen;
    mine = k.mine ∙ h.mine;
    roots = k.roots ∙ h.roots;
  }

-- The places once a caller's roles change and rows are freed, and once a cycle ends.
use Rattle.std.proofs.Common.{◌≡◌, ◌<◌, ◌+◌, ◌-◌, ◌*◌, ◌&&◌, not, ℕ, Bool, true, false, if◌then◌else◌, List, length, set, refl, ap, ◌∙◌}
use Rattle.hm_shape.specs.declared.roles.Roles.{Roles}
use Rattle.hm_moves.specs.After.{is_row_of, with_dead, with_roles}
use Rattle.hm_moves.specs.Cycles.{is_from, role_at}
use Rattle.hm_core.proofs.Words.{Shape, HandState, Row, row_at}
use Rattle.hm_core.proofs.RoleRows.{roles_set}
use Rattle.hm_core.specs.Running.{places_by, role_in}
use Rattle.hm_core.specs.Rows.{AreDead, AreFreed, row_freed_if}

used_if : (b : Bool) (r : Row) → (row_freed_if b r).used ≡ (if b then 0 else r.used)
used_if true r = refl
used_if false r = refl

made_if : (b : Bool) (r : Row) → (row_freed_if b r).made ≡ r.made
made_if true r = refl
made_if false r = refl

freed_if : (b : Bool) (r : Row) → (row_freed_if b r).freed ≡ (if b then r.freed + 1 else r.freed)
freed_if true r = refl
freed_if false r = refl

not_dead : (d : Bool) → false ≡ (d && false)
not_dead true = refl
not_dead false = refl

still_dead : (d : Bool) → d ≡ (d && true)
still_dead true = refl
still_dead false = refl

dead_if : (b : Bool) (r : Row) → (row_freed_if b r).dead ≡ (r.dead && not b)
dead_if true r = not_dead r.dead
dead_if false r = still_dead r.dead

-- a caller has other roles, and some rows are freed
pub places_roles : (s : Shape) (hands : List HandState) (rows new : List Row) (done q : ℕ)
    (h : HandState)
    (roles : Roles) (freed : ℕ → Bool) → q < length hands → h.cycle.ties.roles ≡ roles
    → AreFreed freed rows new
    → places_by s (set hands q h) new done
    ≡ with_roles s q roles freed (places_by s hands rows done)
places_roles s hands rows new done q h roles freed low has are = λ i. record {
  used = λ row. (ap (λ (r : Row). r.used) (are row) ∙ used_if (freed row) (row_at rows row)) i;
  made = λ row. (ap (λ (r : Row). r.made) (are row) ∙ made_if (freed row) (row_at rows row)) i;
  freed = λ row. (ap (λ (r : Row). r.freed) (are row) ∙ freed_if (freed row) (row_at rows row)) i;
  role = λ row. (roles_set s hands q h low row
      ∙ ap (λ (z : Roles). if is_row_of s q row then role_at z (row - q * s.regions)
      else role_in s hands row) has) i;
  dead = λ row. (ap (λ (r : Row). r.dead) (are row) ∙ dead_if (freed row) (row_at rows row)) i;
  done = done;
}

-- a cycle ends, or not: rows that are From die, where roles stay as they are
pub places_dead : (s : Shape) (hands later : List HandState) (rows new : List Row)
    (done : ℕ) (ends : Bool)
    → role_in s later ≡ role_in s hands
    → AreDead (λ row. ends && is_from (role_in s hands row)) rows new
    → places_by s later new (if ends then done + 1 else done)
    ≡ with_dead ends (places_by s hands rows done)
places_dead s hands later rows new done ends same are = λ i. record {
  used = λ row. (are row i).used;
  made = λ row. (are row i).made;
  freed = λ row. (are row i).freed;
  role = λ row. same i row;
  dead = λ row. (are row i).dead;
  done = if ends then done + 1 else done;
}

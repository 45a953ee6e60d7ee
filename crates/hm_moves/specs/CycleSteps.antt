-- Which steps a caller may make on the stage and on the roles of its regions.
use Rattle.std.specs.Prelude.{◌≡◌, ℕ, ◌+◌, ◌^◌, ◌<◌, Bool, true, false, filter, length, take, slice_index_or, Some, None, if◌then◌else◌}
use Rattle.hm_shape.specs.declared.reply.ReplyKind.{ReplyKind}
use Rattle.hm_shape.specs.declared.reply.ReplyKind.TheVariants.{Joined, Clean, Dirty}
use Rattle.hm_shape.specs.declared.roles.Role.{Role}
use Rattle.hm_shape.specs.declared.roles.Role.TheVariants.{From}
use Rattle.hm_shape.specs.declared.roles.Roles.{Roles}
use Rattle.hm_shape.specs.declared.stage.Phase.{Phase}
use Rattle.hm_shape.specs.declared.stage.Phase.TheVariants.{Idle, Join, First, Second}
use Rattle.hm_moves.specs.declared.part.Part.{Part}
use Rattle.hm_moves.specs.declared.part.Seen.{Seen}
use Rattle.hm_moves.specs.declared.moving.Shift.{Shift}
use Rattle.hm_moves.specs.declared.moving.Shift.TheVariants.{LoadRoles}
use Rattle.hm_moves.specs.declared.moving.Shift.TheVariants.{Join as JoinIn, Turn, Reuse}
use Rattle.hm_moves.specs.Cycles.{is_free, is_open, role_at}
use Rattle.hm_moves.specs.Shifts.{frees, joined_role, joined_roles, reused_roles, turned_roles}

-- so many cycles are done once the stage has gone to a phase
abbrev pub done_in : ℕ → Phase → ℕ
done_in done Idle = done + 1
done_in done Join = done
done_in done First = done
done_in done Second = done

module _ {U : Type 0} where
  -- every caller has replied so to the stage that this one has seen, by the replies that it loaded
  abbrev pub HaveReplied : Part U → ReplyKind → Type 0
  HaveReplied p kind = (q : ℕ) → q < p.site.shape.callers
      → slice_index_or p.cycle.clock.replies q None
      ≡ Some record { number = p.cycle.clock.stage.number; kind = kind }

  -- a caller has replied to it in some way
  pub record HasReplied (p : Part U) (q : ℕ) : Type 0 where
    pub kind : ReplyKind
    pub is : slice_index_or p.cycle.clock.replies q None
        ≡ Some record { number = p.cycle.clock.stage.number; kind = kind }

  -- every caller has, and one of them is marked
  pub record IsMarked (p : Part U) : Type 0 where
    pub all : (q : ℕ) → q < p.site.shape.callers → HasReplied p q
    pub caller : ℕ
    pub below : caller < p.site.shape.callers
    pub dirty : slice_index_or p.cycle.clock.replies caller None
        ≡ Some record { number = p.cycle.clock.stage.number; kind = Dirty }

  -- the stage goes on from a phase to another over these replies; a restart is allowed at any time
  abbrev pub MayGo : Part U → Phase → Phase → Type 0
  MayGo p Idle Idle = ⊥
  MayGo p Idle Join = p.cycle.clock.stage.done < 1073741823
  MayGo p Idle First = ⊥
  MayGo p Idle Second = ⊥
  MayGo p Join Idle = ⊥
  MayGo p Join Join = Unit {0}
  MayGo p Join First = HaveReplied p Joined
  MayGo p Join Second = ⊥
  MayGo p First Idle = ⊥
  MayGo p First Join = Unit {0}
  MayGo p First First = ⊥
  MayGo p First Second = HaveReplied p Clean
  MayGo p Second Idle = HaveReplied p Clean
  MayGo p Second Join = Unit {0}
  MayGo p Second First = IsMarked p
  MayGo p Second Second = ⊥

  -- a caller may move the stage that it has seen to the next one
  pub record MayMoveStage (p : Part U) (from to : Seen) : Type 0 where
    pub seen : from ≡ p.cycle.clock.stage
    pub number : to.number ≡ from.number + 1
    pub below : to.number < 2 ^ 32
    pub fits : to.done < 2 ^ 30
    pub done : to.done ≡ done_in from.done to.phase
    pub goes : MayGo p from.phase to.phase

  -- a role is the lowest of a caller's that passes a test
  pub record IsLowest (p : Part U) (test : Role → Bool) (region : ℕ) : Type 0 where
    pub below : region < p.site.shape.regions
    pub passes : test (role_at p.cycle.ties.roles region) ≡ true
    pub lowest : (g : ℕ) → g < region → test (role_at p.cycle.ties.roles g) ≡ false

  -- a caller may join where it has seen a Join and not replied to it, and takes the lowest region
  -- that is Free then
  pub record MayJoin (p : Part U) (region : ℕ) (roles : Roles) : Type 0 where
    pub phase : p.cycle.clock.stage.phase ≡ Join
    pub open_yet : is_open p ≡ true
    pub takes : IsLowest p (λ role. is_free (joined_role (frees p) role)) region
    pub is : roles ≡ joined_roles p region

  -- so many regions of a caller are Free
  abbrev pub free_count : Part U → ℕ
  free_count p =
      length (filter is_free (take p.site.shape.regions p.cycle.ties.roles.0))

  -- a caller keeps a Free region for its next join, and one more where it has not joined
  abbrev pub kept_free : Part U → ℕ
  kept_free p = if p.cycle.ties.joined then 1 else 2

  -- it may turn where its To region is full, and it has one Free region more than it keeps
  pub record MayTurn (p : Part U) (region : ℕ) (roles : Roles) : Type 0 where
    pub full : p.draft.used ≡ p.site.shape.versions
    pub reserve : kept_free p < free_count p
    pub takes : IsLowest p is_free region
    pub is : roles ≡ turned_roles p region

  -- it may free what it gave up in a cycle that is done, where it has such a region
  pub record MayReuse (p : Part U) (roles : Roles) : Type 0 where
    pub frees : frees p ≡ true
    pub region : ℕ
    pub below : region < p.site.shape.regions
    pub from : role_at p.cycle.ties.roles region ≡ From
    pub is : roles ≡ reused_roles p

  -- a caller may load the roles of every caller, and store its own by a join, a turn or a reuse
  abbrev pub MayShift : Part U → Shift → Type 0
  MayShift p (LoadRoles of) = of < p.site.shape.callers
  MayShift p (JoinIn region roles) = MayJoin p region roles
  MayShift p (Turn region roles) = MayTurn p region roles
  MayShift p (Reuse roles) = MayReuse p roles

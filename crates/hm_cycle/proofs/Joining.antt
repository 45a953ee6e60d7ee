-- A join, from its two steps: new roles, and the reply.
use Rattle.std.proofs.Common.{◌≡◌, ◌≢◌, ◌<◌, ◌≤◌, ◌+◌, ◌*◌, ◌-◌, ◌&&◌, not, ℕ, Bool, true, false, List, [], ◌∷◌, length, map, filter, take, get_or, Option, Some, None, refl, sym, ap, ◌∙◌, subst, arith, true≢false}
use Rattle.std.proofs.Math.Logic.{dite}
use Rattle.std.proofs.Math.Decide.{ℕ_discrete}
use Rattle.std.specs.List.{list_all, position_or_len}
use Rattle.std.specs.Prelude.{is_some}
use Rattle.std.proofs.lemmas.List.{get_or-map, get_or-set_same, get_or-set_other, length-map}
use Rattle.std.proofs.lemmas.List.Sums.{passes_at_first, fails_before_first}
use Rattle.hm_shape.specs.declared.reply.ReplyKind.TheVariants.{Joined}
use Rattle.hm_shape.specs.declared.roles.Role.{Role}
use Rattle.hm_shape.specs.declared.roles.Role.TheVariants.{Free, To}
use Rattle.hm_shape.specs.declared.roles.Roles.{Roles}
use Rattle.hm_shape.specs.declared.stage.Phase.{Phase}
use Rattle.hm_shape.specs.declared.stage.Phase.TheVariants.{Join as Joining}
use Rattle.hm_model.specs.declared.entry.Entry.{Entry}
use Rattle.hm_model.specs.Store.{PlainStore}
use Rattle.hm_moves.specs.declared.part.Clock.{Clock}
use Rattle.hm_moves.specs.declared.moving.Act.TheVariants.{Shifts, Ticks}
use Rattle.hm_moves.specs.declared.moving.Shift.{Shift}
use Rattle.hm_moves.specs.declared.moving.Shift.TheVariants.{Join}
use Rattle.hm_moves.specs.declared.moving.Tick.TheVariants.{StoreReply}
use Rattle.hm_moves.specs.Allowed.{IsLowest, IsKnownName, IsPast, MayJoin, MayReply, MayShift, free_count}
use Rattle.hm_moves.specs.Cycles.{is_before, is_first, is_free, role_at}
use Rattle.hm_moves.specs.Shifts.{frees, joined_role, joined_roles}
use Rattle.hm_cells.specs.Facts.{Facts, IsAtRest, IsSound, scanned_after, sight_of}
use Rattle.hm_cells.specs.Calls.{MayReplySo, Takes, move_by, replying}
use Rattle.hm_cells.specs.Owns.{shift_to}
use Rattle.hm_cells.proofs.Deciding.{shift_is}
use Rattle.hm_cycle.specs.Standing.{Stays, standing_of}
use Rattle.hm_cycle.specs.Roles.{FreesRightly, Joins, MayJoinNow, free_joined, is_free_then, standing_joined}
use Rattle.hm_cycle.proofs.Heard.{stays_then, tick_standing, tick_stays}
use Rattle.hm_cycle.proofs.FreedRoles.{count_mapped, first_below, joined_frees, one_taken}
use Rattle.hm_cycle.proofs.Shifted.{free_by, shift_clock, shift_standing, shift_stays, shift_ties, sight_by}

-- of callers without masks, some has none
none_there : (l : List (Option Roles)) → 0 < length l
    → list_all is_some (map (λ (mask : Option Roles). let o : Option Roles = None in o) l) ≡ false
none_there [] some = absurd (omega (arith, some))
none_there (m ∷ l) some = refl

-- a mark is no other by a reply to a Join
kept_mark : (phase : Phase) (m : Bool) → phase ≡ Joining → (m && not (is_first phase)) ≡ m
kept_mark phase m is = ap (λ (p : Phase). m && not (is_first p)) is ∙ stays m
  where
    stays : (m : Bool) → (m && true) ≡ m
    stays true = refl
    stays false = refl

-- what is left of the room once one Free region has become To
room_left : (versions free after : ℕ) → after + 1 ≡ free
    → (versions - 0) + versions * (after - 1) ≡ versions + versions * (free - 2)
room_left versions free after one =
    let e : after - 1 ≡ free - 2 = omega (arith, one) in
    let m : versions * (after - 1) ≡ versions * (free - 2) = ap (λ (n : ℕ). versions * n) e in
    omega (arith, m)

module _ {U : Type 0} where
  -- the first region that is Free for a join
  abbrev pub first_then : Facts U → ℕ
  first_then s = position_or_len (is_free_then s.part) s.part.cycle.ties.roles.0

  -- the roles after a join that takes that
  abbrev pub roles_then : Facts U → Roles
  roles_then s = joined_roles s.part (first_then s)

module _ {U : Type 0} (lawful : U → PlainStore → Type 0) (allowed : U → PlainStore → Entry → Type 0)
    (s : Facts U) (sound : IsSound lawful allowed s) (now : MayJoinNow s.part) where
  -- it is one of the caller's
  low : first_then s < s.part.site.shape.regions
  low = first_below (is_free_then s.part) s.part.cycle.ties.roles.0 s.part.site.shape.regions now.room

  there : first_then s < length s.part.cycle.ties.roles.0
  there = let wide = sound.sure.roles in omega (arith, low, s.part.site.shape.regions_fit, wide)

  takes : IsLowest s.part (is_free_then s.part) (first_then s)
  takes = record {
    below = low;
    passes = passes_at_first (is_free_then s.part) s.part.cycle.ties.roles.0 Free there;
    lowest = λ g h. fails_before_first (is_free_then s.part) s.part.cycle.ties.roles.0 g Free h;
  }

  may : MayJoin s.part (first_then s) (roles_then s)
  may = record { phase = now.phase; open_yet = now.open_yet; takes = takes; is = refl }

  told : shift_to s.part (roles_then s) ≡ Join (first_then s) (roles_then s)
  told = shift_is s.part sound.sure.roles sound.sure.region sound.listed.to
      (Join (first_then s) (roles_then s)) may

  -- so the first step may be taken
  pub may_shift : MayShift s.part (shift_to s.part (roles_then s))
  may_shift = subst (MayShift s.part) (sym told) may

  -- and once it was
  module _ (t : Facts U) (x : ℕ)
      (shifted : Takes lawful allowed s (Shifts (shift_to s.part (roles_then s))) x t) where
    took : Takes lawful allowed s (Shifts (Join (first_then s) (roles_then s))) x t
    took = subst (λ (f : Shift). Takes lawful allowed s (Shifts f) x t) told shifted

    pub first_stays : Stays s t
    first_stays = shift_stays lawful allowed s t (Join (first_then s) (roles_then s)) x took took.what

    clock_same : t.part.cycle.clock ≡ s.part.cycle.clock
    clock_same = shift_clock lawful allowed s t (Join (first_then s) (roles_then s)) x took took.what

    join_is : t.part.cycle.ties.join ≡ Some s.part.cycle.clock.stage.number
    join_is = λ i. (shift_ties lawful allowed s t (Join (first_then s) (roles_then s)) x took took.what i).join

    phase_is : t.part.cycle.clock.stage.phase ≡ Joining
    phase_is = ap (λ (c : Clock). c.stage.phase) clock_same ∙ now.phase

    -- so may the reply be stored
    pub may_reply : MayReplySo t Joined
    may_reply = record {
      number = refl;
      open_yet = ap (λ (c : Clock). is_before c.reply c.stage.number) clock_same ∙ now.open_yet;
      kind = subst (λ (phase : Phase). MayReply (IsKnownName t.part) (λ e. Unit {0})
          (t.part.cycle.scan.bare ≡ true) (IsPast t.part) t.part phase Joined) (sym phase_is)
          (join_is ∙ ap (λ (c : Clock). let o : Option ℕ = Some c.stage.number in o) (sym clock_same));
    }

    -- and then
    module _ (u : Facts U) (y : ℕ)
        (replied : Takes lawful allowed t (Ticks (StoreReply (replying t Joined))) y u) where
      stands : standing_of u ≡ standing_joined s (first_then s)
      stands =
          let first = shift_standing lawful allowed s t (Join (first_then s) (roles_then s)) x took took.what in
          let mark : standing_of u ≡ record (standing_of t) { reply = Some (replying t Joined) } =
          (tick_standing lawful allowed t u (StoreReply (replying t Joined)) y replied
          ∙ (λ i. record (standing_of t) {
            reply = Some (replying t Joined);
            mark = kept_mark t.part.cycle.clock.stage.phase t.part.cycle.scan.mark phase_is i;
          })) in
          let whole : standing_of t ≡ record (standing_joined s (first_then s)) {
            reply = s.part.cycle.clock.reply;
          } = (first ∙ (λ i. record (standing_joined s (first_then s)) {
            reply = s.part.cycle.clock.reply;
            scanned = scanned_same s.scanned i;
          })) in
          mark ∙ (λ i. record (whole i) {
            reply = Some record { number = (clock_same i).stage.number; kind = Joined };
          })
        where
          scanned_same : (n : Option ℕ)
              → scanned_after s.part (move_by s (Shifts (Join (first_then s) (roles_then s)))) None n ≡ n
          scanned_same None = refl
          scanned_same (Some n) = refl

      pub joins : Joins s u
      joins = record { region = first_then s; lowest = takes; stands = stands }

      pub stays : Stays s u
      stays = stays_then s t u first_stays (tick_stays lawful allowed t u (StoreReply (replying t Joined)) y replied)

      -- one region less is Free than was so for the join
      one_less : length (filter is_free (take s.part.site.shape.regions (roles_then s).0)) + 1
          ≡ free_joined s.part
      one_less =
          let change : Role → Role = joined_role (frees s.part) in
          let roles : List Role = map change s.part.cycle.ties.roles.0 in
          let wide : length roles ≡ length s.part.cycle.ties.roles.0 = length-map s.part.cycle.ties.roles.0 change in
          let free : is_free (get_or roles (first_then s) Free) ≡ true =
          (ap is_free (get_or-map change s.part.cycle.ties.roles.0 (first_then s) Free Free there) ∙ takes.passes) in
          one_taken roles s.part.site.shape.regions (first_then s) low (omega (arith, wide, there)) free
          ∙ count_mapped change s.part.cycle.ties.roles.0 s.part.site.shape.regions

      free_left : free_count u.part + 1 ≡ free_joined s.part
      free_left = ap (λ (n : ℕ). n + 1) (free_by s u stays (standing_joined s (first_then s)) stands) ∙ one_less

      pub sight : sight_of u ≡ record (sight_of s) {
        room = s.part.site.shape.versions
            + s.part.site.shape.versions * (free_joined s.part - 2);
        copying = false;
        used = 0;
        free = free_joined s.part - 1;
        kept = 1;
      }
      sight =
          let free : ℕ = length (filter is_free (take s.part.site.shape.regions (roles_then s).0)) in
          let one : free + 1 ≡ free_joined s.part = one_less in
          let room = room_left s.part.site.shape.versions (free_joined s.part) free one in
          let count : free ≡ free_joined s.part - 1 = omega (arith, one) in
          let masks = none_there s.part.cycle.scan.masks
          (let long = sound.sure.masks in let some = sound.sure.number in omega (arith, long, some)) in
          sight_by s u stays (standing_joined s (first_then s)) stands
          ∙ (λ i. record (sight_of s) {
            room = room i;
            copying = masks i;
            used = 0;
            free = count i;
            kept = 1;
          })

      pub rests : IsAtRest s → 2 ≤ free_joined s.part → IsAtRest u
      rests rest more = record {
        hand = stays.hand ∙ rest.hand;
        few = stays.few rest.hand rest.few;
        spare = λ joined. omega (arith, free_left, more);
      }

      pub frees_rightly : FreesRightly s u
      frees_rightly g below free other =
          let is : role_at u.part.cycle.ties.roles g ≡ role_at (roles_then s) g =
          λ i. role_at (stands i).roles g in
          dite (ℕ_discrete (first_then s) g)
          (λ (here : first_then s ≡ g). absurd (true≢false (sym free ∙ (ap is_free is
          ∙ (ap (λ (n : ℕ). is_free (role_at (roles_then s) n)) (sym here) ∙ ap is_free taken)))))
          (λ (away : first_then s ≢ g).
          let was : role_at (roles_then s) g ≡ joined_role (frees s.part) (role_at s.part.cycle.ties.roles g) =
          (get_or-set_other (map (joined_role (frees s.part)) s.part.cycle.ties.roles.0) (first_then s) g To Free
          (λ e. away (sym e))
          ∙ get_or-map (joined_role (frees s.part)) s.part.cycle.ties.roles.0 g Free Free
          (let wide = sound.sure.roles in omega (arith, below, wide, s.part.site.shape.regions_fit))) in
          let both = joined_frees (frees s.part) (role_at s.part.cycle.ties.roles g)
          (sym (ap is_free (is ∙ was)) ∙ free) other in
          (both.0, more both.1))
        where
          taken : role_at (roles_then s) (first_then s) ≡ To
          taken = get_or-set_same (map (joined_role (frees s.part)) s.part.cycle.ties.roles.0) (first_then s) To Free
              (omega (arith, there, length-map s.part.cycle.ties.roles.0 (joined_role (frees s.part))))

          more : frees s.part ≡ true → s.part.cycle.ties.done < s.part.cycle.clock.stage.done
          more e = grind (arith, Rattle.std.proofs.lemmas.Bool.Decides.nat_tests, e)

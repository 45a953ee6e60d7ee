-- When a pass may take a step on roles, and what that leaves.
use Rattle.std.proofs.Common.{◌≡◌, ◌<◌, ◌≤◌, ◌^◌, ◌++◌, ℕ, false, length, Option, Some, None, refl, sym, ap, ◌∙◌, subst, append-nil, arith}
use Rattle.hm_shape.specs.declared.roles.Role.{Role}
use Rattle.hm_shape.specs.declared.roles.Role.TheVariants.{Free, To, Old, From}
use Rattle.hm_shape.specs.declared.roles.Roles.{Roles}
use Rattle.hm_shape.specs.Words.{IsRoles, roles_at, roles_word}
use Rattle.hm_moves.specs.declared.moving.Shift.{Shift}
use Rattle.hm_moves.specs.declared.moving.Shift.TheVariants.{LoadRoles, Join, Turn, Reuse}
use Rattle.hm_moves.specs.Allowed.{MayShift}
use Rattle.hm_moves.specs.Cycles.{role_at}
use Rattle.hm_moves.specs.Decoding.{roles_in}
use Rattle.hm_moves.specs.Told.{ShiftFound}
use Rattle.hm_moves.proofs.Decoded.{roles_back}
use Rattle.hm_cells.proofs.Words.{Seat, Entry, PlainStore, Known, Shifts, Knowledge, Gripped, Facts, move_in, IsReady, IsSeated, Learns, Loads, Stores, Own, facts_of, Steps, scanned_after, taken, masking, shift_as, shift_to, shifting, IsTaking, IsGround}
use Rattle.hm_cells.specs.Owns.{scanned_loaded}
use Rattle.hm_cells.proofs.Grounds.{ground_of}
use Rattle.hm_cells.proofs.Listed.{listed_shift, old_after}
use Rattle.hm_cells.proofs.Moved.{moved}
use Rattle.hm_cells.proofs.OwnedShifts.{loaded_own, scanned_shifted, shifted_own, taking_own}
use Rattle.hm_cells.proofs.Ready.{ready}

-- no step on roles finds a version
shift_none : (f : Shift) (x : ℕ) (found : Option Known) → ShiftFound f x found → found ≡ None
shift_none (LoadRoles of) x found h = h.0
shift_none (Join region roles) x found h = h
shift_none (Turn region roles) x found h = h
shift_none (Reuse roles) x found h = h

module _ {U : Type 0} (lawful : U → PlainStore → Type 0)
    (allowed : U → PlainStore → Entry → Type 0)
    (seat : Seat (Unit {0}) (Knowledge U)) (grip : Gripped U) (own : Own)
    (seated : IsSeated lawful allowed seat (facts_of seat grip) own) (o : Facts U)
    (is : facts_of seat grip ≡ o) where
  abbrev s : Facts U
  s = facts_of seat grip

  few : length s.part.cycle.scan.masks ≤ 8
  few = let n = seated.sound.sure.masks in let e = s.part.site.shape.callers_fit in omega arith

  -- a pass may load roles
  pub roles_ready : (of : ℕ) → of < o.part.site.shape.callers
      → IsReady lawful allowed seat.me.0 (move_in s false (Shifts (LoadRoles of))) 0
      (Loads (move_in s false (Shifts (LoadRoles of))) (roles_at s.part.site.shape of))
  roles_ready of low =
      ready lawful allowed seat grip own seated false (Shifts (LoadRoles of))
      (Loads (move_in s false (Shifts (LoadRoles of))) (roles_at s.part.site.shape of))
      (subst (λ (f : Facts U). of < f.part.site.shape.callers) (sym is) low) tt
      record { place = refl; stays = λ x. refl }

  -- and store its own
  pub shift_ready : (roles : Roles) → MayShift o.part (shift_to o.part roles)
      → IsReady lawful allowed seat.me.0 (move_in s false (Shifts (shift_to s.part roles))) 0
      (Stores lawful allowed (move_in s false (Shifts (shift_to s.part roles)))
      (roles_at s.part.site.shape s.part.number) (roles_word roles))
  shift_ready roles may =
      ready lawful allowed seat grip own seated false (Shifts (shift_to s.part roles))
      (Stores lawful allowed (move_in s false (Shifts (shift_to s.part roles)))
      (roles_at s.part.site.shape s.part.number) (roles_word roles))
      (subst (λ (f : Facts U). MayShift f.part (shift_to f.part roles)) (sym is) may) tt
      (stores_as (role_at roles s.part.draft.region))
    where
      stores_as : (r : Role) → Stores lawful allowed (move_in s false (Shifts (shift_as r roles)))
          (roles_at s.part.site.shape s.part.number) (roles_word roles) s.part
      stores_as Free = record {
        place = refl;
        value_is = λ x. refl;
        blind = λ k l at x y t. record {
          between = t.between;
          found = t.found;
          others = t.others;
          what = t.what;
          short = t.short;
          by = t.by;
          is = t.is;
          sure = t.sure;
          later = t.later;
          counted = t.counted;
          holds = t.holds;
          next = t.next;
          scanned = t.scanned;
        };
      }
      stores_as To = record {
        place = refl;
        value_is = λ x. refl;
        blind = λ k l at x y t. record {
          between = t.between;
          found = t.found;
          others = t.others;
          what = t.what;
          short = t.short;
          by = t.by;
          is = t.is;
          sure = t.sure;
          later = t.later;
          counted = t.counted;
          holds = t.holds;
          next = t.next;
          scanned = t.scanned;
        };
      }
      stores_as Old = record {
        place = refl;
        value_is = λ x. refl;
        blind = λ k l at x y t. record {
          between = t.between;
          found = t.found;
          others = t.others;
          what = t.what;
          short = t.short;
          by = t.by;
          is = t.is;
          sure = t.sure;
          later = t.later;
          counted = t.counted;
          holds = t.holds;
          next = t.next;
          scanned = t.scanned;
        };
      }
      stores_as From = record {
        place = refl;
        value_is = λ x. refl;
        blind = λ k l at x y t. record {
          between = t.between;
          found = t.found;
          others = t.others;
          what = t.what;
          short = t.short;
          by = t.by;
          is = t.is;
          sure = t.sure;
          later = t.later;
          counted = t.counted;
          holds = t.holds;
          next = t.next;
          scanned = t.scanned;
        };
      }

  -- the same where the words are known by the pass's own numbers
  pub roles_ready_at : (of word : ℕ) → of < o.part.site.shape.callers
      → word ≡ roles_at own.shape of
      → IsReady lawful allowed seat.me.0 (move_in s false (Shifts (LoadRoles of))) 0
      (Loads (move_in s false (Shifts (LoadRoles of))) word)
  roles_ready_at of word low at =
      subst (λ (w : ℕ). IsReady lawful allowed seat.me.0 (move_in s false (Shifts (LoadRoles of))) 0
      (Loads (move_in s false (Shifts (LoadRoles of))) w))
      (sym (at ∙ ap (λ (w : Own). roles_at w.shape of) seated.is)) (roles_ready of low)

  pub shift_ready_at : (roles : Roles) (word value : ℕ) → MayShift o.part (shift_to o.part roles)
      → word ≡ roles_at own.shape own.number → value ≡ roles_word roles
      → IsReady lawful allowed seat.me.0 (move_in s false (Shifts (shift_to s.part roles))) 0
      (Stores lawful allowed (move_in s false (Shifts (shift_to s.part roles))) word value)
  shift_ready_at roles word value may at is_value =
      subst (λ (w : ℕ). IsReady lawful allowed seat.me.0
      (move_in s false (Shifts (shift_to s.part roles))) 0
      (Stores lawful allowed (move_in s false (Shifts (shift_to s.part roles))) w value))
      (sym (at ∙ ap (λ (w : Own). roles_at w.shape w.number) seated.is))
      (subst (λ (v : ℕ). IsReady lawful allowed seat.me.0
      (move_in s false (Shifts (shift_to s.part roles))) 0
      (Stores lawful allowed (move_in s false (Shifts (shift_to s.part roles)))
      (roles_at s.part.site.shape s.part.number) v)) (sym is_value) (shift_ready roles may))

  -- a load of roles leaves the hand, and is a mask
  module _ (seat' : Seat (Unit {0}) (Knowledge U)) (grip' : Gripped U) (own' : Own)
      (table : seat'.table_id ≡ seat.table_id) (slots : seat'.me.1 ≡ seat.me.1) (of x : ℕ)
      (learns : Learns lawful allowed (move_in s false (Shifts (LoadRoles of))) 0 seat.me.0 x
      seat'.me.0) where
    abbrev found : Option Known
    found = (learns s.part seated.own).found

    -- its word is one of roles
    pub roles_small : x < 2 ^ 16
    roles_small = (learns s.part seated.own).what.1

    none : found ≡ None
    none = (learns s.part seated.own).what.0

    pub load_now : (roles : Roles) → roles_word roles ≡ x → IsRoles roles
        → of < o.part.site.shape.callers → own' ≡ masking own of roles
        → (scanned : Option ℕ) → scanned ≡ scanned_loaded own.watch.stage grip.scanned
        → grip' ≡ record grip { scanned = scanned }
        → IsSeated lawful allowed seat' (facts_of seat' grip') own'
        × Steps lawful allowed o false (Shifts (LoadRoles of)) (roles_word roles)
        (facts_of seat' grip')
    load_now roles word wide low made scanned kept grips =
        subst (λ (n : ℕ). IsSeated lawful allowed seat' (facts_of seat' grip') own'
        × Steps lawful allowed o false (Shifts (LoadRoles of)) n (facts_of seat' grip')) (sym word)
        (moved lawful allowed seat seat' grip grip' own own' seated o is
        (λ f. Shifts (LoadRoles of)) false x learns table slots seated.sound.old
        (listed_shift s.part false (move_in s false (Shifts (LoadRoles of))).let_go x found
        seated.sound.old (LoadRoles of) seated.sound.sure.roles seated.sound.sure.region below
        seated.sound.listed)
        (made ∙ (ap (λ (w : Own). masking w of roles) seated.is
        ∙ sym (loaded_own s.part seated.sound.old false
        (move_in s false (Shifts (LoadRoles of))).let_go of x roles found none decoded
        (let n = seated.sound.sure.masks in omega (arith, n, below)))))
        (grips ∙ λ j. record grip {
          hand = (sym (append-nil grip.hand) ∙ ap (λ (f : Option Known).
              grip.hand ++ taken (Shifts (LoadRoles of)) x f) (sym none)) j;
          scanned = (kept ∙ (ap (λ (w : Own). scanned_loaded w.watch.stage grip.scanned) seated.is
              ∙ (loaded_scan grip.scanned ∙ ap (λ (f : Option Known). scanned_after s.part
              (move_in s false (Shifts (LoadRoles of))) f grip.scanned) (sym none)))) j;
        }))
      where
        loaded_scan : (n : Option ℕ) → scanned_loaded s.part.cycle.clock.stage n
            ≡ scanned_after s.part (move_in s false (Shifts (LoadRoles of))) None n
        loaded_scan None = refl
        loaded_scan (Some n) = refl

        below : of < s.part.site.shape.callers
        below = subst (λ (f : Facts U). of < f.part.site.shape.callers) (sym is) low

        decoded : roles_in x ≡ roles
        decoded = ap roles_in (sym word) ∙ roles_back roles wide

  -- a store of roles leaves the hand, and what its pass knows changes by it
  module _ (seat' : Seat (Unit {0}) (Knowledge U)) (own' : Own)
      (table : seat'.table_id ≡ seat.table_id) (slots : seat'.me.1 ≡ seat.me.1) (roles : Roles)
      (may : MayShift o.part (shift_to o.part roles))
      (value : ℕ) (stored : value ≡ roles_word roles)
      (told : Learns lawful allowed (move_in s false (Shifts (shift_to s.part roles))) 0 seat.me.0
      value seat'.me.0) where
    learns : Learns lawful allowed (move_in s false (Shifts (shift_to s.part roles))) 0 seat.me.0
        (roles_word roles) seat'.me.0
    learns = subst (λ (n : ℕ). Learns lawful allowed
        (move_in s false (Shifts (shift_to s.part roles))) 0 seat.me.0 n seat'.me.0) stored told

    pub shift_now : own' ≡ shifting own roles
        → IsSeated lawful allowed seat' (facts_of seat' grip) own'
        × Steps lawful allowed o false (Shifts (shift_to o.part roles)) (roles_word roles)
        (facts_of seat' grip)
    shift_now made =
        moved lawful allowed seat seat' grip grip own own' seated o is
        (λ f. Shifts (shift_to f.part roles)) false (roles_word roles) learns table slots
        (old_after s.part (shift_to s.part roles) seated.sound.old)
        (listed_shift s.part false (move_in s false (Shifts (shift_to s.part roles))).let_go
        (roles_word roles) (learns s.part seated.own).found seated.sound.old (shift_to s.part roles) seated.sound.sure.roles
        seated.sound.sure.region may_here seated.sound.listed)
        (made ∙ (ap (λ (w : Own). shifting w roles) seated.is
        ∙ sym (shifted_own s.part seated.sound.old false
        (move_in s false (Shifts (shift_to s.part roles))).let_go
        (role_at roles s.part.draft.region) roles (roles_word roles)
        (learns s.part seated.own).found none few)))
        (λ j. record grip {
          hand = (sym (append-nil grip.hand) ∙ ap (λ (f : Option Known).
              grip.hand ++ taken (Shifts (shift_to s.part roles)) (roles_word roles) f) (sym none)) j;
          scanned = scanned_shifted s.part seated.sound.old false
              (move_in s false (Shifts (shift_to s.part roles))).let_go
              (role_at roles s.part.draft.region) roles
              (learns s.part seated.own).found grip.scanned j;
        })
      where
        none : (learns s.part seated.own).found ≡ None
        none = shift_none (shift_to s.part roles) (roles_word roles)
            (learns s.part seated.own).found (learns s.part seated.own).what

        may_here : MayShift s.part (shift_to s.part roles)
        may_here = subst (λ (f : Facts U). MayShift f.part (shift_to f.part roles)) (sym is) may

  -- its running words are those of places, and roles say of one of its regions that it is To
  pub ground_now : IsGround own
  ground_now = subst IsGround (sym seated.is) (ground_of lawful allowed s seated.sound)

  pub taking_now : (roles : Roles) → MayShift o.part (shift_to o.part roles) → IsTaking own roles
  taking_now roles may = subst (λ (w : Own). IsTaking w roles) (sym seated.is)
      (taking_own s.part seated.sound.old false None (role_at roles s.part.draft.region) roles
      seated.sound.listed seated.sound.sure.region seated.sound.sure.roles
      (subst (λ (f : Facts U). MayShift f.part (shift_to f.part roles)) (sym is) may))

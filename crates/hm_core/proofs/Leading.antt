-- An accepted step that moves a word is a lawful move, and every step that is taken leads on.
use Rattle.std.proofs.Common.{◌≡◌, ◌≢◌, ◌<◌, ◌+◌, ℕ, length, true, Option, Some, None, IfSome, Contains, refl, sym, ap, ◌∙◌, subst, arith, inl}
use Rattle.hm_core.proofs.Words.{each_some, next_version, option_map, slice_get_within, Version, AnyUsage, Entry, IsThere, MayLookInto, Name, Stands, store_of, Known, Part, Act, Looks, Builds, Index, HasHand, MayBuild, MayHold, MayTake, IsLawfulMove, Core, Leads, here, let_go, cut, met, Step, StepKind, Note, act_of, IsAwake, MayMeet, Fits, Moment, any_store, any_entry, core_of, index_of, own_part, own_view, IsSound, moved, Caller, seat_of, IsAct, IsHeld, HasSeat, MayHoldMore, IsTaken}
use Rattle.hm_shape.specs.declared.reply.ReplyKind.{ReplyKind}
use Rattle.hm_shape.specs.declared.reply.ReplyKind.TheVariants.{Joined, Clean, Dirty}
use Rattle.hm_shape.specs.declared.stage.Phase.{Phase}
use Rattle.hm_shape.specs.declared.stage.Phase.TheVariants.{Idle, Join, First, Second}
use Rattle.hm_moves.specs.declared.moving.Look.TheVariants as look
use Rattle.hm_moves.specs.declared.moving.Build.{Build}
use Rattle.hm_moves.specs.declared.moving.Build.TheVariants as build
use Rattle.hm_moves.specs.declared.moving.Tick.{Tick}
use Rattle.hm_moves.specs.declared.moving.Tick.TheVariants as tick
use Rattle.hm_moves.specs.declared.moving.Shift.TheVariants as shift
use Rattle.std.specs.Prelude.{option_and_then}
use Rattle.hm_moves.specs.Acts.{want_of}
use Rattle.hm_moves.specs.Allowed.{HoldsClean, IsLaterThan, MayReply, MayTick}
use Rattle.hm_moves.specs.Cycles.{known_from, role_at}
use Rattle.hm_moves.specs.Decoding.{seen_of}
use Rattle.hm_moves.specs.declared.moving.Act.TheVariants.{Ticks, Shifts}
use Rattle.hm_core.specs.Stepping.{copy_known, own_reply, scan_of, shift_by, HoldsWhatItNeeds, IsCopied, IsFurther, IsLookable, MayAct, MayAnswer, MayMove, MayRole}
use Rattle.hm_core.specs.declared.step.StepKind.TheVariants.{LoadField, LoadLink, StoreOwn, Publish, LinkStore, Split, Meet, LoadStage, MoveStage, LoadReply, StoreReply, LoadRoles, StoreRoles, LinkCopy, Shorten}
use Rattle.hm_core.specs.declared.step.StepRefused.TheVariants as refused
use Rattle.hm_core.specs.declared.step.Other.{Other}
use Rattle.hm_core.specs.Taking.{let_go_of, IsAdmitted, Becomes, Takes}
use Rattle.hm_core.proofs.HeldTests.{same_version}
use Rattle.hm_core.proofs.Moments.{awake_below, look_index, lookable_known, only_one, view_from}
use Rattle.hm_core.proofs.LetGo.{split_leads, meet_leads}

abbrev pub LeadsAny : Core AnyUsage → Core AnyUsage → Type 0
LeadsAny c d = Leads any_store any_entry c d

-- what leads on from where it was led to leads there
pub leads_on : (c d e : Core AnyUsage) → LeadsAny c d → LeadsAny d e → LeadsAny c e
leads_on c d _ l here = l
leads_on c d _ l (moved x id place v p mv k at may) =
    moved x id place v p mv (leads_on c d x l k) at may
leads_on c d _ l (let_go x id place v p o k at) = let_go x id place v p o (leads_on c d x l k) at
leads_on c d _ l (cut x id v left right k at parts) =
    cut x id v left right (leads_on c d x l k) at parts
leads_on c d _ l (met x id other v w k at apart there) =
    met x id other v w (leads_on c d x l k) at apart there

module _ {U : Type 0} (p : Part U) where
  -- a hand for one version more serves every act
  hand_serves : (a : Act) → HasHand p → MayHold p a
  hand_serves (Looks (look.LoadStamp at)) h = tt
  hand_serves (Builds (build.StoreOwn i word)) h = tt
  hand_serves (Looks l) h = h
  hand_serves (Builds (build.Shorten at i target)) h = tt
  hand_serves (Builds b) h = h
  hand_serves (Ticks t) h = tt
  hand_serves (Shifts f) h = tt

  -- and some need none
  needs_none : (b a : Act) → MayHold p b → Some b ≡ Some a → MayHold p a
  needs_none b a h is = let same : b ≡ a = cc in subst (MayHold p) same h

  maps_none : {A : Type 0} (f : A → Act) (o : Option A) (a : Act) → ((x : A) → MayHold p (f x))
      → option_map f o ≡ Some a → MayHold p a
  maps_none f None a h is = absurd (cc)
  maps_none f (Some x) a h is = needs_none (f x) a (h x) is

  shortens_none : (i : ℕ) (x y : Option Known) (a : Act)
      → option_and_then
      (λ at. option_map (λ target. Builds (build.Shorten at i target)) y) x ≡ Some a → MayHold p a
  shortens_none i None y a is = absurd (cc)
  shortens_none i (Some at) y a is =
      maps_none (λ (k : Known). Builds (build.Shorten at i k)) y a (λ k. tt) is

  may_hold : (ix : Index) (kind : StepKind) (a : Act) → act_of ix p kind ≡ Some a
      → MayHoldMore p kind → MayHold p a
  may_hold ix (StoreOwn i word) a is h = needs_none (Builds (build.StoreOwn i word)) a tt is
  may_hold ix Split a is h = absurd (cc)
  may_hold ix (Meet other) a is h = absurd (cc)
  may_hold ix LoadStage a is h = needs_none (Ticks tick.LoadStage) a tt is
  may_hold ix (MoveStage to) a is h =
      needs_none (Ticks (tick.MoveStage p.cycle.clock.stage (seen_of to))) a tt is
  may_hold ix (LoadReply of) a is h = needs_none (Ticks (tick.LoadReply of)) a tt is
  may_hold ix (StoreReply kind) a is h =
      needs_none (Ticks (tick.StoreReply (own_reply p kind))) a tt is
  may_hold ix (LoadRoles of) a is h = needs_none (Shifts (shift.LoadRoles of)) a tt is
  may_hold ix (StoreRoles roles) a is h =
      maps_none Shifts (shift_by (role_at roles p.draft.region) roles) a (λ f. tt) is
  may_hold ix (Shorten v i u) a is h = shortens_none i (ix v.0) (ix u.0) a is
  may_hold ix kind a is h = hand_serves a h

module _ (m : Moment) (sound : IsSound m) (q : ℕ)
    (awake : IsAwake (core_of m) q (own_view m q) (own_part m q)) where
  abbrev p : Part AnyUsage
  p = own_part m q

  -- what is let go of is known by its number, and held
  let_held : (o : Option Version) → IfSome o (IsHeld p)
      → IfSome (let_go_of m o) (Contains p.hands.held)
  let_held None h = tt
  let_held (Some v) (k, c, is) =
      let at : index_of m.known v.0 ≡ Some k =
      let there = look_index m sound q awake k (inl c) in cc in rw at c

  -- the seat that is met is another one, and there
  meets_other : (o : Other) → MayMeet (core_of m) m.shape.callers q o
      → (seat_of m.shape.callers o ≢ q) × (seat_of m.shape.callers o < length m.seats)
  meets_other (Note i) (w, there, nonempty) =
      let t = view_from m (m.shape.callers + i) w there in (
        λ same. omega (arith, awake_below m sound q awake),
        slice_get_within m.seats (m.shape.callers + i) t.0 t.1,
      )
  meets_other (Caller r) (below, ne, alone) = let size = sound.seats_size in (ne, omega arith)

-- the seat that an admitted step meets
pub step_meets : (m : Moment) (sound : IsSound m) (step : Step) (o : Other) → step.kind ≡ Meet o
    → IsAdmitted m step
    → (seat_of m.shape.callers o ≢ step.caller) × (seat_of m.shape.callers o < length m.seats)
step_meets m sound step o is ok =
    let first = ok refused.Caller (omega arith) in
    meets_other m sound step.caller first.0 o
    (subst (λ (k : StepKind). HasSeat (core_of m) m.shape.callers step.caller k) is first.1)

module _ (m : Moment) (sound : IsSound m) (q : ℕ)
    (awake : IsAwake (core_of m) q (own_view m q) (own_part m q)) where
  abbrev r : Part AnyUsage
  r = own_part m q

  abbrev ix : Index
  ix = index_of m.known

  -- a copy is hung behind a version
  abbrev hanging : Known → Act
  hanging at = Builds (build.LinkStore at (copy_known (next_version r) at) None)

  -- which it may be where that is of from-space
  copy_taken : (v : Version) → IsLookable r v → IsCopied (core_of m) r v → known_from r v ≡ true
      → IsTaken (core_of m) r (LinkCopy v)
  copy_taken v look (at, is, later) from =
      let t = lookable_known m sound q awake v look in
      let one : t.0 ≡ at = only_one t.0 at (ix v.0) t.1 is in
      let number : v ≡ at.version = same_version v at.version (sym (sound.numbered v.0 at is)) in
      let may : MayAct (core_of m) r (hanging at) = record {
        look = subst (MayLookInto r) one t.2;
        later = later;
        copies = subst (λ (w : Version). known_from r w ≡ true) number from;
        turns = refl;
        may = tt;
      } in
      (hanging at, ap (option_map hanging) is, may)

  -- a kind that is an act may be taken where it meets its conditions
  may_take : (kind : StepKind) → IsAct kind → HasSeat (core_of m) m.shape.callers q kind
      → HoldsWhatItNeeds r kind → Fits (core_of m) r kind → MayMove r kind
      → MayAnswer (core_of m) r kind → MayRole r kind → IsFurther (core_of m) r kind
      → IsTaken (core_of m) r kind
  may_take (LoadField v i scan) act seat held fits stage reply roles later = fits
  may_take (LoadLink v entry scan) act seat held fits stage reply roles later = fits
  may_take (StoreOwn i word) act seat held fits stage reply roles later = fits
  may_take (Publish entry) act seat held fits stage reply roles later = fits.0
  may_take (LinkStore v entry) act seat held fits stage reply roles later = fits
  may_take Split act seat held fits stage reply roles later = absurd act
  may_take (Meet other) act seat held fits stage reply roles later = absurd act
  may_take LoadStage act seat held fits stage reply roles later = (Ticks tick.LoadStage, refl, tt)
  may_take (MoveStage to) act seat held fits stage reply roles later =
      (Ticks (tick.MoveStage r.cycle.clock.stage (seen_of to)), refl, stage)
  may_take (LoadReply of) act seat held fits stage reply roles later =
      (Ticks (tick.LoadReply of), refl, seat)
  may_take (StoreReply kind) act seat held fits stage reply roles later =
      (Ticks (tick.StoreReply (own_reply r kind)), refl, reply)
  may_take (LoadRoles of) act seat held fits stage reply roles later =
      (Shifts (shift.LoadRoles of), refl, seat)
  may_take (StoreRoles stored) act seat held fits stage reply roles later =
      (Shifts roles.0, ap (option_map Shifts) roles.1, roles.2)
  may_take (LinkCopy v) act seat held fits stage reply roles later = copy_taken v held fits later
  may_take (Shorten v i u) act seat held fits stage reply roles later = later

module _ (m : Moment) (sound : IsSound m) (step : Step) (ok : IsAdmitted m step) where
  -- an admitted step of a kind that is an act is one that its caller may take
  admitted_taken : IsAct step.kind → IsTaken (core_of m) (own_part m step.caller) step.kind
  admitted_taken act =
      let first = ok refused.Caller (omega arith) in
      may_take m sound step.caller first.0 step.kind act first.1
      (ok refused.Held (omega arith)).0 (ok refused.Change (omega arith))
      (ok refused.Stage (omega arith)) (ok refused.Reply (omega arith))
      (ok refused.Roles (omega arith)) (ok refused.Later (omega arith))

  -- and the act is there
  pub act_there : IsAct step.kind
      → act_of (index_of m.known) (own_part m step.caller) step.kind ≡ None → ⊥
  act_there act none =
      let t = admitted_taken act in let both : None ≡ Some t.0 = sym none ∙ t.1 in cc

  taken : (a : Act) → act_of (index_of m.known) (own_part m step.caller) step.kind ≡ Some a
      → MayAct (core_of m) (own_part m step.caller) a
  taken a is =
      let t = admitted_taken (act_is (index_of m.known) (own_part m step.caller) step.kind a is) in
      let both : Some t.0 ≡ Some a = sym t.1 ∙ is in
      let one : t.0 ≡ a = cc in
      subst (MayAct (core_of m) (own_part m step.caller)) one t.2
    where
      act_is : (x : Index) (p : Part AnyUsage) (kind : StepKind) (b : Act)
          → act_of x p kind ≡ Some b → IsAct kind
      act_is x p Split b e = absurd (cc)
      act_is x p (Meet other) b e = absurd (cc)
      act_is x p kind b e = tt

-- every entry is allowed
module _ (m : Moment) (p : Part AnyUsage) where
  abbrev known : Name → Type 0
  known = IsThere (store_of m.history)

  -- an entry of any kind, and one that stands
  abbrev make : Entry → Type 0
  make e = Unit {0}

  abbrev made : Entry → Type 0
  made e = Stands (store_of m.history) e → any_entry record {} (store_of m.history) e

  abbrev clean : Type 0
  clean = HoldsClean m.words p

  abbrev comes_later : Known → ℕ → Known → Type 0
  comes_later = IsLaterThan m.shape (core_of m).heap

  wanted : (o : Option Entry) → IfSome o made
  wanted o = each_some made o (λ e is stands. tt)

  build_any : (b : Build) → MayBuild known make clean comes_later p b
      → MayBuild known made clean comes_later p b
  build_any (build.StoreOwn i word) h = h
  build_any (build.Publish k) h = record { first = h.first; may = λ stands. tt }
  build_any (build.LinkStore at k o) h = record {
    look = h.look;
    later = h.later;
    copies = h.copies;
    turns = h.turns;
    may = wanted o;
  }
  build_any (build.Shorten at i target) h = record {
    own = h.own;
    word = h.word;
    held = h.held;
    kept = h.kept;
    later = h.later;
  }

  reply_any : (f : Phase) (k : ReplyKind) → MayReply known make clean comes_later p f k
      → MayReply known made clean comes_later p f k
  reply_any Idle k h = h
  reply_any Join Joined h = h
  reply_any Join Clean h = h
  reply_any Join Dirty h = h
  reply_any First Joined h = h
  reply_any First Clean h = h
  reply_any First Dirty h = h
  reply_any Second Joined h = h
  reply_any Second Clean h = h
  reply_any Second Dirty h = h

  tick_any : (t : Tick) → MayTick known make clean comes_later p t
      → MayTick known made clean comes_later p t
  tick_any tick.LoadStage h = h
  tick_any (tick.MoveStage from to) h = h
  tick_any (tick.LoadReply of) h = h
  tick_any (tick.StoreReply reply) h = record {
    number = h.number;
    open_yet = h.open_yet;
    kind = reply_any p.cycle.clock.stage.phase reply.kind h.kind;
  }

  take_any : (a : Act) → MayTake known make clean comes_later p a
      → MayTake known made clean comes_later p a
  take_any (Looks l) h = record {
    look = h.look;
    word = h.word;
    reads = h.reads;
    may = wanted (want_of l);
  }
  take_any (Builds b) h = build_any b h
  take_any (Ticks t) h = tick_any t h
  take_any (Shifts f) h = h

-- an admitted step that is an act is a lawful move
pub step_may : (m : Moment) (sound : IsSound m) (step : Step) (a : Act) (o : Option Known)
    → act_of (index_of m.known) (own_part m step.caller) step.kind ≡ Some a
    → o ≡ let_go_of m step.let_go
    → IsAdmitted m step
    → IsLawfulMove any_store any_entry (core_of m).heap (own_part m step.caller)
    record { act = a; scan = scan_of step.kind; let_go = o }
step_may m sound step a o is same ok =
    let p = own_part m step.caller in
    record {
      act = take_any m p a (taken m sound step ok a is);
      holds = may_hold p (index_of m.known) step.kind a is (ok refused.Holds (omega arith));
      let_go = rw same (let_held m sound step.caller (ok refused.Caller (omega arith)).0 step.let_go
          (ok refused.Held (omega arith)).1);
    }

-- a step that is taken leads on
pub takes_leads : (m : Moment) (sound : IsSound m) (n : Moment) (step : Step) (word : ℕ)
    → Takes m step word n
    → LeadsAny (core_of m) (core_of n)
takes_leads m sound n step word h =
    go step.kind (h.admitted refused.Caller (omega arith)).1 h.becomes
  where
    awake : IsAwake (core_of m) step.caller (own_view m step.caller) (own_part m step.caller)
    awake = (h.admitted refused.Caller (omega arith)).0

    go : (k : StepKind) → HasSeat (core_of m) m.shape.callers step.caller k
        → Becomes m n step word k
        → LeadsAny (core_of m) (core_of n)
    go Split seat t = rw t.now (split_leads m step.caller (let_go_of m step.let_go) sound awake)
    go (Meet other) seat t =
        let x = meets_other m sound step.caller awake other seat in
        rw t.now
        (meet_leads m step.caller (let_go_of m step.let_go) sound awake
        (seat_of m.shape.callers other) x.0 x.1)
    go kind seat t = subst (LeadsAny (core_of m)) (sym t.now)
        (moved (core_of m) step.caller 0 (own_view m step.caller) (own_part m step.caller)
        record { act = t.act; scan = scan_of step.kind; let_go = let_go_of m step.let_go }
        here awake.carries
        (step_may m sound step t.act (let_go_of m step.let_go) t.is refl h.admitted))

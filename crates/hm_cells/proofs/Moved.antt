-- A pass whose seat took a move, as what its call leaves.
use Rattle.std.proofs.Common.{◌≡◌, ◌<◌, ℕ, zero, suc, Bool, true, false, List, [], ◌∷◌, ◌++◌, get_or, map, Option, Some, None, IfSome, Contains, All, is_some, if◌then◌else◌, refl, sym, ap, ◌∙◌, subst, arith, inl, inr}
use Rattle.hm_cells.proofs.Words.{All-append, All-contains_itself, Seat, Version, Entry, PlainStore, Known, Part, Site, Move, Act, set_here, some, some-injective, some-ne-none, get_elem?, entry_of, publishes, listed, next_version, part_after}
use Rattle.hm_cells.proofs.Words.{Knowledge, Gripped, Facts, IsAmong, IsSure, IsSound, find_version, names_at, sight_of, Steps, Tells, after_in, move_in, taken, IsSeated, Learnt, Learns, caller_in, facts_of, HasScanned, IsListed, scanned_after, spoils, own_of, Own}
use Rattle.hm_moves.specs.Cycles.{is_cleared}
use Rattle.hm_cells.specs.Facts.{IsNext}
use Rattle.hm_cells.proofs.Found.{IsNamed, among, apart_after, named_stays, names_stay, there_found}
use Rattle.hm_cells.proofs.Entered.{entered}

-- what is taken into a hand is held
taken_held : (held : List Known) (found new : Option Known) → IfSome found (Contains held)
    → IfSome new (Contains held)
    → All (IsAmong held) (map (λ k. k.version) (listed found ++ listed new))
taken_held held None None a b = λ i d low. absurd (omega arith)
taken_held held (Some k) None a b = λ i d low. one i d low
  where
    one : (i : ℕ) (d : Version) → i < 1 → IsAmong held (get_or (k.version ∷ []) i d)
    one zero d low = there_found held k a
    one (suc i) d low = absurd (omega arith)
taken_held held None (Some k) a b = λ i d low. one i d low
  where
    one : (i : ℕ) (d : Version) → i < 1 → IsAmong held (get_or (k.version ∷ []) i d)
    one zero d low = there_found held k b
    one (suc i) d low = absurd (omega arith)
taken_held held (Some k) (Some n) a b = λ i d low. two i d low
  where
    two : (i : ℕ) (d : Version) → i < 2 → IsAmong held (get_or (k.version ∷ (n.version ∷ [])) i d)
    two zero d low = there_found held k a
    two (suc zero) d low = there_found held n b
    two (suc (suc i)) d low = absurd (omega arith)

-- a seat's first caller is its own
pub first_in : {U : Type 0} (g : Site U) (ps : List (Part U)) (p : Part U) → get_elem? ps 0 ≡ some p
    → caller_in g ps ≡ p
first_in g [] p e = absurd (some-ne-none p (sym e))
first_in g (q ∷ qs) p e = some-injective q p e

module _ {U : Type 0} (lawful : U → PlainStore → Type 0)
    (allowed : U → PlainStore → Entry → Type 0)
    (seat seat' : Seat (Unit {0}) (Knowledge U)) (grip grip' : Gripped U) (own : Own)
    (seated : IsSeated lawful allowed seat (facts_of seat grip) own) (scan : Bool) (act : Act)
    (x : ℕ)
    (learns : Learns lawful allowed (move_in (facts_of seat grip) scan act) 0 seat.me.0 x seat'.me.0)
    (table : seat'.table_id ≡ seat.table_id) (slots : seat'.me.1 ≡ seat.me.1) where
  abbrev s : Facts U
  s = facts_of seat grip

  abbrev t : Facts U
  t = facts_of seat' grip'

  abbrev p : Part U
  p = s.part

  abbrev m : Move
  m = move_in s scan act

  abbrev pub learnt : Learnt lawful allowed m seat.me.0 0 p x seat'.me.0
  learnt = learns p seated.own

  abbrev between : List Entry
  between = learnt.between

  abbrev found : Option Known
  found = learnt.found

  abbrev new : Part U
  new = part_after p m x found

  abbrev u : Facts U
  u = after_in s scan act between x found

  new_there : get_elem? seat'.me.0.view.parts 0 ≡ some new
  new_there = ap (λ (k : Knowledge U). get_elem? k.view.parts 0) learnt.is
      ∙ set_here seat.me.0.view.parts 0 p new seated.own

  part_is : t.part ≡ new
  part_is = first_in grip'.site seat'.me.0.view.parts new new_there

  seen_is : t.seen ≡ u.seen
  seen_is = ap (λ (k : Knowledge U). k.view.seen) learnt.is

  sure : IsSure lawful allowed u.seen new
  sure = subst (λ (l : List Entry). IsSure lawful allowed l new) seen_is learnt.sure

  stays : (v : Version) (k : Known) → IsNamed s.roots s.hand v
      → find_version p.hands.held v ≡ Some k → find_version new.hands.held v ≡ Some k
  stays v k named e =
      named_stays s.roots s.hand p.hands.held found (publishes act x) v k named e

  still : (v : Version) → IsNamed s.roots s.hand v → IsAmong p.hands.held v
      → IsAmong new.hands.held v
  still v named h = let m = among p.hands.held v h in ap is_some (stays v m.0 named m.1)

  rooted : (r : Option Version) → Contains s.roots r → IfSome r (IsAmong p.hands.held)
      → IfSome r (IsAmong new.hands.held)
  rooted None c h = tt
  rooted (Some v) c h = still v (inl c) h

  next_holds : (o : Option Known)
      → IfSome o (λ k. (k.version ≡ next_version p) × Contains new.hands.held k)
      → IfSome o (Contains new.hands.held)
  next_holds None h = tt
  next_holds (Some k) h = h.1

  -- a caller that is cleared after its move is said to be bare
  cleared_new : is_cleared new ≡ true → new.cycle.scan.bare ≡ true
  cleared_new e = rw e refl

  -- and a clean scan is still the last one, where the move does not spoil it
  scanned_new : (o : Option ℕ) → IfSome o (HasScanned p)
      → IfSome (scanned_after p m found o) (HasScanned new)
  scanned_new None h = tt
  scanned_new (Some n) h = go (spoils p m found n act) refl
    where
      go : (b : Bool) → spoils p m found n act ≡ b
          → IfSome (if b then None else Some n) (HasScanned new)
      go true e = tt
      go false e = learnt.scanned n h e

  module _ (old' : Option ℕ) (listed : IsListed new old') where
    abbrev sound_new : IsSound lawful allowed u
    sound_new = record {
      sure = sure;
      old = old';
      listed = listed;
      counted = learnt.counted seated.sound.counted;
      cleared = cleared_new;
      scanned = scanned_new s.scanned seated.sound.scanned;
      apart = apart_after s.roots s.hand p.hands.held found (publishes act x) seated.sound.apart;
      wide = seated.sound.wide;
      rooted = λ i d low. rooted (get_or s.roots i d) (All-contains_itself s.roots i d low)
          (seated.sound.rooted i d low);
      handed = All-append (IsAmong new.hands.held) s.hand (taken act x found)
          (λ i d low. still (get_or s.hand i d) (inr (All-contains_itself s.hand i d low))
          (seated.sound.handed i d low))
          (taken_held new.hands.held found (publishes act x) learnt.holds
          (next_holds (publishes act x) learnt.next));
    }

    names_new : names_at u ≡ names_at s
    names_new = names_stay p.hands.held new.hands.held s.roots
        (λ v k c e. stays v k (inl c) e) seated.sound.rooted

    tells_new : Tells lawful allowed (entry_of p.number act x) (sight_of s) (sight_of u)
    tells_new = entered lawful allowed (sight_of s) (sight_of u) record {
      heap = refl;
      usage = refl;
      start = refl;
      number = refl;
      span = refl;
    }
        seated.sound.sure.opened record { history = sure.history; calls = sure.calls }
        (entry_of p.number act x) between learnt.others learnt.by refl refl

    module _ (own' : Own) (own_is : own' ≡ own_of new old') (grip_is : grip' ≡ record grip {
      hand = grip.hand ++ taken act x found;
      scanned = scanned_after p m found grip.scanned;
    }) where
      after_is : t ≡ u
      after_is = λ i. record {
        cells = table i;
        seen = seen_is i;
        part = part_is i;
        roots = (grip_is i).roots;
        hand = (grip_is i).hand;
        scanned = (grip_is i).scanned;
        steps = (learnt.is i).steps;
        tends = (grip_is i).tends;
      }

      -- the pass is seated
      seated_u : IsSeated lawful allowed seat' u own'
      seated_u = record {
        own = new_there;
        none = slots ∙ seated.none;
        sound = sound_new;
        is = own_is;
      }

      pub seated_now : IsSeated lawful allowed seat' t own'
      seated_now =
          subst (λ (z : Facts U). IsSeated lawful allowed seat' z own') (sym after_is) seated_u

      -- and it took the move
      pub takes_now : Steps lawful allowed s scan act x t
      takes_now = record {
        between = between;
        found = found;
        others = learnt.others;
        what = learnt.what;
        is = after_is;
        names = ap names_at after_is ∙ names_new;
        later = subst (λ (z : Facts U). IsNext p.cycle.clock.stage z.part.cycle.clock.stage)
            (sym after_is) learnt.later;
        holds = subst (λ (z : Facts U). IfSome found (Contains z.part.hands.held)) (sym after_is)
            learnt.holds;
        holds_new = subst (λ (z : Facts U). IfSome (publishes act x) (Contains z.part.hands.held))
            (sym after_is) (next_holds (publishes act x) learnt.next);
        tells = subst (λ (z : Facts U). Tells lawful allowed (entry_of p.number act x) (sight_of s)
            (sight_of z)) (sym after_is) tells_new;
      }

-- a call whose act is this of what its pass knew
module _ {U : Type 0} (lawful : U → PlainStore → Type 0)
    (allowed : U → PlainStore → Entry → Type 0)
    (seat seat' : Seat (Unit {0}) (Knowledge U)) (grip grip' : Gripped U) (own own' : Own)
    (seated : IsSeated lawful allowed seat (facts_of seat grip) own) (o : Facts U)
    (is : facts_of seat grip ≡ o) (f : Facts U → Act) (scan : Bool) (x : ℕ)
    (learns : Learns lawful allowed
    (move_in (facts_of seat grip) scan (f (facts_of seat grip))) 0 seat.me.0 x seat'.me.0)
    (table : seat'.table_id ≡ seat.table_id) (slots : seat'.me.1 ≡ seat.me.1) where
  abbrev s0 : Facts U
  s0 = facts_of seat grip

  abbrev m0 : Move
  m0 = move_in s0 scan (f s0)

  abbrev found0 : Option Known
  found0 = (learns s0.part seated.own).found

  pub moved : (old' : Option ℕ) → IsListed (part_after s0.part m0 x found0) old'
      → own' ≡ own_of (part_after s0.part m0 x found0) old'
      → grip' ≡ record grip {
        hand = grip.hand ++ taken (f s0) x found0;
        scanned = scanned_after s0.part m0 found0 grip.scanned;
      }
      → IsSeated lawful allowed seat' (facts_of seat' grip') own'
      × Steps lawful allowed o scan (f o) x (facts_of seat' grip')
  moved old' listed own_is grip_is = (
    seated_now lawful allowed seat seat' grip grip' own seated scan (f s0) x learns table slots
        old' listed own' own_is grip_is,
    subst (λ (s : Facts U). Steps lawful allowed s scan (f s) x (facts_of seat' grip')) is
        (takes_now lawful allowed seat seat' grip grip' own seated scan (f s0) x learns table slots
        old' listed own' own_is grip_is),
  )

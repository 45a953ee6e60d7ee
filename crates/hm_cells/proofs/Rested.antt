-- A pass that lets go of its first idle version, and moves no word.
use Rattle.std.proofs.Common.{◌≡◌, ℕ, Bool, true, false, nat_lt, length, if◌then◌else◌, List, [], ◌∷◌, get_or, Option, Some, None, IfSome, Contains, is_some, refl, sym, ap, ◌∙◌, subst, inl, inr, ◌+◌, arith}
use Rattle.hm_cells.proofs.Words.{All-contains_itself, HasScanned, Own, Seat, Version, Entry, PlainStore, Known, Part, without, letting, Begins, longer, Knowledge, Gripped, Facts, IsAmong, IsSound, IsSure, find_version, first_idle, names_at}
use Rattle.hm_cells.proofs.Words.{sight_of, Meets, rested, at_longer, set_here, Me, first_letting, met, noting, IsSeated, Looked, LookTells, caller_in, facts_of, some, some-injective, some-ne-none, get_elem?}
use Rattle.hm_moves.specs.Cycles.{known_from}
use Rattle.hm_cells.proofs.Moved.{first_in}
use Rattle.hm_cells.proofs.Scanned.{any_without, barely}
use Rattle.hm_cells.proofs.Sure.{sure_let}
use Rattle.hm_cells.proofs.Found.{IsNamed, among, apart_without, found_without, idle_other, names_stay}
use Rattle.hm_cells.proofs.Entered.{goes_on}

longer_self : (xs : List Entry) → longer xs xs ≡ xs
longer_self xs =
    elim (nat_lt (length xs) (length xs)) as (λ t. (if t then xs else xs) ≡ xs) [ true ↦ refl | false ↦ refl ]

twice : (xs ys : List Entry) → longer xs (longer xs ys) ≡ longer xs ys
twice xs ys = go (nat_lt (length xs) (length ys)) refl
  where
    go : (t : Bool) → nat_lt (length xs) (length ys) ≡ t → longer xs (longer xs ys) ≡ longer xs ys
    go true e = let is : longer xs ys ≡ ys = ap (λ (t : Bool). if t then ys else xs) e in ap (longer xs) is
    go false e =
        let is : longer xs ys ≡ xs = ap (λ (t : Bool). if t then ys else xs) e in
        ap (longer xs) is ∙ (longer_self xs ∙ sym is)

module _ {U : Type 0} (lawful : U → PlainStore → Type 0) (allowed : U → PlainStore → Entry → Type 0) where
  module _ (s : Facts U) (sound : IsSound lawful allowed s) (seen : List Entry) (steps : ℕ) where
    abbrev idle : Option Known
    idle = first_idle s.roots s.hand s.part.hands.held

    stays : (v : Version) (k : Known) → IsNamed s.roots s.hand v → find_version s.part.hands.held v ≡ Some k
        → find_version (without s.part.hands.held idle) v ≡ Some k
    stays v k named e = found_without s.part.hands.held idle v (idle_other s.roots s.hand s.part.hands.held
        v named) ∙ e

    still : (v : Version) → IsNamed s.roots s.hand v → IsAmong s.part.hands.held v
        → IsAmong (without s.part.hands.held idle) v
    still v named h = let m = among s.part.hands.held v h in ap is_some (stays v m.0 named m.1)

    rooted : (r : Option Version) → Contains s.roots r → IfSome r (IsAmong s.part.hands.held)
        → IfSome r (IsAmong (without s.part.hands.held idle))
    rooted None c h = tt
    rooted (Some v) c h = still v (inl c) h

    -- where it lets go of a version, a clean scan is still the last one
    scanned_let : (o : Option ℕ) → IfSome o (HasScanned s.part)
        → IfSome o (HasScanned (letting s.part idle))
    scanned_let None h = tt
    scanned_let (Some n) (inl low) = inl low
    scanned_let (Some n) (inr h) = inr (
      h.0,
      h.1,
      λ yes mark.
          let b = h.2 yes mark in (
            barely _ _ _ b.0 (any_without (λ k. known_from s.part k.version) s.part.hands.held idle
                (sound.sure.bare b.0)),
            b.1,
          ),
    )

    abbrev sound_rested : IsSure lawful allowed seen (letting s.part idle)
        → IsSound lawful allowed (rested s seen steps)
    sound_rested sure = record {
      sure = sure;
      old = sound.old;
      listed = record {
        count = sound.listed.count;
        places = sound.listed.places;
        to = sound.listed.to;
        old_is = sound.listed.old_is;
        only = sound.listed.only;
        from = λ e. let h = sound.listed.from e in record {
          region = h.region;
          below = h.below;
          from = h.from;
        };
        none = λ e h. sound.listed.none e record {
          region = h.region;
          below = h.below;
          from = h.from;
        };
      };
      counted = sound.counted;
      cleared = λ e. rw e refl;
      scanned = scanned_let s.scanned sound.scanned;
      apart = apart_without s.part.hands.held idle sound.apart;
      wide = sound.wide;
      rooted = λ i d low. rooted (get_or s.roots i d) (All-contains_itself s.roots i d low)
          (sound.rooted i d low);
      handed = λ i d low. still (get_or s.hand i d) (inr (All-contains_itself s.hand i d low))
          (sound.handed i d low);
    }

    pub names_rested : names_at (rested s seen steps) ≡ names_at s
    names_rested = names_stay s.part.hands.held (without s.part.hands.held idle) s.roots
        (λ v k c e. stays v k (inl c) e) sound.rooted

  -- a seat of the pass's caller that knows what the pass knew once it rested
  module _ (seat seat' : Seat (Unit {0}) (Knowledge U)) (grip : Gripped U) (own : Own)
      (seated : IsSeated lawful allowed seat (facts_of seat grip) own)
      (seen : List Entry) (steps : ℕ)
      (there : get_elem? seat'.me.0.view.parts 0
      ≡ some (letting (facts_of seat grip).part
      (first_idle grip.roots grip.hand (facts_of seat grip).part.hands.held)))
      (sees : seat'.me.0.view.seen ≡ seen) (counts : seat'.me.0.steps ≡ seat.me.0.steps + steps)
      (sure : IsSure lawful allowed seen (letting (facts_of seat grip).part
      (first_idle grip.roots grip.hand (facts_of seat grip).part.hands.held)))
      (table : seat'.table_id ≡ seat.table_id) (slots : seat'.me.1 ≡ []) where
    abbrev s : Facts U
    s = facts_of seat grip

    abbrev left : Part U
    left = letting s.part (first_idle s.roots s.hand s.part.hands.held)

    part_is : (facts_of seat' grip).part ≡ left
    part_is = first_in grip.site seat'.me.0.view.parts left there

    pub rested_is : facts_of seat' grip ≡ rested s seen steps
    rested_is = λ i. record {
      cells = table i;
      seen = sees i;
      part = part_is i;
      roots = grip.roots;
      hand = grip.hand;
      steps = counts i;
      scanned = grip.scanned;
      tends = grip.tends;
    }

    pub names_now : names_at (facts_of seat' grip) ≡ names_at s
    names_now = ap names_at rested_is ∙ names_rested s seated.sound seen steps

    pub seated_now : IsSeated lawful allowed seat' (facts_of seat' grip) own
    seated_now = subst (λ (z : Facts U). IsSeated lawful allowed seat' z own) (sym rested_is) record {
      own = there;
      none = slots;
      sound = sound_rested s seated.sound seen steps sure;
      is = seated.is;
    }

  -- a seat from which a note was split off
  module _ (seat seat' : Seat (Unit {0}) (Knowledge U)) (grip : Gripped U) (own : Own)
      (seated : IsSeated lawful allowed seat (facts_of seat grip) own)
      (kept : seat'.me ≡ (
        noting (first_idle grip.roots grip.hand (facts_of seat grip).part.hands.held)
            seat.me.0,
        seat.me.1,
      )) (table : seat'.table_id ≡ seat.table_id) where
    abbrev o : Option Known
    o = first_idle grip.roots grip.hand (facts_of seat grip).part.hands.held

    first_let : (ps : List (Part U)) (p : Part U) → get_elem? ps 0 ≡ some p
        → get_elem? (first_letting ps o) 0 ≡ some (letting p o)
    first_let [] p e = absurd (some-ne-none p (sym e))
    first_let (q ∷ qs) p e = ap (λ (r : Part U). some (letting r o)) (some-injective q p e)

    pub split_rests : (facts_of seat' grip ≡ rested (facts_of seat grip) (facts_of seat grip).seen 1)
        × (names_at (facts_of seat' grip) ≡ names_at (facts_of seat grip))
        × IsSeated lawful allowed seat' (facts_of seat' grip) own
    split_rests =
        let there = ap (λ (m : Me (Unit {0}) (Knowledge U)). get_elem? m.0.view.parts 0) kept
        ∙ first_let seat.me.0.view.parts (facts_of seat grip).part seated.own in
        let sees = ap (λ (m : Me (Unit {0}) (Knowledge U)). m.0.view.seen) kept in
        let counts = ap (λ (m : Me (Unit {0}) (Knowledge U)). m.0.steps) kept in
        let slots = ap (λ (m : Me (Unit {0}) (Knowledge U)). m.1) kept ∙ seated.none in
        let sure = sure_let lawful allowed (facts_of seat grip).seen (facts_of seat grip).part o
        seated.sound.sure in (
          rested_is seat seat' grip own seated (facts_of seat grip).seen 1 there sees counts
              sure table slots,
          names_now seat seat' grip own seated (facts_of seat grip).seen 1 there sees counts
              sure table slots,
          seated_now seat seat' grip own seated (facts_of seat grip).seen 1 there sees counts
              sure table slots,
        )

  -- a seat that met another carries its own caller first
  pub own_met : (seat before : Seat (Unit {0}) (Knowledge U)) (grip : Gripped U) (own : Own) → IsSeated lawful allowed seat (facts_of seat grip) own
      → (other : Knowledge U) → before.me ≡ (met seat.me.0 other, seat.me.1)
      → get_elem? before.me.0.view.parts 0 ≡ some (facts_of seat grip).part
  own_met seat before grip own seated other met_is =
      ap (λ (m : Me (Unit {0}) (Knowledge U)). get_elem? m.0.view.parts 0) met_is
      ∙ at_longer seat.me.0.view.parts other.view.parts 0 (facts_of seat grip).part seated.own

  -- it looks at the Table
  module _ (seat before seat' : Seat (Unit {0}) (Knowledge U)) (grip : Gripped U) (own : Own)
      (seated : IsSeated lawful allowed seat (facts_of seat grip) own)
      (other : Knowledge U) (met_is : before.me ≡ (met seat.me.0 other, seat.me.1))
      (looks : LookTells lawful allowed (first_idle grip.roots grip.hand (caller_in grip.site
      before.me.0.view.parts).hands.held)
      0 before.me.0 seat'.me.0)
      (table : seat'.table_id ≡ seat.table_id) (slots : seat'.me.1 ≡ before.me.1) where
    abbrev pass : Facts U
    pass = facts_of seat grip

    abbrev idle_met : Option Known
    idle_met = first_idle pass.roots pass.hand pass.part.hands.held

    abbrev both : List Entry
    both = longer pass.seen other.view.seen

    there_met : get_elem? before.me.0.view.parts 0 ≡ some pass.part
    there_met = own_met seat before grip own seated other met_is

    looked : Looked lawful allowed idle_met before.me.0 0 pass.part seat'.me.0
    looked = subst (λ (q : Part U). Looked lawful allowed
        (first_idle grip.roots grip.hand q.hands.held) before.me.0 0 pass.part seat'.me.0)
        (first_in grip.site before.me.0.view.parts pass.part there_met) (looks pass.part there_met)

    sees_met : before.me.0.view.seen ≡ both
    sees_met = ap (λ (m : Me (Unit {0}) (Knowledge U)). m.0.view.seen) met_is

    there_now : get_elem? seat'.me.0.view.parts 0 ≡ some (letting pass.part idle_met)
    there_now = ap (λ (k : Knowledge U). get_elem? k.view.parts 0) looked.is
        ∙ set_here before.me.0.view.parts 0 pass.part (letting pass.part idle_met) there_met

    sees_now : seat'.me.0.view.seen ≡ both
    sees_now = ap (λ (k : Knowledge U). k.view.seen) looked.is ∙ sees_met

    counts_now : seat'.me.0.steps ≡ seat.me.0.steps + 2
    counts_now =
        let a = ap (λ (k : Knowledge U). k.steps) looked.is in
        let b = ap (λ (m : Me (Unit {0}) (Knowledge U)). m.0.steps) met_is in omega arith

    sure_now : IsSure lawful allowed both (letting pass.part idle_met)
    sure_now = subst (λ (l : List Entry). IsSure lawful allowed l (letting pass.part idle_met)) sees_met looked.sure

    none_now : seat'.me.1 ≡ []
    none_now = slots ∙ (ap (λ (m : Me (Unit {0}) (Knowledge U)). m.1) met_is ∙ seated.none)

    pub met_seated : IsSeated lawful allowed seat' (facts_of seat' grip) own
    met_seated = seated_now seat seat' grip own seated both 2 there_now sees_now counts_now
        sure_now table none_now

    -- the pass goes on
    pub meets_now : Meets lawful allowed pass other.view.seen (facts_of seat' grip)
    meets_now =
        let is = rested_is seat seat' grip own seated both 2 there_now sees_now counts_now
        sure_now table none_now in
        let begins : Begins pass.seen (longer pass.seen both) =
        subst (λ (l : List Entry). Begins pass.seen (longer pass.seen l)) sees_met
        (subst (λ (l : List Entry). Begins l (longer l before.me.0.view.seen))
        (ap (λ (m : Me (Unit {0}) (Knowledge U)). m.0.before) met_is) looked.begins) in
        record {
          is = is;
          names = names_now seat seat' grip own seated both 2 there_now sees_now counts_now
              sure_now table none_now;
          goes = subst (λ (f : Facts U). Rattle.hm_model.specs.Sight.Goes lawful allowed (sight_of pass)
              (sight_of f) []) (sym is)
              (goes_on lawful allowed (sight_of pass) (sight_of (rested pass both 2))
              record { heap = refl; usage = refl; start = refl; number = refl; span = refl }
              seated.sound.sure.opened record { history = sure_now.history; calls = sure_now.calls }
              (subst (Begins pass.seen) (twice pass.seen other.view.seen) begins) seated.sound.sure.calls refl);
        }

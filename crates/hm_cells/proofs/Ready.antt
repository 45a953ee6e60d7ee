-- When a pass may take a move, and what it knows of a version.
use Rattle.std.proofs.Common.{◌≡◌, Bool, true, not, List, Option, IfSome, Contains, unwrap_or, sym, ap, ◌∙◌, subst}
use Rattle.hm_cells.proofs.Words.{each_some, Contains-append_cases, Seat, Version, IsVersionOf, Entry, PlainStore, Known, Part, IsFit, IsKnownName, MayHold, MayLookInto, MayTake, done_limit, MayMake, Knowledge, Gripped, Facts, Fits, Made, IsSound, IsLookable, first_idle, is_kept, known_at, lookable, nothing_known, move_in, IsReady, IsSeated, facts_of, Own}
use Rattle.hm_moves.specs.declared.moving.Act.{Act}
use Rattle.hm_moves.specs.Allowed.{IsPast}
use Rattle.hm_cells.proofs.Found.{among, find_passes, found_there}

-- what is let go of was held
pub idle_held : (roots : List (Option Version)) (hand : List Version) (held : List Known)
    → IfSome (first_idle roots hand held) (Contains held)
idle_held roots hand held = each_some (Contains held) (first_idle roots hand held)
    (λ k e. (find_passes (λ (m : Known). not (is_kept roots hand m)) held k e).0)

module _ {U : Type 0} where
  -- what is known of a version that may be looked into
  pub known_look : (s : Facts U) (v : Version) → IsLookable s v
      → MayLookInto s.part (known_at s v) × ((known_at s v).version ≡ v)
  known_look s v look =
      let k = among (lookable s.part) v look in
      let is : known_at s v ≡ k.0 = ap (λ (o : Option Known). unwrap_or o nothing_known) k.1 in
      let r = found_there (lookable s.part) v k.0 k.1 in (
        subst (MayLookInto s.part) (sym is)
            (Contains-append_cases s.part.hands.held s.part.hands.own k.0 r.0),
        ap (λ (m : Known). m.version) is ∙ r.1,
      )

  module _ (lawful : U → PlainStore → Type 0) (allowed : U → PlainStore → Entry → Type 0) where
    pub look_fit : (s : Facts U) (v : Version) → IsSound lawful allowed s → IsLookable s v
        → IsFit s.part.site.shape (done_limit s.part) (known_at s v)
    look_fit s v sound look = sound.sure.fit (known_at s v) (known_look s v look).0

    -- such a version is one of the heap's
    pub look_version : (s : Facts U) (m : Made U) (v : Version) → IsSound lawful allowed s → Fits s m
        → IsLookable s v
        → IsVersionOf m.site.shape v
    look_version s m v sound fits look =
        subst (λ (w : Version). IsVersionOf m.site.shape w) (known_look s v look).1
        (subst (λ (g : _). IsVersionOf g.shape (known_at s v).version) fits.site
        (look_fit s v sound look).version)

    module _ (seat : Seat (Unit {0}) (Knowledge U)) (grip : Gripped U) (own : Own)
        (seated : IsSeated lawful allowed seat (facts_of seat grip) own) (scan : Bool) (act : Act)
      where
        abbrev s : Facts U
        s = facts_of seat grip

        -- an act that the pass may take makes it ready
        pub ready : (P : Part U → Type 0)
            → MayTake (IsKnownName s.part)
            (MayMake (lawful s.part.site.usage) (allowed s.part.site.usage) s.seen s.part.number)
            (s.part.cycle.scan.bare ≡ true) (IsPast s.part) s.part act
            → MayHold s.part act → P s.part
            → IsReady lawful allowed seat.me.0 (move_in s scan act) 0 P
        ready P may hold here = record {
          caller = s.part;
          carries = seated.own;
          enabled = record {
            act = may;
            holds = hold;
            let_go = idle_held s.roots s.hand s.part.hands.held;
          };
          moves = here;
        }

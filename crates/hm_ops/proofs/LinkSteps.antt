-- Loads and exchanges of links, and where the place of the version that they find or hang leads.
use Rattle.std.proofs.Common.{◌≡◌, ◌<◌, ◌+◌, ◌-◌, ℕ, add-one, List, length, get_or, Option, Some, None, refl, sym, ap, ◌∙◌, subst, arith, inl, get_or-set_same}
use Rattle.hm_shape.specs.declared.version.Version.{Version}
use Rattle.hm_moves.specs.Places.{rank_limit}
use Rattle.hm_model.specs.declared.object.Name.{Name}
use Rattle.hm_model.specs.declared.entry.Entry.{Entry}
use Rattle.hm_model.specs.declared.root.Root.{Root}
use Rattle.hm_model.specs.Store.{PlainStore}
use Rattle.hm_model.specs.Sight.{Sight, Enters, IsUntended, name_at, root_of}
use Rattle.hm_moves.specs.declared.part.Known.{Known}
use Rattle.hm_moves.specs.declared.part.Site.{Site}
use Rattle.hm_moves.specs.declared.moving.Act.{Act}
use Rattle.hm_moves.specs.declared.moving.Act.TheVariants.{Looks, Builds}
use Rattle.hm_moves.specs.declared.moving.Look.TheVariants.{LoadLink}
use Rattle.hm_moves.specs.declared.moving.Build.TheVariants.{LinkStore}
use Rattle.hm_moves.specs.Acts.{where_zero, entry_of, next_version, publishes}
use Rattle.hm_moves.specs.Allowed.{HasRoom}
use Rattle.hm_moves.specs.Told.{IsLink}
use Rattle.hm_cells.specs.Facts.{most_cycles, Facts, Made, IsSound, IsHeldAt, IsLookable, known_at, names_at, sight_of}
use Rattle.hm_cells.specs.declared.want.Want.{Want}
use Rattle.hm_moves.proofs.Heaps.{IsWork}
use Rattle.hm_cells.specs.Calls as call
use Rattle.hm_cells.specs.Calls.{Takes, Tells, stored}
use Rattle.hm_cells.proofs.Found.{same_version}
use Rattle.hm_cells.proofs.Stepped.{kept_held, kept_stays, held_lookable, known_fit}
use Rattle.hm_cells.proofs.Fields.{rank_most}
use Rattle.hm_ops.specs.Resting.{IsAtPlace, Keeps}
use Rattle.hm_ops.specs.Placing.{settled}
use Rattle.hm_ops.specs.Walking.{GoesOn, HasCome, IsLast}
use Rattle.hm_ops.specs.Storing.{Ends}
use Rattle.hm_ops.proofs.OneStep.{keeps_none, room_kept, room_taken, roots_kept, same_sight, site_kept, untended_kept}
use Rattle.hm_ops.proofs.Settled.{HasTaken, OnceSettled, found_taken, new_taken, place_below, root_named, settled_keeps, settled_same, taken_hand}

-- a link of 0 names none
pub link_none : (at : Known) (found : Option Known) → IsLink at 0 found → found ≡ None
link_none at None h = refl
link_none at (Some k) h = absurd (let e = h.0 in omega arith)

-- what a link names that is not 0
pub record Linked (at : Known) (next : Version) (found : Option Known) : Type 0 where
  pub known : Known
  pub is : found ≡ Some known
  pub version : known.version ≡ next
  pub same : known.name ≡ at.name
  pub later : at.rank < known.rank

pub link_some : (at : Known) (next : Version) (found : Option Known) → IsLink at (next.0 + 1) found → Linked at
    next found
link_some at next None h = absurd (omega arith)
link_some at next (Some k) h = record {
  known = k;
  is = refl;
  version = same_version k.version next (let e = h.0 in omega arith);
  same = h.1;
  later = h.2;
}

-- less is left of a limit above a greater rank
pub less_left : (limit was rank : ℕ) → rank < limit → was < rank → limit - rank < limit - was
less_left limit was rank low more = omega arith

pub where_none : {A : Type 0} (o : Option A) → where_zero o 0 ≡ o
where_none None = refl
where_none (Some a) = refl

pub where_more : {A : Type 0} (o : Option A) (n : ℕ) → where_zero o (n + 1) ≡ None
where_more None n = refl
where_more (Some a) n = ap (where_zero (Some a)) (add-one n)

module _ {U : Type 0} (lawful : U → PlainStore → Type 0) (allowed : U → PlainStore → Entry → Type 0)
    (m : Made U) where
  -- the version at a root place is held
  placed_held : (s : Facts U) (r : ℕ) (v : Version) → Keeps lawful allowed s m → IsAtPlace s r v →
      IsHeldAt s v
  placed_held s r v k at = kept_held lawful allowed s v k.sound (inl (r, at))

  -- and may be looked into
  pub placed_look : (s : Facts U) (r : ℕ) (v : Version) → Keeps lawful allowed s m → IsAtPlace s r v →
      IsLookable s v
  placed_look s r v k at = held_lookable lawful allowed s v (placed_held s r v k at)

  -- where a walk has come to a version, its place has the name of that version's object
  pub come_named : (s p : Facts U) (r : Root) (v : Version) → HasCome lawful allowed m s r v p
      → root_of (sight_of p) r ≡ Some (known_at p v).name
  come_named s p r v come =
      root_named p r.0 v come.place (placed_held p r.0 v come.keeps come.place)

  module _ (s t : Facts U) (r : Root) (v : Version) (k : Keeps lawful allowed s m) (at : IsAtPlace s r.0 v)
      (after : IsSound lawful allowed t) where
    -- a link of 0 is the last
    pub looks_last : (want : Option Entry) → Takes lawful allowed s (Looks (LoadLink (known_at s v) want)) 0 t
        → IsLast lawful allowed m s v want t
    looks_last want took =
        let act : Act = Looks (LoadLink (known_at s v) want) in
        record {
          tells = subst (λ (o : Option Entry). Tells lawful allowed o (sight_of s) (sight_of t)) (where_none want)
              took.tells;
          untended = untended_kept lawful allowed s t act 0 took tt;
          same = λ none. same_sight lawful allowed s t act 0 took tt (where_none want ∙ none) refl;
          names = took.names;
          room = room_kept lawful allowed s t act 0 took tt refl;
          roots = roots_kept lawful allowed s t act 0 took;
          known = (kept_stays lawful allowed s t act 0 k.sound after took v (inl (r.0, at))).1;
          keeps = keeps_none lawful allowed s t act 0 took m tt k after
              (link_none (known_at s v) took.found took.what) refl;
        }

    -- the place had the name of the version's object, where the names are as they were
    was_named : names_at t ≡ names_at s → name_at (names_at t) r.0 ≡ Some (known_at s v).name
    was_named names =
        ap (λ (l : List (Option Name)). name_at l r.0) names ∙ root_named s r.0 v at (placed_held s r.0 v k at)

    -- a step that found another version behind this one goes on to it
    module _ (act : Act) (work : IsWork act) (next : Version) (took : Takes lawful allowed s act (next.0 + 1) t)
        (what : IsLink (known_at s v) (next.0 + 1) took.found)
        (no_entry : entry_of s.part.number act (next.0 + 1) ≡ None)
        (nothing : publishes act (next.0 + 1) ≡ None) where
      linked : Linked (known_at s v) next took.found
      linked = link_some (known_at s v) next took.found what

      has : HasTaken lawful allowed m t next linked.known
      has = found_taken lawful allowed m s t act (next.0 + 1) k after took next linked.known linked.version work
          linked.is nothing

      follows : OnceSettled t r next (GoesOn lawful allowed m s r v next)
      follows =
          let roots : t.roots ≡ s.roots = roots_kept lawful allowed s t act (next.0 + 1) took in
          let low : r.0 < length t.roots = place_below t.roots r.0 v
          (ap (λ (l : List (Option Version)). get_or l r.0 None) roots ∙ at) in
          let hand = taken_hand lawful allowed m t r next linked.known has in
          let fit = known_fit lawful allowed t next after (held_lookable lawful allowed t next hand.0) in
          let low_rank : (known_at t next).rank < rank_limit m.site.shape most_cycles =
          subst (λ (x : Site U). (known_at t next).rank < rank_limit x.shape most_cycles) has.works.fits.site
          (rank_most t.part.site.shape t.part.cycle.clock.stage.done (known_at t next) after.sure.cycles fit) in
          let rank : (known_at t next).rank ≡ linked.known.rank = ap (λ (n : Known). n.rank) has.known in
          let later = linked.later in
          record {
            hand = hand;
            then = λ u settles. subst (GoesOn lawful allowed m s r v next) (sym settles.pass) record {
              come = record {
                same = settled_same lawful allowed m t r next linked.known has
                    (was_named took.names ∙ ap (λ (n : Name). Some n) (sym linked.same))
                    ∙ same_sight lawful allowed s t act (next.0 + 1) took work no_entry nothing;
                place = get_or-set_same t.roots r.0 (Some next) None low;
                keeps = settled_keeps lawful allowed m t r next linked.known has;
              };
              nearer = less_left (rank_limit m.site.shape most_cycles) (known_at s v).rank (known_at t next).rank
                  low_rank (omega (arith, rank, later));
            };
          }

    -- so does a load of a link
    pub look_follows : (want : Option Entry) (next : Version)
        → Takes lawful allowed s (Looks (LoadLink (known_at s v) want)) (next.0 + 1) t
        → OnceSettled t r next (GoesOn lawful allowed m s r v next)
    look_follows want next took =
        follows (Looks (LoadLink (known_at s v) want)) tt next took took.what (where_more want next.0) refl

    -- and an exchange that found one
    pub exchange_follows : (fresh : Known) (entry : Option Entry) (next : Version)
        → Takes lawful allowed s (Builds (LinkStore (known_at s v) fresh entry)) (next.0 + 1) t
        → OnceSettled t r next (GoesOn lawful allowed m s r v next)
    exchange_follows fresh entry next took =
        follows (Builds (LinkStore (known_at s v) fresh entry)) tt next took took.what (where_more entry next.0)
        (where_more (Some fresh) next.0)

    -- an exchange that found 0 ends a call, with the version that it hung
    pub exchange_ends : (want : Want) (made : Version) → made ≡ next_version s.part → HasRoom s.part
        → Takes lawful allowed s (Builds (LinkStore (known_at s v) (call.linked s (known_at s v) want)
        (Some (stored s (known_at s v) want)))) 0 t
        → OnceSettled t r made (Ends lawful allowed m s (stored s (known_at s v) want) 1)
    exchange_ends want made is room took =
        let fresh : Known = call.linked s (known_at s v) want in
        let entry : Entry = stored s (known_at s v) want in
        let act : Act = Builds (LinkStore (known_at s v) fresh (Some entry)) in
        let has : HasTaken lawful allowed m t made fresh =
        new_taken lawful allowed m s t act 0 k after took made fresh (sym is) tt
        (link_none (known_at s v) took.found took.what) refl in
        let used : t.part.draft.used ≡ s.part.draft.used + 1 =
        ap (λ (x : Facts U). x.part.draft.used) took.is in
        let same : sight_of (settled t r made) ≡ sight_of t =
        settled_same lawful allowed m t r made fresh has (was_named took.names) in
        record {
          hand = taken_hand lawful allowed m t r made fresh has;
          then = λ u settles. subst (Ends lawful allowed m s entry 1) (sym settles.pass) record {
            entry = subst (λ (c : Sight U). Enters lawful allowed (sight_of s) c entry) (sym same) took.tells;
            untended = subst (IsUntended (sight_of s)) (sym same) (untended_kept lawful allowed s t act 0 took tt);
            names = ap (λ (c : Sight U). c.roots) same ∙ took.names;
            room = ap (λ (c : Sight U). c.room + 1) same ∙ room_taken lawful allowed s t act 0 took tt used room;
            keeps = settled_keeps lawful allowed m t r made fresh has;
          };
        }

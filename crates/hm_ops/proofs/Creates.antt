-- A create, from its draft and the version that it published.
use Rattle.std.proofs.Common.{◌≡◌, ◌+◌, List, Option, Some, refl, sym, ap, ◌∙◌, subst, arith}
use Rattle.hm_shape.specs.declared.version.Version.{Version}
use Rattle.hm_model.specs.declared.object.Name.{Name}
use Rattle.hm_model.specs.declared.entry.Entry.{Entry}
use Rattle.hm_model.specs.declared.entry.Entry.TheVariants.{Create}
use Rattle.hm_model.specs.declared.root.Root.{Root}
use Rattle.hm_model.specs.Store.{Numbers, PlainStore, Refs}
use Rattle.hm_model.specs.Sight.{Sight, Places, SetsRoot, Enters, Continues, IsUntended, MayEnter, name_at, names_of}
use Rattle.hm_model.specs.Calls.{Creates, MayCreate}
use Rattle.hm_model.proofs.CallFacts.{creates_enters}
use Rattle.hm_model.proofs.Entering.{enters_rests}
use Rattle.hm_model.proofs.SightFacts.{continues_enters, continues_rests, continues_then}
use Rattle.hm_moves.specs.declared.moving.Act.{Act}
use Rattle.hm_moves.specs.declared.moving.Act.TheVariants.{Builds}
use Rattle.hm_moves.specs.declared.moving.Build.TheVariants.{Publish}
use Rattle.hm_moves.specs.Allowed.{HasRoom, next_name}
use Rattle.hm_moves.specs.Acts.{next_version}
use Rattle.hm_cells.specs.Facts.{Facts, Made, IsSound, names_at, room_of, sight_of}
use Rattle.hm_cells.specs.Calls.{MayPublish, Takes, drafted, drafted_numbers, drafted_refs}
use Rattle.hm_ops.specs.Resting.{Keeps}
use Rattle.hm_ops.specs.Placing.{Settles}
use Rattle.hm_ops.specs.Writing.{Drafts}
use Rattle.hm_ops.proofs.OneStep.{room_taken, untended_kept}
use Rattle.hm_ops.proofs.Settled.{HasTaken, OnceSettled, new_taken, settled_keeps, taken_hand, taken_name}

module _ {U : Type 0} (lawful : U → PlainStore → Type 0) (allowed : U → PlainStore → Entry → Type 0) where
  module _ (s t : Facts U) (refs : Places) (numbers : Numbers) (d : Drafts s refs numbers t) where
    -- a draft may be published where the object may be created
    pub may_publish : MayCreate lawful allowed (sight_of s) refs numbers → MayPublish lawful allowed t
    may_publish may n =
        subst (λ (c : Sight U). MayEnter lawful allowed c (Create c.number n (drafted_refs t.part)
        (drafted_numbers t.part))) (sym d.same)
        (subst (λ (l : Refs). MayEnter lawful allowed (sight_of s)
        (Create s.part.number n l (drafted_numbers t.part))) (sym d.refs_are)
        (subst (λ (l : Numbers). MayEnter lawful allowed (sight_of s)
        (Create s.part.number n (names_of (sight_of s) refs) l)) (sym d.numbers_are)
        (may n)))

    -- the version that it published leads to the end of the create
    pub create_ends : (m : Made U) (u : Facts U) (into : Root) (made : Version) → Keeps lawful allowed t m
        → IsSound lawful allowed u → Takes lawful allowed t (Builds (Publish (drafted t.part))) 0 u
        → made ≡ next_version t.part → HasRoom s.part
        → OnceSettled u into made (λ f. Creates lawful allowed (sight_of s) (sight_of f) into refs numbers
        × Keeps lawful allowed f m × Continues lawful allowed (sight_of s) (sight_of f))
    create_ends m u into made k after took is room = record {
      hand = taken_hand lawful allowed m u into made (drafted t.part) has;
      then = λ f settles. (
        creates_enters lawful allowed (sight_of s) (sight_of f) into refs numbers n
            (enters_rests lawful allowed (sight_of s) (sight_of u) (sight_of f)
            (Create s.part.number n (names_of (sight_of s) refs) numbers) entered settles.same)
            (named f settles) (less f settles),
        subst (λ (x : Facts U). Keeps lawful allowed x m) (sym settles.pass)
            (settled_keeps lawful allowed m u into made (drafted t.part) has),
        continues_then lawful allowed (sight_of s) (sight_of u) (sight_of f)
            (continues_enters lawful allowed (sight_of s) (sight_of u)
            (Create s.part.number n (names_of (sight_of s) refs) numbers) entered untended)
            (continues_rests lawful allowed (sight_of u) (sight_of f) settles.same),
      );
    }
      where
        n : Name
        n = next_name t.part

        act : Act
        act = Builds (Publish (drafted t.part))

        has : HasTaken lawful allowed m u made (drafted t.part)
        has = new_taken lawful allowed m t u act 0 k after took made (drafted t.part) (sym is) tt took.what
            refl

        entered : Enters lawful allowed (sight_of s) (sight_of u)
            (Create s.part.number n (names_of (sight_of s) refs) numbers)
        entered =
            subst (λ (c : Sight U). Enters lawful allowed c (sight_of u)
            (Create c.number n (names_of (sight_of s) refs) numbers)) d.same
            (subst (λ (l : Numbers). Enters lawful allowed (sight_of t) (sight_of u)
            (Create t.part.number n (names_of (sight_of s) refs) l)) d.numbers_are
            (subst (λ (l : Refs). Enters lawful allowed (sight_of t) (sight_of u)
            (Create t.part.number n l (drafted_numbers t.part))) d.refs_are
            took.tells))

        untended : IsUntended (sight_of s) (sight_of u)
        untended = subst (λ (c : Sight U). IsUntended c (sight_of u)) d.same
            (untended_kept lawful allowed t u act 0 took tt)

        named : (f : Facts U) → Settles u into made f → SetsRoot (sight_of s) (sight_of f) into.0 (Some n)
        named f settles =
            let names : names_at u ≡ names_at s = took.names ∙ ap (λ (c : Sight U). c.roots) d.same in
            record {
              here = settles.names.here ∙ taken_name lawful allowed m u into made (drafted t.part) has;
              others = λ j other. settles.names.others j other
                  ∙ ap (λ (l : List (Option Name)). name_at l j) names;
            }

        less : (f : Facts U) → Settles u into made f → (sight_of f).room + 1 ≡ (sight_of s).room
        less f settles =
            let used : u.part.draft.used ≡ t.part.draft.used + 1 = ap (λ (x : Facts U). x.part.draft.used)
            took.is in
            let left : room_of t.part ≡ room_of s.part = ap (λ (c : Sight U). c.room) d.same in
            let last : room_of f.part ≡ room_of u.part = settles.same.room in
            let places : t.part.draft.used ≡ s.part.draft.used = ap (λ (c : Sight U). c.used) d.same in
            let span : t.part.site.shape.versions ≡ s.part.site.shape.versions =
            ap (λ (c : Sight U). c.span) d.same in
            let one = room_taken lawful allowed t u act 0 took tt used (omega (arith, room, places, span)) in
            omega (arith, left, last, one)

-- Stretches of fetches and creates, one after another.
use Rattle.std.proofs.Common.{◌≡◌, ℕ, Result, Ok, Err, OnOk, OnErr, ◌+◌, ◌≤◌, [], ◌∷◌, ◌++◌, sym, ◌∙◌, subst, arith}
use Rattle.std.proofs.lemmas.List.Elements.{All-nil, All-cons, All-append}
use Rattle.hm_model.specs.declared.object.Contents.{Contents}
use Rattle.hm_model.specs.declared.entry.Entry.{Entry}
use Rattle.hm_model.specs.declared.entry.Entry.TheVariants.{Create, Fetch}
use Rattle.hm_model.specs.declared.root.Root.{Root}
use Rattle.hm_model.specs.declared.root.Full.{Full}
use Rattle.hm_model.specs.Store.{Numbers, PlainStore}
use Rattle.hm_model.specs.Sight.{Places, Sight, names_of, IsUntended, Rests, Continues}
use Rattle.hm_model.specs.Calls.{Creates, Fetches}
use Rattle.hm_model.specs.Building.{IsBuilding, Builds}
use Rattle.hm_model.proofs.HistoryFacts.{create_count-append}
use Rattle.hm_model.proofs.SightFacts.{untended_then, rests_none, goes_rests, goes_enters, goes_then}

module _ {U : Type 0} (lawful : U → PlainStore → Type 0) (allowed : U → PlainStore → Entry → Type 0) where
  -- a caller that has made no entry
  pub builds_rests : (c d : Sight U) → Rests c d → Builds lawful allowed c d 0
  builds_rests c d h =
      record {
        own = [];
        goes = goes_rests lawful allowed c d h;
        untended = h.untended;
        building = All-nil IsBuilding;
        few = omega arith;
        room = λ _. omega (arith, h.room);
      }

  -- a caller that has done nothing
  pub builds_none : (c : Sight U) → Builds lawful allowed c c 0
  builds_none c = builds_rests c c (rests_none c)

  -- a caller that has fetched
  pub builds_fetch : (c d : Sight U) (from : Root) (x : Contents) → Fetches lawful allowed c d from x
      → IsUntended c d → Builds lawful allowed c d 0
  builds_fetch c d from x h k =
      let e : Entry = Fetch c.number h.name x in
      record {
        own = e ∷ [];
        goes = goes_enters lawful allowed c d e h.entry;
        untended = k;
        building = All-cons IsBuilding e [] tt (All-nil IsBuilding);
        few = omega arith;
        room = λ still. let same = h.room.kept still in omega arith;
      }

  -- a caller that has created
  pub builds_create : (c d : Sight U) (into : Root) (refs : Places) (numbers : Numbers)
      → Creates lawful allowed c d into refs numbers → IsUntended c d → Builds lawful allowed c d 1
  builds_create c d into refs numbers h k =
      let e : Entry = Create c.number h.name (names_of c refs) numbers in
      record {
        own = e ∷ [];
        goes = goes_enters lawful allowed c d e h.entry;
        untended = k;
        building = All-cons IsBuilding e [] tt (All-nil IsBuilding);
        few = omega arith;
        room = λ _. omega (arith, h.room);
      }

  -- one stretch after another
  pub builds_then : (c d f : Sight U) (j k : ℕ) → Builds lawful allowed c d j → Builds lawful allowed d f k
      → Builds lawful allowed c f (j + k)
  builds_then c d f j k g h = record {
    own = g.own ++ h.own;
    goes = goes_then lawful allowed c d f g.own h.own g.goes h.goes;
    untended = untended_then c d f g.untended h.untended;
    building = All-append IsBuilding g.own h.own g.building h.building;
    few = omega (arith, create_count-append g.own h.own, g.few, h.few);
    room = λ still. let first = g.room still in let second = h.room (g.untended.copying ∙ still) in omega arith;
  }

  -- a bound may be raised
  pub builds_more : (c d : Sight U) (j k : ℕ) → j ≤ k → Builds lawful allowed c d j
      → Builds lawful allowed c d k
  builds_more c d j k le h = record {
    own = h.own;
    goes = h.goes;
    untended = h.untended;
    building = h.building;
    few = omega (arith, h.few);
    room = λ still. let first = h.room still in omega arith;
  }

  -- a caller that has tried to create
  pub builds_tried : (c d : Sight U) (into : Root) (refs : Places) (numbers : Numbers)
      (r : Result (Unit {0}) Full)
      → OnOk r (Creates lawful allowed c d into refs numbers) → OnErr r (d ≡ c) → IsUntended c d
      → Builds lawful allowed c d 1
  builds_tried c d into refs numbers (Ok x) made same k = builds_create c d into refs numbers made k
  builds_tried c d into refs numbers (Err e) made same k =
      builds_more c d 0 1 (omega arith)
      (subst (λ (f : Sight U). Builds lawful allowed c f 0) (sym same) (builds_none c))

  -- whatever it has built, a caller goes on
  pub continues_builds : (c d : Sight U) (k : ℕ) → Builds lawful allowed c d k → Continues lawful allowed c d
  continues_builds c d k h = record { own = h.own; goes = h.goes; untended = h.untended }
